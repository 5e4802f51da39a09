-- The items of the forms whose parts stand in vectors and boxes, and of lists of which one more is read.
use Rattle.std.proofs.Common.{◌≡◌, ℕ, ◌+◌, ◌<◌, List, [], ◌∷◌, ◌++◌, length, get_or, take, refl, sym, ◌∙◌, ap, Box, Global, add-one, take-suc}
use Rattle.std.specs.Prelude.{Vec}
use Rattle.pict_syntax.specs.declared.span.Span.{Span}
use Rattle.pict_syntax.specs.declared.id.Id.{Id}
use Rattle.pict_syntax.specs.declared.pattern.Pat.{Pat as RPat}
use Rattle.pict_syntax.specs.declared.pattern.FieldPats.{FieldPats as RFieldPats}
use Rattle.pict_syntax.specs.declared.pattern.LabelledPat.{LabelledPat as RLabelledPat}
use Rattle.pict_syntax.specs.declared.pattern.Pat.TheViews.{out-FieldPats, roll-out-FieldPats}
use Rattle.pict_syntax.specs.declared.tree.Abs.TheViews.{out-FieldVals, roll-out-FieldVals}
use Rattle.pict_syntax.specs.declared.tree.Dec.{Dec as RDec, Def as DecDef}
use Rattle.pict_syntax.specs.declared.tree.Definition.{Definition as RDefinition}
use Rattle.pict_syntax.specs.declared.tree.Chan.{Chan as RChan, Block, Right, Left}
use Rattle.pict_syntax.specs.declared.tree.Val.{Val as RVal}
use Rattle.pict_syntax.specs.declared.tree.FieldVals.{FieldVals as RFieldVals}
use Rattle.pict_syntax.specs.declared.tree.LabelledVal.{LabelledVal as RLabelledVal}
use Rattle.pict_syntax.specs.declared.tree.Proc.{Proc as RProc, Group}
use Rattle.pict_syntax.specs.Trees.{no_pats, no_labelled_pats, no_decs, no_definitions, no_vals, no_labelled_vals, no_procs}
use Rattle.pict_syntax.specs.PlainTrees.{pat_of, field_pats_of, pats_on, labelled_pats_on, dec_of, abs_of, chan_of, val_of, proc_of, field_vals_of, decs_on, definitions_on, vals_on, labelled_vals_on, procs_on}
use Rattle.pict_syntax.proofs.PatternLists.{field_pats_is, pats_more, labelled_pats_more}
use Rattle.pict_syntax.proofs.DeclarationLists.{decs_more, definitions_more}
use Rattle.pict_syntax.proofs.ValueLists.{field_vals_is, def_is, block_is, right_is, left_is, group_is, vals_more, labelled_vals_more, procs_more}
use Rattle.pict_unused.specs.declared.item.Role.{Role}
use Rattle.pict_unused.specs.declared.item.Role.TheVariants.{Called, HandedOn}
use Rattle.pict_unused.specs.declared.item.Form.TheVariants.{Def}
use Rattle.pict_unused.specs.declared.item.Item.{Item}
use Rattle.pict_unused.specs.declared.item.Item.TheVariants.{Use, Bind}
use Rattle.pict_unused.specs.Items.{then_pat, then_field_pats, then_pats, then_labelled_pats, then_dec, then_decs, then_definitions, then_abs, then_chan, then_val, then_vals, then_field_vals, then_labelled_vals, then_proc, then_procs}

-- ---- none of a list, and one more

pub before_pats : (so_far : List Item) → so_far ≡ then_pats so_far (pats_on no_pats [])
unfolding then_pat pats_on
before_pats so_far = refl

pub before_labelled_pats : (so_far : List Item) → so_far ≡ then_labelled_pats so_far (labelled_pats_on no_labelled_pats [])
unfolding then_pat labelled_pats_on
before_labelled_pats so_far = refl

pub before_decs : (so_far : List Item) → so_far ≡ then_decs so_far (decs_on no_decs [])
unfolding then_dec decs_on
before_decs so_far = refl

pub before_definitions : (so_far : List Item) → so_far ≡ then_definitions so_far (definitions_on no_definitions [])
unfolding then_dec definitions_on
before_definitions so_far = refl

pub before_vals : (so_far : List Item) → so_far ≡ then_vals so_far (vals_on no_vals [])
unfolding then_dec vals_on
before_vals so_far = refl

pub before_labelled_vals : (so_far : List Item) → so_far ≡ then_labelled_vals so_far (labelled_vals_on no_labelled_vals [])
unfolding then_dec labelled_vals_on
before_labelled_vals so_far = refl

pub before_procs : (so_far : List Item) → so_far ≡ then_procs so_far (procs_on no_procs [])
unfolding then_dec procs_on
before_procs so_far = refl

taken : {A : Type 0} (xs : List A) (i : ℕ) (x : A) → i < length xs → x ≡ get_or xs i x → take (i + 1) xs ≡ take i xs ++ x ∷ []
taken xs i x h is = rw (add-one, take-suc xs i x h) (ap (λ ys. take i xs ++ ys ∷ []) (sym is))

pub one_pat : (so_far old new : List Item) (ps : List RPat) (i : ℕ) (p : RPat) → i < length ps → p ≡ get_or ps i p → old ≡ then_pats so_far (pats_on no_pats (take i ps)) → new ≡ then_pat old (pat_of p)
    → new ≡ then_pats so_far (pats_on no_pats (take (i + 1) ps))
unfolding then_pat
one_pat so_far old new ps i p h is before step =
    step ∙ (ap (λ l. then_pat l (pat_of p)) before ∙ ap (then_pats so_far) (sym (ap (pats_on no_pats) (taken ps i p h is) ∙ pats_more no_pats (take i ps) p)))

pub one_labelled_pat : (so_far old new : List Item) (ls : List RLabelledPat) (i : ℕ) (l : RLabelledPat) → i < length ls → l ≡ get_or ls i l → old ≡ then_labelled_pats so_far (labelled_pats_on no_labelled_pats (take i ls)) → new ≡ then_pat old (pat_of l.pat)
    → new ≡ then_labelled_pats so_far (labelled_pats_on no_labelled_pats (take (i + 1) ls))
unfolding then_pat
one_labelled_pat so_far old new ls i l h is before step =
    step ∙ (ap (λ x. then_pat x (pat_of l.pat)) before ∙ ap (then_labelled_pats so_far) (sym (ap (labelled_pats_on no_labelled_pats) (taken ls i l h is) ∙ labelled_pats_more no_labelled_pats (take i ls) l)))

pub one_dec : (so_far old new : List Item) (ds : List RDec) (i : ℕ) (d : RDec) → i < length ds → d ≡ get_or ds i d → old ≡ then_decs so_far (decs_on no_decs (take i ds)) → new ≡ then_dec old (dec_of d)
    → new ≡ then_decs so_far (decs_on no_decs (take (i + 1) ds))
unfolding then_dec
one_dec so_far old new ds i d h is before step =
    step ∙ (ap (λ l. then_dec l (dec_of d)) before ∙ ap (then_decs so_far) (sym (ap (decs_on no_decs) (taken ds i d h is) ∙ decs_more no_decs (take i ds) d)))

pub one_definition : (so_far old between new : List Item) (ds : List RDefinition) (i : ℕ) (d : RDefinition) → i < length ds → d ≡ get_or ds i d → old ≡ then_definitions so_far (definitions_on no_definitions (take i ds)) → new ≡ then_abs between (abs_of d.abs) → between ≡ old ++ Bind Def d.id ∷ []
    → new ≡ then_definitions so_far (definitions_on no_definitions (take (i + 1) ds))
unfolding then_dec
one_definition so_far old between new ds i d h is before step bound =
    step ∙ (ap (λ l. then_abs l (abs_of d.abs)) bound ∙ (ap (λ l. then_abs (l ++ Bind Def d.id ∷ []) (abs_of d.abs)) before
    ∙ ap (then_definitions so_far) (sym (ap (definitions_on no_definitions) (taken ds i d h is) ∙ definitions_more no_definitions (take i ds) d))))

pub one_val : (so_far old new : List Item) (vs : List RVal) (i : ℕ) (v : RVal) → i < length vs → v ≡ get_or vs i v → old ≡ then_vals so_far (vals_on no_vals (take i vs)) → new ≡ then_val old HandedOn (val_of v)
    → new ≡ then_vals so_far (vals_on no_vals (take (i + 1) vs))
unfolding then_dec
one_val so_far old new vs i v h is before step =
    step ∙ (ap (λ l. then_val l HandedOn (val_of v)) before ∙ ap (then_vals so_far) (sym (ap (vals_on no_vals) (taken vs i v h is) ∙ vals_more no_vals (take i vs) v)))

pub one_labelled_val : (so_far old new : List Item) (ls : List RLabelledVal) (i : ℕ) (l : RLabelledVal) → i < length ls → l ≡ get_or ls i l → old ≡ then_labelled_vals so_far (labelled_vals_on no_labelled_vals (take i ls)) → new ≡ then_val old HandedOn (val_of l.value)
    → new ≡ then_labelled_vals so_far (labelled_vals_on no_labelled_vals (take (i + 1) ls))
unfolding then_dec
one_labelled_val so_far old new ls i l h is before step =
    step ∙ (ap (λ x. then_val x HandedOn (val_of l.value)) before ∙ ap (then_labelled_vals so_far) (sym (ap (labelled_vals_on no_labelled_vals) (taken ls i l h is) ∙ labelled_vals_more no_labelled_vals (take i ls) l)))

pub one_proc : (so_far old new : List Item) (ps : List RProc) (i : ℕ) (p : RProc) → i < length ps → p ≡ get_or ps i p → old ≡ then_procs so_far (procs_on no_procs (take i ps)) → new ≡ then_proc old (proc_of p)
    → new ≡ then_procs so_far (procs_on no_procs (take (i + 1) ps))
unfolding then_dec
one_proc so_far old new ps i p h is before step =
    step ∙ (ap (λ l. then_proc l (proc_of p)) before ∙ ap (then_procs so_far) (sym (ap (procs_on no_procs) (taken ps i p h is) ∙ procs_more no_procs (take i ps) p)))

-- ---- forms that hold lists

pub field_pats_items : (so_far : List Item) (f : RFieldPats) → then_field_pats so_far (field_pats_of f) ≡ then_labelled_pats (then_pats so_far (pats_on no_pats (out-FieldPats f).positional.items)) (labelled_pats_on no_labelled_pats (out-FieldPats f).labelled.items)
unfolding then_pat
field_pats_items so_far f = ap (λ g. then_field_pats so_far (field_pats_of g)) (sym (roll-out-FieldPats f)) ∙ ap (then_field_pats so_far) (field_pats_is (out-FieldPats f).binders (out-FieldPats f).positional (out-FieldPats f).labelled)

pub field_vals_items : (so_far : List Item) (f : RFieldVals) → then_field_vals so_far (field_vals_of f) ≡ then_labelled_vals (then_vals so_far (vals_on no_vals (out-FieldVals f).positional.items)) (labelled_vals_on no_labelled_vals (out-FieldVals f).labelled.items)
unfolding then_dec
field_vals_items so_far f = ap (λ g. then_field_vals so_far (field_vals_of g)) (sym (roll-out-FieldVals f)) ∙ ap (then_field_vals so_far) (field_vals_is (out-FieldVals f).type_arguments (out-FieldVals f).positional (out-FieldVals f).labelled)

pub def_items : (so_far : List Item) (d : RDec) (s : Span) (ds : Vec RDefinition Global) → d ≡ DecDef s ds → then_dec so_far (dec_of d) ≡ then_definitions so_far (definitions_on no_definitions ds.items)
unfolding then_dec
def_items so_far d s ds is = ap (λ x. then_dec so_far (dec_of x)) is ∙ ap (then_dec so_far) (def_is s ds)

pub block_items : (so_far : List Item) (role : Role) (c : RChan) (s : Span) (ds : Vec RDec Global) (v : Box RVal Global) → c ≡ Block s ds v
    → then_chan so_far role (chan_of c) ≡ then_val (then_decs so_far (decs_on no_decs ds.items)) HandedOn (val_of v.value)
unfolding then_dec
block_items so_far role c s ds v is = ap (λ x. then_chan so_far role (chan_of x)) is ∙ ap (then_chan so_far role) (block_is s ds v)

pub right_items : (so_far : List Item) (role : Role) (c : RChan) (s : Span) (x : Id) (vs : Vec RVal Global) → c ≡ Right s x vs
    → then_chan so_far role (chan_of c) ≡ then_vals (so_far ++ Use Called x.span ∷ []) (vals_on no_vals vs.items)
unfolding then_dec
right_items so_far role c s x vs is = ap (λ y. then_chan so_far role (chan_of y)) is ∙ ap (then_chan so_far role) (right_is s x vs)

pub left_items : (so_far : List Item) (role : Role) (c : RChan) (s : Span) (x : Id) (vs : Vec RVal Global) → c ≡ Left s x vs
    → then_chan so_far role (chan_of c) ≡ then_vals (so_far ++ Use Called x.span ∷ []) (vals_on no_vals vs.items)
unfolding then_dec
left_items so_far role c s x vs is = ap (λ y. then_chan so_far role (chan_of y)) is ∙ ap (then_chan so_far role) (left_is s x vs)

pub group_items : (so_far : List Item) (p : RProc) (s : Span) (ds : Vec RDec Global) (ps : Vec RProc Global) → p ≡ Group s ds ps
    → then_proc so_far (proc_of p) ≡ then_procs (then_decs so_far (decs_on no_decs ds.items)) (procs_on no_procs ps.items)
unfolding then_dec
group_items so_far p s ds ps is = ap (λ x. then_proc so_far (proc_of x)) is ∙ ap (then_proc so_far) (group_is s ds ps)

pub ruleset pattern_forms = (before_pats, before_labelled_pats, one_pat, one_labelled_pat, field_pats_items)

pub ruleset value_forms = (before_decs, before_definitions, before_vals, before_labelled_vals, before_procs, one_dec, one_definition, one_val, one_labelled_val, one_proc, field_vals_items, def_items, block_items, right_items, left_items, group_items)

-- Uses, and applications with what is found before their fields.
use Rattle.std.proofs.Common.{◌≡◌, List, refl, sym, ap, subst, Bool, if◌then◌else◌, Option, Some, None}
use Rattle.pict_syntax.specs.declared.name.Name.{Name}
use Rattle.pict_syntax.specs.declared.span.Span.{Span}
use Rattle.pict_syntax.specs.Trees.{Val, Chan, of_chan, use_chan, FieldVals, field_vals, TypeTrees, Vals, LabelledVals}
use Rattle.pict_types.specs.Types.{PlainType, PlainArg}
use Rattle.pict_types.specs.Kinds.{IsWellFormed}
use Rattle.pict_types.specs.Replacing.{FitTheirFields}
use Rattle.pict_normal.specs.Written.{kinds_with}
use Rattle.pict_normal.proofs.Instances.{kinds_fit}
use Rattle.pict_sub.specs.Exposing.{exposure}
use Rattle.pict_rules.specs.Environments.{Environment, context_of, type_of_use}
use Rattle.pict_rules.specs.Found.{matched, none_found}
use Rattle.pict_rules.specs.Shapes.{Function, applicable, none_written}
use Rattle.pict_rules.specs.Rules.{type_, application, gives, ok}
use Rattle.pict_rules.specs.Clauses.{found_first}
use Rattle.pict_rules.specs.Typing.{rule}
use Rattle.pict_rules.specs.Derivations.{Runs, give_}
use Rattle.pict_rules.specs.Regular.{kinds_in}
use Rattle.pict_rules.proofs.RegularAbstractions.{FunctionFormed}
use Rattle.pict_rules.proofs.RegularArguments.{applied_formed}
use Rattle.pict_rules.proofs.RegularProcesses.{exposed_formed}
use Rattle.pict_infer.specs.Asking.{IsWellAsked}
use Rattle.pict_lines.specs.Functions.{FunctionIsFormed}
use Rattle.pict_lines.specs.Lines.{found_before}
use Rattle.pict_check.proofs.ChannelEnds.{applied_asked}
use Rattle.pict_lines.proofs.Ends.{good_of}
use Rattle.pict_check.proofs.FieldEnds.{IsFields}

-- USES

pub use_gives : (e : Environment) (c : Chan) (s : Span) (n : Name) (t : PlainType) → c ≡ use_chan s n → t ≡ type_of_use e n.0 → Runs (rule e (gives (of_chan c))) (ok t)
use_gives e c s n t is h = subst (λ (x : Chan). Runs (rule e (gives (of_chan x))) (ok t)) (sym is) (subst (λ u. Runs (rule e (gives (of_chan (use_chan s n)))) (ok u)) (sym h) give_)

-- APPLICATIONS

-- what is applied is well formed
function_formed : (e : Environment) (r : Function) (o : Option Function) → o ≡ Some r → FunctionFormed e o → FunctionIsFormed e r
function_formed e r o h w = let k : FunctionFormed e (Some r) = subst (FunctionFormed e) h w in record { fields = k.0; answer_ = k.1 }

pub applied_is_formed : (e : Environment) (s : Span) (f : Val) (vs : FieldVals) (x : Option PlainType) (t : PlainType) (r : Function) → IsWellAsked type_ e (application s f vs x) → Runs (rule e (gives f)) (ok t) → applicable (exposure (context_of e) t) ≡ Some r → FunctionIsFormed e r
applied_is_formed e s f vs x t r w p h =
    function_formed e r (applicable (exposure (context_of e) t)) h (applied_formed e (exposure (context_of e) t) (exposed_formed e t w.regular (good_of {j = gives f} (applied_asked e s f vs x w) p)))

-- what is found before the fields, by whether type arguments are written
first_found : (e : Environment) (ts : TypeTrees) (vs : Vals) (ls : LabelledVals) (r : Function) (x : Option PlainType) (b : Bool) → none_written ts ≡ b → found_first e (field_vals ts vs ls) r x ≡ found_before e r b x
first_found e ts vs ls r None b h = refl
first_found e ts vs ls r (Some t) b h = ap (λ (z : Bool). if z then matched (context_of e) 0 r.answer t (none_found r.binders) else none_found r.binders) h

pub first_before : (e : Environment) (f : FieldVals) (ts : TypeTrees) (vs : Vals) (ls : LabelledVals) (r : Function) (x : Option PlainType) (b : Bool) → IsFields f ts vs ls → none_written ts ≡ b → found_first e f r x ≡ found_before e r b x
first_before e f ts vs ls r x b is h = subst (λ (z : FieldVals). found_first e z r x ≡ found_before e r b x) (sym is) (first_found e ts vs ls r x b h)

-- the answer's type is well formed under the arguments
pub answer_formed : (d e : Environment) (r : Function) (args : List PlainArg) → d ≡ e → FunctionIsFormed e r → FitTheirFields args r.binders → IsWellFormed d.names (kinds_with args (kinds_in d)) r.answer
answer_formed d e r args h w f =
    subst (λ (z : Environment). IsWellFormed z.names (kinds_with args (kinds_in z)) r.answer) (sym h)
    (subst (λ ks. IsWellFormed e.names ks r.answer) (kinds_fit (kinds_in e) args r.binders f) w.answer_)

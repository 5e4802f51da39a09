-- Where the parser is in a text: the constructs that are open, as places where a phrase is to come, and its states.
-- Above each stand the lines of the grammar that it is in the middle of: what stands before the dot has been read, and
-- what stands behind it is to come.
use Rattle.std.specs.Prelude.{List, Option}
use Rattle.pict_syntax.specs.declared.span.Span.{Span}
use Rattle.pict_syntax.specs.declared.id.Id.{Id}
use Rattle.pict_syntax.specs.declared.type_tree.Mark.{Mark}
use Rattle.pict_syntax.specs.Trees.{KindTree, TypeTree, both_type, read_type, write_type, respond_type, TypeTrees, TypeBinders, LabelledTypes, RType, Pat, FieldPats, Pats, LabelledPats, Decs, Definitions, Abs, Chan, right_chan, left_chan, Val, Vals, LabelledVals, Proc, Procs}

-- the sign behind the name of `( Name > .. )` and `( Name < .. )`
pub data Side : Type 0 where
  rightward leftward : Side

abbrev pub side_channel : Side → Span → Id → Vals → Chan
side_channel rightward s x vs = right_chan s x vs
side_channel leftward s x vs = left_chan s x vs

-- the sign before an abstraction that receives
pub data Ask : Type 0 where
  asks_once asks_always : Ask

-- the sign before a channel's content
pub data Prefix : Type 0 where
  both read write respond : Prefix

abbrev pub prefixed : Prefix → Span → TypeTree → TypeTree
prefixed both s t = both_type s t
prefixed read s t = read_type s t
prefixed write s t = write_type s t
prefixed respond s t = respond_type s t

mutual
  -- where a value is to come, and no process may
  pub data ValuePlace : Type 0 where
    -- `val Pat = . Val`
    in_let : Span → Pat → DeclarationPlace → ValuePlace
    -- `( FieldPats ) RType = . Val`
    in_function : Span → FieldPats → RType → AbstractionPlace → ValuePlace
    -- `Chan ! . Val`
    in_send : Chan → ProcessPlaces → ValuePlace
    -- `( Name > Val* . Val Val* )`, `( Name < Val* . Val Val* )`
    in_side : Side → Span → Id → Vals → Place → ValuePlace
    -- `( # Type )* Val* . Val Val* ( Id = Val )*`
    in_field : FieldsPlace → TypeTrees → Vals → ValuePlace
    -- `( # Type )* Val* ( Id = Val )* Id = . Val ( Id = Val )*`
    in_label : FieldsPlace → TypeTrees → Vals → LabelledVals → Id → ValuePlace
    -- `( rec RType . Val )`
    in_fold : Span → RType → Place → ValuePlace
    -- `if Val then Val else . Val`
    in_else : Span → Val → Val → ValuePlaces → ValuePlace
    -- the token behind the value says what it is for
    waiting : Wait → ValuePlace

  -- where the token behind a value says what it is for
  pub data Wait : Type 0 where
    -- `Dec* . Val ;`
    at_top : Decs → Wait
    -- `if . Val then`
    in_test : Span → Place → Wait
    -- `if Val then . Val else Val`
    in_then : Span → Val → ValuePlace → Wait
    -- `( Dec* . Val`
    in_paren : Span → Decs → ValuePlace → Wait

  -- where a process is to come, and no value may
  pub data ProcessPlace : Type 0 where
    -- `run . Proc`
    in_run : Span → DeclarationPlace → ProcessPlace
    -- `Pat = . Proc`
    in_process : Pat → AbstractionPlace → ProcessPlace
    -- `if Val then Proc else . Proc`
    in_else_process : Span → Val → Proc → ProcessPlaces → ProcessPlace
    -- `( Dec* ( Proc | )* . Proc`
    in_bar : Span → Decs → Procs → ProcessPlaces → ProcessPlace
    -- `if Val then . Proc else Proc`
    in_then_process : Span → Val → ProcessPlace → ProcessPlace

  -- where a value or a process is to come
  pub data EitherPlace : Type 0 where
    -- `( Dec* . Val`, `( Dec* ( Proc | )* . Proc`
    in_paren_either : Span → Decs → ProcessPlaces → EitherPlace
    -- `if Val then . Val else Val`, `if Val then . Proc else Proc`
    in_then_either : Span → Val → EitherPlace → EitherPlace

  -- where a process may come
  pub data ProcessPlaces : Type 0 where
    process_only : ProcessPlace → ProcessPlaces
    process_either : EitherPlace → ProcessPlaces

  -- where a value may come
  pub data ValuePlaces : Type 0 where
    value_only : ValuePlace → ValuePlaces
    value_either : EitherPlace → ValuePlaces

  -- where a value, a process or either may come
  pub data Place : Type 0 where
    for_value : ValuePlace → Place
    for_process : ProcessPlace → Place
    for_either : EitherPlace → Place

  -- where a declaration stands
  pub data DeclarationPlace : Type 0 where
    -- `Dec* . Dec`
    top_declarations : Decs → DeclarationPlace
    -- `( Dec* . Dec`
    paren_declarations : Span → Decs → Place → DeclarationPlace

  -- where an abstraction stands
  pub data AbstractionPlace : Type 0 where
    -- `def ( Id Abs and )* Id . Abs`
    in_definition : Span → Definitions → Id → DeclarationPlace → AbstractionPlace
    -- `\ . Abs`
    in_lambda : Span → ValuePlaces → AbstractionPlace
    -- `Chan ? . Abs`, `Chan ?* . Abs`
    in_input : Ask → Chan → ProcessPlaces → AbstractionPlace

  -- where the fields of a record or of an application stand
  pub data FieldsPlace : Type 0 where
    -- `[ . FieldVals ]`
    in_record : Span → ValuePlaces → FieldsPlace
    -- `( Val . FieldVals )`
    in_apply : Span → Val → Place → FieldsPlace

mutual
  -- where a pattern stands
  pub data PatternPlace : Type 0 where
    -- `val . Pat = Val`
    in_let_pattern : Span → DeclarationPlace → PatternPlace
    -- `. Pat = Proc`
    in_abstraction_pattern : AbstractionPlace → PatternPlace
    -- `( rec RType . Pat )`
    in_fold_pattern : Span → RType → PatternPlace → PatternPlace
    -- `TypeBinder* Pat* . Pat Pat* ( Id = Pat )*`
    in_field_pattern : FieldPatternsPlace → TypeBinders → Pats → PatternPlace
    -- `TypeBinder* Pat* ( Id = Pat )* Id = . Pat ( Id = Pat )*`
    in_label_pattern : FieldPatternsPlace → TypeBinders → Pats → LabelledPats → Id → PatternPlace

  -- where the patterns of the fields of a record or of a function stand
  pub data FieldPatternsPlace : Type 0 where
    -- `[ . FieldPats ]`
    in_pattern_record : Span → PatternPlace → FieldPatternsPlace
    -- `( . FieldPats ) RType = Val`
    in_parameters : Span → AbstractionPlace → FieldPatternsPlace

mutual
  -- where a type stands
  pub data TypePlace : Type 0 where
    -- `new Id : . Type`
    in_new : Span → Id → DeclarationPlace → TypePlace
    -- `type Id = . Type`
    in_alias : Span → Id → DeclarationPlace → TypePlace
    -- `type ( Id Id+ ) = . Type`
    in_operator : Span → Id → List Id → DeclarationPlace → TypePlace
    -- `Id : . Type`
    in_bind : Id → PatternPlace → TypePlace
    -- `_ : . Type`
    in_any : Span → PatternPlace → TypePlace
    -- `( FieldPats ) : . Type = Val`
    in_result : Span → FieldPats → AbstractionPlace → TypePlace
    -- `( rec : . Type Pat )`
    in_pattern_fold_type : Span → PatternPlace → TypePlace
    -- `( rec : . Type Val )`
    in_fold_type : Span → Place → TypePlace
    -- `# Id : Kind < . Type`, `# Id < . Type`
    in_bound : Span → Id → Option KindTree → BinderPlace → TypePlace
    -- `^ . Type`, `? . Type`, `! . Type`, `/ . Type`
    in_prefix : Prefix → Span → TypePlace → TypePlace
    -- `[ TypeBinder* Type* . Type Type* ( Id = Type )* ]`
    in_type_field : Span → TypeBinders → TypeTrees → TypePlace → TypePlace
    -- `[ TypeBinder* Type* ( Id = Type )* Id = . Type ( Id = Type )* ]`
    in_type_label : Span → TypeBinders → TypeTrees → LabelledTypes → Id → TypePlace → TypePlace
    -- `( Id Type* . Type Type* )`
    in_type_apply : Span → Id → TypeTrees → TypePlace → TypePlace
    -- `( rec Id = . Type )`
    in_rec : Span → Id → TypePlace → TypePlace
    -- `( # Type )* # . Type ( # Type )*`
    in_argument : FieldsPlace → TypeTrees → TypePlace

  -- where a type binder stands
  pub data BinderPlace : Type 0 where
    -- `TypeBinder* . TypeBinder TypeBinder* Pat* ( Id = Pat )*`
    of_patterns : FieldPatternsPlace → TypeBinders → BinderPlace
    -- `[ TypeBinder* . TypeBinder TypeBinder* Type* ( Id = Type )* ]`
    of_types : Span → TypeBinders → TypePlace → BinderPlace

-- what has been read, and what is awaited: each state is named for what was read last, or for what is needed
pub data State : Type 0 where
  -- no phrase fits
  stop : State
  -- a value, a process or a declaration is to begin
  -- `. Val`, `. Proc`, `. Dec`
  need : Place → State
  -- `( Name`; the arguments of `( Name > .. )` so far
  -- `( Name . > Val Val+ )`, `( Name . < Val Val+ )`
  fresh_name : Span → Id → Place → State
  -- `( Name > Val* . Val* )`, `( Name < Val* . Val* )`
  arguments : Side → Span → Id → Vals → Place → State
  -- whole phrases, whose use the next token says
  -- `Chan . ! Val`, `Chan . ? Abs`, `Chan . ?* Abs`
  have_channel : Chan → ProcessPlaces → State
  -- `Val . ;`, `if Val . then`, `if Val then Val . else Val`, `( Val . FieldVals )`, `( Dec+ Val . )`
  have_value : Val → Wait → State
  -- `Val . ;`, `if Val then Val . else Val`, `( Val . FieldVals )`, `( Dec+ Val . )`
  have_either : Val → EitherPlace → State
  -- `if Val then Proc . else Proc`
  have_process : Proc → Span → Val → ProcessPlaces → State
  -- `( Dec* Proc ( | Proc )* . ( | Proc )* )`
  have_processes : Span → Decs → Procs → Proc → ProcessPlaces → State
  -- declarations
  -- `new . Id : Type`
  new_keyword : Span → DeclarationPlace → State
  -- `new Id . : Type`
  new_name : Span → Id → DeclarationPlace → State
  -- `val Pat . = Val`
  let_pattern : Span → Pat → DeclarationPlace → State
  -- `def ( Id Abs and )* . Id Abs ( and Id Abs )*`
  definition_keyword : Span → Definitions → DeclarationPlace → State
  -- `def Id Abs ( and Id Abs )* . ( and Id Abs )*`
  have_definition : Span → Definitions → Id → Abs → DeclarationPlace → State
  -- `type . Id = Type`, `type . ( Id Id+ ) = Type`
  type_keyword : Span → DeclarationPlace → State
  -- `type Id . = Type`
  alias_name : Span → Id → DeclarationPlace → State
  -- `type ( . Id Id+ ) = Type`
  operator_open : Span → DeclarationPlace → State
  -- `type ( Id Id* . Id* ) = Type`
  operator_parameters : Span → Id → List Id → DeclarationPlace → State
  -- `type ( Id Id+ ) . = Type`
  operator_closed : Span → Id → List Id → DeclarationPlace → State
  -- abstractions
  -- `. Abs`
  need_abstraction : AbstractionPlace → State
  -- `( . FieldPats ) RType = Val`, `( . rec RType Pat ) = Proc`
  abstraction_open : Span → AbstractionPlace → State
  -- `Pat . = Proc`
  abstraction_pattern : Pat → AbstractionPlace → State
  -- `( FieldPats ) . RType = Val`
  abstraction_parameters : Span → FieldPats → AbstractionPlace → State
  -- `( FieldPats ) : Type . = Val`
  abstraction_result : Span → FieldPats → TypeTree → AbstractionPlace → State
  -- patterns
  -- `. Pat`
  need_pattern : PatternPlace → State
  -- `( . rec RType Pat )`
  pattern_open : Span → PatternPlace → State
  -- `( rec . RType Pat )`
  pattern_rec : Span → PatternPlace → State
  -- `( rec RType Pat . )`
  pattern_folded : Span → RType → Pat → PatternPlace → State
  -- `Id . RType`
  have_bind : Id → PatternPlace → State
  -- `_ . RType`
  have_any : Span → PatternPlace → State
  -- `TypeBinder* . TypeBinder* Pat* ( Id = Pat )*`
  after_binders : FieldPatternsPlace → TypeBinders → State
  -- `TypeBinder* Pat* . Pat* ( Id = Pat )*`
  after_patterns : FieldPatternsPlace → TypeBinders → Pats → State
  -- `TypeBinder* Pat* Id . = Pat ( Id = Pat )*`, `TypeBinder* Pat* Id . RType Pat* ( Id = Pat )*`
  pattern_name : FieldPatternsPlace → TypeBinders → Pats → Id → State
  -- `TypeBinder* Pat* ( Id = Pat )* . ( Id = Pat )*`
  after_pattern_labels : FieldPatternsPlace → TypeBinders → Pats → LabelledPats → State
  -- `TypeBinder* Pat* ( Id = Pat )* Id . = Pat ( Id = Pat )*`
  pattern_label : FieldPatternsPlace → TypeBinders → Pats → LabelledPats → Id → State
  -- type binders
  -- `# . Id : Kind < Type`
  binder_hash : Span → BinderPlace → State
  -- `# Id . : Kind < Type`, `# Id . < Type`
  binder_name : Span → Id → BinderPlace → State
  -- `# Id : . Kind < Type`
  need_kind : Span → Id → BinderPlace → State
  -- `( Mark* . Mark* -> Type )`
  kind_arguments : Span → Id → List Mark → BinderPlace → State
  -- `( Mark* + . Type Mark* -> Type )`, `( Mark* - . Type Mark* -> Type )`
  kind_mark : Span → Id → List Mark → Mark → BinderPlace → State
  -- `( Mark+ -> . Type )`
  kind_arrow : Span → Id → List Mark → BinderPlace → State
  -- `( Mark+ -> Type . )`
  kind_result : Span → Id → List Mark → BinderPlace → State
  -- `# Id : Kind . < Type`
  binder_kind : Span → Id → KindTree → Span → BinderPlace → State
  -- types
  -- `. Type`
  need_type : TypePlace → State
  -- `( . Id Type+ )`, `( . rec Id = Type )`
  type_open : Span → TypePlace → State
  -- `( rec . Id = Type )`
  rec_keyword : Span → TypePlace → State
  -- `( rec Id . = Type )`
  rec_name : Span → Id → TypePlace → State
  -- `( rec Id = Type . )`
  rec_body : Span → Id → TypeTree → TypePlace → State
  -- `( Id Type* . Type* )`
  operator_arguments : Span → Id → TypeTrees → TypePlace → State
  -- `[ TypeBinder* . TypeBinder* Type* ( Id = Type )* ]`
  after_type_binders : Span → TypeBinders → TypePlace → State
  -- `[ TypeBinder* Type* . Type* ( Id = Type )* ]`
  after_types : Span → TypeBinders → TypeTrees → TypePlace → State
  -- `[ TypeBinder* Type* Id . = Type ( Id = Type )* ]`, `[ TypeBinder* Type* Id . Type* ( Id = Type )* ]`
  type_name : Span → TypeBinders → TypeTrees → Id → TypePlace → State
  -- `[ TypeBinder* Type* ( Id = Type )* . ( Id = Type )* ]`
  after_type_labels : Span → TypeBinders → TypeTrees → LabelledTypes → TypePlace → State
  -- `[ TypeBinder* Type* ( Id = Type )* Id . = Type ( Id = Type )* ]`
  type_label : Span → TypeBinders → TypeTrees → LabelledTypes → Id → TypePlace → State
  -- folds, and the fields of records and applications
  -- `( rec . RType Val )`
  fold_keyword : Span → Place → State
  -- `( rec RType Val . )`
  fold_body : Span → RType → Val → Place → State
  -- `( # Type )* . ( # Type )* Val* ( Id = Val )*`
  after_arguments : FieldsPlace → TypeTrees → State
  -- `( # Type )* Val* . Val* ( Id = Val )*`
  after_values : FieldsPlace → TypeTrees → Vals → State
  -- `( # Type )* Val* Id . = Val ( Id = Val )*`, `( # Type )* Val* Id . Val* ( Id = Val )*`
  value_name : FieldsPlace → TypeTrees → Vals → Id → State
  -- `( # Type )* Val* ( Id = Val )* . ( Id = Val )*`
  after_labels : FieldsPlace → TypeTrees → Vals → LabelledVals → State
  -- `( # Type )* Val* ( Id = Val )* Id . = Val ( Id = Val )*`
  value_label : FieldsPlace → TypeTrees → Vals → LabelledVals → Id → State

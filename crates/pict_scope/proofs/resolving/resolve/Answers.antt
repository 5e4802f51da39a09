-- What is read from the beginning to the end is the program's meaning, or its scope stop.
use Rattle.std.proofs.Common.{rules, map, ◌∙◌, ap₂}
use Rattle.pict_syntax.specs.PlainTrees.{declarations_of}
use Rattle.pict_scope.specs.Marks.{by_place}
use Rattle.pict_scope.specs.Refusals.{IsScopeStop}
use Rattle.pict_scope.proofs.Resolved.{IsAtStart, resolved, stopped}
use Rattle.pict_scope.proofs.resolving.resolve.Goals as goal

pub returns-in_err-read_decs-clause-refused : goal.returns-in_err-read_decs-clause-refused
returns-in_err-read_decs-clause-refused c =
    let s = c.new-reader in
    let start : IsAtStart c.args.names.now s.result = record { around_ = s.ensures.around; values = s.ensures.values; types_ = s.ensures.types; order = s.ensures.order } in
    let refused : IsScopeStop c.args.names.now (declarations_of c.args.program) c.in_err-read_decs.field-0.0 = stopped c.args.names.now c.args.program.decs.items c.deref.result.now s.result c.in_err-read_decs.field-0.0 c.deref.ensures.value start c.in_err-read_decs.ensures in
    search rules

pub returns-clause-no_stop : goal.returns-clause-no_stop
returns-clause-no_stop c =
    let s = c.new-reader in
    let start : IsAtStart c.args.names.now s.result = record { around_ = s.ensures.around; values = s.ensures.values; types_ = s.ensures.types; order = s.ensures.order } in
    (resolved c.args.names.now c.args.program.decs.items c.deref.result.now s.result c.read_decs.new.r c.deref.ensures.value start c.in_ok-read_decs.ensures).no_stop

pub returns-clause-values : goal.returns-clause-values
returns-clause-values c =
    let s = c.new-reader in
    let start : IsAtStart c.args.names.now s.result = record { around_ = s.ensures.around; values = s.ensures.values; types_ = s.ensures.types; order = s.ensures.order } in
    let all = resolved c.args.names.now c.args.program.decs.items c.deref.result.now s.result c.read_decs.new.r c.deref.ensures.value start c.in_ok-read_decs.ensures in
    c.in_ok-values.ensures ∙ (ap₂ (λ order targets. map (by_place order) targets) c.deref-2.ensures.value c.deref-3.ensures.value ∙ all.values)

pub returns-clause-types : goal.returns-clause-types
returns-clause-types c =
    let s = c.new-reader in
    let start : IsAtStart c.args.names.now s.result = record { around_ = s.ensures.around; values = s.ensures.values; types_ = s.ensures.types; order = s.ensures.order } in
    (resolved c.args.names.now c.args.program.decs.items c.deref.result.now s.result c.read_decs.new.r c.deref.ensures.value start c.in_ok-read_decs.ensures).types_

-- Values, declarations and processes: what is read part by part is what the outline of the whole says.
use Rattle.std.proofs.Common.{rules, ◌<◌, length, refl}
use Rattle.std.specs.Prelude.{Ok}
use Rattle.pict_syntax.specs.PlainTrees.{pat_of, val_of}
use Rattle.pict_scope.specs.Forms.{in_pat, in_val}
use Rattle.pict_scope.specs.Held.{each, in_dec_tree, in_definition, in_labelled_val, in_proc_tree, in_val_tree}
use Rattle.pict_scope.proofs.Reading.{reading, scoping, then_read, then_any, closed_read, group_read, type_read, pattern_read, behind_refused, scope_read, each_none, each_more}
use Rattle.pict_scope.proofs.ValueForms.{block_read, right_read, left_read, group_proc_read, process_read, function_read, let_read, def_read, alias_read, operator_read, field_vals_read}
use Rattle.pict_scope.proofs.values.+values.Goals as goal

pub read_vals-loop-v-init : goal.read_vals-loop-v-init
read_vals-loop-v-init t c = each_none in_val_tree c.args.r.now

pub read_vals-loop-v-preserved : goal.read_vals-loop-v-preserved
read_vals-loop-v-preserved t c =
    let h : c.loop-v.v-index < length c.args.vs.now = search rules in
    each_more in_val_tree c.args.vs.now c.loop-v.v-index c.v-item.result c.args.r.now c.loop-v.r c.read_val.new.r h c.v-item.is c.loop-v.invariant
    c.in_ok-read_val.ensures

pub read_labelled_vals-loop-l-init : goal.read_labelled_vals-loop-l-init
read_labelled_vals-loop-l-init t c = each_none in_labelled_val c.args.r.now

pub read_labelled_vals-loop-l-preserved : goal.read_labelled_vals-loop-l-preserved
read_labelled_vals-loop-l-preserved t c =
    let h : c.loop-l.l-index < length c.args.ls.now = search rules in
    each_more in_labelled_val c.args.ls.now c.loop-l.l-index c.l-item.result c.args.r.now c.loop-l.r c.read_val.new.r h c.l-item.is c.loop-l.invariant
    (then_read _ _ c.loop-l.r c.once.new.self c.read_val.new.r c.in_ok-once.ensures c.in_ok-read_val.ensures)

pub read_procs-loop-p-init : goal.read_procs-loop-p-init
read_procs-loop-p-init t c = each_none in_proc_tree c.args.r.now

pub read_procs-loop-p-preserved : goal.read_procs-loop-p-preserved
read_procs-loop-p-preserved t c =
    let h : c.loop-p.p-index < length c.args.ps.now = search rules in
    each_more in_proc_tree c.args.ps.now c.loop-p.p-index c.p-item.result c.args.r.now c.loop-p.r c.read_proc.new.r h c.p-item.is c.loop-p.invariant
    c.in_ok-read_proc.ensures

pub read_decs-loop-d-init : goal.read_decs-loop-d-init
read_decs-loop-d-init t c = each_none in_dec_tree c.args.r.now

pub read_decs-loop-d-preserved : goal.read_decs-loop-d-preserved
read_decs-loop-d-preserved t c =
    let h : c.loop-d.d-index < length c.args.ds.now = search rules in
    each_more in_dec_tree c.args.ds.now c.loop-d.d-index c.d-item.result c.args.r.now c.loop-d.r c.read_dec.new.r h c.d-item.is c.loop-d.invariant
    c.in_ok-read_dec.ensures

pub read_each_definition-loop-d-init : goal.read_each_definition-loop-d-init
read_each_definition-loop-d-init t c = each_none in_definition c.args.r.now

pub read_each_definition-loop-d-preserved : goal.read_each_definition-loop-d-preserved
read_each_definition-loop-d-preserved t c =
    let h : c.loop-d.d-index < length c.args.ds.now = search rules in
    each_more in_definition c.args.ds.now c.loop-d.d-index c.d-item.result c.args.r.now c.loop-d.r c.read_abs.new.r h c.d-item.is c.loop-d.invariant
    (then_read _ _ c.loop-d.r c.once.new.self c.read_abs.new.r c.in_ok-once.ensures (then_read _ _ c.once.new.self c.define.new.self c.read_abs.new.r c.in_ok-define.ensures c.in_ok-read_abs.ensures))

pub read_label_group-returns : goal.read_label_group-returns
read_label_group-returns t c =
    group_read (each in_labelled_val c.args.ls.now) c.open_group-outer.result c.args.r.now c.open_group-outer.new.r c.read_labelled_vals.new.r c.close_group.new.r c.open_group-outer.ensures c.in_ok-read_labelled_vals.ensures c.close_group.ensures

pub read_definitions-returns : goal.read_definitions-returns
read_definitions-returns t c =
    group_read (each in_definition c.args.ds.now) c.open_group-outer.result c.args.r.now c.open_group-outer.new.r c.read_each_definition.new.r c.close_group.new.r c.open_group-outer.ensures c.in_ok-read_each_definition.ensures c.close_group.ensures

pub read_field_vals-returns-in_err-read_types : goal.read_field_vals-returns-in_err-read_types
read_field_vals-returns-in_err-read_types t c =
    field_vals_read c.args.f.now c.deref.result.now _ _ c.args.r.now _ c.from_residual.result c.deref.ensures.value refl refl (search (rules, reading))

pub read_field_vals-returns-in_err-read_vals : goal.read_field_vals-returns-in_err-read_vals
read_field_vals-returns-in_err-read_vals t c =
    field_vals_read c.args.f.now c.deref.result.now c.deref-2.result.now _ c.args.r.now _ c.from_residual-in_err-read_vals.result c.deref.ensures.value c.deref-2.ensures.value refl (search (rules, reading))

pub read_field_vals-returns : goal.read_field_vals-returns
read_field_vals-returns t c =
    field_vals_read c.args.f.now c.deref.result.now c.deref-2.result.now c.deref-3.result.now c.args.r.now c.read_label_group.new.r c.read_label_group.result c.deref.ensures.value c.deref-2.ensures.value c.deref-3.ensures.value
    (then_any _ _ c.args.r.now c.read_types.new.r c.read_label_group.new.r c.read_label_group.result c.in_ok-read_types.ensures
    (then_any _ _ c.read_types.new.r c.read_vals.new.r c.read_label_group.new.r c.read_label_group.result c.in_ok-read_vals.ensures c.read_label_group.ensures))

-- abstractions
pub read_abs-returns-in_err-read_proc-in-Process : goal.read_abs-returns-in_err-read_proc-in-Process
read_abs-returns-in_err-read_proc-in-Process t c =
    let i = c.in-Process in
    process_read c.args.abs.now _ i.p i.q i.p c.deref.result.now c.args.r.now _ c.from_residual-in_err-read_proc-in-Process.result i.is refl c.deref.ensures (search (rules, scoping))

pub read_abs-returns-in_err-read_val-in-Function : goal.read_abs-returns-in_err-read_val-in-Function
read_abs-returns-in_err-read_val-in-Function t c =
    let i = c.in-Function in
    function_read c.args.abs.now _ i.f i.annotation i.v c.deref-in-Function.result.now i.annotation c.deref-in-Function-2.result.now c.args.r.now _ c.from_residual-in_err-read_val-in-Function.result i.is c.deref-in-Function.ensures refl c.deref-in-Function-2.ensures (search (rules, scoping))

pub read_abs-returns-in_ok-read_proc-in-Process : goal.read_abs-returns-in_ok-read_proc-in-Process
read_abs-returns-in_ok-read_proc-in-Process t c =
    let i = c.in-Process in
    process_read c.args.abs.now _ i.p i.q i.p c.deref.result.now c.args.r.now c.go_back.new.r (Ok (tt {0})) i.is refl c.deref.ensures
    (scope_read _ _ c.place-outer.result c.in_ok-opened-in-Process.opened c.args.r.now c.read_pattern.new.r c.enter.new.r c.read_proc.new.r c.go_back.new.r c.place-outer.ensures c.in_ok-opened-in-Process.ensures c.in_ok-enter-in-Process.ensures c.in_ok-read_proc-in-Process.ensures c.go_back.ensures)

pub read_abs-returns-in_ok-read_val-in-Function : goal.read_abs-returns-in_ok-read_val-in-Function
read_abs-returns-in_ok-read_val-in-Function t c =
    let i = c.in-Function in
    function_read c.args.abs.now _ i.f i.annotation i.v c.deref-in-Function.result.now i.annotation c.deref-in-Function-2.result.now c.args.r.now c.go_back-in-Function.new.r (Ok (tt {0})) i.is c.deref-in-Function.ensures refl c.deref-in-Function-2.ensures
    (scope_read _ _ c.place-outer.result c.in_ok-opened-in-Function.opened c.args.r.now c.read_function_pattern.new.r c.enter-in-Function.new.r c.read_val.new.r c.go_back-in-Function.new.r c.place-outer.ensures c.in_ok-opened-in-Function.ensures c.in_ok-enter-in-Function.ensures c.in_ok-read_val-in-Function.ensures c.go_back-in-Function.ensures)

-- values that may stand as channels
pub read_chan-returns-in_err-read_decs-in-Block : goal.read_chan-returns-in_err-read_decs-in-Block
read_chan-returns-in_err-read_decs-in-Block t c =
    let i = c.in-Block in
    block_read c.args.c.now _ i.ds i.v c.deref-in-Block.result.now i.v.value c.args.r.now _ c.from_residual-in_err-read_decs-in-Block.result i.is c.deref-in-Block.ensures.value refl (search (rules, reading))

pub read_chan-returns-in_err-read_val-in-Block : goal.read_chan-returns-in_err-read_val-in-Block
read_chan-returns-in_err-read_val-in-Block t c =
    let i = c.in-Block in
    block_read c.args.c.now _ i.ds i.v c.deref-in-Block.result.now c.deref-in-Block-2.result.now c.args.r.now _ c.from_residual-in_err-read_val-in-Block.result i.is c.deref-in-Block.ensures.value c.deref-in-Block-2.ensures (search (rules, reading))

pub read_chan-returns-in_ok-read_val-in-Block : goal.read_chan-returns-in_ok-read_val-in-Block
read_chan-returns-in_ok-read_val-in-Block t c =
    let i = c.in-Block in
    block_read c.args.c.now _ i.ds i.v c.deref-in-Block.result.now c.deref-in-Block-2.result.now c.args.r.now c.go_back.new.r (Ok (tt {0})) i.is c.deref-in-Block.ensures.value c.deref-in-Block-2.ensures
    (closed_read _ c.place-outer.result c.args.r.now c.read_val-in-Block.new.r c.go_back.new.r c.place-outer.ensures
    (then_read _ _ c.args.r.now c.read_decs.new.r c.read_val-in-Block.new.r c.in_ok-read_decs-in-Block.ensures c.in_ok-read_val-in-Block.ensures) c.go_back.ensures)

pub read_chan-returns-in_ok-use_value-in-Right : goal.read_chan-returns-in_ok-use_value-in-Right
read_chan-returns-in_ok-use_value-in-Right t c =
    let i = c.in-Right in
    right_read c.args.c.now _ i.id i.vs c.deref-in-Right.result.now c.args.r.now c.read_vals.new.r c.read_vals.result i.is c.deref-in-Right.ensures.value
    (then_any _ _ c.args.r.now c.use_value-in-Right.new.self c.read_vals.new.r c.read_vals.result c.in_ok-use_value-in-Right.ensures c.read_vals.ensures)

pub read_chan-returns-in_ok-use_value-in-Left : goal.read_chan-returns-in_ok-use_value-in-Left
read_chan-returns-in_ok-use_value-in-Left t c =
    let i = c.in-Left in
    left_read c.args.c.now _ i.id i.vs c.deref-in-Left.result.now c.args.r.now c.read_vals-in-Left.new.r c.read_vals-in-Left.result i.is c.deref-in-Left.ensures.value
    (then_any _ _ c.args.r.now c.use_value-in-Left.new.self c.read_vals-in-Left.new.r c.read_vals-in-Left.result c.in_ok-use_value-in-Left.ensures c.read_vals-in-Left.ensures)

-- processes
pub read_proc-returns-in_err-read_decs-in-Group : goal.read_proc-returns-in_err-read_decs-in-Group
read_proc-returns-in_err-read_decs-in-Group t c =
    let i = c.in-Group in
    group_proc_read c.args.p.now _ i.ds i.ps c.deref-in-Group.result.now i.ps.items c.args.r.now _ c.from_residual-in_err-read_decs-in-Group.result i.is c.deref-in-Group.ensures.value refl (search (rules, reading))

pub read_proc-returns-in_err-read_procs-in-Group : goal.read_proc-returns-in_err-read_procs-in-Group
read_proc-returns-in_err-read_procs-in-Group t c =
    let i = c.in-Group in
    group_proc_read c.args.p.now _ i.ds i.ps c.deref-in-Group.result.now c.deref-in-Group-2.result.now c.args.r.now _ c.from_residual-in_err-read_procs-in-Group.result i.is c.deref-in-Group.ensures.value c.deref-in-Group-2.ensures.value (search (rules, reading))

pub read_proc-returns-in_ok-read_procs-in-Group : goal.read_proc-returns-in_ok-read_procs-in-Group
read_proc-returns-in_ok-read_procs-in-Group t c =
    let i = c.in-Group in
    group_proc_read c.args.p.now _ i.ds i.ps c.deref-in-Group.result.now c.deref-in-Group-2.result.now c.args.r.now c.go_back.new.r (Ok (tt {0})) i.is c.deref-in-Group.ensures.value c.deref-in-Group-2.ensures.value
    (closed_read _ c.place-outer.result c.args.r.now c.read_procs.new.r c.go_back.new.r c.place-outer.ensures
    (then_read _ _ c.args.r.now c.read_decs.new.r c.read_procs.new.r c.in_ok-read_decs-in-Group.ensures c.in_ok-read_procs-in-Group.ensures) c.go_back.ensures)

-- declarations
pub read_dec-returns-in_err-read_val-in-Let : goal.read_dec-returns-in_err-read_val-in-Let
read_dec-returns-in_err-read_val-in-Let t c =
    let i = c.in-Let in
    let refused = behind_refused (in_pat (pat_of i.pattern)) (in_val (val_of c.deref-in-Let.result.now)) c.in_ok-bound-in-Let.bound c.args.r.now c.read_pattern.new.r c.in_err-read_val-in-Let.field-0.0 c.in_ok-bound-in-Let.ensures c.in_err-read_val-in-Let.ensures in
    let_read c.args.d.now _ i.pattern i.value i.pattern c.deref-in-Let.result.now c.args.r.now _ c.from_residual-in_err-read_val-in-Let.result i.is refl c.deref-in-Let.ensures (search rules)

pub read_dec-returns-in_ok-enter-in-Let : goal.read_dec-returns-in_ok-enter-in-Let
read_dec-returns-in_ok-enter-in-Let t c =
    let i = c.in-Let in
    let_read c.args.d.now _ i.pattern i.value i.pattern c.deref-in-Let.result.now c.args.r.now c.enter.new.r (Ok (tt {0})) i.is refl c.deref-in-Let.ensures
    (pattern_read _ _ c.in_ok-bound-in-Let.bound c.args.r.now c.read_pattern.new.r c.read_val.new.r c.enter.new.r c.in_ok-bound-in-Let.ensures c.in_ok-read_val-in-Let.ensures c.in_ok-enter-in-Let.ensures)

pub read_dec-returns-in_err-bind_all-in-Def : goal.read_dec-returns-in_err-bind_all-in-Def
read_dec-returns-in_err-bind_all-in-Def t c =
    let i = c.in-Def in
    def_read c.args.d.now _ i.ds c.deref-in-Def.result.now i.ds.items c.args.r.now _ c.from_residual-in_err-bind_all-in-Def.result i.is c.deref-in-Def.ensures.value refl (search (rules, reading))

pub read_dec-returns-in_ok-bind_all-in-Def : goal.read_dec-returns-in_ok-bind_all-in-Def
read_dec-returns-in_ok-bind_all-in-Def t c =
    let i = c.in-Def in
    def_read c.args.d.now _ i.ds c.deref-in-Def.result.now c.deref-in-Def-2.result.now c.args.r.now c.read_definitions.new.r c.read_definitions.result i.is c.deref-in-Def.ensures.value c.deref-in-Def-2.ensures.value
    (then_any _ _ c.args.r.now c.bind_all.new.r c.read_definitions.new.r c.read_definitions.result c.in_ok-bind_all-in-Def.ensures c.read_definitions.ensures)

pub read_dec-returns-in_ok-bind_type-in-Alias : goal.read_dec-returns-in_ok-bind_type-in-Alias
read_dec-returns-in_ok-bind_type-in-Alias t c =
    let i = c.in-Alias in
    let n = c.in_ok-number-in-Alias in
    alias_read c.args.d.now _ i.id i.t c.deref-in-Alias.result.now c.args.r.now c.bind_type.new.self (Ok (tt {0})) i.is c.deref-in-Alias.ensures
    (type_read i.id _ n.number c.args.r.now c.number_type.new.self c.read_type-in-Alias.new.r c.bind_type.new.self n.ensures.number n.ensures.moves c.in_ok-read_type-in-Alias.ensures c.in_ok-bind_type-in-Alias.ensures)

pub read_dec-returns-in_err-read_operator-in-Operator : goal.read_dec-returns-in_err-read_operator-in-Operator
read_dec-returns-in_err-read_operator-in-Operator t c =
    let i = c.in-Operator in
    operator_read c.args.d.now _ i.id i.parameters i.t c.deref-in-Operator.result.now c.deref-in-Operator-2.result.now c.args.r.now _ c.from_residual-in_err-read_operator-in-Operator.result i.is c.deref-in-Operator.ensures.value c.deref-in-Operator-2.ensures (search (rules, reading))

pub read_dec-returns-in_ok-bind_type-in-Operator : goal.read_dec-returns-in_ok-bind_type-in-Operator
read_dec-returns-in_ok-bind_type-in-Operator t c =
    let i = c.in-Operator in
    let n = c.in_ok-number-in-Operator in
    operator_read c.args.d.now _ i.id i.parameters i.t c.deref-in-Operator.result.now c.deref-in-Operator-2.result.now c.args.r.now c.bind_type-in-Operator.new.self (Ok (tt {0})) i.is c.deref-in-Operator.ensures.value c.deref-in-Operator-2.ensures
    (type_read i.id _ n.number c.args.r.now c.number_type-in-Operator.new.self c.read_operator.new.r c.bind_type-in-Operator.new.self n.ensures.number n.ensures.moves c.in_ok-read_operator-in-Operator.ensures c.in_ok-bind_type-in-Operator.ensures)

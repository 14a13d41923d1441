use Rattle.std.proofs.Common.{IfSome, map, refl, sym, subst}
use Rattle.std.proofs.lemmas.Result.{err_from_is_err_and}
use Rattle.zdd_nodes.specs.Nodes.{IsSoundStore}
use Rattle.eq_core.specs.Views.{gate_of, table_of}
use Rattle.mode_diagrams.specs.declared.undrawn.Undrawn.TheVariants.{Memory}
use Rattle.gate_sharing.specs.Simplified.{HaveSameValues}
use Rattle.gate_diagrams.specs.ByModes.{HasValueOf}
use Rattle.gate_diagrams.proofs.ByModes as a
use Rattle.gate_diagrams.proofs.by_modes.answer_by_modes.Goals as goal

pub returns-in_err-table : goal.returns-in_err-table
returns-in_err-table c = λ forest b all l.
    let p = err_from_is_err_and c.from_residual.result c.from_residual.ensures.1 in
    rw (p.1, p.2) (a.undrawn_right c.args.order forest (table_of c.args.equations.now) all l c.args.limit Memory)

pub returns-in_err-conflict : goal.returns-in_err-conflict
returns-in_err-conflict c = λ forest b all l.
    let table = table_of c.args.equations.now in
    let new = table_of c.in-Some.table in
    let same = subst (λ found. IfSome found (λ t. HaveSameValues table (table_of t))) c.in-Some.is
    c.in_ok-table.ensures.same in
    let d = c.in_err-conflict.ensures forest b all l table.gates table.conflict
    (subst (λ z. HasValueOf table.gates table.conflict (map gate_of z) new.conflict) (sym c.deref.ensures.value)
    (record { same = same.conflict })) in
    let p = err_from_is_err_and c.from_residual-in_err-conflict.result c.from_residual-in_err-conflict.ensures.1 in
    rw (p.1, p.2) (a.conflict_unanswered c.args.order forest table all l c.args.limit c.new-ops.result c.least_at.new.ops
    c.new-ops.ensures.families c.new-ops.ensures.limit c.in_err-conflict.field-0.0 d)

pub returns-then-conflict-ne0 : goal.returns-then-conflict-ne0
returns-then-conflict-ne0 c = λ forest b all l.
    let table = table_of c.args.equations.now in
    let new = table_of c.in-Some.table in
    let same = subst (λ found. IfSome found (λ t. HaveSameValues table (table_of t))) c.in-Some.is
    c.in_ok-table.ensures.same in
    let d = c.in_ok-conflict.ensures forest b all l table.gates table.conflict
    (subst (λ z. HasValueOf table.gates table.conflict (map gate_of z) new.conflict) (sym c.deref.ensures.value)
    (record { same = same.conflict })) in
    a.conflicts_right c.args.order forest table all l c.args.limit c.new-ops.result c.least_at.new.ops
    c.new-ops.ensures.families c.new-ops.ensures.limit c.in_ok-conflict.conflict d
    (record { store = c.into_store.result; root = c.in_ok-conflict.conflict }) c.into_store.ensures.same refl
    (subst IsSoundStore c.into_store.ensures.same c.into_store.ensures.sound) c.if-conflict-ne0.true

pub returns-in_err-top : goal.returns-in_err-top
returns-in_err-top c = λ forest b all l.
    let table = table_of c.args.equations.now in
    let new = table_of c.in-Some.table in
    let same = subst (λ found. IfSome found (λ t. HaveSameValues table (table_of t))) c.in-Some.is
    c.in_ok-table.ensures.same in
    let d = c.in_ok-conflict.ensures forest b all l table.gates table.conflict
    (subst (λ z. HasValueOf table.gates table.conflict (map gate_of z) new.conflict) (sym c.deref.ensures.value)
    (record { same = same.conflict })) in
    let t = c.in_err-top.ensures forest b all l table.gates table.top
    (subst (λ z. HasValueOf table.gates table.top (map gate_of z) new.top) (sym c.deref-2.ensures.value)
    (record { same = same.top })) in
    let p = err_from_is_err_and c.from_residual-in_err-top.result c.from_residual-in_err-top.ensures.1 in
    rw (p.1, p.2) (a.top_unanswered c.args.order forest table all l c.args.limit c.new-ops.result c.least_at.new.ops
    c.new-ops.ensures.families c.new-ops.ensures.limit c.in_ok-conflict.conflict d
    c.least_at-2.new.ops c.if-conflict-ne0.false c.in_err-top.field-0.0 t)

pub returns : goal.returns
returns c = λ forest b all l.
    let table = table_of c.args.equations.now in
    let new = table_of c.in-Some.table in
    let same = subst (λ found. IfSome found (λ t. HaveSameValues table (table_of t))) c.in-Some.is
    c.in_ok-table.ensures.same in
    let d = c.in_ok-conflict.ensures forest b all l table.gates table.conflict
    (subst (λ z. HasValueOf table.gates table.conflict (map gate_of z) new.conflict) (sym c.deref.ensures.value)
    (record { same = same.conflict })) in
    let t = c.in_ok-top.ensures forest b all l table.gates table.top
    (subst (λ z. HasValueOf table.gates table.top (map gate_of z) new.top) (sym c.deref-2.ensures.value)
    (record { same = same.top })) in
    a.cuts_right c.args.order forest table all l c.args.limit c.new-ops.result c.least_at.new.ops
    c.new-ops.ensures.families c.new-ops.ensures.limit c.in_ok-conflict.conflict d
    c.least_at-2.new.ops c.if-conflict-ne0.false c.in_ok-top.top
    (record { store = c.into_store-2.result; root = c.in_ok-top.top }) c.into_store-2.ensures.same refl
    (subst IsSoundStore c.into_store-2.ensures.same c.into_store-2.ensures.sound) t

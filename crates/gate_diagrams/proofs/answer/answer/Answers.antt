use Rattle.std.proofs.Common.{◌≡◌, map, Ok, Err, sym, ap, ◌∙◌, subst}
use Rattle.std.specs.List.{All}
use Rattle.std.proofs.lemmas.Result.{err_from_is_err_and}
use Rattle.zdd_nodes.specs.Families.{minimal}
use Rattle.zdd_nodes.specs.Nodes.{family, Draws, IsFamilyNumber}
use Rattle.zdd_nodes.specs.declared.NodeFault.{NodeFault}
use Rattle.zdd_nodes.specs.declared.NodeFault.TheVariants.{Full}
use Rattle.eq_core.specs.Values.{value_at}
use Rattle.eq_core.specs.Views.{gate_of, gates_of, operand_of, table_of}
use Rattle.firable_families.specs.FirableInside.{ListsLeastUpTo}
use Rattle.gate_diagrams.specs.Needed.{family_at, IsNeeded, IsNeededByBoth}
use Rattle.gate_diagrams.proofs.Answering as a
use Rattle.gate_diagrams.proofs.answer.answer.Goals as goal

pub returns-in_err-conflict-clause-full : goal.returns-in_err-conflict-clause-full
returns-in_err-conflict-clause-full c = λ order trees is_all e.
    let p = err_from_is_err_and c.from_residual.result c.from_residual.ensures.1 in
    let x = sym p.1 ∙ e in
    let y : p.0 ≡ Full = cc in
    a.conflict_full (table_of c.args.equations.now) c.args.firable.n c.args.ops c.least.new.ops c.requires.sound
    c.requires.firable_in c.requires.stored (Err c.in_err-conflict.field-0.0)
    (subst (λ z. Draws (IsNeeded (family c.args.ops c.args.firable.n) (map gate_of z)
    (operand_of c.args.equations.now.conflict))
    (minimal (family_at (family c.args.ops c.args.firable.n) (map gate_of z)
    (operand_of c.args.equations.now.conflict))) c.args.ops c.least.new.ops (Err c.in_err-conflict.field-0.0))
    c.deref.ensures.value c.in_err-conflict.ensures.drawn) order trees is_all
    (ap (λ (z : NodeFault). Err z) (sym p.2 ∙ y))

pub returns-then-conflict-ne0-clause-sets : goal.returns-then-conflict-ne0-clause-sets
returns-then-conflict-ne0-clause-sets c = λ order trees is_all.
    let x = a.conflict_sets (table_of c.args.equations.now) c.args.firable.n c.args.ops c.least.new.ops c.requires.sound
    c.requires.firable_in c.requires.stored c.in_ok-conflict.conflict
    (subst (λ z. Draws (IsNeeded (family c.args.ops c.args.firable.n) (map gate_of z)
    (operand_of c.args.equations.now.conflict))
    (minimal (family_at (family c.args.ops c.args.firable.n) (map gate_of z)
    (operand_of c.args.equations.now.conflict))) c.args.ops c.least.new.ops (Ok c.in_ok-conflict.conflict))
    c.deref.ensures.value c.in_ok-conflict.ensures.drawn)
    c.in_ok-conflict.ensures.sound c.if-conflict-ne0.true order trees is_all in
    let y = subst (λ z. IsFamilyNumber z c.in_ok-conflict.conflict.n
    × ListsLeastUpTo order trees (value_at (gates_of c.args.equations.now) (operand_of c.args.equations.now.conflict))
    (family z c.in_ok-conflict.conflict.n))
    (sym c.into_store.ensures.same) x.1 in
    (x.0, y.0, y.1)

pub returns-then-conflict-ne0-clause-needed : goal.returns-then-conflict-ne0-clause-needed
returns-then-conflict-ne0-clause-needed c =
    subst (λ z. All (IsNeeded (family c.args.ops c.args.firable.n) (gates_of c.args.equations.now)
    (operand_of c.args.equations.now.conflict)) z.families) (sym c.into_store.ensures.same)
    (a.conflict_needed (table_of c.args.equations.now) c.args.firable.n c.args.ops c.least.new.ops c.requires.sound
    c.requires.firable_in c.requires.stored (Ok c.in_ok-conflict.conflict)
    (subst (λ z. Draws (IsNeeded (family c.args.ops c.args.firable.n) (map gate_of z)
    (operand_of c.args.equations.now.conflict))
    (minimal (family_at (family c.args.ops c.args.firable.n) (map gate_of z)
    (operand_of c.args.equations.now.conflict))) c.args.ops c.least.new.ops (Ok c.in_ok-conflict.conflict))
    c.deref.ensures.value c.in_ok-conflict.ensures.drawn))

pub returns-in_err-top-clause-full : goal.returns-in_err-top-clause-full
returns-in_err-top-clause-full c = λ order trees is_all e.
    let p = err_from_is_err_and c.from_residual-in_err-top.result c.from_residual-in_err-top.ensures.1 in
    let x = sym p.1 ∙ e in
    let y : p.0 ≡ Full = cc in
    a.both_full (table_of c.args.equations.now) c.args.firable.n c.args.ops c.least.new.ops c.requires.sound
    c.requires.firable_in c.requires.stored c.in_ok-conflict.conflict
    (subst (λ z. Draws (IsNeeded (family c.args.ops c.args.firable.n) (map gate_of z)
    (operand_of c.args.equations.now.conflict))
    (minimal (family_at (family c.args.ops c.args.firable.n) (map gate_of z)
    (operand_of c.args.equations.now.conflict))) c.args.ops c.least.new.ops (Ok c.in_ok-conflict.conflict))
    c.deref.ensures.value c.in_ok-conflict.ensures.drawn)
    c.least-2.new.ops (Err c.in_err-top.field-0.0) c.if-conflict-ne0.false
    (subst (λ z. Draws (IsNeeded (family c.least.new.ops c.args.firable.n) (map gate_of z)
    (operand_of c.args.equations.now.top))
    (minimal (family_at (family c.least.new.ops c.args.firable.n) (map gate_of z)
    (operand_of c.args.equations.now.top))) c.least.new.ops c.least-2.new.ops (Err c.in_err-top.field-0.0))
    c.deref-2.ensures.value c.in_err-top.ensures.drawn) order trees is_all (ap (λ (z : NodeFault). Err z) (sym p.2 ∙ y))

pub returns-clause-sets : goal.returns-clause-sets
returns-clause-sets c = λ order trees is_all.
    let x = a.top_sets (table_of c.args.equations.now) c.args.firable.n c.args.ops c.least.new.ops c.requires.sound
    c.requires.firable_in c.requires.stored c.in_ok-conflict.conflict
    (subst (λ z. Draws (IsNeeded (family c.args.ops c.args.firable.n) (map gate_of z)
    (operand_of c.args.equations.now.conflict))
    (minimal (family_at (family c.args.ops c.args.firable.n) (map gate_of z)
    (operand_of c.args.equations.now.conflict))) c.args.ops c.least.new.ops (Ok c.in_ok-conflict.conflict))
    c.deref.ensures.value c.in_ok-conflict.ensures.drawn)
    c.least-2.new.ops c.in_ok-top.top c.if-conflict-ne0.false
    (subst (λ z. Draws (IsNeeded (family c.least.new.ops c.args.firable.n) (map gate_of z)
    (operand_of c.args.equations.now.top))
    (minimal (family_at (family c.least.new.ops c.args.firable.n) (map gate_of z)
    (operand_of c.args.equations.now.top))) c.least.new.ops c.least-2.new.ops (Ok c.in_ok-top.top))
    c.deref-2.ensures.value c.in_ok-top.ensures.drawn) order trees is_all in
    let y = subst (λ z. IsFamilyNumber z c.in_ok-top.top.n
    × ListsLeastUpTo order trees (value_at (gates_of c.args.equations.now) (operand_of c.args.equations.now.top))
    (family z c.in_ok-top.top.n))
    (sym c.into_store-2.ensures.same) x.1 in
    (x.0, y.0, y.1)

pub returns-clause-needed : goal.returns-clause-needed
returns-clause-needed c =
    subst (λ z. All (IsNeededByBoth (family c.args.ops c.args.firable.n) (table_of c.args.equations.now)) z.families)
    (sym c.into_store-2.ensures.same)
    (a.both_needed (table_of c.args.equations.now) c.args.firable.n c.args.ops c.least.new.ops c.requires.sound
    c.requires.firable_in c.requires.stored c.in_ok-conflict.conflict
    (subst (λ z. Draws (IsNeeded (family c.args.ops c.args.firable.n) (map gate_of z)
    (operand_of c.args.equations.now.conflict))
    (minimal (family_at (family c.args.ops c.args.firable.n) (map gate_of z)
    (operand_of c.args.equations.now.conflict))) c.args.ops c.least.new.ops (Ok c.in_ok-conflict.conflict))
    c.deref.ensures.value c.in_ok-conflict.ensures.drawn)
    c.least-2.new.ops (Ok c.in_ok-top.top) c.if-conflict-ne0.false
    (subst (λ z. Draws (IsNeeded (family c.least.new.ops c.args.firable.n) (map gate_of z)
    (operand_of c.args.equations.now.top))
    (minimal (family_at (family c.least.new.ops c.args.firable.n) (map gate_of z)
    (operand_of c.args.equations.now.top))) c.least.new.ops c.least-2.new.ops (Ok c.in_ok-top.top))
    c.deref-2.ensures.value c.in_ok-top.ensures.drawn))

use Rattle.std.proofs.Common.{inl, inr, ℕ, List, Bool, true, subst}
use Rattle.ar_base.specs.Lists.{Stands}
use Rattle.ar_base.specs.Numbers.{VarId}
use Rattle.typed_expr.specs.declared.expr.Expr.{Expr}
use Rattle.ar_meaning.specs.Dependence.{Names, Tests}
use Rattle.ar_meaning.specs.Found.{IsAnswer}
use Rattle.ar_meaning.proofs.Found.{holds, fails}
use Rattle.gts_core.specs.View.{assign_of}
use Rattle.gts_core.proofs.NamesNumbered.{reads_there, reads_back}
use Rattle.flow_changes.specs.Known.{MarksEach}
use Rattle.flow_changes.proofs.NamedMarks.{answer_as}
use Rattle.flow_changes.proofs.marked.names_marked.Goals as goal

pub returns-then-not-is_marked : goal.returns-then-not-is_marked
returns-then-not-is_marked c = λ all.
    fails _ c.is_marked.result c.if-not-is_marked.true c.is_marked.ensures
    (λ x d. all x.n (reads_there c.args.assign.now x (inl d)))

pub returns : goal.returns
returns c =
    let a = c.args.assign.now in
    let marks = c.args.marks.now in
    let value = holds _ c.is_marked.result c.if-not-is_marked.false c.is_marked.ensures in
    let tests : IsAnswer c.tests_marked.result (MarksEach marks (λ x. Tests x a.when.items)) =
    subst (λ (z : List (Expr VarId × Bool)). IsAnswer c.tests_marked.result (MarksEach marks (λ x. Tests x z)))
    c.deref.ensures.value c.tests_marked.ensures in
    answer_as (MarksEach marks (λ x. Tests x a.when.items)) ((n : ℕ) → Names (assign_of a) n → Stands marks n true)
    c.tests_marked.result
    (λ marked n d.
    let h = reads_back a n d in
    subst (λ (z : ℕ). Stands marks z true) h.is
    (elim h.has [ inl i ↦ value h.variable i | inr i ↦ marked h.variable i ]))
    (λ all x d. all x.n (reads_there a x (inr d))) tests

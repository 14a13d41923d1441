use Rattle.std.proofs.Common.{inl, inr, subst, sym}
use Rattle.zdd_ops.specs.Operations.{join_of, IsKnownResult}
use Rattle.zdd_ops.proofs.Joins.{union_g, union_f, meet_none, meet_f, minus_none, minus_f}
use Rattle.zdd_ops.proofs.halving.known_join.Goals as goal
use Rattle.zdd_ops.proofs.halving.known_join.Goals.{then-f-eq0-via-then-f-eq0, then-f-eq0-via-else-f-eq0+then-f-g, then-f-eq0-2-via-then-f-eq0-2, then-f-eq0-2-via-else-f-eq0-2+then-g-eq0-2, then-f-eq0-3-via-then-f-eq0-3, then-f-eq0-3-via-else-f-eq0-3+then-f-g-3}

pub returns-then-f-eq0 : goal.returns-then-f-eq0
returns-then-f-eq0 c =
    subst (λ j. IsKnownResult (join_of j) c.args.f.n c.args.g.n c.args.g.n) (sym c.in-Union.is)
    (union_g c.args.f.n c.args.g.n (elim c.then-f-eq0.branch [
      | then-f-eq0-via-then-f-eq0 w ↦ inl w.if-f-eq0.true
      | then-f-eq0-via-else-f-eq0+then-f-g w ↦ inr w.if-f-g.true
    ]))

pub returns-then-g-eq0 : goal.returns-then-g-eq0
returns-then-g-eq0 c =
    subst (λ j. IsKnownResult (join_of j) c.args.f.n c.args.g.n c.args.f.n) (sym c.in-Union.is)
    (union_f c.args.f.n c.args.g.n c.if-g-eq0.true)

pub returns-then-f-eq0-2 : goal.returns-then-f-eq0-2
returns-then-f-eq0-2 c =
    subst (λ j. IsKnownResult (join_of j) c.args.f.n c.args.g.n c.new-none.result.n) (sym c.in-Meet.is)
    (meet_none c.args.f.n c.args.g.n c.new-none.result.n c.new-none.ensures
    (elim c.then-f-eq0-2.branch [
      | then-f-eq0-2-via-then-f-eq0-2 w ↦ inl w.if-f-eq0-2.true
      | then-f-eq0-2-via-else-f-eq0-2+then-g-eq0-2 w ↦ inr w.if-g-eq0-2.true
    ]))

pub returns-then-f-g-2 : goal.returns-then-f-g-2
returns-then-f-g-2 c =
    subst (λ j. IsKnownResult (join_of j) c.args.f.n c.args.g.n c.args.f.n) (sym c.in-Meet.is)
    (meet_f c.args.f.n c.args.g.n c.if-f-g-2.true)

pub returns-then-f-eq0-3 : goal.returns-then-f-eq0-3
returns-then-f-eq0-3 c =
    subst (λ j. IsKnownResult (join_of j) c.args.f.n c.args.g.n c.new-none.result.n) (sym c.in-Minus.is)
    (minus_none c.args.f.n c.args.g.n c.new-none.result.n c.new-none.ensures
    (elim c.then-f-eq0-3.branch [
      | then-f-eq0-3-via-then-f-eq0-3 w ↦ inl w.if-f-eq0-3.true
      | then-f-eq0-3-via-else-f-eq0-3+then-f-g-3 w ↦ inr w.if-f-g-3.true
    ]))

pub returns-then-g-eq0-3 : goal.returns-then-g-eq0-3
returns-then-g-eq0-3 c =
    subst (λ j. IsKnownResult (join_of j) c.args.f.n c.args.g.n c.args.f.n) (sym c.in-Minus.is)
    (minus_f c.args.f.n c.args.g.n c.if-g-eq0-3.true)

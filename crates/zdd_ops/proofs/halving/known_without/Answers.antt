use Rattle.std.proofs.Common.{inl, inr}
use Rattle.zdd_ops.proofs.Joins.{without_f, without_none}
use Rattle.zdd_ops.proofs.halving.known_without.Goals as goal
use Rattle.zdd_ops.proofs.halving.known_without.Goals.{then-f-eq0-via-then-f-eq0, then-f-eq0-via-else-f-eq0+then-g-eq0}

pub returns-then-f-eq0 : goal.returns-then-f-eq0
returns-then-f-eq0 c =
    without_f c.args.f.n c.args.g.n (elim c.then-f-eq0.branch [
      | then-f-eq0-via-then-f-eq0 w ↦ inl w.if-f-eq0.true
      | then-f-eq0-via-else-f-eq0+then-g-eq0 w ↦ inr w.if-g-eq0.true
    ])

pub returns-then-f-g : goal.returns-then-f-g
returns-then-f-g c =
    without_none c.args.f.n c.args.g.n c.new.result.n c.new.ensures c.if-f-g.true

use Rattle.std.proofs.Common.{ℕ, ◌+◌, List, drop, subst}
use Rattle.class_table.specs.Ordering.{IsSorting}
use Rattle.class_table.proofs.Taken.{drop_one, drop_all}
use Rattle.class_table.proofs.order.Sorting.settle_all.Goals as goal

pub settle-requires : goal.settle-requires
settle-requires c = (
  c.requires.0,
  drop (c.loop-body.body-index + 1) c.args.bodies.now,
  record {
    rows = c.requires.1.rows;
    is = subst (λ (l : List ℕ). IsSorting c.requires.1.rows c.loop-body.self c.requires.0 l)
        (drop_one c.args.bodies.now c.loop-body.body-index 0 c.loop-body-test.true)
        (c.loop-body.invariant c.requires.1.rows c.requires.0 c.requires.1.is);
  },
)

pub loop-body-preserved : goal.loop-body-preserved
loop-body-preserved c = λ rows next h. c.in_ok-settle.ensures rows next (drop (c.loop-body.body-index + 1) c.args.bodies.now)
    (subst (λ (l : List ℕ). IsSorting rows c.loop-body.self next l)
    (drop_one c.args.bodies.now c.loop-body.body-index 0 c.loop-body-test.true) (c.loop-body.invariant rows next h))

pub returns : goal.returns
returns c = λ rows next h. subst (λ (l : List ℕ). IsSorting rows c.loop-body.self next l)
    (drop_all c.args.bodies.now c.loop-body.body-index c.loop-body-test.false) (c.loop-body.invariant rows next h)

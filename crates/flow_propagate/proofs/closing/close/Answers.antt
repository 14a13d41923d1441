use Rattle.std.proofs.Common.{ℕ, length, subst, ◌∙◌}
use Rattle.flow_propagate.specs.Closing.{TakesAssignment}
use Rattle.flow_propagate.proofs.Applying.{moves_not, moves_then}
use Rattle.flow_propagate.proofs.Worklists.{by_length}
use Rattle.flow_propagate.proofs.Looking.{taken, all_closed, left_less}
use Rattle.flow_propagate.proofs.Hearing.{founded_start, taken_heard, heard_all}
use Rattle.flow_propagate.proofs.closing.close.Goals as goal

pub loop-n-init : goal.loop-n-init
loop-n-init c = (
  moves_not c.args.parts.now c.args.table.rows.items,
  c.requires.work,
  c.requires.settled,
  founded_start
      c.args.parts.now c.args.table.rows.items,
  c.requires.heard,
)

pub take-requires : goal.take-requires
take-requires c = by_length _ _ c.loop-n.invariant.1

pub look_at-requires : goal.look_at-requires
look_at-requires c =
    let t = subst (λ (z : ℕ). TakesAssignment z c.in-Some.n c.loop-n.work c.take.new.work) c.loop-n.invariant.1.long
    c.in-Some.ensures in
    record {
      sound = c.requires.sound;
      readers = c.requires.readers;
      long = c.loop-n.invariant.0.long ∙ c.requires.long;
      work = t.is;
      below = t.below;
    }

pub loop-n-preserved : goal.loop-n-preserved
loop-n-preserved c =
    let p = c.args.parts.now in
    let l = c.in_ok-look_at.ensures.looks in
    let g = c.in_ok-look_at.ensures.hears in (
      moves_then p c.args.table.rows.items c.loop-n.table.rows.items c.look_at.new.table.rows.items c.loop-n.invariant.0
          l.moves,
      l.is,
      l.settled (taken p _ c.in-Some.n c.loop-n.table.rows.items c.loop-n.work c.take.new.work c.loop-n.invariant.2
          c.in-Some.ensures),
      g.founded c.loop-n.invariant.3,
      g.heard (taken_heard p _ c.in-Some.n c.loop-n.table.rows.items c.loop-n.outside c.loop-n.work c.take.new.work
          c.loop-n.invariant.4 c.in-Some.ensures),
    )

pub loop-n-smaller : goal.loop-n-smaller
loop-n-smaller c = left_less c.args.parts.now (length c.args.readers.now.pairs.items) _ c.in-Some.n
    c.loop-n.table.rows.items c.look_at.new.table.rows.items c.loop-n.work c.take.new.work c.look_at.new.work
    c.in-Some.ensures c.in_ok-look_at.ensures.looks

pub returns : goal.returns
returns c = record {
  moves = c.loop-n.invariant.0;
  closed = all_closed c.args.parts.now c.loop-n.table.rows.items c.loop-n.work c.loop-n.invariant.2
      c.in_default.ensures;
  outside = heard_all c.args.parts.now c.loop-n.table.rows.items c.loop-n.outside c.loop-n.work c.loop-n.invariant.3
      c.loop-n.invariant.4 c.in_default.ensures;
}

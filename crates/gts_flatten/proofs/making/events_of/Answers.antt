use Rattle.std.proofs.Common.{◌≡◌, ℕ, ◌∙◌, refl, length, arith, ap, subst, length-append}
use Rattle.sync_expand.proofs.Placed.{item_stands}
use Rattle.gts_flatten.specs.Placing.{IsWayRun}
use Rattle.gts_flatten.proofs.EventsMade.{run_ways, first_after, event_more}
use Rattle.gts_flatten.proofs.making.events_of.Goals as goal

pub loop-number-preserved : goal.loop-number-preserved
loop-number-preserved c =
    let i = c.loop-number.invariant in
    let run : IsWayRun c.args.plan.now c.loop-number.number c.loop-number.first c.in_ok-ways.ways.items =
    subst (λ (n : ℕ). IsWayRun c.args.plan.now n c.loop-number.first c.in_ok-ways.ways.items) c.new.ensures
    c.in_ok-ways.ensures in
    let len : c.len-first.result ≡ length c.in_ok-ways.ways.items =
    omega (arith, c.in_ok-ways.ways.ok.0, c.len-first.ensures) in
    let there = item_stands c.args.declared.now c.loop-number.number c.index-declared-number.result c.loop-number-test.true c.index-declared-number.is in (
      (let e = ap length c.in_ok-push.ensures.items ∙ length-append c.loop-number.events.items _ in omega (arith, e, i.0)),
      (let w = run.within i.1 in omega (arith, w, len)),
      λ counts are eq.
          let k = i.2 counts are eq in
          let f = first_after counts c.args.declared.now c.args.plan.now are eq c.loop-number.number c.loop-number.first
          c.in_ok-ways.ways.items c.loop-number-test.true k.0 run in
          let w = run_ways counts c.args.declared.now c.args.plan.now are eq c.loop-number.number c.loop-number.first c.in_ok-ways.ways.items c.loop-number-test.true k.0 run in (
            omega (arith, f, len),
            event_more counts c.args.declared.now c.loop-number.events.items c.push.new.self.items c.loop-number.number
                c.index-declared-number.result _ i.0 there
                (record { path = c.in_ok-path.ensures; unit = refl; hidden = refl; ways = w }) c.in_ok-push.ensures.items k.1,
          ),
    )

pub returns : goal.returns
returns c = λ counts are eq. let i = c.loop-number.invariant in record {
  long = omega (arith, i.0, c.loop-number-test.false);
  each = (i.2 counts are eq).1;
}

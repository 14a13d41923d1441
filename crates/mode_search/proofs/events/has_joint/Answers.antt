use Rattle.std.proofs.Common.{get_or}
use Rattle.std.proofs.lemmas.List.{get_or_default}
use Rattle.ar_base.specs.Numbers.{WayId}
use Rattle.ar_base.proofs.Standing.{stands_get}
use Rattle.mode_search.proofs.Added.{each_more, each_all}
use Rattle.mode_search.specs.Events.{IsJoint}
use Rattle.mode_search.proofs.events.has_joint.Goals as goal

pub loop-way-preserved : goal.loop-way-preserved
loop-way-preserved c =
    let way : WayId = get_or c.args.ways.now c.loop-way.way-index (record { n = 0; of = record {} }) in
    each_more c.args.ways.now c.loop-way.way-index (λ (x : WayId). IsJoint c.args.parts.now x.n → ⊥) way
    c.loop-way-test.true
    (get_or_default c.args.ways.now c.loop-way.way-index (record { n = 0; of = record {} }) way c.loop-way-test.true)
    c.loop-way.invariant c.if-is_joint.ensures

pub returns-then-is_joint : goal.returns-then-is_joint
returns-then-is_joint c =
    let way : WayId = get_or c.args.ways.now c.loop-way.way-index (record { n = 0; of = record {} }) in
    record {
      way = way;
      is_one = record {
        place = c.loop-way.way-index;
        stands = stands_get c.args.ways.now c.loop-way.way-index
            (record { n = 0; of = record {} }) c.loop-way-test.true;
      };
      is_joint = c.if-is_joint.ensures;
    }

pub returns : goal.returns
returns c = λ h. each_all c.args.ways.now c.loop-way.way-index (λ (x : WayId). IsJoint c.args.parts.now x.n → ⊥)
    c.loop-way-test.false c.loop-way.invariant h.way h.is_one h.is_joint

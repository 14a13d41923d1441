use Rattle.class_table.proofs.Ordered.{is_true}
use Rattle.class_table.proofs.Searches.{opens_past, opens_seen, opens_new}
use Rattle.std.proofs.Common.{false, refl}
use Rattle.class_table.proofs.containment.add_one.Goals as goal

pub returns-then-place-seen : goal.returns-then-place-seen
returns-then-place-seen c = λ h. opens_past _ _ _ c.if-place-seen.true h

pub returns-then-seen-place : goal.returns-then-seen-place
returns-then-seen-place c = λ h. opens_seen _ _ _ h
    (is_true c.args.seen.now c.args.body _ false c.if-place-seen.false refl c.if-seen-place.true)

pub returns : goal.returns
returns c = λ h. opens_new _ _ _ _ c.if-place-seen.false c.if-seen-place.false c.in_ok-push.ensures.items h

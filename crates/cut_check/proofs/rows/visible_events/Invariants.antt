use Rattle.std.proofs.Common.{◌≡◌, ℕ, Bool, length}
use Rattle.ar_base.specs.Lists.{Stands}
use Rattle.ar_meaning.specs.Found.{IsAnswer}
use Rattle.gts_core.specs.declared.system.Event.{Event}
use Rattle.std.proofs.Common.{false}
use Rattle.cut_check.proofs.rows.visible_events.Given as goal

-- the events so far
abbrev pub invariant-loop-event : goal.invariant-loop-event
invariant-loop-event l = record {
  long : length l.allowed.items ≡ l.event-index;
  each : (n : ℕ) (b : Bool) (e : Event) → Stands l.allowed.items n b → Stands l.parts.events.items n e
      → IsAnswer b (e.hidden ≡ false);
}

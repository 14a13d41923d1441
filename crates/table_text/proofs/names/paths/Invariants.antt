use Rattle.std.proofs.Common.{◌≡◌, map, take}
use Rattle.gts_core.specs.declared.system.Event.{Event}
use Rattle.table_text.proofs.names.paths.Given as goal

abbrev pub invariant-loop-event : goal.invariant-loop-event
invariant-loop-event l = l.texts.items ≡ map (λ (e : Event). e.path) (take l.event-index l.events)

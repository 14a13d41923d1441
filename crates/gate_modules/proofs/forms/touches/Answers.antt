use Rattle.std.proofs.Common.{sym, ◌∙◌}
use Rattle.gate_modules.proofs.Forming.{touched_at}
use Rattle.gate_modules.proofs.forms.touches.Goals as goal

pub returns-then-lies : goal.returns-then-lies
returns-then-lies c = sym (touched_at c.args.range c.args.taken.now c.loop-event.event-index _ c.loop-event-test.true
    (sym c.lies.ensures ∙ c.if-lies.true))

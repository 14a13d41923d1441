use Rattle.std.proofs.Common.{refl, sym}
use Rattle.cut_check.proofs.TruthLemmas.{fired_more, fired_as, fire_stops}
use Rattle.cut_check.proofs.firing.fire.Goals as goal

pub returns-in_ok-push-in-Ok-clause-fired : goal.returns-in_ok-push-in-Ok-clause-fired
returns-in_ok-push-in-Ok-clause-fired c = λ system views dropped w op h.
    fired_more c.args.gts.now system dropped c.requires.sound views c.args.way c.requires.known c.args.fired.now.items
    c.push.new.self.items c.args.stepper.now c.fire.new.self c.requires.same
    c.in_ok-push-in-Ok.ensures.items c.in-Ok.ensures.below c.in-Ok.ensures.step w op h

pub returns-in_default-clause-fired : goal.returns-in_default-clause-fired
returns-in_default-clause-fired c = λ system views dropped w op h.
    fired_as c.args.gts.now system dropped c.args.fired.now.items c.args.fired.now.items
    c.args.stepper.now c.fire.new.self refl (sym c.in-Err.ensures.err) h

pub returns-in_default-clause-stops : goal.returns-in_default-clause-stops
returns-in_default-clause-stops c = λ system views dropped h e t r.
    fire_stops c.args.gts.now system dropped c.requires.sound views c.args.way c.requires.known
    c.args.fired.now.items c.args.stepper.now c.in-Err.fault c.requires.same c.in_default.not-Memory
    c.in-Err.ensures.fault h t r

use Rattle.std.proofs.Common.{map, ◌∙◌, ap}
use Rattle.unit_rules.specs.Repeats.{code_of}
use Rattle.unit_rules.proofs.Meeting.{meets_one}
use Rattle.unit_rules.proofs.repeats.Targets.meet.Goals as goal

pub returns : goal.returns
returns c = λ settings i s h t e.
    meets_one settings i s t c.args.self.now _ h c.in_ok-codes.codes (c.in_ok-codes.ensures ∙ ap (map code_of) e)
    c.in_ok-is_new.is_new c.in_ok-is_new.ensures.added c.in_ok-is_new.ensures.updates.0

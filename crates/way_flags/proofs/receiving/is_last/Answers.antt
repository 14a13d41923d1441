use Rattle.std.proofs.Common.{sym}
use Rattle.way_flags.proofs.Pairing.{last_or_other}
use Rattle.way_flags.proofs.receiving.is_last.Goals as goal

pub returns-in-Some : goal.returns-in-Some
returns-in-Some c = last_or_other c.args.new.now c.in-Some.field-0.now c.args.variable.n (sym c.in-Some.ensures.value)

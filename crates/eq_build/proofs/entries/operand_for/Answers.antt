use Rattle.std.proofs.Common.{◌≡◌, ◌∙◌, get_or, rules}
use Rattle.eq_build.proofs.Reading.{read_here}
use Rattle.eq_build.proofs.entries.operand_for.Goals as goal

pub returns-then-eq : goal.returns-then-eq
returns-then-eq c =
    let is : (get_or c.args.entries.now c.loop-entry.entry-index _).value ≡ c.args.value = search rules in
    read_here c.args.entries.now c.loop-entry.entry-index _ c.args.value c.loop-entry-test.true is
    ∙ c.loop-entry.invariant

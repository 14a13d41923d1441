use Rattle.source_meaning.proofs.Numbers.{number_value}
use Rattle.source_meaning.proofs.laws.numbers_are_values.Goals as goal

pub returns : goal.returns
returns k = number_value

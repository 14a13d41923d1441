use Rattle.table_text.proofs.OneTable.{table_one}
use Rattle.table_text.proofs.laws.one_table_of_the_source.Goals as goal

pub returns : goal.returns
returns g c = λ things sys dropped static. table_one things sys dropped static

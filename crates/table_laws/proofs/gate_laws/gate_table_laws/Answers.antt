use Rattle.table_laws.proofs.Agreeing.{agrees}
use Rattle.table_laws.proofs.LeastByTable.{shows_least}
use Rattle.table_laws.proofs.TableOrdered.{ordered}
use Rattle.table_laws.proofs.gate_laws.gate_table_laws.Goals as goal

pub returns-clause-agrees : goal.returns-clause-agrees
returns-clause-agrees c = λ sys dropped kinds kind trees observer wanted table lawful static forest observed steps.
    agrees sys dropped kinds kind trees observer wanted table lawful static.static forest observed steps

pub returns-clause-least : goal.returns-clause-least
returns-clause-least c = λ sys dropped kinds kind trees observer wanted table lawful static forest observed steps.
    shows_least sys dropped static observer wanted table
    (agrees sys dropped kinds kind trees observer wanted table lawful static.static forest observed steps)

pub returns-clause-ordered_table : goal.returns-clause-ordered_table
returns-clause-ordered_table c = λ net trees observer wanted table are t. ordered net trees are observer wanted table t

use Rattle.eq_build.proofs.TableSame.{same_table}
use Rattle.eq_build.proofs.TableExisting.{some_table}
use Rattle.eq_build.proofs.table_steps.one_table.Goals as goal

pub returns-clause-some : goal.returns-clause-some
returns-clause-some c = λ net kinds kind trees observer wanted lawful typed.
    some_table net kinds lawful trees observer kind wanted typed

pub returns-clause-one : goal.returns-clause-one
returns-clause-one c = λ net trees observer wanted one other t u. same_table net trees observer wanted one other t u

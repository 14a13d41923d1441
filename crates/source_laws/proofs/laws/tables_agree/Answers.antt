use Rattle.source_laws.proofs.Items.{table_there}
use Rattle.source_laws.proofs.laws.tables_agree.Goals as goal

pub returns : goal.returns
returns c = λ m n d e s h k. table_there c.agreement_opens.ensures.kind c.declaring_laws.ensures.one_declared m n d e s h k

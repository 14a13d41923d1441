use Rattle.parser_laws.proofs.OpenedForms.{expr_opened}
use Rattle.parser_laws.proofs.OpenedMembers.{instr_opened, member_opened, item_opened, model_opened}
use Rattle.parser_laws.proofs.readings.agreement_opens.Goals as goal

pub returns-clause-form : goal.returns-clause-form
returns-clause-form c = expr_opened

pub returns-clause-step : goal.returns-clause-step
returns-clause-step c = instr_opened

pub returns-clause-kind : goal.returns-clause-kind
returns-clause-kind c = member_opened

pub returns-clause-item : goal.returns-clause-item
returns-clause-item c = item_opened

pub returns-clause-model : goal.returns-clause-model
returns-clause-model c = model_opened

use Rattle.parser_laws.proofs.SameNumbers.{one_number}
use Rattle.parser_laws.proofs.ClosedForms.{expr_closed}
use Rattle.parser_laws.proofs.ClosedMembers.{instr_closed, member_closed, item_closed, model_closed}
use Rattle.parser_laws.proofs.readings.agreement_closes.Goals as goal

pub returns-clause-place : goal.returns-clause-place
returns-clause-place c = λ e f s. (s 1).0

pub returns-clause-span : goal.returns-clause-span
returns-clause-span c = λ e f s. (s 1).1

pub returns-clause-number : goal.returns-clause-number
returns-clause-number c = λ e f n m s. one_number e.form f.form n m (s 1).2

pub returns-clause-closed_form : goal.returns-clause-closed_form
returns-clause-closed_form c = expr_closed

pub returns-clause-closed_step : goal.returns-clause-closed_step
returns-clause-closed_step c = instr_closed

pub returns-clause-closed_kind : goal.returns-clause-closed_kind
returns-clause-closed_kind c = member_closed

pub returns-clause-closed_item : goal.returns-clause-closed_item
returns-clause-closed_item c = item_closed

pub returns-clause-closed_model : goal.returns-clause-closed_model
returns-clause-closed_model c = model_closed

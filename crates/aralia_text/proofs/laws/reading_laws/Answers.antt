use Rattle.aralia_text.proofs.Printed.{printed_text}
use Rattle.aralia_text.proofs.Places.{one_first_wrong}
use Rattle.aralia_text.proofs.laws.reading_laws.Goals as goal

pub returns-clause-printed_is_read : goal.returns-clause-printed_is_read
returns-clause-printed_is_read c = λ events table paths ordered names. printed_text events table paths ordered names

pub returns-clause-first_wrong_is_one : goal.returns-clause-first_wrong_is_one
returns-clause-first_wrong_is_one c = λ events text k m one two. one_first_wrong events text k m one two

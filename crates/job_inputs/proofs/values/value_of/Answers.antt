use Rattle.job_inputs.proofs.Words.{said, unsaid}
use Rattle.job_inputs.proofs.values.value_of.Goals as goal

pub returns-in-Some : goal.returns-in-Some
returns-in-Some c =
    said c.args.symbols.now c.args.word.now c.in-Some.text c.as_str.result.now c.args.kind c.written.result c.in-Some.is
    c.as_str.ensures c.written.ensures

pub returns-in-Truth : goal.returns-in-Truth
returns-in-Truth c = unsaid c.args.symbols.now c.args.word.now c.args.kind c.in-None.is c.in-Truth.is

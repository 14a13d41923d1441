use Rattle.std.proofs.lemmas.Result.{err_from_is_err_and}
use Rattle.job_stages.proofs.PassLemmas.{there_short, script_stops, script_given}
use Rattle.job_stages.proofs.requesting.commands_of.Goals as goal

pub read_script-requires-clause-short : goal.read_script-requires-clause-short
read_script-requires-clause-short c =
    rw c.deref.ensures.value (there_short c.args.script c.in-Some.bytes c.requires.there c.in-Some.is)

pub returns-in_err-commands-in-Some : goal.returns-in_err-commands-in-Some
returns-in_err-commands-in-Some c = λ x of.
    let r = err_from_is_err_and c.from_residual.result c.from_residual.ensures.1 in
    let h = rw c.deref.ensures.value at c.in_err-commands-in-Some.ensures x of in
    script_stops x c.args.model.now.system c.args.script c.in-Some.bytes c.in-Some.is _ _ _ r.1 r.2 h

pub returns : goal.returns
returns c = λ x of.
    let h = rw c.deref.ensures.value at c.in_ok-commands-in-Some.ensures x of in
    script_given x c.args.model.now.system c.args.script c.in-Some.bytes c.in-Some.is
    c.in_ok-commands-in-Some.commands h

pub unreachable-requires : goal.unreachable-requires
unreachable-requires c = let e = c.in-None.is in let f = c.requires.there.is in cc

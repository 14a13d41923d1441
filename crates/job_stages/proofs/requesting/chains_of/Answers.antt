use Rattle.job_stages.proofs.PassLemmas.{there_short}
use Rattle.job_stages.proofs.requesting.chains_of.Goals as goal

pub listed-requires-clause-short : goal.listed-requires-clause-short
listed-requires-clause-short c = there_short c.args.list c.in-Some.bytes c.requires.there c.in-Some.is

pub returns : goal.returns
returns c = λ x of. rw c.in-Some.is (c.listed.ensures x of)

pub unreachable-requires : goal.unreachable-requires
unreachable-requires c = let e = c.in-None.is in let f = c.requires.there.is in cc

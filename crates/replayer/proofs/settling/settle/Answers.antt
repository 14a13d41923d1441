use Rattle.replayer.proofs.settling.settle.Goals as goal

pub returns-in-Err-clause-answers : goal.returns-in-Err-clause-answers
returns-in-Err-clause-answers g c = λ system views. c.unstarted.ensures.answers system views _

use Rattle.run_words.proofs.files.named_files.Goals as goal

pub returns-in-Number-clause-usage : goal.returns-in-Number-clause-usage
returns-in-Number-clause-usage c = λ e model script number names. c.components.ensures.usage e model script number
    (rw c.in-Number.is at names)

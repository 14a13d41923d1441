use Rattle.gate_modules.proofs.Answering.{answer_no, answer_yes, told_no, answer_by, told_none}
use Rattle.gate_modules.proofs.Numbers.{first_alone, second_alone, same_event, some_ends, some_halves, some_upper_half, some_lower_half}
use Rattle.gate_modules.proofs.twins.+agree_some.Goals as goal

pub returns-then-event-other-clause-is : goal.returns-then-event-other-clause-is
returns-then-event-other-clause-is t c =
    answer_no (λ g. c.if-event-other.true
    (same_event c.args.store.now c.below.ensures.sound c.args.asked c.requires.ends c.args.first.n c.args.second.n
    c.requires.first_in c.requires.second_in _ _ _ _ _ _ c.in-Some-Some.ensures.halves c.in-Some-Some.ensures'.halves
    g))

pub returns-then-not-agree-clause-is : goal.returns-then-not-agree-clause-is
returns-then-not-agree-clause-is t c =
    answer_no (λ g. told_no c.agree.result c.agree.ensures.is c.if-not-agree.true
    (some_upper_half c.args.store.now c.below.ensures.sound c.args.asked c.requires.ends c.args.first.n
    c.args.second.n c.requires.first_in c.requires.second_in _ _ _ _ _ _ c.in-Some-Some.ensures.halves
    c.in-Some-Some.ensures'.halves c.if-event-other.false g))

pub returns-else-not-agree-clause-is : goal.returns-else-not-agree-clause-is
returns-else-not-agree-clause-is t c =
    answer_by c.agree_some.result c.agree_some.ensures.is
    (λ g. some_halves c.args.store.now c.below.ensures.sound c.args.asked c.requires.ends c.args.first.n c.args.second.n
    c.requires.first_in c.requires.second_in _ _ _ _ _ _ c.in-Some-Some.ensures.halves
    c.in-Some-Some.ensures'.halves c.if-event-other.false g (c.agree.ensures.is.yes c.if-not-agree.false))
    (λ g. some_lower_half c.args.store.now c.below.ensures.sound c.args.asked c.requires.ends c.args.first.n
    c.args.second.n c.requires.first_in c.requires.second_in _ _ _ _ _ _ c.in-Some-Some.ensures.halves
    c.in-Some-Some.ensures'.halves c.if-event-other.false g)

pub returns-in-None-None-clause-is : goal.returns-in-None-None-clause-is
returns-in-None-None-clause-is t c =
    answer_yes (some_ends c.args.store.now c.below.ensures.sound c.args.asked c.requires.ends c.args.first.n
    c.args.second.n c.requires.first_in c.requires.second_in
    (told_none _ _ c.below.result c.below.ensures.halves c.in-None-None.is-0) c.in-None-None.ensures.halves)

pub returns-in-Some-None-clause-is : goal.returns-in-Some-None-clause-is
returns-in-Some-None-clause-is t c =
    answer_no (λ g. first_alone c.args.store.now c.below.ensures.sound c.args.asked c.requires.ends c.args.first.n
    c.args.second.n c.requires.first_in c.requires.second_in _ _ _ c.in-Some-None.ensures.halves
    (told_none _ _ c.below-2.result c.below-2.ensures.halves c.in-Some-None.is-1) g)

pub returns-in-None-Some-clause-is : goal.returns-in-None-Some-clause-is
returns-in-None-Some-clause-is t c =
    answer_no (λ g. second_alone c.args.store.now c.below.ensures.sound c.args.asked c.requires.ends c.args.first.n
    c.args.second.n c.requires.first_in c.requires.second_in _ _ _
    (told_none _ _ c.below.result c.below.ensures.halves c.in-None-Some.is-0) c.in-None-Some.ensures.halves g)

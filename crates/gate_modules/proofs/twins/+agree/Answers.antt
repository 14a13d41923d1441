use Rattle.gate_modules.proofs.Answering.{answer_no, answer_yes, told_no, told_none}
use Rattle.gate_modules.proofs.Numbers.{ends_are, are_ends, first_alone, second_alone, same_event, both_halves, upper_half, lower_half, some_of}
use Rattle.gate_modules.proofs.Tables.{twins_set}
use Rattle.gate_modules.proofs.twins.+agree.Goals as goal

pub returns-then-event-other-clause-is : goal.returns-then-event-other-clause-is
returns-then-event-other-clause-is t c =
    answer_no (λ g. c.if-event-other.true
    (same_event c.args.store.now c.below.ensures.sound c.args.asked c.requires.ends c.args.first.n c.args.second.n
    c.requires.first_in c.requires.second_in _ _ _ _ _ _ c.in-Some-Some.ensures.halves
    c.in-Some-Some.ensures'.halves
    (some_of c.args.store.now c.below.ensures.sound c.args.asked c.requires.ends c.args.first.n c.args.second.n
    c.requires.first_in c.requires.second_in g)))

pub returns-then-not-agree-clause-is : goal.returns-then-not-agree-clause-is
returns-then-not-agree-clause-is t c =
    answer_no (λ g. told_no c.agree.result c.agree.ensures.is c.if-not-agree.true
    (upper_half c.args.store.now c.below.ensures.sound c.args.asked c.requires.ends c.args.first.n c.args.second.n
    c.requires.first_in c.requires.second_in _ _ _ _ _ _ c.in-Some-Some.ensures.halves
    c.in-Some-Some.ensures'.halves c.if-event-other.false g))

pub returns-then-not-agree-2-clause-is : goal.returns-then-not-agree-2-clause-is
returns-then-not-agree-2-clause-is t c =
    answer_no (λ g. told_no c.agree-in-Some-Some.result c.agree-in-Some-Some.ensures.is c.if-not-agree-2.true
    (lower_half c.args.store.now c.below.ensures.sound c.args.asked c.requires.ends c.args.first.n c.args.second.n
    c.requires.first_in c.requires.second_in _ _ _ _ _ _ c.in-Some-Some.ensures.halves
    c.in-Some-Some.ensures'.halves c.if-event-other.false g))

pub returns-else-not-agree-2-clause-is : goal.returns-else-not-agree-2-clause-is
returns-else-not-agree-2-clause-is t c =
    answer_yes (both_halves c.args.store.now c.below.ensures.sound c.args.asked c.requires.ends c.args.first.n
    c.args.second.n c.requires.first_in c.requires.second_in _ _ _ _ _ _ c.in-Some-Some.ensures.halves
    c.in-Some-Some.ensures'.halves c.if-event-other.false
    (c.agree-in-Some-Some.ensures.is.yes c.if-not-agree-2.false) (c.agree.ensures.is.yes c.if-not-agree.false))

pub returns-else-not-agree-2-clause-known : goal.returns-else-not-agree-2-clause-known
returns-else-not-agree-2-clause-known t c =
    twins_set c.args.store.now c.agree-in-Some-Some.new.twins c.args.first.n _ c.agree-in-Some-Some.ensures.known
    (both_halves c.args.store.now c.below.ensures.sound c.args.asked c.requires.ends c.args.first.n c.args.second.n
    c.requires.first_in c.requires.second_in _ _ _ _ _ _ c.in-Some-Some.ensures.halves
    c.in-Some-Some.ensures'.halves c.if-event-other.false
    (c.agree-in-Some-Some.ensures.is.yes c.if-not-agree-2.false) (c.agree.ensures.is.yes c.if-not-agree.false))

pub returns-in-None-None-clause-is : goal.returns-in-None-None-clause-is
returns-in-None-None-clause-is t c =
    let first = (told_none _ _ c.below.result c.below.ensures.halves c.in-None-None.is-0) in
    record {
      yes = λ e. ends_are c.args.store.now c.below.ensures.sound c.args.asked c.requires.ends c.args.first.n
          c.args.second.n c.requires.first_in c.requires.second_in first c.in-None-None.ensures.halves
          (c.both_end.ensures.0 e);
      only = λ g. c.both_end.ensures.1 (are_ends c.args.store.now c.below.ensures.sound c.args.asked c.requires.ends
          c.args.first.n c.args.second.n c.requires.first_in c.requires.second_in first c.in-None-None.ensures.halves
          g);
    }

pub returns-in-Some-None-clause-is : goal.returns-in-Some-None-clause-is
returns-in-Some-None-clause-is t c =
    answer_no (λ g. first_alone c.args.store.now c.below.ensures.sound c.args.asked c.requires.ends c.args.first.n
    c.args.second.n c.requires.first_in c.requires.second_in _ _ _ c.in-Some-None.ensures.halves
    (told_none _ _ c.below-2.result c.below-2.ensures.halves c.in-Some-None.is-1)
    (some_of c.args.store.now c.below.ensures.sound c.args.asked c.requires.ends c.args.first.n c.args.second.n
    c.requires.first_in c.requires.second_in g))

pub returns-in-None-Some-clause-is : goal.returns-in-None-Some-clause-is
returns-in-None-Some-clause-is t c =
    answer_no (λ g. second_alone c.args.store.now c.below.ensures.sound c.args.asked c.requires.ends c.args.first.n
    c.args.second.n c.requires.first_in c.requires.second_in _ _ _
    (told_none _ _ c.below.result c.below.ensures.halves c.in-None-Some.is-0) c.in-None-Some.ensures.halves
    (some_of c.args.store.now c.below.ensures.sound c.args.asked c.requires.ends c.args.first.n c.args.second.n
    c.requires.first_in c.requires.second_in g))

use Rattle.ar_firing.proofs.RulesHold.{excludes, first_broken_same, all_static, asked_static}
use Rattle.ar_firing.proofs.Unbroken.{unbroken_static}
use Rattle.ar_firing.proofs.Neither.{neither_refuted, neither_asked_refuted}
use Rattle.ar_firing.proofs.statics.static_rules.Goals as goal

pub returns-clause-one_rule : goal.returns-clause-one_rule
returns-clause-one_rule g c = excludes

pub returns-clause-all_rules : goal.returns-clause-all_rules
returns-clause-all_rules g c = λ sys dropped k rule spot b. excludes sys dropped rule spot (k.each rule) b.breaks

pub returns-clause-first : goal.returns-clause-first
returns-clause-first g c = λ sys dropped rule other spot there a b. first_broken_same sys dropped a b

pub returns-clause-rules_make_static : goal.returns-clause-rules_make_static
returns-clause-rules_make_static g c = all_static

pub returns-clause-unbroken_rules_make_static : goal.returns-clause-unbroken_rules_make_static
returns-clause-unbroken_rules_make_static g c = λ told sys dropped none. unbroken_static told sys dropped none

pub returns-clause-not_neither : goal.returns-clause-not_neither
returns-clause-not_neither g c = λ told sys dropped targets none no. neither_refuted told sys dropped targets none no

pub returns-clause-asked_first : goal.returns-clause-asked_first
returns-clause-asked_first g c = λ order sys dropped k rule spot asked b.
    excludes sys dropped rule spot (k.each rule asked) b.breaks

pub returns-clause-asked_make_static : goal.returns-clause-asked_make_static
returns-clause-asked_make_static g c = asked_static

pub returns-clause-all_are_asked : goal.returns-clause-all_are_asked
returns-clause-all_are_asked g c = λ order sys dropped k. record { each = λ rule asked. k.each rule }

pub returns-clause-asked_are_all : goal.returns-clause-asked_are_all
returns-clause-asked_are_all g c = λ sys dropped k. record { each = λ rule. k.each rule tt }

pub returns-clause-not_neither_asked : goal.returns-clause-not_neither_asked
returns-clause-not_neither_asked g c = λ told order sys dropped targets none no.
    neither_asked_refuted told sys dropped targets order none no

use Rattle.std.proofs.Common.{map, Some, None, refl, ap}
use Rattle.class_table.proofs.Taken.{item_stands}
use Rattle.hierarchy.specs.Settings.{target_word_of}
use Rattle.hierarchy.specs.Walks.{Nothing, Loops}
use Rattle.unit_rules.specs.declared.settables.Settable.TheVariants as settable
use Rattle.unit_rules.proofs.Leading.{no_length, told_empty, none_named, parameter_named, state_named, flow_named, inner_named, not_inner, named_words, other_word, found_here, outline_there, never, told_by, told_so}
use Rattle.unit_rules.proofs.targets.+is_target.Goals as goal

pub returns-in_default : goal.returns-in_default
returns-in_default t c = λ m units classes u o a k p. never m u _ _ refl
    (no_length m u c.args.words.now c.in_default.ensures.cases)

pub returns-in_default-word : goal.returns-in_default-word
returns-in_default-word t c = λ m units classes u o a k p.
    never m u _ _ (ap (map target_word_of) c.in-Some.ensures.cases.0)
    (other_word m u c.in-Some.word.now _ c.in_default-word.not-Name)

pub returns-in_default-get : goal.returns-in_default-get
returns-in_default-get t c = λ m units classes u o a k p. absurd
    (outline_there m units classes c.args.outlines.now o c.args.unit.n u p c.in_default-get.ensures.lookup.3)

pub returns-in-None : goal.returns-in-None
returns-in-None t c = λ m units classes u o a k p.
    let words = named_words c.args.words.now c.in-Some.rest.now _ _ c.in-Some.ensures.cases.0 c.in-Name.is in
    let there = item_stands c.args.outlines.now c.args.unit.n c.in-Some-get.outline.now c.in-Some-get.ensures.lookup.3.0
    c.in-Some-get.ensures.lookup.1 in
    let found = found_here m units classes c.args.outlines.now o c.args.unit.n u p c.args.settables.now k _ there
    c.in-Name.name.n None c.in-None.ensures in
    never m u _ _ words (none_named m u c.in-Name.name.n _ found)

pub returns-in-Some-Parameter : goal.returns-in-Some-Parameter
returns-in-Some-Parameter t c = λ m units classes u o a k p.
    let words = named_words c.args.words.now c.in-Some.rest.now _ _ c.in-Some.ensures.cases.0 c.in-Name.is in
    let there = item_stands c.args.outlines.now c.args.unit.n c.in-Some-get.outline.now c.in-Some-get.ensures.lookup.3.0
    c.in-Some-get.ensures.lookup.1 in
    let found = found_here m units classes c.args.outlines.now o c.args.unit.n u p c.args.settables.now k _ there
    c.in-Name.name.n (Some settable.Parameter)
    (rw c.in-Some-Parameter.field-0-is at c.in-Some-Parameter.ensures) in
    told_empty m u _ _ _ c.in-Some.rest.now words (parameter_named m u c.in-Name.name.n _ found) c.is_empty.ensures

pub returns-in-Some-State : goal.returns-in-Some-State
returns-in-Some-State t c = λ m units classes u o a k p.
    let words = named_words c.args.words.now c.in-Some.rest.now _ _ c.in-Some.ensures.cases.0 c.in-Name.is in
    let there = item_stands c.args.outlines.now c.args.unit.n c.in-Some-get.outline.now c.in-Some-get.ensures.lookup.3.0
    c.in-Some-get.ensures.lookup.1 in
    let found = found_here m units classes c.args.outlines.now o c.args.unit.n u p c.args.settables.now k _ there
    c.in-Name.name.n (Some settable.State) (rw c.in-Some-State.field-0-is at c.in-Some-State.ensures) in
    told_so m u _ _ _ _ words (state_named m u c.in-Name.name.n _ found) c.is_init.ensures

pub returns-in-Some-Flow : goal.returns-in-Some-Flow
returns-in-Some-Flow t c = λ m units classes u o a k p.
    let words = named_words c.args.words.now c.in-Some.rest.now _ _ c.in-Some.ensures.cases.0 c.in-Name.is in
    let there = item_stands c.args.outlines.now c.args.unit.n c.in-Some-get.outline.now c.in-Some-get.ensures.lookup.3.0
    c.in-Some-get.ensures.lookup.1 in
    let found = found_here m units classes c.args.outlines.now o c.args.unit.n u p c.args.settables.now k _ there
    c.in-Name.name.n (Some settable.Flow) (rw c.in-Some-Flow.field-0-is at c.in-Some-Flow.ensures) in
    told_so m u _ _ _ _ words (flow_named m u c.in-Name.name.n _ found) c.is_reset.ensures

pub returns-in-Unit : goal.returns-in-Unit
returns-in-Unit t c = λ m units classes u o a k p.
    let words = named_words c.args.words.now c.in-Some.rest.now _ _ c.in-Some.ensures.cases.0 c.in-Name.is in
    let there = item_stands c.args.outlines.now c.args.unit.n c.in-Some-get.outline.now c.in-Some-get.ensures.lookup.3.0
    c.in-Some-get.ensures.lookup.1 in
    let found = found_here m units classes c.args.outlines.now o c.args.unit.n u p c.args.settables.now k _ there
    c.in-Name.name.n (Some settable.Inner) (rw c.in-Some-Inner.field-0-is at c.in-Some-Inner.ensures) in
    let led = c.in-Unit.ensures m units u a p in
    told_by m u led.0 _ _ _ _ words (inner_named m u c.in-Name.name.n _ found led.0 led.2)
    (c.is_target.ensures m units classes led.0 o a k led.1)

pub returns-in-Nothing : goal.returns-in-Nothing
returns-in-Nothing t c = λ m units classes u o a k p.
    let words = named_words c.args.words.now c.in-Some.rest.now _ _ c.in-Some.ensures.cases.0 c.in-Name.is in
    let there = item_stands c.args.outlines.now c.args.unit.n c.in-Some-get.outline.now c.in-Some-get.ensures.lookup.3.0
    c.in-Some-get.ensures.lookup.1 in
    let found = found_here m units classes c.args.outlines.now o c.args.unit.n u p c.args.settables.now k _ there
    c.in-Name.name.n (Some settable.Inner) (rw c.in-Some-Inner.field-0-is at c.in-Some-Inner.ensures) in
    never m u _ _ words (not_inner m u c.in-Name.name.n _ found Nothing (c.in-Nothing.ensures m units u a p)
    (λ v e. cc))

pub returns-in-Loops : goal.returns-in-Loops
returns-in-Loops t c = λ m units classes u o a k p.
    let words = named_words c.args.words.now c.in-Some.rest.now _ _ c.in-Some.ensures.cases.0 c.in-Name.is in
    let there = item_stands c.args.outlines.now c.args.unit.n c.in-Some-get.outline.now c.in-Some-get.ensures.lookup.3.0
    c.in-Some-get.ensures.lookup.1 in
    let found = found_here m units classes c.args.outlines.now o c.args.unit.n u p c.args.settables.now k _ there
    c.in-Name.name.n (Some settable.Inner) (rw c.in-Some-Inner.field-0-is at c.in-Some-Inner.ensures) in
    never m u _ _ words (not_inner m u c.in-Name.name.n _ found Loops (c.in-Loops.ensures m units u a p) (λ v e. cc))

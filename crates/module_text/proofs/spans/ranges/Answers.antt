use Rattle.std.proofs.Common.{◌+◌, ◌≤◌, ◌<◌, ℕ, List, None, length, get_or, drop, sym, ap, ◌∙◌, subst}
use Rattle.std.proofs.lemmas.List.{take_at}
use Rattle.ar_base.specs.Lists.{Stands}
use Rattle.ar_base.proofs.Standing.{stands_get}
use Rattle.hierarchy.specs.declared.tree.MemNode.{MemNode}
use Rattle.hierarchy.specs.declared.tree.UnitNode.{UnitNode}
use Rattle.gate_modules.specs.declared.ranges.Range.{Range}
use Rattle.module_text.specs.Spans.{StandBehindOwners, AreEmptyRanges, AllGain, IsAtOver, IsAtFirst, AllReach}
use Rattle.module_text.proofs.Reaching.{all_reach}
use Rattle.module_text.proofs.Spanning.{gathered_next, all_gathered, spans_are_ranges}
use Rattle.module_text.proofs.UnitSpans.{are_below, known_unit, of_between, some_units, spans_of_units}
use Rattle.module_text.proofs.spans.ranges.Goals as goal

-- a node that is read nowhere
abbrev no_node : MemNode
no_node = record {
  unit = record { n = 0; of = record {} };
  name = record { n = 0; of = record {} };
  source = record { body = record { n = 0; of = record {} }; member = 0; setting = None };
}

pub add_event-requires-clause-owners : goal.add_event-requires-clause-owners
add_event-requires-clause-owners c =
    subst StandBehindOwners (sym c.deref-in-loop-number.ensures.value)
    (are_below c.requires.model c.requires.units c.args.tree.now c.requires.is_tree)

pub add_event-requires-clause-known : goal.add_event-requires-clause-known
add_event-requires-clause-known c =
    let tree = c.args.tree.now in
    let n = c.loop-number.number in
    let d = get_or c.deref-event-items.result.now n no_node in
    let there = stands_get c.deref-event-items.result.now n no_node c.loop-number-test.true in
    let s = subst (λ (ds : List MemNode). Stands ds n d) c.deref-event-items.ensures.value there in
    subst (λ (z : List UnitNode). d.unit.n < length z) (sym c.deref-in-loop-number.ensures.value)
    (known_unit c.requires.model c.requires.units tree c.requires.is_tree n d s)

pub add_event-requires-clause-room : goal.add_event-requires-clause-room
add_event-requires-clause-room c =
    let tree = c.args.tree.now in
    let empty = subst (λ (z : List UnitNode). AreEmptyRanges (length z) c.in_ok-ranges.ranges.items) c.deref.ensures.value
    c.in_ok-ranges.ensures in
    let long = empty.long (some_units c.requires.model c.requires.units tree c.requires.is_tree) in
    ap (λ (z : List Range). length z + 1) c.deref_mut.ensures.value
    ∙ (ap (λ (z : ℕ). z + 1) c.loop-number.invariant.long
    ∙ (long ∙ sym (ap length c.deref-in-loop-number.ensures.value)))

pub add_event-requires-clause-next : goal.add_event-requires-clause-next
add_event-requires-clause-next c =
    let tree = c.args.tree.now in
    let nodes = tree.units.items in
    let events = tree.events.items in
    let n = c.loop-number.number in
    let start = c.in_ok-ranges.ranges.items in
    let old = c.loop-number.ranges.items in
    let d = get_or c.deref-event-items.result.now n no_node in
    let there = stands_get c.deref-event-items.result.now n no_node c.loop-number-test.true in
    let s = subst (λ (ds : List MemNode). Stands ds n d) c.deref-event-items.ensures.value there in
    let empty = subst (λ (z : List UnitNode). AreEmptyRanges (length z) start) c.deref.ensures.value c.in_ok-ranges.ensures in
    subst (λ (z : List UnitNode). AllReach z d.unit.n n c.deref_mut.result.now)
    (sym c.deref-in-loop-number.ensures.value)
    (subst (λ (z : List Range). AllReach nodes d.unit.n n z) (sym c.deref_mut.ensures.value)
    (all_reach nodes events n d start old (of_between c.requires.model c.requires.units tree c.requires.is_tree) empty s
    c.loop-number.invariant))

pub loop-number-preserved : goal.loop-number-preserved
loop-number-preserved c =
    let nodes = c.args.tree.now.units.items in
    let events = c.args.tree.now.events.items in
    let n = c.loop-number.number in
    let start = c.in_ok-ranges.ranges.items in
    let old = c.loop-number.ranges.items in
    let new : List Range = c.add_event.new.ranges in
    let d = get_or c.deref-event-items.result.now n no_node in
    let there = stands_get c.deref-event-items.result.now n no_node c.loop-number-test.true in
    let s = subst (λ (ds : List MemNode). Stands ds n d) c.deref-event-items.ensures.value there in
    let kept = c.deref-in-loop-number.result.now in
    let added = subst (λ (z : List UnitNode). AllGain (IsAtOver z d.unit.n n) old new)
    c.deref-in-loop-number.ensures.value
    (subst (λ (z : List Range). AllGain (IsAtOver kept d.unit.n n) z new) c.deref_mut.ensures.value
    c.add_event.ensures) in
    let written = take_at new (drop (length new) old) c.loop-number.ranges.len
    (c.add_event.auto.ranges ∙ c.deref_mut.ensures.len) in
    subst (λ (z : List Range). AllGain (IsAtFirst nodes events (n + 1)) start z) (sym written)
    (gathered_next nodes events n d start old new s c.loop-number.invariant added)

pub returns-clause-are_ranges : goal.returns-clause-are_ranges
returns-clause-are_ranges c =
    let tree = c.args.tree.now in
    let nodes = tree.units.items in
    let events = tree.events.items in
    let n = c.loop-number.number in
    let start = c.in_ok-ranges.ranges.items in
    let made = c.loop-number.ranges.items in
    let all : length events ≤ n = subst (λ (z : List MemNode). length z ≤ n) c.deref-event-items.ensures.value
    c.loop-number-test.false in
    let empty = subst (λ (z : List UnitNode). AreEmptyRanges (length z) start) c.deref.ensures.value c.in_ok-ranges.ensures in
    spans_are_ranges nodes events (are_below c.requires.model c.requires.units tree c.requires.is_tree) made
    (all_gathered nodes events n start made all empty c.loop-number.invariant)

pub returns-clause-of_units : goal.returns-clause-of_units
returns-clause-of_units c = λ m units is.
    let tree = c.args.tree.now in
    let nodes = tree.units.items in
    let events = tree.events.items in
    let n = c.loop-number.number in
    let start = c.in_ok-ranges.ranges.items in
    let made = c.loop-number.ranges.items in
    let all : length events ≤ n = subst (λ (z : List MemNode). length z ≤ n) c.deref-event-items.ensures.value
    c.loop-number-test.false in
    let empty = subst (λ (z : List UnitNode). AreEmptyRanges (length z) start) c.deref.ensures.value c.in_ok-ranges.ensures in
    spans_of_units m units tree is made (all_gathered nodes events n start made all empty c.loop-number.invariant)

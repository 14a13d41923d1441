use Rattle.std.proofs.Common.{ℕ, List, length, sym, subst, arith, Some, None, Option, option_map}
use Rattle.std.specs.List.Sorted.{IsNonDecreasingBy}
use Rattle.ar_base.proofs.Standing.{stands_within}
use Rattle.ar_base.specs.NumbersInside.{EventId}
use Rattle.hierarchy.specs.Units.{numbers}
use Rattle.hierarchy.specs.Walks.{is_event}
use Rattle.hierarchy.specs.Listing.{events}
use Rattle.hierarchy.specs.Tie.{IsPlainNode, AnswersThing}
use Rattle.hierarchy.specs.Finding.{FindsNode}
use Rattle.hierarchy.specs.declared.tree.MemNode.{MemNode}
use Rattle.hierarchy.proofs.Looking.{nodes_rise, thing_answer, place_fits}
use Rattle.hierarchy.proofs.lookups.event_at.Goals as goal

pub returns-in_err-unit : goal.returns-in_err-unit
returns-in_err-unit c = λ m units u t s.
    subst (λ (a : Option EventId). AnswersThing m (events m units) is_event u c.args.first (numbers c.args.names.now)
    (option_map (λ (v : EventId). v.n) a)) (sym c.from_residual.ensures)
    (c.in_err-unit.ensures m units u t s is_event)

pub place_of_member-requires : goal.place_of_member-requires
place_of_member-requires c =
    let t = c.requires.tree.is_tree in let m = c.requires.tree.model in let units = c.requires.tree.units in
    subst (λ (xs : List MemNode). IsNonDecreasingBy (λ (d : MemNode). d.unit.n) xs) (sym c.deref.ensures.value)
    (nodes_rise t.table.kept t.are_units is_event (λ (d : MemNode). d) (IsPlainNode m units)
    (λ t d i. (i.given, i.node)) c.args.tree.now.events.items t.events_are)

pub returns-in_err-place : goal.returns-in_err-place
returns-in_err-place c = λ m units u t s.
    let f = subst (λ (xs : List MemNode). FindsNode (λ (d : MemNode). d) xs c.in_ok-unit.unit.n c.in_ok-unit.name.n
    None) c.deref.ensures.value c.in_err-place.ensures in
    subst (λ (a : Option EventId). AnswersThing m (events m units) is_event u c.args.first (numbers c.args.names.now)
    (option_map (λ (v : EventId). v.n) a)) (sym c.from_residual-in_err-place.ensures)
    (thing_answer t.table.kept t.are_units is_event (λ (d : MemNode). d) (IsPlainNode m units)
    (λ t d i. (i.given, i.node)) c.args.tree.now.events.items t.events_are (c.in_ok-unit.ensures m units u t s) None
    f)

pub overflow_cast-place : goal.overflow_cast-place
overflow_cast-place c =
    let f = subst (λ (xs : List MemNode). FindsNode (λ (d : MemNode). d) xs c.in_ok-unit.unit.n c.in_ok-unit.name.n
    (Some c.in_ok-place.place)) c.deref.ensures.value c.in_ok-place.ensures in
    let w = stands_within c.args.tree.now.events.items c.in_ok-place.place f.0 f.1 in
    let few = c.requires.tree.is_tree.events_few in
    place_fits c.in_ok-place.place (length c.args.tree.now.events.items) w (omega (arith, few))

pub returns : goal.returns
returns c = λ m units u t s.
    let f = subst (λ (xs : List MemNode). FindsNode (λ (d : MemNode). d) xs c.in_ok-unit.unit.n c.in_ok-unit.name.n
    (Some c.in_ok-place.place)) c.deref.ensures.value c.in_ok-place.ensures in
    subst (λ (n : ℕ). AnswersThing m (events m units) is_event u c.args.first (numbers c.args.names.now) (Some n))
    (sym c.new.ensures) (thing_answer t.table.kept t.are_units is_event (λ (d : MemNode). d) (IsPlainNode m units)
    (λ t d i. (i.given, i.node)) c.args.tree.now.events.items t.events_are (c.in_ok-unit.ensures m units u t s)
    (Some c.in_ok-place.place) f)

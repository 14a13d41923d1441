use Rattle.std.proofs.Common.{ℕ, Some, None, Option, option_map, sym, subst}
use Rattle.ar_base.specs.NumbersInside.{EventId}
use Rattle.hierarchy.specs.Units.{numbers}
use Rattle.hierarchy.specs.Walks.{is_event}
use Rattle.hierarchy.specs.Listing.{events}
use Rattle.hierarchy.specs.Tie.{IsPlainNode, AnswersThing}
use Rattle.hierarchy.specs.Finding.{FindsNode}
use Rattle.hierarchy.specs.declared.tree.MemNode.{MemNode}
use Rattle.hierarchy.proofs.Looking.{thing_answer}
use Rattle.bind_scopes.proofs.index.Index.event_at.Goals as goal

pub returns-in_err-unit : goal.returns-in_err-unit
returns-in_err-unit c = λ m units u t s.
    subst (λ (a : Option EventId). AnswersThing m (events m units) is_event u c.args.first (numbers c.args.names.now)
    (option_map (λ (v : EventId). v.n) a)) (sym c.from_residual.ensures)
    (c.in_err-unit.ensures m units u t s is_event)

pub returns-in_err-place : goal.returns-in_err-place
returns-in_err-place c = λ m units u t s.
    let f : FindsNode (λ (d : MemNode). d) c.args.tree.now.events.items c.in_ok-unit.unit.n c.in_ok-unit.name.n None =
    subst (λ (r : Option ℕ). FindsNode (λ (d : MemNode). d) c.args.tree.now.events.items c.in_ok-unit.unit.n
    c.in_ok-unit.name.n r) (sym c.in_err-place.ensures)
    (c.requires.index.events c.in_ok-unit.unit.n c.in_ok-unit.name.n) in
    subst (λ (a : Option EventId). AnswersThing m (events m units) is_event u c.args.first (numbers c.args.names.now)
    (option_map (λ (v : EventId). v.n) a)) (sym c.from_residual-in_err-place.ensures)
    (thing_answer t.table.kept t.are_units is_event (λ (d : MemNode). d) (IsPlainNode m units)
    (λ t d i. (i.given, i.node)) c.args.tree.now.events.items t.events_are (c.in_ok-unit.ensures m units u t s) None
    f)

pub returns : goal.returns
returns c = λ m units u t s.
    let f : FindsNode (λ (d : MemNode). d) c.args.tree.now.events.items c.in_ok-unit.unit.n c.in_ok-unit.name.n
    (Some c.in_ok-place.place) = subst
    (λ (r : Option ℕ). FindsNode (λ (d : MemNode). d) c.args.tree.now.events.items c.in_ok-unit.unit.n
    c.in_ok-unit.name.n r) (sym c.in_ok-place.ensures)
    (c.requires.index.events c.in_ok-unit.unit.n c.in_ok-unit.name.n) in
    subst (λ (n : ℕ). AnswersThing m (events m units) is_event u c.args.first (numbers c.args.names.now) (Some n))
    (sym c.new.ensures)
    (thing_answer t.table.kept t.are_units is_event (λ (d : MemNode). d) (IsPlainNode m units)
    (λ t d i. (i.given, i.node)) c.args.tree.now.events.items t.events_are (c.in_ok-unit.ensures m units u t s)
    (Some c.in_ok-place.place) f)

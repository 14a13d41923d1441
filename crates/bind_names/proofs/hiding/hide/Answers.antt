use Rattle.hierarchy.specs.Units.{numbers}
use Rattle.hierarchy.specs.Walks.{Finds, is_event}
use Rattle.hierarchy.specs.Listing.{events}
use Rattle.source_meaning.proofs.Different.{things_different}
use Rattle.bind_names.proofs.Marked.{marks_one, marks_none, one_thing}
use Rattle.bind_names.proofs.hiding.hide.Goals as goal

pub returns-in-Some : goal.returns-in-Some
returns-in-Some c = λ m units u is at.
    let a = rw c.deref.ensures.value at (c.in-Some.ensures m units u is at) in
    marks_one (events m units) (things_different m is_event units is.table.kept is.are_units)
    (Finds m is_event u c.args.path.now) c.args.marks.now.items c.mark.new.marks.items c.in-Some.event.n a.0 a.1 a.2
    (λ s q. one_thing is_event (numbers c.args.path.now.names.items) s a.0 q a.2) c.mark.ensures

pub returns-in-None : goal.returns-in-None
returns-in-None c = λ m units u is at.
    marks_none (events m units) (Finds m is_event u c.args.path.now) c.args.marks.now.items
    (rw c.deref.ensures.value at (c.in-None.ensures m units u is at))

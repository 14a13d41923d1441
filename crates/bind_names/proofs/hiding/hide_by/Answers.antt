use Rattle.std.proofs.Common.{[], ◌∷◌}
use Rattle.ar_syntax.specs.declared.members.Member.{out-Member}
use Rattle.ar_syntax.specs.declared.members.Member.TheOpen as member
use Rattle.hierarchy.specs.Walks.{Finds, is_event}
use Rattle.hierarchy.specs.Listing.{events}
use Rattle.bind_names.specs.Hiding.{HidesIn}
use Rattle.bind_names.proofs.Marked.{marks_same, hides_to, hides_from}
use Rattle.bind_names.proofs.hiding.hide_by.Goals as goal

pub returns-in-Hide : goal.returns-in-Hide
unfolding out-Member denote.Hole.Carrier.out
returns-in-Hide c = λ m units u is at. rw c.in-Hide.is (
    marks_same (events m units) (Finds m is_event u c.in-Hide.path) (HidesIn m u (member.Hide c.in-Hide.path ∷ []))
    c.args.marks.now.items c.hide.new.marks.items
    (λ t h. hides_to m u t c.in-Hide.path h) (λ t h. hides_from m u t c.in-Hide.path h)
    (c.hide.ensures m units u is at))

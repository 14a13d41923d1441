use Rattle.std.proofs.Common.{◌<◌, ℕ, List, length, subst, sym}
use Rattle.flow_changes.specs.Gathering.{ArePlacesTo}
use Rattle.flow_changes.proofs.Given.{givers_within, has_places}
use Rattle.flow_changes.proofs.closing.queue_of.Goals as goal

pub places_to-requires : goal.places_to-requires
places_to-requires c = λ r o.
    subst (λ (z : List ℕ). r.1.n < length z) (sym c.deref.ensures.value)
    (givers_within c.requires.0 c.args.plan.now c.requires.1 r o)

pub returns-clause-places : goal.returns-clause-places
returns-clause-places c = λ p is.
    has_places p c.args.plan.now is c.args.members.now c.in_ok-list.list.items
    (subst (λ (z : List ℕ). ArePlacesTo c.args.plan.now.givers.pairs.items z c.args.members.now c.in_ok-list.list.items)
    c.deref.ensures.value c.in_ok-list.ensures.are)

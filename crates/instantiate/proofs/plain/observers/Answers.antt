use Rattle.std.specs.List.{flat_map}
use Rattle.ar_base.proofs.Results.{ok_map}
use Rattle.hierarchy.specs.Walks.{is_observer}
use Rattle.hierarchy.specs.Listing.{things_in}
use Rattle.instantiate.proofs.Noded.{plain_nodes}
use Rattle.instantiate.proofs.plain.observers.Goals as goal

pub returns : goal.returns
returns c = λ m units h.
    let known = rw c.deref.ensures.value at c.in_ok-places.ensures in
    ok_map c.nodes.result (λ v a. plain_nodes m units is_observer (flat_map (things_in is_observer m) units) v.items a)
    (c.nodes.ensures m units h known)

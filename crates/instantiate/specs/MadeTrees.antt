-- The tree that is made of a model.
use Rattle.hierarchy.specs.Listing.{Unfolded}
use Rattle.hierarchy.specs.Tie.{IsTreeOf}
use Rattle.hierarchy.specs.declared.tree.Tree.{Tree}

-- the tree is that of the model with these units
abbrev pub IsTreeFor : Unfolded → Tree → Type 0
IsTreeFor t tree = IsTreeOf t.model t.units tree

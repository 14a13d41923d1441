-- An edge more, and the mode that it enters.
use Rattle.std.specs.Prelude.{◌≡◌, ◌++◌, Bool, true, false, List, [], ◌∷◌}
use Rattle.ar_base.specs.Lists.{IsOneOf}
use Rattle.domains.specs.declared.Value.{Value}
use Rattle.mode_trees.specs.declared.forests.Edge.{Edge}

-- an edge more, and the mode that it enters where it was not there; whether it was there
abbrev pub AddsEdge : Edge → List Value → List Edge → Bool → List Value → List Edge → Type 0
AddsEdge edge modes edges true all every = IsOneOf modes edge.to × (all ≡ modes) × (every ≡ edges ++ edge ∷ [])
AddsEdge edge modes edges false all every = (IsOneOf modes edge.to → ⊥) × (all ≡ modes ++ edge.to ∷ [])
    × (every ≡ edges ++ edge ∷ [])

-- Families behind events that were taken before.
use Rattle.std.proofs.Common.{◌≡◌, ℕ, List, [], ◌∷◌, ◌++◌, map, append_assoc, refl, sym, ap, ap₂, ◌∙◌}
use Rattle.std.proofs.lemmas.List.{map-append}
use Rattle.zdd_nodes.specs.Families.{Family}
use Rattle.zdd_nodes.specs.FamiliesInside.{node}
use Rattle.zdd_nodes.specs.Behind.{behind_events}

-- the sets of a node behind p: those of its upper half behind p and the event, then those of its lower half behind p
pub behind_node : (p : List ℕ) (v : ℕ) (L H : Family) → behind_events p (node v L H) ≡ behind_events (p ++ v ∷ []) H ++ behind_events p L
behind_node p v L H = map-append (λ t. p ++ t) (map (λ t. v ∷ t) H) L ∙ ap (λ z. z ++ behind_events p L) (each H)
  where
    each : (H : Family) → behind_events p (map (λ t. v ∷ t) H) ≡ behind_events (p ++ v ∷ []) H
    each [] = refl
    each (t ∷ H) = ap₂ (λ a b. a ∷ b) (sym (append_assoc p (v ∷ []) t)) (each H)

-- behind nothing each set is itself
pub behind_none : (f : Family) → behind_events [] f ≡ f
behind_none [] = refl
behind_none (t ∷ f) = ap (λ z. t ∷ z) (behind_none f)

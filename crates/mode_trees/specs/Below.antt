-- The edges below a mode.
use Rattle.std.specs.Prelude.{◌≡◌, ◌<◌, ◌≤◌, ◌+◌, ◌++◌, ℕ, List, [], ◌∷◌}
use Rattle.ar_base.specs.Lists.{IsOneOf}
use Rattle.domains.specs.declared.Value.{Value}
use Rattle.mode_trees.specs.declared.forests.Edge.{Edge}

-- the edges of the list below this mode by events from number `low` on, in the order of their events, each before
-- those below the mode that it enters
pub data AreEdgesBelow (edges : List Edge) : Value → ℕ → List Edge → Type 0 where
  no_more : {m : Value} {low : ℕ} → ((e : Edge) → IsOneOf edges e → e.from ≡ m → low ≤ e.event.n → ⊥)
      → AreEdgesBelow edges m low []
  next : {m : Value} {low : ℕ} {es fs : List Edge} (e : Edge) → IsOneOf edges e → e.from ≡ m → low ≤ e.event.n
      → ((f : Edge) → IsOneOf edges f → f.from ≡ m → low ≤ f.event.n → f.event.n < e.event.n → ⊥)
      → AreEdgesBelow edges e.to 0 es → AreEdgesBelow edges m (e.event.n + 1) fs → AreEdgesBelow edges m low (e ∷ (es ++ fs))

-- What the walks over a diagram find: what follows the events below a bound.
use Rattle.std.specs.Prelude.{◌≡◌, ◌≢◌, ◌⊎◌, ℕ, List, []}
use Rattle.zdd_nodes.specs.Families.{Family}
use Rattle.zdd_nodes.specs.Sections.{section}

-- below the bound both families have these events: the first goes on as X, and the second as Y; or both lack them
abbrev pub Alike : ℕ → Family → Family → Family → Family → List ℕ → Type 0
Alike b f g X Y taken = ((section b taken f ≡ []) × (section b taken g ≡ []))
    ⊎ ((section b taken f ≡ X) × (section b taken g ≡ Y))

-- both families have the same sets of events below the bound, and after each of them the first goes on as X and the
-- second as Y
pub record Agree (b : ℕ) (f g X Y : Family) : Type 0 where
  pub each : (taken : List ℕ) → Alike b f g X Y taken

-- the same but for the empty set
pub record AgreeSome (b : ℕ) (f g X Y : Family) : Type 0 where
  pub each : (taken : List ℕ) → taken ≢ [] → Alike b f g X Y taken

-- h is a section of f at this number, or empty
pub data IsSectionAt (i : ℕ) (f h : Family) : Type 0 where
  empty : h ≡ [] → IsSectionAt i f h
  taken : (p : List ℕ) → h ≡ section i p f → IsSectionAt i f h

-- Which breach of a list of rules is the one that is answered.
use Rattle.std.specs.Prelude.{◌≡◌, ℕ, ◌<◌, ◌⊎◌, List}
use Rattle.ar_base.specs.Lists.{IsOneOf}
use Rattle.ar_base.specs.declared.places.Place.{Place}

-- place p comes before place q in the text
abbrev pub IsEarlier : Place → Place → Type 0
IsEarlier p q = (p.line < q.line) ⊎ ((p.line ≡ q.line) × (p.column < q.column))

-- rule r is one of these rules and broken at place p, no lesser of them is broken anywhere, and r at no earlier place
pub record IsBroken (rules : List ℕ) (breaks : ℕ → Place → Type 0) (r : ℕ) (p : Place) : Type 0 where
  pub is_one : IsOneOf rules r
  pub breaks_there : breaks r p
  pub no_lesser : (s : ℕ) (q : Place) → IsOneOf rules s → s < r → breaks s q → ⊥
  pub no_earlier : (q : Place) → IsEarlier q p → breaks r q → ⊥

-- none of these rules is broken anywhere
pub record AreKept (rules : List ℕ) (breaks : ℕ → Place → Type 0) : Type 0 where
  pub kept : (r : ℕ) (p : Place) → IsOneOf rules r → breaks r p → ⊥

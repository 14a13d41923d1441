-- Sets of a family with one more event.
use Rattle.std.specs.Prelude.{◌≡◌, ℕ, true, cond, eqb, nat_lt, List, [], ◌∷◌, length}
use Rattle.zdd_nodes.specs.Families.{Family, has}
use Rattle.zdd_nodes.specs.Nodes.{Stored, Grows}

-- families were added, whichever they are, and nothing else changed
abbrev pub Extends : Stored → Stored → Type 0
Extends old new = Grows (λ h. Unit {0}) old new

-- the store has its limit of nodes
abbrev pub IsAtLimit : Stored → Type 0
IsAtLimit s = length s.families ≡ s.limit

-- the ascending set with the event put in its place
abbrev pub put_in : ℕ → List ℕ → List ℕ
put_in e [] = e ∷ []
put_in e (x ∷ s) = cond (eqb e x) (x ∷ s) (cond (nat_lt e x) (e ∷ x ∷ s) (x ∷ put_in e s))

-- g has the sets of f, each with the event put in its place, and no other
pub record HasWith (e : ℕ) (f g : Family) : Type 0 where
  pub sound : (t : List ℕ) → has g t ≡ true → (s : List ℕ) × (has f s ≡ true) × (t ≡ put_in e s)
  pub whole : (s : List ℕ) → has f s ≡ true → has g (put_in e s) ≡ true

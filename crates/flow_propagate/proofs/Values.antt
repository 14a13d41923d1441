-- What holds of each of the values so far.
use Rattle.std.proofs.Common.{inl, inr, ℕ, ◌+◌, ◌<◌, ◌≤◌, List, take, length, get_or, Contains, subst, sym, take_all}
use Rattle.std.proofs.lemmas.List.{take_more}
use Rattle.std.proofs.lemmas.List.Elements.{Contains-push_cases}
use Rattle.domains.specs.declared.Value.{Value}

pub each_more : (P : Value → Type 0) (vs : List Value) (i : ℕ) (d : Value) → i < length vs
    → ((v : Value) → Contains (take i vs) v → P v) → P (get_or vs i d) → (v : Value) → Contains (take (i + 1) vs) v
    → P v
each_more P vs i d h all p v c = elim
    (Contains-push_cases (take i vs) (get_or vs i d) v
    (subst (λ (z : List Value). Contains z v) (take_more vs i d h) c)) [
      | inl a ↦ all v a
      | inr e ↦ subst P e p
    ]

pub each_all : (P : Value → Type 0) (vs : List Value) (i : ℕ) → length vs ≤ i
    → ((v : Value) → Contains (take i vs) v → P v) → (v : Value) → Contains vs v → P v
each_all P vs i h all v c = all v (subst (λ (z : List Value). Contains z v) (sym (take_all i vs h)) c)

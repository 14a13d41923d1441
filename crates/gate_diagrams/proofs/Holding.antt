-- States that are held: what a new one changes.
use Rattle.std.proofs.Common.{◌≡◌, ◌⊎◌, inl, inr, ℕ, Bool, true, false, cond, ◌&&◌, eqb, List, [], ◌∷◌, Option, Some, None, Result, Ok, Err, OnOk, OnErr, refl, sym, ap, ap₂, ◌∙◌, true≢false, eqb-true}
use Rattle.std.specs.Cmp.Lexicographic.{pointwise}
use Rattle.std.specs.Map.{lookup}
use Rattle.std.specs.Option.{option_eq}
use Rattle.std.proofs.lemmas.Bool.{and_parts}
use Rattle.zdd_nodes.specs.Nodes.{NodeId}
use Rattle.gate_diagrams.specs.declared.walked.State.{State}
use Rattle.gate_diagrams.specs.Walked.{same_state, IsHeld}

abbrev numbered : ℕ → NodeId
numbered n = record { n = n; of = record {} }

one_number : (a b : NodeId) → (eqb a.n b.n && true) ≡ true → a ≡ b
one_number a b h = ap numbered (eqb-true a.n b.n (and_parts (eqb a.n b.n) true h).0)

pub one_state : (xs ys : List NodeId) → pointwise (λ (a b : NodeId). eqb a.n b.n && true) xs ys ≡ true → xs ≡ ys
one_state [] [] h = refl
one_state [] (y ∷ ys) h = absurd (true≢false (sym h))
one_state (x ∷ xs) [] h = absurd (true≢false (sym h))
one_state (x ∷ xs) (y ∷ ys) h =
    let p = and_parts (eqb x.n y.n && true) (pointwise (λ (a b : NodeId). eqb a.n b.n && true) xs ys) h in
    ap₂ (λ (z : NodeId) (zs : List NodeId). z ∷ zs) (one_number x y p.0) (one_state xs ys p.1)

one_order : (a b : Option ℕ) → option_eq eqb a b ≡ true → a ≡ b
one_order None None h = refl
one_order None (Some m) h = absurd (true≢false (sym h))
one_order (Some k) None h = absurd (true≢false (sym h))
one_order (Some k) (Some m) h = ap (λ n. Some n) (eqb-true k m h)

-- each state that is held was held before, or is the new one
abbrev pub Remembers : State → NodeId → List (State × NodeId) → List (State × NodeId) → Type 0
Remembers k n old new = (q : State) (m : NodeId) → IsHeld new q m
    → IsHeld old q m ⊎ ((q.left.items ≡ k.left.items) × (q.order ≡ k.order) × (m ≡ n))

remembered : (k : State) (n : NodeId) (old new : List (State × NodeId))
    → ((q : State) → lookup (same_state q) new ≡ cond (same_state k q) (Some n) (lookup (same_state q) old))
    → Remembers k n old new
remembered k n old new u q m h = step (same_state k q) refl
  where
    step : (b : Bool) → same_state k q ≡ b
        → IsHeld old q m ⊎ ((q.left.items ≡ k.left.items) × (q.order ≡ k.order) × (m ≡ n))
    step true e =
        let x : Some m ≡ Some n = sym h ∙ u q ∙ ap (λ b. cond b (Some n) (lookup (same_state q) old)) e in
        let p = and_parts (pointwise (λ (a b : NodeId). eqb a.n b.n && true) k.left.items q.left.items)
        (option_eq eqb k.order q.order) e in
        inr (sym (one_state k.left.items q.left.items p.0), sym (one_order k.order q.order p.1), cc)
    step false e = inl (ap (λ b. cond b (Some n) (lookup (same_state q) old)) (sym e) ∙ sym (u q) ∙ h)

pub remembers : {T E : Type 0} (U : Type 0) (r : Result T E) (k : State) (n : NodeId)
    (old new : List (State × NodeId)) → OnOk r U → OnErr r (new ≡ old)
    → (U → (q : State) → lookup (same_state q) new ≡ cond (same_state k q) (Some n) (lookup (same_state q) old))
    → Remembers k n old new
remembers U (Ok x) k n old new u e f = λ q m h. remembered k n old new (f u) q m h
remembers U (Err x) k n old new u e f = λ q m h. inl (ap (lookup (same_state q)) (sym e) ∙ h)

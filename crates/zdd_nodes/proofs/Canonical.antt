-- A family other than the empty one and that of the empty set is a node in one way only.
use Rattle.std.proofs.Common.{◌≡◌, ◌≢◌, ℕ, [], ◌∷◌, refl, sym, ap, ◌∙◌, subst, lt_irrefl}
use Rattle.zdd_nodes.specs.Families.{Family}
use Rattle.zdd_nodes.specs.FamiliesInside.{node, IsAbove}

-- the two halves of a node are those of no other
split_same : (v : ℕ) (hi ki lo ko : Family) → IsAbove v lo → IsAbove v ko → node v lo hi ≡ node v ko ki
    → (hi ≡ ki) × (lo ≡ ko)
split_same v [] [] lo ko a b e = (refl, e)
split_same v [] (t ∷ ki) lo ko a b e = absurd (lt_irrefl v (subst (IsAbove v) e a).0.0)
split_same v (s ∷ hi) [] lo ko a b e = absurd (lt_irrefl v (subst (IsAbove v) (sym e) b).0.0)
split_same v (s ∷ hi) (t ∷ ki) lo ko a b e =
    let rest : node v lo hi ≡ node v ko ki = cc in
    let r = split_same v hi ki lo ko a b rest in
    let h : hi ≡ ki = r.0 in
    let first : s ≡ t = cc in
    let both : s ∷ hi ≡ t ∷ ki = cc in
    (both, r.1)

pub node_same : (v w : ℕ) (hi ki lo ko : Family) → hi ≢ [] → ki ≢ [] → IsAbove v lo → IsAbove w ko
    → node v lo hi ≡ node w ko ki → (v ≡ w) × (hi ≡ ki) × (lo ≡ ko)
node_same v w [] ki lo ko p q a b e = absurd (p refl)
node_same v w (s ∷ hi) [] lo ko p q a b e = absurd (q refl)
node_same v w (s ∷ hi) (t ∷ ki) lo ko p q a b e =
    let vw : v ≡ w = cc in
    let b2 : IsAbove v ko = subst (λ x. IsAbove x ko) (sym vw) b in
    let r = split_same v (s ∷ hi) (t ∷ ki) lo ko a b2 (e ∙ ap (λ x. node x ko (t ∷ ki)) (sym vw)) in
    (vw, r.0, r.1)

pub node_some : (v : ℕ) (lo hi : Family) → hi ≢ [] → node v lo hi ≢ []
node_some v lo [] p = λ _. p refl
node_some v lo (s ∷ hi) p = λ e. cc

pub node_not_unit : (v : ℕ) (lo hi : Family) → hi ≢ [] → node v lo hi ≢ [] ∷ []
node_not_unit v lo [] p = λ _. p refl
node_not_unit v lo (s ∷ hi) p = λ e. cc

-- Families with the events of a path put into each set.
use Rattle.std.proofs.Common.{◌≡◌, ◌⊎◌, ⊎_elim, inl, inr, ℕ, suc, Bool, true, false, cond, eqb, nat_lt, List, [], ◌∷◌, refl, sym, ap, ◌∙◌, subst, arith, eqb-true}
use Rattle.ar_base.specs.Lists.{Stands, IsOneOf}
use Rattle.ar_base.proofs.Standing.{stands_one, one_none, one_cases, one_first, one_rest}
use Rattle.zdd_nodes.specs.Families.{Family}
use Rattle.diagram_steps.specs.declared.trees.NumberedEdge.{NumberedEdge}
use Rattle.diagram_steps.specs.Putting.{put_in, HasWith}
use Rattle.mode_diagrams.specs.Trees.{IsOnPath, last, earlier}
use Rattle.mode_diagrams.specs.Sets.{IsWithPath, HasPathEvents}

-- ---- the members of a set with an event
pub put_members : (e : ℕ) (s : List ℕ) (x : ℕ) → IsOneOf (put_in e s) x → (x ≡ e) ⊎ IsOneOf s x
put_members e [] x one = ⊎_elim (λ q. inl (sym q)) (λ n. absurd (one_none x n)) (one_cases e [] x one)
put_members e (y ∷ s) x one = step (put_members e s x) (eqb e y) refl (nat_lt e y) refl
  where
    step : (IsOneOf (put_in e s) x → (x ≡ e) ⊎ IsOneOf s x) → (b : Bool) → eqb e y ≡ b → (c : Bool) → nat_lt e y ≡ c
        → (x ≡ e) ⊎ IsOneOf (y ∷ s) x
    step ih true p c q =
        inr (subst (λ b. IsOneOf (cond b (y ∷ s) (cond (nat_lt e y) (e ∷ y ∷ s) (y ∷ put_in e s))) x) p one)
    step ih false p true q =
        let w = subst (λ c. IsOneOf (cond c (e ∷ y ∷ s) (y ∷ put_in e s)) x) q
        (subst (λ b. IsOneOf (cond b (y ∷ s) (cond (nat_lt e y) (e ∷ y ∷ s) (y ∷ put_in e s))) x) p one) in
        ⊎_elim (λ r. inl (sym r)) (λ n. inr n) (one_cases e (y ∷ s) x w)
    step ih false p false q =
        let w = subst (λ c. IsOneOf (cond c (e ∷ y ∷ s) (y ∷ put_in e s)) x) q
        (subst (λ b. IsOneOf (cond b (y ∷ s) (cond (nat_lt e y) (e ∷ y ∷ s) (y ∷ put_in e s))) x) p one) in
        ⊎_elim
        (λ r. inr (subst (λ z. IsOneOf (y ∷ s) z) r (one_first y s)))
        (λ n. ⊎_elim (λ r. inl r) (λ o. inr (one_rest y s x o)) (ih n))
        (one_cases y (put_in e s) x w)

pub put_event : (e : ℕ) (s : List ℕ) → IsOneOf (put_in e s) e
put_event e [] = one_first e []
put_event e (y ∷ s) = step (put_event e s) (eqb e y) refl (nat_lt e y) refl
  where
    step : IsOneOf (put_in e s) e → (b : Bool) → eqb e y ≡ b → (c : Bool) → nat_lt e y ≡ c
        → IsOneOf (put_in e (y ∷ s)) e
    step ih true p c q =
        subst (λ b. IsOneOf (cond b (y ∷ s) (cond (nat_lt e y) (e ∷ y ∷ s) (y ∷ put_in e s))) e) (sym p)
        (subst (λ z. IsOneOf (y ∷ s) z) (sym (eqb-true e y p)) (one_first y s))
    step ih false p true q =
        subst (λ b. IsOneOf (cond b (y ∷ s) (cond (nat_lt e y) (e ∷ y ∷ s) (y ∷ put_in e s))) e) (sym p)
        (subst (λ c. IsOneOf (cond c (e ∷ y ∷ s) (y ∷ put_in e s)) e) (sym q) (one_first e (y ∷ s)))
    step ih false p false q =
        subst (λ b. IsOneOf (cond b (y ∷ s) (cond (nat_lt e y) (e ∷ y ∷ s) (y ∷ put_in e s))) e) (sym p)
        (subst (λ c. IsOneOf (cond c (e ∷ y ∷ s) (y ∷ put_in e s)) e) (sym q) (one_rest y (put_in e s) e ih))

pub put_kept : (e : ℕ) (s : List ℕ) (x : ℕ) → IsOneOf s x → IsOneOf (put_in e s) x
put_kept e [] x one = absurd (one_none x one)
put_kept e (y ∷ s) x one = step (put_kept e s x) (eqb e y) refl (nat_lt e y) refl
  where
    step : (IsOneOf s x → IsOneOf (put_in e s) x) → (b : Bool) → eqb e y ≡ b → (c : Bool) → nat_lt e y ≡ c
        → IsOneOf (put_in e (y ∷ s)) x
    step ih true p c q =
        subst (λ b. IsOneOf (cond b (y ∷ s) (cond (nat_lt e y) (e ∷ y ∷ s) (y ∷ put_in e s))) x) (sym p) one
    step ih false p true q =
        subst (λ b. IsOneOf (cond b (y ∷ s) (cond (nat_lt e y) (e ∷ y ∷ s) (y ∷ put_in e s))) x) (sym p)
        (subst (λ c. IsOneOf (cond c (e ∷ y ∷ s) (y ∷ put_in e s)) x) (sym q) (one_rest e (y ∷ s) x one))
    step ih false p false q =
        subst (λ b. IsOneOf (cond b (y ∷ s) (cond (nat_lt e y) (e ∷ y ∷ s) (y ∷ put_in e s))) x) (sym p)
        (subst (λ c. IsOneOf (cond c (e ∷ y ∷ s) (y ∷ put_in e s)) x) (sym q)
        (⊎_elim
        (λ r. subst (λ z. IsOneOf (y ∷ put_in e s) z) r (one_first y (put_in e s)))
        (λ n. one_rest y (put_in e s) x (ih n))
        (one_cases y s x one)))

-- ---- the path to mode 0, and to a mode that an edge enters
no_path : (edges : List NumberedEdge) (e m : ℕ) → m ≡ 0 → IsOnPath edges e m → ⊥
no_path edges e m z (last n st is) = let wrong : ⊥ = omega (arith, z, n) in wrong
no_path edges e m z (earlier n st p) = let wrong : ⊥ = omega (arith, z, n) in wrong

pub path_none : (edges : List NumberedEdge) (m : ℕ) (f : Family) → m ≡ 0 → HasPathEvents edges m f f
path_none edges m f z = record {
  sound = λ t h. (t, h, here t);
  whole = λ s h. (s, h, here s);
}
  where
    here : (s : List ℕ) → IsWithPath edges m s s
    here s = record { each = λ e. (λ o. inr o, λ c. ⊎_elim (λ p. absurd (no_path edges e m z p)) (λ o. o) c) }

module _ (edges : List NumberedEdge) (k m : ℕ) (edge : NumberedEdge) (q : m ≡ suc k) (st : Stands edges k edge) where
  only : (j : ℕ) (other : NumberedEdge) → m ≡ suc j → Stands edges j other → other ≡ edge
  only j other r so =
      let same : j ≡ k = omega (arith, q, r) in
      stands_one edges k other edge (subst (λ i. Stands edges i other) same so) st

  path_cases : (e : ℕ) → IsOnPath edges e m → (e ≡ edge.event.n) ⊎ IsOnPath edges e edge.from
  path_cases e (last {m = j} {edge = other} r so is) =
      inl (sym (ap (λ (x : NumberedEdge). x.event.n) (sym (only j other r so)) ∙ is))
  path_cases e (earlier {m = j} {edge = other} r so p) =
      inr (subst (λ (x : NumberedEdge). IsOnPath edges e x.from) (only j other r so) p)

  more : (s u : List ℕ) → IsWithPath edges edge.from s u → IsWithPath edges m s (put_in edge.event.n u)
  more s u w = record {
    each = λ e. (
      λ o. ⊎_elim
          (λ here. inl (last q st (sym here)))
          (λ up. ⊎_elim (λ p. inl (earlier q st p)) (λ x. inr x) ((w.each e).0 up))
          (put_members edge.event.n u e o),
      λ c. ⊎_elim
          (λ p. ⊎_elim
          (λ here. subst (λ z. IsOneOf (put_in edge.event.n u) z) (sym here) (put_event edge.event.n u))
          (λ up. put_kept edge.event.n u e ((w.each e).1 (inl up)))
          (path_cases e p))
          (λ x. put_kept edge.event.n u e ((w.each e).1 (inr x)))
          c,
    );
  }

  pub path_more : (f h g : Family) → HasPathEvents edges edge.from f h → HasWith edge.event.n h g → HasPathEvents edges m f g
  path_more f h g p w = record {
    sound = λ t b.
        let x = w.sound t b in
        let y = p.sound x.0 x.1 in
        (y.0, y.1, subst (IsWithPath edges m y.0) (sym x.2) (more y.0 x.0 y.2));
    whole = λ s b.
        let y = p.whole s b in
        (put_in edge.event.n y.0, w.whole y.0 y.1, more s y.0 y.2);
  }

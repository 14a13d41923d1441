-- The places of edges by their events.
use Rattle.std.proofs.Common.{◌≡◌, ◌⊎◌, ⊎_elim, inl, inr, ℕ, ◌+◌, ◌<◌, ◌≤◌, Bool, true, false, cond, ◌&&◌, eqb, List, [], ◌∷◌, ◌++◌, length, Some, refl, sym, ap, ◌∙◌, subst, arith, eqb-true}
use Rattle.std.specs.HashMap.{HashMap, Updates}
use Rattle.std.proofs.lemmas.Bool.{and_parts, cases_eq}
use Rattle.ar_base.specs.Lists.{Stands, IsOneOf}
use Rattle.ar_base.specs.NumbersInside.{EventId}
use Rattle.ar_base.proofs.Standing.{stands_one, stands_left, stands_next, one_none, one_cases, one_split}
use Rattle.zdd_nodes.proofs.Laws.{eqb-refl}
use Rattle.diagram_steps.specs.declared.trees.NumberedEdge.{NumberedEdge}
use Rattle.diagram_steps.specs.declared.trees.NumberedTree.{NumberedTree}
use Rattle.diagram_steps.specs.Trees.{edges_of}
use Rattle.mode_diagrams.specs.Lacking.{same_event}
use Rattle.coherent_cuts.specs.declared.paths.EdgePlace.{EdgePlace}
use Rattle.coherent_cuts.specs.Places.{place_of, IsPut, Enters, ArePlaced, Puts}

-- ---- one place after the other
pub puts_none : {S : Type 0} (tree : ℕ) (m : HashMap EventId EdgePlace S) → Puts [] tree m m
puts_none tree m = record {
  sound = λ e p h. inl h;
  kept = λ e p. p;
  put = λ e edge o is. absurd (one_none edge o);
}

enters_more : (xs : List NumberedEdge) (x : NumberedEdge) (e m : ℕ) → Enters xs e m → Enters (xs ++ x ∷ []) e m
enters_more xs x e m n = record {
  place = n.place;
  edge = n.edge;
  stands = stands_left xs (x ∷ []) n.place n.edge n.stands;
  event = n.event;
  mode = n.mode;
}

module _ {S : Type 0} (xs : List NumberedEdge) (x : NumberedEdge) (tree : ℕ) (here : EdgePlace)
    (here_tree : here.tree ≡ tree) (here_mode : here.mode ≡ length xs + 1) (old mid new : HashMap EventId EdgePlace S)
    (u : Updates same_event mid new x.event (Some here)) (b : Puts xs tree old mid) where
  found : (e : EventId) (p : EdgePlace) → place_of new e ≡ Some p → (t : Bool) → same_event x.event e ≡ t
      → (place_of old e ≡ Some p) ⊎ ((p.tree ≡ tree) × Enters (xs ++ x ∷ []) e.n p.mode)
  found e p h true t =
      let s : Some p ≡ Some here = sym h ∙ u.0 e ∙ ap (λ c. cond c (Some here) (place_of mid e)) t in
      let same : p ≡ here = cc in
      let y = eqb-true x.event.n e.n (and_parts (eqb x.event.n e.n) true t).0 in
      inr (
        ap (λ (q : EdgePlace). q.tree) same ∙ here_tree,
        record {
          place = length xs;
          edge = x;
          stands = stands_next xs x [];
          event = y;
          mode = ap (λ (q : EdgePlace). q.mode) same ∙ here_mode;
        },
      )
  found e p h false t =
      let s : place_of mid e ≡ Some p = sym (u.0 e ∙ ap (λ c. cond c (Some here) (place_of mid e)) t) ∙ h in
      ⊎_elim (λ o. inl o) (λ w. inr (w.0, enters_more xs x e.n p.mode w.1)) (b.sound e p s)

  still : (e : EventId) → IsPut mid e → (t : Bool) → same_event x.event e ≡ t → IsPut new e
  still e p true t = (here, u.0 e ∙ ap (λ c. cond c (Some here) (place_of mid e)) t)
  still e p false t = (p.0, u.0 e ∙ ap (λ c. cond c (Some here) (place_of mid e)) t ∙ p.1)

  pub puts_more : Puts (xs ++ x ∷ []) tree old new
  puts_more = record {
    sound = λ e p h. found e p h (same_event x.event e) refl;
    kept = λ e p. still e (b.kept e p) (same_event x.event e) refl;
    put = λ e edge o is. ⊎_elim
        (λ l. still e (b.put e edge l is) (same_event x.event e) refl)
        (λ r. ⊎_elim
        (λ (q : x ≡ edge).
        let n : x.event.n ≡ e.n = ap (λ (y : NumberedEdge). y.event.n) q ∙ is in
        let t : same_event x.event e ≡ true = ap (λ m. eqb m e.n && true) n ∙ ap (λ c. c && true) (eqb-refl e.n) in
        (here, u.0 e ∙ ap (λ c. cond c (Some here) (place_of mid e)) t))
        (λ z. absurd (one_none edge z))
        (one_cases x [] edge r))
        (one_split xs (x ∷ []) edge o);
  }

-- ---- tree after tree
pub placed_none : {S : Type 0} (trees : List NumberedTree) (m : HashMap EventId EdgePlace S) → m.entries ≡ []
    → ArePlaced trees 0 m
placed_none trees m n = record {
  sound = λ e p h. absurd (nothing e p h);
  whole = λ k tree e lt st h. let w : ⊥ = omega (arith, lt) in absurd w;
}
  where
    nothing : (e : EventId) (p : EdgePlace) → place_of m e ≡ Some p → ⊥
    nothing e p h = let g = rw n at h in cc

pub placed_more : {S : Type 0} (trees : List NumberedTree) (k : ℕ) (tree : NumberedTree) (edges : List NumberedEdge)
    (old new : HashMap EventId EdgePlace S) → Stands trees k tree → edges ≡ edges_of tree → Puts edges k old new
    → ArePlaced trees k old → ArePlaced trees (k + 1) new
placed_more trees k tree edges old new st is u a = record {
  sound = λ e p h. ⊎_elim
      (λ o. a.sound e p o)
      (λ w. (tree, subst (λ n. Stands trees n tree) (sym w.0) st, subst (λ es. Enters es e.n p.mode) is w.1))
      (u.sound e p h);
  whole = λ j t e lt sj he. ⊎_elim
      (λ (q : j ≡ k).
      let same : t ≡ tree = stands_one trees k t tree (subst (λ n. Stands trees n t) q sj) st in
      u.put e he.edge (subst (λ es. IsOneOf es he.edge) (ap (λ (y : NumberedTree). edges_of y) same ∙ sym is) he.one) he.is)
      (λ n. u.kept e (a.whole j t e (let l : j < k = grind (arith, lt, n) in l) sj he))
      (cases_eq j k);
}

pub placed_all : {S : Type 0} (trees : List NumberedTree) (k : ℕ) (m : HashMap EventId EdgePlace S) → length trees ≤ k
    → ArePlaced trees k m → ArePlaced trees (length trees) m
placed_all trees k m h a = record {
  sound = a.sound;
  whole = λ j t e lt st he. a.whole j t e (omega (arith, lt, h)) st he;
}

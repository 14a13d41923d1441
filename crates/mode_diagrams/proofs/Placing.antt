-- The places of trees by their events, and operands whose events have a tree.
use Rattle.std.proofs.Common.{◌≡◌, ◌⊎◌, ⊎_elim, inl, inr, ℕ, ◌+◌, ◌<◌, ◌≤◌, Bool, true, false, cond, ◌&&◌, eqb, List, [], ◌∷◌, ◌++◌, length, Some, refl, sym, ap, ◌∙◌, subst, arith, eqb-true}
use Rattle.std.specs.HashMap.{HashMap, Updates}
use Rattle.std.proofs.lemmas.Bool.{and_parts, cases_eq}
use Rattle.ar_base.specs.Lists.{Stands, IsOneOf}
use Rattle.ar_base.specs.NumbersInside.{EventId}
use Rattle.ar_base.proofs.Standing.{stands_one, stands_within, one_none, one_cases, one_split, one_left, one_right, one_first}
use Rattle.eq_core.specs.Gates.{Operand, EventIs, Gate}
use Rattle.zdd_nodes.proofs.Laws.{eqb-refl}
use Rattle.diagram_steps.specs.declared.trees.NumberedEdge.{NumberedEdge}
use Rattle.diagram_steps.specs.declared.trees.NumberedTree.{NumberedTree}
use Rattle.diagram_steps.specs.Trees.{edges_of}
use Rattle.mode_diagrams.specs.Lacking.{same_event, tree_place_of, IsTreePut, HavePlacedEvents, PutsTree, HasNoTree, Lacks, LacksOne, LacksSome, own, named}

-- ---- one place after the other
pub puts_none : {S : Type 0} (place : ℕ) (m : HashMap EventId ℕ S) → PutsTree [] place m m
puts_none place m = record {
  sound = λ e p h. inl h;
  kept = λ e p. p;
  put = λ e edge o is. absurd (one_none edge o);
}

module _ {S : Type 0} (xs : List NumberedEdge) (x : NumberedEdge) (place : ℕ) (old mid new : HashMap EventId ℕ S)
    (u : Updates same_event mid new x.event (Some place)) (b : PutsTree xs place old mid) where
  found : (e : EventId) (p : ℕ) → tree_place_of new e ≡ Some p → (t : Bool) → same_event x.event e ≡ t
      → (tree_place_of old e ≡ Some p)
      ⊎ ((p ≡ place) × (edge : NumberedEdge) × IsOneOf (xs ++ x ∷ []) edge × (edge.event.n ≡ e.n))
  found e p h true t =
      let s : Some p ≡ Some place = sym h ∙ u.0 e ∙ ap (λ c. cond c (Some place) (tree_place_of mid e)) t in
      let y = eqb-true x.event.n e.n (and_parts (eqb x.event.n e.n) true t).0 in
      inr (cc, x, one_right xs (x ∷ []) x (one_first x []), y)
  found e p h false t =
      let s : tree_place_of mid e ≡ Some p = sym (u.0 e ∙ ap (λ c. cond c (Some place) (tree_place_of mid e)) t) ∙ h in
      ⊎_elim (λ o. inl o) (λ w. inr (w.0, w.1, one_left xs (x ∷ []) w.1 w.2, w.3)) (b.sound e p s)

  still : (e : EventId) → IsTreePut mid e → (t : Bool) → same_event x.event e ≡ t → IsTreePut new e
  still e p true t = (place, u.0 e ∙ ap (λ c. cond c (Some place) (tree_place_of mid e)) t)
  still e p false t = (p.0, u.0 e ∙ ap (λ c. cond c (Some place) (tree_place_of mid e)) t ∙ p.1)

  pub puts_more : PutsTree (xs ++ x ∷ []) place old new
  puts_more = record {
    sound = λ e p h. found e p h (same_event x.event e) refl;
    kept = λ e p. still e (b.kept e p) (same_event x.event e) refl;
    put = λ e edge o is. ⊎_elim
        (λ l. still e (b.put e edge l is) (same_event x.event e) refl)
        (λ r. ⊎_elim
        (λ (q : x ≡ edge).
        let n : x.event.n ≡ e.n = ap (λ (y : NumberedEdge). y.event.n) q ∙ is in
        let t : same_event x.event e ≡ true = ap (λ m. eqb m e.n && true) n ∙ ap (λ c. c && true) (eqb-refl e.n) in
        (place, u.0 e ∙ ap (λ c. cond c (Some place) (tree_place_of mid e)) t))
        (λ z. absurd (one_none edge z))
        (one_cases x [] edge r))
        (one_split xs (x ∷ []) edge o);
  }

-- ---- tree after tree
pub placed_none : {S : Type 0} (trees : List NumberedTree) (m : HashMap EventId ℕ S) → m.entries ≡ []
    → HavePlacedEvents trees 0 m
placed_none trees m n = record {
  sound = λ e p h. absurd (nothing e p h);
  whole = λ k tree e lt st h. let w : ⊥ = omega (arith, lt) in absurd w;
}
  where
    nothing : (e : EventId) (p : ℕ) → tree_place_of m e ≡ Some p → ⊥
    nothing e p h = let g = rw n at h in cc

pub placed_more : {S : Type 0} (trees : List NumberedTree) (k : ℕ) (tree : NumberedTree) (edges : List NumberedEdge)
    (old new : HashMap EventId ℕ S) → Stands trees k tree → edges ≡ edges_of tree → PutsTree edges k old new
    → HavePlacedEvents trees k old → HavePlacedEvents trees (k + 1) new
placed_more trees k tree edges old new st is u a = record {
  sound = λ e p h. ⊎_elim
      (λ o. a.sound e p o)
      (λ w. (
        tree,
        subst (λ n. Stands trees n tree) (sym w.0) st,
        record { edge = w.1; one = subst (λ es. IsOneOf es w.1) is w.2; is = w.3 },
      ))
      (u.sound e p h);
  whole = λ j t e lt sj he. ⊎_elim
      (λ (q : j ≡ k).
      let same : t ≡ tree = stands_one trees k t tree (subst (λ n. Stands trees n t) q sj) st in
      u.put e he.edge (subst (λ es. IsOneOf es he.edge) (ap (λ (y : NumberedTree). edges_of y) same ∙ sym is) he.one) he.is)
      (λ n. u.kept e (a.whole j t e (let l : j < k = grind (arith, lt, n) in l) sj he))
      (cases_eq j k);
}

pub placed_all : {S : Type 0} (trees : List NumberedTree) (k : ℕ) (m : HashMap EventId ℕ S) → length trees ≤ k
    → HavePlacedEvents trees k m → HavePlacedEvents trees (length trees) m
placed_all trees k m h a = record {
  sound = a.sound;
  whole = λ j t e lt st he. a.whole j t e (omega (arith, lt, h)) st he;
}

-- ---- operands
pub lacks_event : (trees : List NumberedTree) (o : Operand) (e : ℕ) (s : Bool) → o ≡ EventIs e s
    → (HasNoTree trees e → ⊥) → Lacks trees o → ⊥
lacks_event trees o e s is n l =
    let both : EventIs l.event l.sign ≡ EventIs e s = sym l.is ∙ is in
    let same : l.event ≡ e = cc in
    n (subst (HasNoTree trees) same l.none)

-- ---- gate after gate: no operand of the first k gates that are marked is an event without a tree
abbrev pub GatesKnown : List NumberedTree → List Gate → List Bool → ℕ → Type 0
GatesKnown trees gates marks k = (g : ℕ) (gate : Gate) → g < k → Stands marks g true → Stands gates g gate
    → LacksOne trees gate.operands → ⊥

pub gates_none : (trees : List NumberedTree) (gates : List Gate) (marks : List Bool) → GatesKnown trees gates marks 0
gates_none trees gates marks g gate lt m st l = omega (arith, lt)

pub gates_more : (trees : List NumberedTree) (gates : List Gate) (marks : List Bool) (k : ℕ) (gate : Gate)
    → Stands gates k gate → (Stands marks k true → LacksOne trees gate.operands → ⊥) → GatesKnown trees gates marks k
    → GatesKnown trees gates marks (k + 1)
gates_more trees gates marks k gate st here before g other lt m so l = ⊎_elim
    (λ (q : g ≡ k).
    let same = stands_one gates k other gate (subst (λ n. Stands gates n other) q so) st in
    here (subst (λ n. Stands marks n true) q m) (subst (λ (y : Gate). LacksOne trees y.operands) same l))
    (λ n. before g other (let x : g < k = grind (arith, lt, n) in x) m so l)
    (cases_eq g k)

pub some_lacks : (trees : List NumberedTree) (gates : List Gate) (root : Operand) (marks : List Bool) (k : ℕ)
    → length gates ≤ k → (Lacks trees root → ⊥) → GatesKnown trees gates marks k → LacksSome trees gates root marks → ⊥
some_lacks trees gates root marks k h r known (own l) = r l
some_lacks trees gates root marks k h r known (named g gate m st l) =
    let w = stands_within gates g gate st in known g gate (omega (arith, w, h)) m st l

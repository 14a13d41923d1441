-- The laws of agreement.
use Rattle.std.proofs.Common.{◌≡◌, ⊎_elim, inl, inr, ℕ, zero, suc, ◌+◌, ◌<◌, Bool, true, false, not, ◌||◌, nat_eq, List, [], ◌∷◌, ◌++◌, get_or, length, length-append, map, refl, sym, ap, ◌∙◌, subst, arith, eqb-true, eq-eqb}
use Rattle.std.proofs.lemmas.Option.{get_or_from_slice_get}
use Rattle.ar_base.specs.Lists.{Stands, IsOneOf}
use Rattle.ar_base.proofs.Standing.{stands_one, stands_map, stands_split, stands_none, one_none, one_cases, one_first, one_rest}
use Rattle.eq_core.specs.Gates.{Operand, Always, Never, EventIs, GateIs, Gate}
use Rattle.eq_core.specs.Values.{has_event}
use Rattle.eq_core.specs.Ordered.{AreBelow}
use Rattle.eq_core.proofs.Telling.{gate_value}
use Rattle.mode_nodes.specs.Diagrams.{DiagramId, StoredDiagrams, mode_of, value, choice, child, IsDiagramNumber, AreChildren, GainsNodes}
use Rattle.mode_nodes.specs.Bounds.{Bounded, GrowsWithin}
use Rattle.mode_nodes.proofs.Allowed.{allowed_before}
use Rattle.mode_nodes.proofs.Growing.{kept, still, from_small}
use Rattle.mode_nodes.proofs.Values.{value-false, value-true, small_value}
use Rattle.diagram_steps.specs.declared.trees.NumberedEdge.{NumberedEdge}
use Rattle.diagram_steps.specs.declared.trees.NumberedTree.{NumberedTree}
use Rattle.diagram_steps.specs.Trees.{edges_of, TreeHasEvent}
use Rattle.diagram_steps.specs.Joints.{IsSigned, AreTabled}
use Rattle.mode_diagrams.specs.Trees.{IsOnPath, last, earlier, IsNumberedTree, AreApart, IsSetFrom}
use Rattle.mode_diagrams.specs.Agreement.{HasOperandValues, AgreesJoint, IsOperandReady, IsPathTold, AreToldModes, IsToldAt}

-- ---- as the store grows
pub agrees_kept : (trees : List NumberedTree) (gates : List Gate) (o : Operand) (s t : Bounded) (n : ℕ) → GrowsWithin s t
    → HasOperandValues trees gates o s n → HasOperandValues trees gates o t n
agrees_kept trees gates o s t n g a = record {
  number = still s.store t.store n g.store a.number;
  same = λ modes set is h. kept s.store t.store modes n g.store a.number
      ∙ a.same modes set is (allowed_before s t modes g h);
}

pub ready_kept : (trees : List NumberedTree) (gates : List Gate) (table : List DiagramId) (s t : Bounded) (o : Operand)
    → GrowsWithin s t → IsOperandReady trees gates table s o → IsOperandReady trees gates table t o
ready_kept trees gates table s t o g r =
    record { gate = λ h sign n e st. agrees_kept trees gates (GateIs h true) s t n.n g (r.gate h sign n e st) }

pub tabled_kept : (table : List DiagramId) (s t : StoredDiagrams) → GainsNodes s t → AreTabled table s → AreTabled table t
tabled_kept table s t g a = record { each = λ k n st. still s t n.n g (a.each k n st) }

-- ---- constants
pub agrees_always : (trees : List NumberedTree) (gates : List Gate) (s : Bounded) (n : ℕ) → n ≡ 1
    → HasOperandValues trees gates Always s n
agrees_always trees gates s n e = record {
  number = omega (arith, e);
  same = λ modes set is h. ap (value s.store modes) e ∙ value-true s.store.nodes modes;
}

pub agrees_never : (trees : List NumberedTree) (gates : List Gate) (s : Bounded) (n : ℕ) → n ≡ 0
    → HasOperandValues trees gates Never s n
agrees_never trees gates s n e = record {
  number = omega (arith, e);
  same = λ modes set is h. ap (value s.store modes) e ∙ value-false s.store.nodes modes;
}

-- ---- signs
pub agrees_event : (trees : List NumberedTree) (gates : List Gate) (e : ℕ) (sign : Bool) (s t : Bounded) (n r : ℕ)
    → GrowsWithin s t → HasOperandValues trees gates (EventIs e true) s n → IsSigned s n sign t.store r
    → HasOperandValues trees gates (EventIs e sign) t r
agrees_event trees gates e true s t n r g a i = record {
  number = i.number;
  same = λ modes set is h. let k = allowed_before s t modes g h in i.same modes k ∙ a.same modes set is k;
}
agrees_event trees gates e false s t n r g a i = record {
  number = i.number;
  same = λ modes set is h. let k = allowed_before s t modes g h in i.same modes k ∙ ap not (a.same modes set is k);
}

pub agrees_gate : (trees : List NumberedTree) (gates : List Gate) (g : ℕ) (sign : Bool) (s t : Bounded) (n r : ℕ)
    → GrowsWithin s t → HasOperandValues trees gates (GateIs g true) s n → IsSigned s n sign t.store r
    → HasOperandValues trees gates (GateIs g sign) t r
agrees_gate trees gates g true s t n r grows a i = record {
  number = i.number;
  same = λ modes set is h. let k = allowed_before s t modes grows h in i.same modes k ∙ a.same modes set is k;
}
agrees_gate trees gates g false s t n r grows a i = record {
  number = i.number;
  same = λ modes set is h. let k = allowed_before s t modes grows h in i.same modes k ∙ ap not (a.same modes set is k);
}

-- ---- joints
pub gate_agrees : (trees : List NumberedTree) (gates : List Gate) (g : ℕ) (gate : Gate) (s : Bounded) (n : ℕ)
    → Stands gates g gate → AreBelow g gate.operands → AgreesJoint trees gates gate.both gate.operands s n
    → HasOperandValues trees gates (GateIs g true) s n
gate_agrees trees gates g gate s n st below a = record {
  number = a.number;
  same = λ modes set is h. a.same modes set is h ∙ sym (gate_value set gates g gate st below);
}

-- ---- events
has_true : (set : List ℕ) (e : ℕ) → IsOneOf set e → has_event set e ≡ true
has_true [] e one = absurd (one_none e one)
has_true (x ∷ xs) e one = ⊎_elim
    (λ p. ap (λ b. b || has_event xs e) (eq-eqb x e p))
    (λ o. or_true (nat_eq x e) (has_event xs e) (has_true xs e o))
    (one_cases x xs e one)
  where
    or_true : (a b : Bool) → b ≡ true → (a || b) ≡ true
    or_true true b h = refl
    or_true false b h = h

one_of : (set : List ℕ) (e : ℕ) → has_event set e ≡ true → IsOneOf set e
one_of [] e h = let wrong : ⊥ = cc in absurd wrong
one_of (x ∷ xs) e h = by (λ k. one_of xs e k) (nat_eq x e) refl
  where
    by : (has_event xs e ≡ true → IsOneOf xs e) → (b : Bool) → nat_eq x e ≡ b → IsOneOf (x ∷ xs) e
    by f true p = let same : x ≡ e = eqb-true x e p in subst (λ y. IsOneOf (x ∷ xs) y) same (one_first x xs)
    by f false p = one_rest x xs e (f (sym (ap (λ b. b || has_event xs e) p) ∙ h))

-- an event on a path has an edge
pub path_event : (tree : NumberedTree) (e m : ℕ) → IsOnPath (edges_of tree) e m → TreeHasEvent tree e
path_event tree e m (last {m = k} {edge = edge} n st is) =
    record { edge = edge; one = record { place = k; stands = st }; is = is }
path_event tree e m (earlier {edge = edge} n st p) = path_event tree e edge.from p

-- the children of the modes tell the event
pub told_agrees : (trees : List NumberedTree) (gates : List Gate) (k e : ℕ) (tree : NumberedTree)
    → Stands trees k tree → AreApart trees → TreeHasEvent tree e → (ns : List DiagramId) → AreToldModes tree e ns
    → (s : Bounded) (n : ℕ) → IsDiagramNumber s.store n
    → ((modes : List ℕ) (m : DiagramId) → Stands ns (mode_of modes k) m → value s.store modes n ≡ nat_eq m.n 1)
    → HasOperandValues trees gates (EventIs e true) s n
told_agrees trees gates k e tree stands apart has ns told s n number tells =
    record { number = number; same = λ modes set is h. agree modes set is }
  where
    agree : (modes set : List ℕ) → IsSetFrom trees 0 modes set → value s.store modes n ≡ has_event set e
    agree modes set is =
        let m = mode_of modes k in
        let low : m < length ns = omega (arith, told.long, is.within k tree (omega arith) stands) in
        let here = item ns m low in
        tells modes here.0 here.1 ∙ by m refl here.0 (told.each m here.0 here.1) (has_event set e) refl
      where
        item : (ns : List DiagramId) (m : ℕ) → m < length ns → (n : DiagramId) × Stands ns m n
        item [] m h = absurd (omega (arith, h))
        item (x ∷ ns) zero h = (x, refl)
        item (x ∷ ns) (suc m) h = item ns m (omega (arith, h))

        on_path : IsOneOf set e → IsOnPath (edges_of tree) e (mode_of modes k)
        on_path one =
            let w = is.sound e one in
            let same : w.0 ≡ k = apart.one w.0 k w.1 tree e w.3 stands (path_event w.1 e (mode_of modes w.0) w.4) has in
            let tree_is : w.1 ≡ tree = stands_one trees k w.1 tree (subst (λ j. Stands trees j w.1) same w.3) stands in
            subst (λ (t : NumberedTree). IsOnPath (edges_of t) e (mode_of modes k)) tree_is
            (subst (λ j. IsOnPath (edges_of w.1) e (mode_of modes j)) same w.4)

        by : (m : ℕ) → m ≡ mode_of modes k → (n : DiagramId) → IsPathTold (edges_of tree) e m n → (b : Bool)
            → has_event set e ≡ b → nat_eq n.n 1 ≡ has_event set e
        by m q n t true h = ⊎_elim
            (λ y. ap (λ x. nat_eq x 1) y.0 ∙ sym h)
            (λ z. absurd (z.1 (subst (IsOnPath (edges_of tree) e) (sym q) (on_path (one_of set e h)))))
            t
        by m q n t false h = ⊎_elim
            (λ y. let yes = has_true set e (is.whole k tree e (omega arith) stands
            (subst (IsOnPath (edges_of tree) e) q y.1)) in
            let wrong : ⊥ = cc in absurd wrong)
            (λ z. ap (λ x. nat_eq x 1) z.0 ∙ sym h)
            t

-- ---- the numbers that tell an event
no_path : (edges : List NumberedEdge) (e m : ℕ) → m ≡ 0 → IsOnPath edges e m → ⊥
no_path edges e m z (last n st is) = let wrong : ⊥ = omega (arith, z, n) in wrong
no_path edges e m z (earlier n st p) = let wrong : ⊥ = omega (arith, z, n) in wrong

-- so far: the modes that the first i edges enter
pub record IsSoFar (tree : NumberedTree) (e i : ℕ) (ns : List DiagramId) : Type 0 where
  pub long : length ns ≡ suc i
  pub each : (m : ℕ) (n : DiagramId) → Stands ns m n → IsPathTold (edges_of tree) e m n

pub so_far_first : (tree : NumberedTree) (e : ℕ) (n : DiagramId) → n.n ≡ 0 → IsSoFar tree e 0 (n ∷ [])
so_far_first tree e n z = record { long = omega arith; each = λ m x st. first m x st }
  where
    first : (m : ℕ) (x : DiagramId) → Stands (n ∷ []) m x → IsPathTold (edges_of tree) e m x
    first zero x st =
        let same : n ≡ x = cc in
        inr (ap (λ (y : DiagramId). y.n) (sym same) ∙ z, no_path (edges_of tree) e 0 refl)
    first (suc m) x st = absurd (stands_none m x st)

-- the mode that an edge enters
next_told : (tree : NumberedTree) (e i : ℕ) (ns : List DiagramId) (edge : NumberedEdge) (n : DiagramId)
    → IsNumberedTree tree → Stands (edges_of tree) i edge → IsSoFar tree e i ns → IsToldAt ns edge e n
    → IsPathTold (edges_of tree) e (suc i) n
next_told tree e i ns edge n numbered st f t = by (nat_eq edge.event.n e) refl
  where
    only : (m : ℕ) (other : NumberedEdge) → suc i ≡ suc m → Stands (edges_of tree) m other → other ≡ edge
    only m other q so =
        let same : m ≡ i = omega (arith, q) in
        stands_one (edges_of tree) i other edge (subst (λ k. Stands (edges_of tree) k other) same so) st

    back : (edge.event.n ≡ e → ⊥) → (IsOnPath (edges_of tree) e edge.from → ⊥) → IsOnPath (edges_of tree) e (suc i) → ⊥
    back not_here none (last {m = m} {edge = other} q so is) =
        not_here (ap (λ (x : NumberedEdge). x.event.n) (sym (only m other q so)) ∙ is)
    back not_here none (earlier {m = m} {edge = other} q so p) =
        none (subst (λ (x : NumberedEdge). IsOnPath (edges_of tree) e x.from) (only m other q so) p)

    by : (b : Bool) → nat_eq edge.event.n e ≡ b → IsPathTold (edges_of tree) e (suc i) n
    by true h = let here = eqb-true edge.event.n e h in inl (t.here here, last refl st here)
    by false h =
        let not_here : edge.event.n ≡ e → ⊥ = λ x. let yes = eq-eqb edge.event.n e x in let wrong : ⊥ = cc in wrong in
        ⊎_elim
        (λ y. inl (y.0, earlier refl st y.1))
        (λ z. inr (z.0, back not_here z.1))
        (f.each edge.from n (t.above not_here))

pub so_far_more : (tree : NumberedTree) (e i : ℕ) (ns : List DiagramId) (edge : NumberedEdge) (n : DiagramId)
    → IsNumberedTree tree → Stands (edges_of tree) i edge → IsSoFar tree e i ns → IsToldAt ns edge e n
    → IsSoFar tree e (i + 1) (ns ++ n ∷ [])
so_far_more tree e i ns edge n numbered st f t = record {
  long = omega (arith, f.long, length-append ns (n ∷ []));
  each = λ m x so. ⊎_elim (λ p. f.each m x p) (λ r. at m x r.0 r.1 r.2) (stands_split ns (n ∷ []) m x so);
}
  where
    at : (m : ℕ) (x : DiagramId) (k : ℕ) → m ≡ length ns + k → Stands (n ∷ []) k x → IsPathTold (edges_of tree) e m x
    at m x zero q so =
        let same : n ≡ x = cc in
        let here : suc i ≡ m = omega (arith, q, f.long) in
        subst (λ k. IsPathTold (edges_of tree) e k x) here
        (subst (λ y. IsPathTold (edges_of tree) e (suc i) y) same (next_told tree e i ns edge n numbered st f t))
    at m x (suc k) q so = absurd (stands_none k x so)

pub so_far_all : (tree : NumberedTree) (e i : ℕ) (ns : List DiagramId) → i ≡ length (edges_of tree) → IsSoFar tree e i ns
    → AreToldModes tree e ns
so_far_all tree e i ns q f = record { long = f.long ∙ ap suc q; each = f.each }

-- ---- the numbers as children of a choice
told_small : (tree : NumberedTree) (e : ℕ) (ns : List DiagramId) → AreToldModes tree e ns → (m : ℕ) (n : DiagramId)
    → Stands ns m n → n.n < 2
told_small tree e ns t m n st =
    ⊎_elim (λ y. omega (arith, y.0)) (λ z. omega (arith, z.0)) (t.each m n st)

pub told_children : (tree : NumberedTree) (e : ℕ) (ns : List DiagramId) → AreToldModes tree e ns → (s : StoredDiagrams) (k : ℕ)
    → AreChildren s k ns
told_children tree e ns t s k = record {
  numbers = λ m n st. omega (arith, told_small tree e ns t m n st);
  from = λ m n st. from_small s.nodes (k + 1) n.n (told_small tree e ns t m n st);
}

pub choice_tells : (tree : NumberedTree) (e : ℕ) (ns : List DiagramId) → AreToldModes tree e ns → (s : StoredDiagrams) (k : ℕ)
    → (modes : List ℕ) (n : DiagramId) → Stands ns (mode_of modes k) n → choice s k ns modes ≡ nat_eq n.n 1
choice_tells tree e ns t s k modes n st =
    let j = mode_of modes k in
    let numbers = map (λ (c : DiagramId). c.n) ns in
    let is : child ns j ≡ n.n =
    get_or_from_slice_get numbers j n.n (get_or numbers 0 0) (stands_map (λ (c : DiagramId). c.n) ns j n st) in
    ap (value s modes) is ∙ sym (small_value s.nodes modes n.n (told_small tree e ns t j n st))

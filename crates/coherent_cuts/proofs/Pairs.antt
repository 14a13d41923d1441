-- The pairs of events that are on no one path, one after the other.
use Rattle.std.proofs.Common.{◌≡◌, ◌<◌, ◌≤◌, ◌+◌, ◌⊎◌, inl, inr, ⊎_elim, ◌↔◌, ℕ, suc, Bool, true, false, ◌&&◌, ◌||◌, List, [], ◌∷◌, length, refl, sym, ap, ◌∙◌, subst, arith, true≢false}
use Rattle.std.proofs.lemmas.Bool.{and_parts, and_from, or_cases, cases_eq}
use Rattle.ar_base.specs.Lists.{Stands, IsOneOf}
use Rattle.ar_base.proofs.Standing.{stands_one, stands_within, one_first, only_item}
use Rattle.ar_base.proofs.Truths.{alike}
use Rattle.zdd_nodes.specs.Families.{Family, has, same, holds}
use Rattle.zdd_nodes.specs.FamiliesInside.{union}
use Rattle.zdd_nodes.proofs.Laws.{same-true, same-refl}
use Rattle.zdd_nodes.proofs.Members.{has-union, holds_law, within_law}
use Rattle.diagram_steps.specs.declared.trees.NumberedEdge.{NumberedEdge}
use Rattle.diagram_steps.specs.declared.trees.NumberedTree.{NumberedTree}
use Rattle.diagram_steps.specs.Trees.{edges_of}
use Rattle.zdd_nodes.specs.Nodes.{Stored, family, IsFamilyNumber}
use Rattle.diagram_steps.specs.Putting.{put_in, HasWith, Extends}
use Rattle.mode_diagrams.specs.Trees.{IsOnPath, last, earlier}
use Rattle.mode_diagrams.proofs.Pathing.{put_members, put_event, put_kept}
use Rattle.least_families.specs.Least.{covers}
use Rattle.least_families.proofs.Covering.{covers_from, covered}
use Rattle.coherent_cuts.specs.Exclusive.{HasEdgePair, HasExclusivePair, HasExclusive, AddsPairsOf, AddsPairs}

-- ---- one more pair
or_right : (b : Bool) → (b || true) ≡ true
or_right true = refl
or_right false = refl

pub covers_union : (f g : Family) (s : List ℕ) → covers (union f g) s ≡ (covers f s || covers g s)
covers_union f g s = alike _ _
    (λ h. let w = covered (union f g) s h in
    ⊎_elim
    (λ i. ap (λ b. b || covers g s) (covers_from f w.set s i w.passes))
    (λ i. ap (λ b. covers f s || b) (covers_from g w.set s i w.passes) ∙ or_right (covers f s))
    (or_cases (has f w.set) (has g w.set) (sym (has-union f g w.set) ∙ w.in_family)))
    (λ h. ⊎_elim
    (λ c. let w = covered f s c in
    covers_from (union f g) w.set s (has-union f g w.set ∙ ap (λ b. b || has g w.set) w.in_family) w.passes)
    (λ c. let w = covered g s c in
    covers_from (union f g) w.set s (has-union f g w.set ∙ ap (λ b. has f w.set || b) w.in_family ∙ or_right (has f w.set))
    w.passes)
    (or_cases (covers f s) (covers g s) h))

pub covers_pair : (a b : ℕ) (one pair : Family) → one ≡ (b ∷ []) ∷ [] → HasWith a one pair → (s : List ℕ)
    → covers pair s ≡ (holds a s && holds b s)
covers_pair a b one pair is w s = alike _ _ there back
  where
    single : (t : List ℕ) → has ((b ∷ []) ∷ []) t ≡ true → t ≡ b ∷ []
    single t h = by (or_cases _ _ h)
      where
        by : (same t (b ∷ []) ≡ true) ⊎ (false ≡ true) → t ≡ b ∷ []
        by (inl e) = same-true t (b ∷ []) e
        by (inr e) = absurd (true≢false (sym e))

    there : covers pair s ≡ true → (holds a s && holds b s) ≡ true
    there h =
        let x = covered pair s h in
        let y = w.sound x.set x.in_family in
        let t = single y.0 (subst (λ f. has f y.0 ≡ true) is y.1) in
        let put : x.set ≡ put_in a (b ∷ []) = y.2 ∙ ap (put_in a) t in
        let inside = λ (z : ℕ) (o : IsOneOf (put_in a (b ∷ [])) z). (within_law x.set s).0 x.passes z
        (subst (λ u. IsOneOf u z) (sym put) o) in
        and_from (holds a s) (holds b s) ((holds_law a s).1 (inside a (put_event a (b ∷ []))))
        ((holds_law b s).1 (inside b (put_kept a (b ∷ []) b (one_first b []))))

    back : (holds a s && holds b s) ≡ true → covers pair s ≡ true
    back h =
        let p = and_parts (holds a s) (holds b s) h in
        let i = w.whole (b ∷ []) (subst (λ f. has f (b ∷ []) ≡ true) (sym is) (has_single (b ∷ []))) in
        covers_from pair (put_in a (b ∷ [])) s i ((within_law (put_in a (b ∷ [])) s).1 (λ x o. ⊎_elim
        (λ e. subst (IsOneOf s) (sym e) ((holds_law a s).0 p.0))
        (λ k. subst (IsOneOf s) (only_one b x k) ((holds_law b s).0 p.1))
        (put_members a (b ∷ []) x o)))
      where
        has_single : (t : List ℕ) → has (t ∷ []) t ≡ true
        has_single t = ap (λ c. c || false) (same-refl t)

        only_one : (b x : ℕ) → IsOneOf (b ∷ []) x → b ≡ x
        only_one b x o = only_item b x o

-- ---- the pairs of one edge: those of the later edges from place k on are in
pub record AddsFrom (edges : List NumberedEdge) (first k : ℕ) (f g : Family) : Type 0 where
  pub sound : (s : List ℕ) → covers g s ≡ true → (covers f s ≡ true) ⊎ ((second : ℕ) × HasEdgePair edges first second s)
  pub kept : (s : List ℕ) → covers f s ≡ true → covers g s ≡ true
  pub whole : (s : List ℕ) (second : ℕ) → k ≤ second → HasEdgePair edges first second s → covers g s ≡ true

pub adds_none : (edges : List NumberedEdge) (first k : ℕ) (f : Family) → length edges ≤ k → AddsFrom edges first k f f
adds_none edges first k f h = record {
  sound = λ s c. inl c;
  kept = λ s c. c;
  whole = λ s second l p.
      let w = stands_within edges second p.other p.other_stands in absurd (omega (arith, w, l, h));
}

-- the pair of this edge and one on whose path it is not
pub adds_pair : (edges : List NumberedEdge) (first k : ℕ) (f g h : Family) (a b : NumberedEdge) → first < k
    → Stands edges first a → Stands edges k b → (IsOnPath edges a.event.n (suc k) → ⊥) → AddsFrom edges first (suc k) f g
    → ((s : List ℕ) → covers h s ≡ (covers g s || (holds a.event.n s && holds b.event.n s)))
    → AddsFrom edges first k f h
adds_pair edges first k f g h a b lt sa sb away r c = record {
  sound = λ s x. ⊎_elim (λ y. r.sound s y)
      (λ y. let p = and_parts (holds a.event.n s) (holds b.event.n s) y in
      inr (
        k,
        record {
          before = lt;
          one = a;
          other = b;
          one_stands = sa;
          other_stands = sb;
          not_on_path = away;
          has_one = p.0;
          has_other = p.1;
        },
      ))
      (or_cases (covers g s) (holds a.event.n s && holds b.event.n s) (sym (c s) ∙ x));
  kept = λ s x. c s ∙ ap (λ d. d || (holds a.event.n s && holds b.event.n s)) (r.kept s x);
  whole = λ s second l p. ⊎_elim
      (λ (q : second ≡ k).
      let same = stands_one edges k p.other b (subst (λ z. Stands edges z p.other) q p.other_stands) sb in
      let one = stands_one edges first p.one a p.one_stands sa in
      c s ∙ ap (λ d. covers g s || d) (and_from (holds a.event.n s) (holds b.event.n s)
      (ap (λ (z : NumberedEdge). holds z.event.n s) (sym one) ∙ p.has_one)
      (ap (λ (z : NumberedEdge). holds z.event.n s) (sym same) ∙ p.has_other)) ∙ or_right (covers g s))
      (λ q. c s ∙ ap (λ d. d || (holds a.event.n s && holds b.event.n s))
      (r.whole s second (let x : suc k ≤ second = grind (arith, l, q) in x) p))
      (cases_eq second k);
}

-- nothing for one on whose path it is
pub adds_not : (edges : List NumberedEdge) (first k : ℕ) (f g : Family) (a : NumberedEdge) → Stands edges first a
    → IsOnPath edges a.event.n (suc k) → AddsFrom edges first (suc k) f g → AddsFrom edges first k f g
adds_not edges first k f g a sa on r = record {
  sound = r.sound;
  kept = r.kept;
  whole = λ s second l p. ⊎_elim
      (λ (q : second ≡ k).
      let one = stands_one edges first p.one a p.one_stands sa in
      absurd (p.not_on_path (subst (λ (z : NumberedEdge). IsOnPath edges z.event.n (suc second)) (sym one)
      (subst (λ z. IsOnPath edges a.event.n (suc z)) (sym q) on))))
      (λ q. r.whole s second (let x : suc k ≤ second = grind (arith, l, q) in x) p)
      (cases_eq second k);
}

pub adds_all : (edges : List NumberedEdge) (first k : ℕ) (f g : Family) → k ≤ first + 1 → AddsFrom edges first k f g
    → AddsPairsOf edges first f g
adds_all edges first k f g h r = record {
  sound = r.sound;
  kept = r.kept;
  whole = λ s second p. let b = p.before in r.whole s second (omega (arith, b, h)) p;
}

-- ---- the pairs of one tree: those of the edges from place k on are in
pub record AddsTreeFrom (edges : List NumberedEdge) (k : ℕ) (f g : Family) : Type 0 where
  pub sound : (s : List ℕ) → covers g s ≡ true
      → (covers f s ≡ true) ⊎ ((first second : ℕ) × HasEdgePair edges first second s)
  pub kept : (s : List ℕ) → covers f s ≡ true → covers g s ≡ true
  pub whole : (s : List ℕ) (first second : ℕ) → k ≤ first → HasEdgePair edges first second s → covers g s ≡ true

pub tree_none : (edges : List NumberedEdge) (k : ℕ) (f : Family) → length edges ≤ k → AddsTreeFrom edges k f f
tree_none edges k f h = record {
  sound = λ s c. inl c;
  kept = λ s c. c;
  whole = λ s first second l p.
      let w = stands_within edges first p.one p.one_stands in absurd (omega (arith, w, l, h));
}

pub tree_more : (edges : List NumberedEdge) (k : ℕ) (f g h : Family) → AddsTreeFrom edges (suc k) f g
    → AddsPairsOf edges k g h → AddsTreeFrom edges k f h
tree_more edges k f g h r a = record {
  sound = λ s c. ⊎_elim (λ x. r.sound s x) (λ x. inr (k, x.0, x.1)) (a.sound s c);
  kept = λ s c. a.kept s (r.kept s c);
  whole = λ s first second l p. ⊎_elim
      (λ (q : first ≡ k). a.whole s second (subst (λ z. HasEdgePair edges z second s) q p))
      (λ q. a.kept s (r.whole s first second (let x : suc k ≤ first = grind (arith, l, q) in x) p))
      (cases_eq first k);
}

pub tree_all : (edges : List NumberedEdge) (k : ℕ) (f g : Family) → k ≡ 0 → AddsTreeFrom edges k f g
    → AddsPairs edges f g
tree_all edges k f g z r = record {
  sound = r.sound;
  kept = r.kept;
  whole = λ s first second p. r.whole s first second (omega (arith, z)) p;
}

-- ---- the pairs of all trees: those of the trees from place k on are in
pub record AddsAllFrom (ns : List NumberedTree) (k : ℕ) (g : Family) : Type 0 where
  pub sound : (s : List ℕ) → covers g s ≡ true → HasExclusivePair ns s
  pub whole : (s : List ℕ) (h : HasExclusivePair ns s) → k ≤ h.place → covers g s ≡ true

pub all_none : (ns : List NumberedTree) (k : ℕ) (g : Family) → length ns ≤ k → g ≡ [] → AddsAllFrom ns k g
all_none ns k g h e = record {
  sound = λ s c. absurd (true≢false (sym c ∙ ap (λ f. covers f s) e));
  whole = λ s p l. let w = stands_within ns p.place p.tree p.stands in absurd (omega (arith, w, l, h));
}

pub all_more : (ns : List NumberedTree) (k : ℕ) (tree : NumberedTree) (g h : Family) → Stands ns k tree
    → AddsAllFrom ns (suc k) g → AddsPairs (edges_of tree) g h → AddsAllFrom ns k h
all_more ns k tree g h st r a = record {
  sound = λ s c. ⊎_elim (λ x. r.sound s x)
      (λ x. record { place = k; tree = tree; stands = st; first = x.0; second = x.1; pair = x.2 })
      (a.sound s c);
  whole = λ s p l. ⊎_elim
      (λ (q : p.place ≡ k).
      let same = stands_one ns k p.tree tree (subst (λ z. Stands ns z p.tree) q p.stands) st in
      a.whole s p.first p.second (subst (λ (t : NumberedTree). HasEdgePair (edges_of t) p.first p.second s) same p.pair))
      (λ q. a.kept s (r.whole s p (let x : suc k ≤ p.place = grind (arith, l, q) in x)))
      (cases_eq p.place k);
}

pub all_pairs : (ns : List NumberedTree) (k : ℕ) (g : Family) → k ≡ 0 → AddsAllFrom ns k g → HasExclusive ns g
all_pairs ns k g z r = record { each = λ s. (r.sound s, λ h. r.whole s h (omega (arith, z))) }

-- ---- the walk up a path
module _ (edges : List NumberedEdge) (e n k : ℕ) (edge : NumberedEdge) (q : n ≡ suc k) (st : Stands edges k edge) where
  only : (j : ℕ) (other : NumberedEdge) → n ≡ suc j → Stands edges j other → other ≡ edge
  only j other r so =
      let same : j ≡ k = omega (arith, q, r) in
      stands_one edges k other edge (subst (λ i. Stands edges i other) same so) st

  pub path_up : (edge.event.n ≡ e → ⊥) → IsOnPath edges e n → IsOnPath edges e edge.from
  path_up differs (last {m = j} {edge = other} r so is) =
      absurd (differs (ap (λ (x : NumberedEdge). x.event.n) (sym (only j other r so)) ∙ is))
  path_up differs (earlier {m = j} {edge = other} r so p) =
      subst (λ (x : NumberedEdge). IsOnPath edges e x.from) (only j other r so) p

-- ---- what the loops keep
pub record IsUpPath (edges : List NumberedEdge) (e mode at : ℕ) : Type 0 where
  pub within : at ≤ length edges
  pub same : IsOnPath edges e mode ↔ IsOnPath edges e at

pub record PairsOf (edges : List NumberedEdge) (first second : ℕ) (old : Stored) (pairs : ℕ) (s : Stored) (n : ℕ)
    : Type 0 where
  pub within : second ≤ length edges
  pub grows : Extends old s
  pub in_store : IsFamilyNumber s n
  pub adds : AddsFrom edges first second (family old pairs) (family s n)

pub record PairsOfTree (edges : List NumberedEdge) (first : ℕ) (old : Stored) (pairs : ℕ) (s : Stored) (n : ℕ) : Type 0 where
  pub within : first ≤ length edges
  pub grows : Extends old s
  pub in_store : IsFamilyNumber s n
  pub adds : AddsTreeFrom edges first (family old pairs) (family s n)

pub record PairsOfTrees (ns : List NumberedTree) (left : ℕ) (old s : Stored) (n : ℕ) : Type 0 where
  pub within : left ≤ length ns
  pub grows : Extends old s
  pub in_store : IsFamilyNumber s n
  pub adds : AddsAllFrom ns left (family s n)

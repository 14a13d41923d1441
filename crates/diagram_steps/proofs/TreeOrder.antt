-- Trees in the order of their events.
use Rattle.std.proofs.Common.{◌≡◌, ◌⊎◌, ⊎_elim, inl, inr, ℕ, zero, suc, ◌+◌, ◌<◌, ◌≤◌, Bool, true, false, cond, nat_lt, List, [], ◌∷◌, ◌++◌, length, get_or, slice_get, Some, refl, sym, ap, ◌∙◌, subst, arith}
use Rattle.std.specs.List.{swap}
use Rattle.std.specs.List.Sorted.{IsPermutation, IsNonDecreasingBy}
use Rattle.std.proofs.lemmas.Bool.Decides.{nat_tests}
use Rattle.std.proofs.lemmas.List.Edits.{length-swap, swapped_from_swap}
use Rattle.std.proofs.lemmas.List.Sorted.{IsPermutation-keeps}
use Rattle.ar_base.specs.Lists.{Stands, IsOneOf}
use Rattle.ar_base.proofs.Standing.{stands_one, stands_within, stands_get, stands_item, one_none, one_cases, one_first, one_rest}
use Rattle.diagram_steps.specs.declared.trees.NumberedEdge.{NumberedEdge}
use Rattle.diagram_steps.specs.declared.trees.NumberedTree.{NumberedTree}
use Rattle.diagram_steps.specs.Trees.{edges_of, TreeHasEvent}
use Rattle.diagram_steps.specs.Order.{IsTreeBefore, Ascend, AreSeparate, HasOverlap, HasEventBelow, IsTreeEnd, least_from, least_event}

-- the item at a place, as a list has it by a number
pub stands_is : {A : Type 0} (xs : List A) (n : ℕ) (a d : A) → Stands xs n a → a ≡ get_or xs n d
stands_is xs n a d st = stands_one xs n a (get_or xs n d) st (stands_get xs n d (stands_within xs n a st))

-- ---- the least event
record IsLesser (a n c : ℕ) : Type 0 where
  pub first : c ≤ a
  pub second : c ≤ n
  pub is : (c ≡ a) ⊎ (c ≡ n)

lesser_is : (a n : ℕ) → IsLesser a n (cond (nat_lt a n) a n)
lesser_is a n = by (nat_lt a n) refl
  where
    by : (b : Bool) → nat_lt a n ≡ b → IsLesser a n (cond b a n)
    by true h = let l : a < n = grind (arith, nat_tests, h) in
        record { first = omega arith; second = omega (arith, l); is = inl refl }
    by false h = let l : n ≤ a = grind (arith, nat_tests, h) in
        record { first = l; second = omega arith; is = inr refl }

record IsLeast (n : ℕ) (es : List NumberedEdge) (m : ℕ) : Type 0 where
  pub no_more : m ≤ n
  pub low : (e : NumberedEdge) → IsOneOf es e → m ≤ e.event.n
  pub is : (m ≡ n) ⊎ ((e : NumberedEdge) × IsOneOf es e × (e.event.n ≡ m))

least_is : (n : ℕ) (es : List NumberedEdge) → IsLeast n es (least_from n es)
least_is n [] = record { no_more = omega arith; low = λ e o. absurd (one_none e o); is = inl refl }
least_is n (x ∷ es) =
    let c = cond (nat_lt x.event.n n) x.event.n n in
    let l = lesser_is x.event.n n in
    let r = least_is c es in
    let here : least_from c es ≤ x.event.n = omega (arith, r.no_more, l.first) in
    record {
      no_more = omega (arith, r.no_more, l.second);
      low = λ e o. ⊎_elim
          (λ p. subst (λ (y : NumberedEdge). least_from c es ≤ y.event.n) p here)
          (λ p. r.low e p)
          (one_cases x es e o);
      is = ⊎_elim
          (λ p. ⊎_elim (λ q. inr (x, one_first x es, sym (p ∙ q))) (λ q. inl (p ∙ q)) l.is)
          (λ p. inr (p.0, one_rest x es p.0 p.1, p.2))
          r.is;
    }

pub least_more : (n : ℕ) (xs : List NumberedEdge) (x : NumberedEdge)
    → least_from n (xs ++ x ∷ []) ≡ cond (nat_lt x.event.n (least_from n xs)) x.event.n (least_from n xs)
least_more n [] x = refl
least_more n (y ∷ xs) x = least_more (cond (nat_lt y.event.n n) y.event.n n) xs x

-- one edge more, whose event is less or is not
-- the first event of these edges, or 0 where there is none
abbrev pub first_number : List NumberedEdge → ℕ
first_number [] = 0
first_number (e ∷ es) = e.event.n

pub first_is : (es : List NumberedEdge) (e : NumberedEdge) → Some e ≡ slice_get es 0 → e.event.n ≡ first_number es
first_is [] e h = let wrong : ⊥ = cc in absurd wrong
first_is (x ∷ es) e h = let same : e ≡ x = cc in ap (λ (z : NumberedEdge). z.event.n) same

pub least_whole : (es : List NumberedEdge) → least_from (first_number es) es ≡ least_event es
least_whole [] = refl
least_whole (e ∷ es) = refl

pub least_less : (n : ℕ) (xs : List NumberedEdge) (x : NumberedEdge) (m : ℕ) → m ≡ least_from n xs → x.event.n < m
    → x.event.n ≡ least_from n (xs ++ x ∷ [])
least_less n xs x m e h =
    let is : nat_lt x.event.n (least_from n xs) ≡ true = grind (arith, nat_tests, h, e) in
    sym (least_more n xs x ∙ ap (λ b. cond b x.event.n (least_from n xs)) is)

pub least_same : (n : ℕ) (xs : List NumberedEdge) (x : NumberedEdge) (m : ℕ) → m ≡ least_from n xs → m ≤ x.event.n
    → m ≡ least_from n (xs ++ x ∷ [])
least_same n xs x m e h =
    let is : nat_lt x.event.n (least_from n xs) ≡ false = grind (arith, nat_tests, h, e) in
    sym (least_more n xs x ∙ ap (λ b. cond b x.event.n (least_from n xs)) is ∙ sym e)

low_in : (es : List NumberedEdge) (x : NumberedEdge) → IsOneOf es x → least_event es ≤ x.event.n
low_in [] x o = absurd (one_none x o)
low_in (e ∷ es) x o = (least_is e.event.n (e ∷ es)).low x o

least_has : (es : List NumberedEdge) (x : NumberedEdge) → IsOneOf es x
    → (y : NumberedEdge) × IsOneOf es y × (y.event.n ≡ least_event es)
least_has [] x o = absurd (one_none x o)
least_has (e ∷ es) x o = ⊎_elim (λ p. (e, one_first e es, sym p)) (λ p. p) (least_is e.event.n (e ∷ es)).is

least_low : (tree : NumberedTree) (e : ℕ) → TreeHasEvent tree e → least_event (edges_of tree) ≤ e
least_low tree e h = let l = low_in (edges_of tree) h.edge h.one in omega (arith, l, h.is)

-- ---- trees that are exchanged stay separate
data Moved (i j m k : ℕ) : Type 0 where
  there : m ≡ i → k ≡ j → Moved i j m k
  back : m ≡ j → k ≡ i → Moved i j m k
  stays : (m ≡ i → ⊥) → (m ≡ j → ⊥) → k ≡ m → Moved i j m k

moved_once : (i j m k n l : ℕ) → Moved i j m k → Moved i j n l → k ≡ l → m ≡ n
moved_once i j m k n l (there a b) (there c d) e = omega (arith, a, c)
moved_once i j m k n l (there a b) (back c d) e = omega (arith, a, b, c, d, e)
moved_once i j m k n l (there a b) (stays x y z) e = absurd (y (omega (arith, b, z, e)))
moved_once i j m k n l (back a b) (there c d) e = omega (arith, a, b, c, d, e)
moved_once i j m k n l (back a b) (back c d) e = omega (arith, a, c)
moved_once i j m k n l (back a b) (stays x y z) e = absurd (x (omega (arith, b, z, e)))
moved_once i j m k n l (stays x y z) (there c d) e = absurd (y (omega (arith, z, d, e)))
moved_once i j m k n l (stays x y z) (back c d) e = absurd (x (omega (arith, z, d, e)))
moved_once i j m k n l (stays x y z) (stays u v w) e = omega (arith, z, w, e)

same_or : (a b : ℕ) → (a ≡ b) ⊎ (a ≡ b → ⊥)
same_or zero zero = inl refl
same_or zero (suc b) = inr (λ e. let w : ⊥ = cc in w)
same_or (suc a) zero = inr (λ e. let w : ⊥ = cc in w)
same_or (suc a) (suc b) = ⊎_elim (λ e. inl (ap suc e)) (λ n. inr (λ e. n (omega (arith, e)))) (same_or a b)

module _ (trees : List NumberedTree) (i j : ℕ) (i_in : i < length trees) (j_in : j < length trees) where
  came_from : (m : ℕ) (t : NumberedTree) → Stands (swap trees i j) m t → (k : ℕ) × Stands trees k t × Moved i j m k
  came_from m t st =
      let w = swapped_from_swap trees (swap trees i j) i j t i_in j_in refl in
      let is = stands_is (swap trees i j) m t t st in
      let inside : m < length trees = omega (arith, stands_within (swap trees i j) m t st, length-swap trees i j) in
      ⊎_elim
      (λ e. (j, stands_item trees j t j_in (is ∙ ap (λ n. get_or (swap trees i j) n t) e ∙ w.0), there e refl))
      (λ a. ⊎_elim
      (λ e. (i, stands_item trees i t i_in (is ∙ ap (λ n. get_or (swap trees i j) n t) e ∙ w.1), back e refl))
      (λ b. (m, stands_item trees m t inside (is ∙ w.2 m a b), stays a b refl))
      (same_or m j))
      (same_or m i)

  separate_exchanged : AreSeparate trees → AreSeparate (swap trees i j)
  separate_exchanged s = record {
    each = λ m n a b differ sm sn.
        let p = came_from m a sm in
        let q = came_from n b sn in
        s.each p.0 q.0 a b (λ e. differ (moved_once i j m p.0 n q.0 p.2 q.2 e)) p.1 q.1;
  }

pub separate_moved : (xs ys : List NumberedTree) → IsPermutation xs ys → AreSeparate xs → AreSeparate ys
separate_moved xs ys p s =
    IsPermutation-keeps xs AreSeparate s (λ l i j i_in j_in a. separate_exchanged l i j i_in j_in a) ys p

-- ---- trees by their least events that do not ascend are not separate
pub not_separate : (trees : List NumberedTree)
    → IsNonDecreasingBy (λ (t : NumberedTree). least_event (edges_of t)) trees → HasOverlap trees → AreSeparate trees → ⊥
not_separate trees o h s =
    let inside = stands_within trees h.later h.second h.second_stands in
    let rise = o h.earlier h.later h.first (omega (arith, h.in_order)) inside in
    let key = λ (t : NumberedTree). least_event (edges_of t) in
    let one = ap key (stands_is trees h.earlier h.first h.first h.first_stands) in
    let two = ap key (stands_is trees h.later h.second h.first h.second_stands) in
    let low = least_low h.second h.low h.has_low in
    let y = least_has (edges_of h.first) h.has_high.edge h.has_high.one in
    ⊎_elim
    (λ p. let l = p.each h.high h.low h.has_high h.has_low in omega (arith, l, h.no_less))
    (λ p.
    let l = p.each h.low y.0.event.n h.has_low (record { edge = y.0; one = y.1; is = refl }) in
    omega (arith, l, y.2, one, two, rise, low))
    (s.each h.earlier h.later h.first h.second (λ e. omega (arith, e, h.in_order)) h.first_stands h.second_stands)

-- ---- tree after tree: the first k trees ascend, and end before this number
pub record AreFirst (trees : List NumberedTree) (k end : ℕ) : Type 0 where
  pub range : end ≤ 4294967296
  pub ascend : (i j : ℕ) (s t : NumberedTree) → i < j → j < k → Stands trees i s → Stands trees j t → IsTreeBefore s t
  pub below : (i : ℕ) (s : NumberedTree) (e : ℕ) → i < k → Stands trees i s → TreeHasEvent s e → e < end
  pub is : (end ≡ 0) ⊎ ((i : ℕ) × (s : NumberedTree) × (e : ℕ) × (i < k) × Stands trees i s × TreeHasEvent s e × (e + 1 ≡ end))

pub first_none : (trees : List NumberedTree) → AreFirst trees 0 0
first_none trees = record {
  range = omega arith;
  ascend = λ i j s t a b. let w : ⊥ = omega (arith, b) in absurd w;
  below = λ i s e a. let w : ⊥ = omega (arith, a) in absurd w;
  is = inl refl;
}

pub first_more : (trees : List NumberedTree) (k end more : ℕ) (tree : NumberedTree) → Stands trees k tree
    → ((e : ℕ) → TreeHasEvent tree e → end ≤ e) → IsTreeEnd tree end more → more ≤ 4294967296 → AreFirst trees k end
    → AreFirst trees (k + 1) more
first_more trees k end more tree st low x range f = record {
  range = range;
  ascend = λ i j s t a b si sj. ⊎_elim
      (λ (h : j < k). f.ascend i j s t a h si sj)
      (λ (h : j ≡ k). record {
        each = λ p q hp hq.
            let same : t ≡ tree = stands_one trees k t tree (subst (λ n. Stands trees n t) h sj) st in
            let u = f.below i s p (omega (arith, a, h)) si hp in
            let v = low q (subst (λ (y : NumberedTree). TreeHasEvent y q) same hq) in
            omega (arith, u, v);
      })
      (at_most j b);
  below = λ i s e a si he. ⊎_elim
      (λ (h : i < k). let u = f.below i s e h si he in omega (arith, u, x.no_less))
      (λ (h : i ≡ k).
      let same : s ≡ tree = stands_one trees k s tree (subst (λ n. Stands trees n s) h si) st in
      x.above e (subst (λ (y : NumberedTree). TreeHasEvent y e) same he))
      (at_most i a);
  is = ⊎_elim
      (λ e. ⊎_elim
      (λ z. inl (sym e ∙ z))
      (λ w. inr (w.0, w.1, w.2, omega (arith, w.3), w.4, w.5, w.6 ∙ e))
      f.is)
      (λ w. inr (k, tree, w.0, omega arith, st, w.1, w.2))
      x.is;
}
  where
    at_most : (j : ℕ) → j < k + 1 → (j < k) ⊎ (j ≡ k)
    at_most j h = ⊎_elim (λ e. inr e) (λ n. inl (let l : j < k = grind (arith, h, n) in l)) (same_or j k)

pub first_all : (trees : List NumberedTree) (k end : ℕ) → length trees ≤ k → AreFirst trees k end → Ascend trees
first_all trees k end h f = record {
  each = λ i j s t a si sj.
      let w = stands_within trees j t sj in f.ascend i j s t a (omega (arith, w, h)) si sj;
}

pub first_overlap : (trees : List NumberedTree) (k end : ℕ) (tree : NumberedTree) → Stands trees k tree → HasEventBelow tree end
    → AreFirst trees k end → HasOverlap trees
first_overlap trees k end tree st h f = ⊎_elim
    (λ e. let w : ⊥ = omega (arith, e, h.below) in absurd w)
    (λ w. record {
      earlier = w.0;
      later = k;
      in_order = w.3;
      first = w.1;
      second = tree;
      first_stands = w.4;
      second_stands = st;
      high = w.2;
      low = h.event;
      has_high = w.5;
      has_low = h.has;
      no_less = omega (arith, h.below, w.6);
    })
    f.is

-- ---- edge after edge
abbrev pub AreFrom : List NumberedEdge → ℕ → ℕ → Type 0
AreFrom edges k end = (j : ℕ) (e : NumberedEdge) → j < k → Stands edges j e → end ≤ e.event.n

pub from_more : (edges : List NumberedEdge) (k end : ℕ) (edge : NumberedEdge) → Stands edges k edge → end ≤ edge.event.n
    → AreFrom edges k end → AreFrom edges (k + 1) end
from_more edges k end edge st h f j e a sj = ⊎_elim
    (λ (n : j ≡ k).
    let same = stands_one edges k edge e st (subst (λ m. Stands edges m e) n sj) in
    subst (λ (y : NumberedEdge). end ≤ y.event.n) same h)
    (λ n. f j e (let l : j < k = grind (arith, a, n) in l) sj)
    (same_or j k)

pub from_all : (tree : NumberedTree) (k end : ℕ) → length (edges_of tree) ≤ k → AreFrom (edges_of tree) k end → (e : ℕ)
    → TreeHasEvent tree e → end ≤ e
from_all tree k end h f e x =
    let w = stands_within (edges_of tree) x.one.place x.edge x.one.stands in
    let l = f x.one.place x.edge (omega (arith, w, h)) x.one.stands in
    omega (arith, l, x.is)

pub record IsEndAt (tree : NumberedTree) (start k end : ℕ) : Type 0 where
  pub range : end ≤ 4294967296
  pub no_less : start ≤ end
  pub above : (j : ℕ) (e : NumberedEdge) → j < k → Stands (edges_of tree) j e → e.event.n < end
  pub is : (start ≡ end) ⊎ ((e : ℕ) × TreeHasEvent tree e × (e + 1 ≡ end))

pub end_none : (tree : NumberedTree) (start : ℕ) → start ≤ 4294967296 → IsEndAt tree start 0 start
end_none tree start h = record {
  range = h;
  no_less = omega arith;
  above = λ j e a. let w : ⊥ = omega (arith, a) in absurd w;
  is = inl refl;
}

above_more : (edges : List NumberedEdge) (k end more : ℕ) (edge : NumberedEdge) → Stands edges k edge → edge.event.n < more
    → end ≤ more → ((j : ℕ) (e : NumberedEdge) → j < k → Stands edges j e → e.event.n < end) → (j : ℕ) (e : NumberedEdge)
    → j < k + 1 → Stands edges j e → e.event.n < more
above_more edges k end more edge st h up f j e a sj = ⊎_elim
    (λ (n : j ≡ k).
    let same = stands_one edges k edge e st (subst (λ m. Stands edges m e) n sj) in
    subst (λ (y : NumberedEdge). y.event.n < more) same h)
    (λ n. let l = f j e (let l : j < k = grind (arith, a, n) in l) sj in omega (arith, l, up))
    (same_or j k)

pub end_same : (tree : NumberedTree) (start k end : ℕ) (edge : NumberedEdge) → Stands (edges_of tree) k edge
    → edge.event.n < end → IsEndAt tree start k end → IsEndAt tree start (k + 1) end
end_same tree start k end edge st h x = record {
  range = x.range;
  no_less = x.no_less;
  above = above_more (edges_of tree) k end end edge st h (omega arith) x.above;
  is = x.is;
}

pub end_more : (tree : NumberedTree) (start k end : ℕ) (edge : NumberedEdge) → Stands (edges_of tree) k edge
    → end ≤ edge.event.n → edge.event.n < 4294967296 → IsEndAt tree start k end
    → IsEndAt tree start (k + 1) (edge.event.n + 1)
end_more tree start k end edge st h range x = record {
  range = omega (arith, range);
  no_less = omega (arith, h, x.no_less);
  above = above_more (edges_of tree) k end (edge.event.n + 1) edge st (omega arith) (omega (arith, h)) x.above;
  is = inr (edge.event.n, record { edge = edge; one = record { place = k; stands = st }; is = refl }, refl);
}

pub end_all : (tree : NumberedTree) (start k end : ℕ) → length (edges_of tree) ≤ k → IsEndAt tree start k end
    → IsTreeEnd tree start end
end_all tree start k end h x = record {
  no_less = x.no_less;
  above = λ e y.
      let w = stands_within (edges_of tree) y.one.place y.edge y.one.stands in
      let l = x.above y.one.place y.edge (omega (arith, w, h)) y.one.stands in
      omega (arith, l, y.is);
  is = x.is;
}

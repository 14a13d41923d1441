-- Firable sets by the modes of trees in another order.
use Rattle.std.proofs.Common.{◌≡◌, ◌⊎◌, ⊎_elim, inl, inr, ℕ, zero, suc, ◌≤◌, ◌<◌, List, [], ◌∷◌, length, refl, sym, ap, ◌∙◌, subst, arith}
use Rattle.std.specs.List.Sorted.{IsPermutation}
use Rattle.std.proofs.lemmas.Bool.{cases_eq}
use Rattle.std.proofs.lemmas.List.Sorted.{Contains-permutation, IsPermutation-sym}
use Rattle.ar_base.specs.Lists.{Stands, IsOneOf}
use Rattle.ar_base.proofs.Standing.{stands_none, one_first, one_rest, one_here, one_contains, contains_one}
use Rattle.ar_firing.specs.Forest.{ModeTree}
use Rattle.mode_nodes.specs.Diagrams.{mode_of}
use Rattle.diagram_steps.specs.declared.trees.NumberedTree.{NumberedTree}
use Rattle.diagram_steps.specs.Trees.{edges_of}
use Rattle.diagram_steps.specs.Order.{Ascend}
use Rattle.mode_diagrams.specs.Trees.{IsOnPath, AreApart, IsSetFrom}
use Rattle.mode_diagrams.specs.Numbers.{IsByModes, FirableByModes}
use Rattle.mode_diagrams.proofs.Firable.{by_modes, mode_end}
use Rattle.mode_diagrams.proofs.Laws.{path_event}

-- ---- trees that ascend are apart
pub ascend_apart : (trees : List NumberedTree) → Ascend trees → AreApart trees
ascend_apart trees a = record {
  one = λ j k s t e sj sk hs ht. ⊎_elim
      (λ p. p)
      (λ n. ⊎_elim
      (λ (l : j < k). let w = (a.each j k s t l sj sk).each e e hs ht in let x : ⊥ = omega (arith, w) in absurd x)
      (λ (l : k < j). let w = (a.each k j t s l sk sj).each e e ht hs in let x : ⊥ = omega (arith, w) in absurd x)
      (less_or j k n))
      (cases_eq j k);
}
  where
    less_or : (j k : ℕ) → (j ≡ k → ⊥) → (j < k) ⊎ (k < j)
    less_or zero zero n = absurd (n refl)
    less_or zero (suc k) n = inl (omega arith)
    less_or (suc j) zero n = inr (omega arith)
    less_or (suc j) (suc k) n = ⊎_elim (λ l. inl (omega (arith, l))) (λ l. inr (omega (arith, l)))
        (less_or j k (λ e. n (ap suc e)))

pub one_moved : (xs ys : List NumberedTree) (n : NumberedTree) → IsPermutation xs ys → IsOneOf xs n → IsOneOf ys n
one_moved xs ys n p o = one_contains ys n (Contains-permutation xs ys n p (contains_one xs n o))

abbrev Come : List NumberedTree → List NumberedTree → Type 0
Come xs ys = (n : NumberedTree) → IsOneOf xs n → IsOneOf ys n

-- ---- the modes of trees by those of trees among which they are
module _ (ns : List NumberedTree) (modes : List ℕ) where
  -- for each tree the mode of its place among the others
  fetched : (xs : List NumberedTree) → Come xs ns → List ℕ
  fetched [] to = []
  fetched (x ∷ xs) to = mode_of modes (to x (one_first x xs)).place ∷ fetched xs (λ n o. to n (one_rest x xs n o))

  fetched_long : (xs : List NumberedTree) (to : Come xs ns) → length (fetched xs to) ≡ length xs
  unfolding fetched
  fetched_long [] to = refl
  fetched_long (x ∷ xs) to = ap suc (fetched_long xs (λ n o. to n (one_rest x xs n o)))

  fetched_at : (xs : List NumberedTree) (to : Come xs ns) (k : ℕ) (n : NumberedTree) → Stands xs k n
      → (o : IsOneOf ns n) × (mode_of (fetched xs to) k ≡ mode_of modes o.place)
  unfolding fetched
  fetched_at [] to k n st = absurd (stands_none k n st)
  fetched_at (x ∷ xs) to zero n st =
      let same : x ≡ n = cc in
      subst (λ (y : NumberedTree). (o : IsOneOf ns y) × (mode_of (fetched (x ∷ xs) to) zero ≡ mode_of modes o.place)) same
      (to x (one_first x xs), refl)
  fetched_at (x ∷ xs) to (suc k) n st = fetched_at xs (λ m o. to m (one_rest x xs m o)) k n st

  pub set_moved : (xs : List NumberedTree) (set : List ℕ) → Come xs ns → Come ns xs → AreApart ns
      → IsSetFrom ns 0 modes set → (more : List ℕ) × IsSetFrom xs 0 more set
  set_moved xs set to back apart s = (
    fetched xs to,
    record {
      ends = λ k l. mode_end (fetched xs to) k (omega (arith, l, fetched_long xs to));
      within = λ k n l st.
          let f = fetched_at xs to k n st in
          let w = s.within f.0.place n (omega arith) f.0.stands in
          subst (λ m. m ≤ length (edges_of n)) (sym f.1) w;
      sound = λ e o.
          let w = s.sound e o in
          let b = back w.1 (one_here ns w.0 w.1 w.3) in
          let f = fetched_at xs to b.place w.1 b.stands in
          let has = path_event w.1 e (mode_of modes w.0) w.4 in
          let same : w.0 ≡ f.0.place = apart.one w.0 f.0.place w.1 w.1 e w.3 f.0.stands has has in
          (b.place, w.1, omega arith, b.stands, subst (λ m. IsOnPath (edges_of w.1) e m) (ap (mode_of modes) same ∙ sym f.1) w.4);
      whole = λ k n e l st p.
          let f = fetched_at xs to k n st in
          s.whole f.0.place n e (omega arith) f.0.stands (subst (λ m. IsOnPath (edges_of n) e m) f.1 p);
    },
  )

by_modes_moved : (trees : List ModeTree) (ns more : List NumberedTree) → IsPermutation ns more → Ascend more
    → IsByModes trees ns → IsByModes trees more
by_modes_moved trees ns more p ascend b =
    let to : Come more ns = λ n o. one_moved more ns n (IsPermutation-sym ns more p) o in
    let back : Come ns more = λ n o. one_moved ns more n p o in
    let apart = ascend_apart more ascend in
    record {
      numbered = record {
        each = λ k n st. let o = to n (one_here more k n st) in b.numbered.each o.place n o.stands;
      };
      apart = apart;
      different = record {
        each = λ k n st. let o = to n (one_here more k n st) in b.different.each o.place n o.stands;
      };
      modes = λ set f. let m = b.modes set f in set_moved ns m.0 more set to back b.apart m.1;
      firable = λ modes set s. let m = set_moved more modes ns set back to apart s in b.firable m.0 set m.1;
    }

pub firable_by_modes : FirableByModes
firable_by_modes trees ns more t are p ascend = by_modes_moved trees ns more p ascend (by_modes trees ns t are)

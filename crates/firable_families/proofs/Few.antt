-- The sets of a family with at most so many members.
use Rattle.std.proofs.Common.{◌≡◌, ◌-◌, ◌<◌, ◌≤◌, ◌⊎◌, ⊎_elim, ℕ, zero, suc, Bool, true, false, cond, leb, List, [], ◌∷◌, length, filter, Option, Some, None, refl, sym, ap, ◌∙◌, arith}
use Rattle.std.proofs.Math.Dec.{leb-zero}
use Rattle.std.proofs.lemmas.Bool.{leb-true, le-leb, lt-leb, leb-false}
use Rattle.ar_base.specs.Lists.{Stands, IsOneOf, AreDifferent}
use Rattle.ar_base.specs.Sets.{Ascends}
use Rattle.ar_base.proofs.Few.{AllDiffer, all_differ, take_out}
use Rattle.ar_base.proofs.Standing.{one_none, one_cases, one_first}
use Rattle.ar_firing.specs.Cuts.{HasAtMost}
use Rattle.ar_firing.specs.CutsInside.{UpTo}
use Rattle.ar_firing.specs.Forest.{ModeTree}
use Rattle.ar_firing.specs.Listed.{AreListed}
use Rattle.zdd_nodes.specs.Families.{Family}
use Rattle.zdd_nodes.specs.FamiliesInside.{node, IsAbove}
use Rattle.zdd_nodes.proofs.Filters.{IsFamily-filter}
use Rattle.zdd_nodes.proofs.Laws.{filter-node, filter_alike, filter-none, every, has-filter-yes, IsAbove-filter}
use Rattle.zdd_nodes.proofs.Minimal.{member_of}
use Rattle.firable_families.specs.Firable.{AndUpTo}
use Rattle.firable_families.specs.FirableInside.{IsFirableOf, IsFirableUpTo}
use Rattle.firable_families.specs.Walk.{few_of, one_fewer}
use Rattle.firable_families.proofs.Listing.{Lists, lists_listed, listed_lists, filter_part}

-- ---- what is firable, and small
pub and_up_to : (order : Option ℕ) (P : List ℕ → Type 0) (set : List ℕ) → P set → UpTo order set → AndUpTo order P set
and_up_to None P set p u = p
and_up_to (Some k) P set p u = (p, u)

pub firable_of : (order : Option ℕ) (trees : List ModeTree) (set : List ℕ) → IsFirableUpTo order trees set
    → IsFirableOf trees set
firable_of None trees set f = f
firable_of (Some k) trees set f = f.0

pub small_of : (order : Option ℕ) (trees : List ModeTree) (set : List ℕ) → IsFirableUpTo order trees set
    → UpTo order set
small_of None trees set f = tt
small_of (Some k) trees set f = f.1

pub firable_up_to : (order : Option ℕ) (trees : List ModeTree) (set : List ℕ) → IsFirableOf trees set → UpTo order set
    → IsFirableUpTo order trees set
firable_up_to None trees set f u = f
firable_up_to (Some k) trees set f u = (f, u)

-- ---- the listed sets with at most so many members
-- different numbers that are all in a list are no more than the list has
pub no_more : (xs ts : List ℕ) → AllDiffer xs → ((x : ℕ) → IsOneOf xs x → IsOneOf ts x) → length xs ≤ length ts
no_more [] [] d h = omega arith
no_more (x ∷ xs) [] d h = absurd (one_none x (h x (one_first x xs)))
no_more xs (t ∷ ts) d h =
    let r = take_out t xs d in
    let l = no_more r.rest ts r.differ
    (λ y i. ⊎_elim (λ e. absurd (r.lacks y i (sym e))) (λ j. j) (one_cases t ts y (h y (r.of y i)))) in
    let m = r.long in
    omega (arith, l, m)

differs : (xs : List ℕ) → Ascends xs → AreDifferent xs
differs xs a = record { one = λ m n x s t. by m n x s t (grind arith) }
  where
    by : (m n x : ℕ) → Stands xs m x → Stands xs n x → (m < n) ⊎ ((m ≡ n) ⊎ (n < m)) → m ≡ n
    by m n x s t c = ⊎_elim
        (λ l. let w = a.ascends m n x x l s t in absurd (omega (arith, w)))
        (λ r. ⊎_elim (λ e. e) (λ g. let w = a.ascends n m x x g t s in absurd (omega (arith, w))) r)
        c

few_lists : {P : List ℕ → Type 0} {f : Family} (k : ℕ) → Lists P f
    → Lists (λ s. P s × HasAtMost k s) (filter (λ s. leb (length s) k) f)
few_lists {f = f} k l = record {
  is_family = IsFamily-filter (λ s. leb (length s) k) f l.is_family;
  sound = λ s h.
      let r = filter_part (λ s. leb (length s) k) f s h in
      (l.sound s r.0, record { list = s; within = record { each = λ e o. o }; few = leb-true (length s) k r.1 });
  whole = λ s q.
      let w = l.whole s q.0 in
      let few = q.1.few in
      let short = no_more w.0 q.1.list (all_differ w.0 (differs w.0 (member_of Ascends f w.0 l.is_family.ascending w.1)))
      (λ e o. q.1.within.each e (w.3.each e o)) in
      (w.0, has-filter-yes (λ s. leb (length s) k) w.0 f (le-leb (length w.0) k (omega (arith, short, few))) w.1, w.2, w.3);
}

-- of what is listed of the firable sets those with at most so many members are listed
pub few_listed : (order : Option ℕ) (trees : List ModeTree) (all : Family) → AreListed (IsFirableOf trees) all
    → AreListed (IsFirableUpTo order trees) (few_of order all)
few_listed None trees all l = l
few_listed (Some k) trees all l = lists_listed (few_lists k (listed_lists l))

-- ---- node by node
-- what a node's upper half becomes
abbrev pub few_upper : Option ℕ → Family → Family
few_upper None h = h
few_upper (Some zero) h = []
few_upper (Some (suc k)) h = few_of (Some k) h

pub few_node : (order : Option ℕ) (e : ℕ) (lo hi : Family)
    → few_of order (node e lo hi) ≡ node e (few_of order lo) (few_upper order hi)
few_node None e lo hi = refl
few_node (Some zero) e lo hi = filter-node e (λ s. leb (length s) 0) lo hi
    ∙ ap (node e (filter (λ s. leb (length s) 0) lo))
    (filter-none (λ s. leb (length (e ∷ s)) 0) hi
    (every (λ s. leb (length (e ∷ s)) 0 ≡ false) (λ s. lt-leb (length (e ∷ s)) 0 (omega arith)) hi))
few_node (Some (suc k)) e lo hi = filter-node e (λ s. leb (length s) (suc k)) lo hi
    ∙ ap (node e (filter (λ s. leb (length s) (suc k)) lo))
    (filter_alike (λ s. leb (length (e ∷ s)) (suc k)) (λ s. leb (length s) k) hi
    (every (λ s. leb (length (e ∷ s)) (suc k) ≡ leb (length s) k) (λ s. one_less (length s) k) hi))
  where
    one_less : (m n : ℕ) → leb (suc m) (suc n) ≡ leb m n
    one_less m n = by (leb m n) refl
      where
        by : (b : Bool) → leb m n ≡ b → leb (suc m) (suc n) ≡ leb m n
        by true e = let l = leb-true m n e in le-leb (suc m) (suc n) (omega (arith, l)) ∙ sym e
        by false e = let l = leb-false m n e in lt-leb (suc m) (suc n) (omega (arith, l)) ∙ sym e

pub few_above : (order : Option ℕ) (v : ℕ) (f : Family) → IsAbove v f → IsAbove v (few_of order f)
few_above None v f a = a
few_above (Some k) v f a = IsAbove-filter v (λ s. leb (length s) k) f a

pub upper_above : (order : Option ℕ) (v : ℕ) (f : Family) → IsAbove v f → IsAbove v (few_upper order f)
upper_above None v f a = a
upper_above (Some zero) v f a = tt
upper_above (Some (suc k)) v f a = IsAbove-filter v (λ s. leb (length s) k) f a

-- with one event fewer
pub upper_fewer : (order : Option ℕ) (f : Family) → (order ≡ Some 0 → ⊥) → few_upper order f ≡ few_of (one_fewer order) f
upper_fewer None f n = refl
upper_fewer (Some zero) f n = absurd (n refl)
upper_fewer (Some (suc k)) f n =
    let e : suc k - 1 ≡ k = omega arith in ap (λ m. few_of (Some m) f) (sym e)

pub few_none : (order : Option ℕ) → few_of order [] ≡ []
few_none None = refl
few_none (Some k) = refl

pub few_empty : (order : Option ℕ) → few_of order ([] ∷ []) ≡ [] ∷ []
few_empty None = refl
few_empty (Some k) = ap (λ b. cond b ([] ∷ []) []) (leb-zero k)

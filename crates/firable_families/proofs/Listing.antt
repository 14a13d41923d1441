-- Families that list the sets with a property, and what filters and minimal sets then list.
use Rattle.std.proofs.Common.{◌≡◌, ℕ, zero, suc, ◌<◌, Bool, true, false, not, ◌&&◌, ◌||◌, List, [], ◌∷◌, Option, Some, filter, refl, sym, ap, ap₂, ◌∙◌, subst, arith, true≢false, Less}
use Rattle.std.specs.List.{AllByRecursion, list_any}
use Rattle.std.proofs.lemmas.Bool.{and_parts}
use Rattle.ar_base.specs.Lists.{Stands, IsOneOf}
use Rattle.ar_base.specs.Sets.{Ascends, Within, IsBefore}
use Rattle.ar_base.proofs.Truths.{not_true, true_not}
use Rattle.ar_firing.specs.Cuts.{IsLeast}
use Rattle.ar_firing.specs.Listed.{AreListed}
use Rattle.ar_firing.specs.Forest.{ModeTree}
use Rattle.ar_firing.proofs.LeastSets.{within_then}
use Rattle.ar_firing.proofs.OneListing.{ascending_same}
use Rattle.zdd_nodes.specs.Families.{Family, same, within, has, minimal}
use Rattle.zdd_nodes.specs.FamiliesInside.{order, IsInOrder, IsFamily}
use Rattle.zdd_nodes.proofs.Filters.{IsFamily-filter}
use Rattle.zdd_nodes.proofs.Laws.{same-true, same-refl, any_more, has-filter-yes}
use Rattle.zdd_nodes.proofs.Members.{within_law, same_law, order_law, has-filter}
use Rattle.zdd_nodes.proofs.Minimal.{witness, member_of, any_from}
use Rattle.firable_families.specs.FirableInside.{IsFirableUpTo, IsTrueUpTo, IsOfMembers, ListsLeastUpTo}

-- the family lists the sets with P
pub record Lists (P : List ℕ → Type 0) (f : Family) : Type 0 where
  pub is_family : IsFamily f
  pub sound : (s : List ℕ) → has f s ≡ true → P s
  pub whole : (s : List ℕ) → P s → (t : List ℕ) × (has f t ≡ true) × Within s t × Within t s

-- ---- places and members
pub stands_has : (f : Family) (k : ℕ) (s : List ℕ) → Stands f k s → has f s ≡ true
stands_has [] k s i = cc
stands_has (t ∷ f) zero s i = let e : t ≡ s = cc in ap (λ z. same s z || has f s) e ∙ ap (λ b. b || has f s) (same-refl s)
stands_has (t ∷ f) (suc k) s i = any_more (same s) t f (stands_has f k s i)

pub has_stands : (f : Family) (s : List ℕ) → has f s ≡ true → IsOneOf f s
has_stands [] s h = absurd (true≢false (sym h))
has_stands (t ∷ f) s h = step (has_stands f s) (same s t) refl
  where
    step : (has f s ≡ true → IsOneOf f s) → (b : Bool) → same s t ≡ b → IsOneOf (t ∷ f) s
    step ih true e = record { place = zero; stands = ap Some (sym (same-true s t e)) }
    step ih false e = let i = ih (ap (λ b. b || has f s) (sym e) ∙ h) in record { place = suc i.place; stands = i.stands }

-- ---- in order
before_at : (f : Family) → AllByRecursion Ascends f → IsInOrder f → (j k : ℕ) (s t : List ℕ) → j < k → Stands f j s
    → Stands f k t → IsBefore s t
before_at [] a o j k s t l i m = cc
before_at (u ∷ f) a o zero zero s t l i m = absurd (omega (arith, l))
before_at (u ∷ f) a o (suc j) zero s t l i m = absurd (omega (arith, l))
before_at (u ∷ f) a o (suc j) (suc k) s t l i m = before_at f a.1 o.1 j k s t (omega (arith, l)) i m
before_at (u ∷ f) a o zero (suc k) s t l i m =
    let e : u ≡ s = cc in
    let h = stands_has f k t m in
    let p = (order_law u t a.0 (member_of Ascends f t a.1 h)).0 (member_of (λ z. order u z ≡ Less) f t o.0 h) in
    subst (λ w. IsBefore w t) e p

in_order_at : (f : Family) → AllByRecursion Ascends f
    → ((j k : ℕ) (s t : List ℕ) → j < k → Stands f j s → Stands f k t → IsBefore s t) → IsInOrder f
in_order_at [] a h = tt
in_order_at (s ∷ f) a h = (
  later f a.1 (λ k t i. h zero (suc k) s t (omega arith) refl i),
  in_order_at f a.1
      (λ j k t u l i m. h (suc j) (suc k) t u (omega (arith, l)) i m),
)
  where
    later : (g : Family) → AllByRecursion Ascends g → ((k : ℕ) (t : List ℕ) → Stands g k t → IsBefore s t)
        → AllByRecursion (λ t. order s t ≡ Less) g
    later [] b c = tt
    later (t ∷ g) b c =
        let p = c zero t refl in (
          (order_law s t a.0 b.0).1 p,
          later g b.1 (λ k u i. c (suc k) u i),
        )

each_ascends : (f : Family) → ((k : ℕ) (s : List ℕ) → Stands f k s → Ascends s) → AllByRecursion Ascends f
each_ascends [] h = tt
each_ascends (s ∷ f) h = (h zero s refl, each_ascends f (λ k t i. h (suc k) t i))

pub lists_listed : {P : List ℕ → Type 0} {f : Family} → Lists P f → AreListed P f
lists_listed {f = f} l = record {
  ascend = λ k s i. member_of Ascends f s l.is_family.ascending (stands_has f k s i);
  sound = λ k s i. l.sound s (stands_has f k s i);
  whole = λ s p. let w = l.whole s p in (w.0, has_stands f w.0 w.1, w.2, w.3);
  in_order = before_at f l.is_family.ascending l.is_family.in_order;
}

pub listed_lists : {P : List ℕ → Type 0} {f : Family} → AreListed P f → Lists P f
listed_lists {f = f} l =
    let a = each_ascends f l.ascend in
    record {
      is_family = record { ascending = a; in_order = in_order_at f a l.in_order };
      sound = λ s h. let i = has_stands f s h in l.sound i.place s i.stands;
      whole = λ s p. let w = l.whole s p in (w.0, stands_has f w.1.place w.0 w.1.stands, w.2, w.3);
    }

pub lists_as : {P Q : List ℕ → Type 0} {f : Family} → ((s : List ℕ) → P s → Q s) → ((s : List ℕ) → Q s → P s)
    → Lists P f → Lists Q f
lists_as a b l = record { is_family = l.is_family; sound = λ s h. a s (l.sound s h); whole = λ s q. l.whole s (b s q) }

-- ---- filters
pub filter_part : (p : List ℕ → Bool) (f : Family) (s : List ℕ) → has (filter p f) s ≡ true
    → (has f s ≡ true) × (p s ≡ true)
filter_part p f s h = and_parts (has f s) (p s) (sym (has-filter p s f) ∙ h)

pub filter_lists : {P : List ℕ → Type 0} {f : Family} (p : List ℕ → Bool) → IsOfMembers p → Lists P f
    → Lists (λ s. P s × (p s ≡ true)) (filter p f)
filter_lists {f = f} p members l = record {
  is_family = IsFamily-filter p f l.is_family;
  sound = λ s h. let r = filter_part p f s h in (l.sound s r.0, r.1);
  whole = λ s q. let w = l.whole s q.0 in (w.0, has-filter-yes p w.0 f (sym (members.same s w.0 w.2 w.3) ∙ q.1) w.1, w.2, w.3);
}

-- ---- minimal sets
pub within_is : (s t : List ℕ) → within s t ≡ true → Within s t
within_is s t h = record { each = (within_law s t).0 h }

pub is_within : (s t : List ℕ) → Within s t → within s t ≡ true
is_within s t w = (within_law s t).1 w.each

pub minimal_lists : {P : List ℕ → Type 0} {f : Family} → Lists P f → Lists (IsLeast P) (minimal f)
unfolding minimal
minimal_lists {P = P} {f = f} l = record {
  is_family = IsFamily-filter (λ s. not (list_any (proper s) f)) f l.is_family;
  sound = least_so;
  whole = listed_so;
}
  where
    proper : List ℕ → List ℕ → Bool
    proper s t = within t s && not (same t s)

    least_so : (s : List ℕ) → has (filter (λ s. not (list_any (proper s) f)) f) s ≡ true → IsLeast P s
    least_so s h =
        let r = filter_part (λ s. not (list_any (proper s) f)) f s h in
        record {
          has = l.sound s r.0;
          least = λ part w p.
              let x = l.whole part p in
              at r.1 x.0 x.1 (within_then x.3 w) part x.3 (same x.0 s) refl;
        }
      where
        at : not (list_any (proper s) f) ≡ true → (t : List ℕ) → has f t ≡ true → Within t s → (part : List ℕ)
            → Within t part → (b : Bool) → same t s ≡ b → Within s part
        at n t h w part v true e = subst (λ z. Within z part) (same-true t s e) v
        at n t h w part v false e = absurd
            (not_true (list_any (proper s) f) n
            (any_from (proper s) f t h (ap₂ (λ a b. a && not b) (is_within t s w) e)))

    listed_so : (s : List ℕ) → IsLeast P s
        → (t : List ℕ) × (has (filter (λ s. not (list_any (proper s) f)) f) t ≡ true) × Within s t × Within t s
    listed_so s k =
        let x = l.whole s k.has in (
          x.0,
          has-filter-yes (λ s. not (list_any (proper s) f)) x.0 f
              (true_not (list_any (proper x.0) f) (none x.0 x.1 x.2 x.3)) x.1,
          x.2,
          x.3,
        )
      where
        none : (t : List ℕ) → has f t ≡ true → Within s t → Within t s → list_any (proper t) f ≡ true → ⊥
        none t h v w y =
            let u = witness (proper t) f y in
            let p = and_parts (within u.set t) (not (same u.set t)) u.passes in
            let ut = within_is u.set t p.0 in
            let su = k.least u.set (within_then ut w) (l.sound u.set u.in_family) in
            let e = ascending_same u.set t (member_of Ascends f u.set l.is_family.ascending u.in_family)
            (member_of Ascends f t l.is_family.ascending h) ut (within_then w su) in
            not_true (same u.set t) p.1 ((same_law u.set t).1 e)

-- ---- the answer
pub true_lists : (order : Option ℕ) (trees : List ModeTree) (test : List ℕ → Bool) → IsOfMembers test → (all : Family)
    → AreListed (IsFirableUpTo order trees) all → Lists (IsTrueUpTo order trees test) (filter test all)
true_lists order trees test members all l =
    lists_as (λ s p. record { is_firable = p.0; holds = p.1 }) (λ s q. (q.is_firable, q.holds))
    (filter_lists test members (listed_lists l))

-- the minimal sets of the family of a test are listed as the least firable sets at which it is true
pub least_listed : (order : Option ℕ) (trees : List ModeTree) (test : List ℕ → Bool) → IsOfMembers test → (all : Family)
    → AreListed (IsFirableUpTo order trees) all → ListsLeastUpTo order trees test (minimal (filter test all))
least_listed order trees test members all l = lists_listed (minimal_lists (true_lists order trees test members all l))

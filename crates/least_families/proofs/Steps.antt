-- Steps of unions, products and small sets over a store that grows.
use Rattle.std.proofs.Common.{◌≡◌, ◌≢◌, ◌<◌, ◌≤◌, ◌+◌, ◌-◌, ◌⊎◌, inl, inr, ⊎_elim, ℕ, zero, suc, Bool, true, false, ◌&&◌, ◌||◌, not, List, [], ◌∷◌, length, Option, Some, None, refl, sym, ap, ap₂, ◌∙◌, subst, arith, true≢false}
use Rattle.ar_base.specs.Lists.{IsOneOf}
use Rattle.ar_firing.specs.Cuts.{HasAtMost}
use Rattle.ar_firing.specs.CutsInside.{UpTo}
use Rattle.zdd_nodes.specs.Families.{Family, has, same, within, without}
use Rattle.zdd_nodes.specs.FamiliesInside.{node, IsAbove}
use Rattle.zdd_nodes.proofs.Laws.{same-refl, IsAbove-without}
use Rattle.zdd_nodes.specs.Nodes.{NodeId, Stored, at, family, IsFamilyNumber, IsNode, IsSoundStore}
use Rattle.diagram_steps.specs.Putting.{Extends}
use Rattle.diagram_steps.proofs.Growing.{extends_then, kept, still}
use Rattle.least_families.specs.declared.halves.Halves.{Halves}
use Rattle.least_families.specs.Least.{covers, AreIncomparable, AreLeast, AreLeastUpTo}
use Rattle.least_families.specs.Halves.{AreLeastHalves}
use Rattle.least_families.specs.declared.memo.Operation.TheVariants.{Union, Product, Few}
use Rattle.least_families.specs.Held.{IsLeastResult, IsUnionKnown}
use Rattle.least_families.specs.Kept.{IsOperand, IsLeastOf}
use Rattle.least_families.proofs.Covering.{covers_self, fewer, up_to_none}
use Rattle.least_families.proofs.Least.{apart_lower, apart_upper}
use Rattle.least_families.proofs.Upper.{union_node, union_above, product_node, product_above, upper_above, few_node, few_above, none_spent}

-- ---- numbers of a store that grows
pub operand_kept : (s t : Stored) (n : ℕ) → Extends s t → IsOperand s n → IsOperand t n
operand_kept s t n g o = record {
  in_store = still s t n g o.in_store;
  apart = subst AreIncomparable (sym (kept s t n g o.in_store)) o.apart;
}

pub least_kept : (order : Option ℕ) (test : List ℕ → Bool) (s t : Stored) (n : ℕ) → Extends s t
    → IsLeastOf order test s n → IsLeastOf order test t n
least_kept order test s t n g l = record {
  in_store = still s t n g l.in_store;
  least = subst (AreLeastUpTo order test) (sym (kept s t n g l.in_store)) l.least;
}

pub operand_of : (order : Option ℕ) (test : List ℕ → Bool) (s : Stored) (n : ℕ) → IsLeastOf order test s n → IsOperand s n
operand_of order test s n l = record { in_store = l.in_store; apart = l.least.apart }

pub union_old : (order : Option ℕ) (s t u : Stored) (f g n : ℕ) → Extends s t → IsFamilyNumber s f → IsFamilyNumber s g
    → IsLeastOf order (λ x. covers (family t f) x || covers (family t g) x) u n
    → IsLeastOf order (λ x. covers (family s f) x || covers (family s g) x) u n
union_old order s t u f g n e a b l =
    subst (λ y. IsLeastOf order (λ x. covers y x || covers (family s g) x) u n) (kept s t f e a)
    (subst (λ y. IsLeastOf order (λ x. covers (family t f) x || covers y x) u n) (kept s t g e b) l)

pub product_old : (order : Option ℕ) (s t u : Stored) (f g n : ℕ) → Extends s t → IsFamilyNumber s f → IsFamilyNumber s g
    → IsLeastOf order (λ x. covers (family t f) x && covers (family t g) x) u n
    → IsLeastOf order (λ x. covers (family s f) x && covers (family s g) x) u n
product_old order s t u f g n e a b l =
    subst (λ y. IsLeastOf order (λ x. covers y x && covers (family s g) x) u n) (kept s t f e a)
    (subst (λ y. IsLeastOf order (λ x. covers (family t f) x && covers y x) u n) (kept s t g e b) l)

pub few_old : (order : Option ℕ) (s t u : Stored) (f n : ℕ) → Extends s t → IsFamilyNumber s f
    → IsLeastOf order (covers (family t f)) u n → IsLeastOf order (covers (family s f)) u n
few_old order s t u f n e a l = subst (λ y. IsLeastOf order (covers y) u n) (kept s t f e a) l

-- ---- halves
module _ (s : Stored) (f g : ℕ) (h : Halves) (cut : AreLeastHalves s.families f g h) where
  pub f0_operand : IsOperand s f → IsOperand s h.f0.n
  f0_operand o = record {
    in_store = cut.f0_in;
    apart = apart_lower h.event.n (family s h.f0.n) (family s h.f1.n) (subst AreIncomparable cut.f_is o.apart);
  }

  pub f1_operand : IsOperand s f → IsOperand s h.f1.n
  f1_operand o = record {
    in_store = cut.f1_in;
    apart = apart_upper h.event.n (family s h.f0.n) (family s h.f1.n) cut.f0_above cut.f1_above
        (subst AreIncomparable cut.f_is o.apart);
  }

  pub g0_operand : IsOperand s g → IsOperand s h.g0.n
  g0_operand o = record {
    in_store = cut.g0_in;
    apart = apart_lower h.event.n (family s h.g0.n) (family s h.g1.n) (subst AreIncomparable cut.g_is o.apart);
  }

  pub g1_operand : IsOperand s g → IsOperand s h.g1.n
  g1_operand o = record {
    in_store = cut.g1_in;
    apart = apart_upper h.event.n (family s h.g0.n) (family s h.g1.n) cut.g0_above cut.g1_above
        (subst AreIncomparable cut.g_is o.apart);
  }

-- numbers that come to less
pub falls : (m n t : ℕ) → m < n → n ≡ t → m < t
falls m n t h e = omega arith

-- ---- small families
some_set : (f : Family) → f ≢ [] → (t : List ℕ) × (has f t ≡ true)
some_set [] n = absurd (n refl)
some_set (t ∷ f) n = (t, ap (λ b. b || has f t) (same-refl t))

pub none_least : (order : Option ℕ) (test : List ℕ → Bool) (f : Family) → f ≡ []
    → ((s : List ℕ) → UpTo order s → test s ≡ false) → AreLeastUpTo order test f
none_least order test f e h = subst (AreLeastUpTo order test) (sym e) (record {
  apart = record { least = λ s t i j w. absurd (true≢false (sym i)) };
  each = λ s i. absurd (true≢false (sym i));
  at = λ s u. sym (h s u);
})

-- the sets of a family of which no set lies within another, where each is small
pub itself_least : (order : Option ℕ) (f : Family) → AreIncomparable f → ((s : List ℕ) → has f s ≡ true → UpTo order s)
    → AreLeastUpTo order (covers f) f
itself_least order f a e = record { apart = a; each = e; at = λ s u. refl }

empty_up_to : (order : Option ℕ) → UpTo order []
empty_up_to None = tt
empty_up_to (Some k) = record { list = []; within = record { each = λ e o. o }; few = omega arith }

pub small_least : (order : Option ℕ) (fs : List Family) (n : ℕ) → n < 2 → AreIncomparable (at fs n)
    → AreLeastUpTo order (covers (at fs n)) (at fs n)
small_least order fs zero h a = itself_least order (at fs 0) a (λ s i. absurd (true≢false (sym i)))
small_least order fs (suc zero) h a = itself_least order (at fs 1) a (λ s i. by s i)
  where
    by : (s : List ℕ) → has ([] ∷ []) s ≡ true → UpTo order s
    by [] i = empty_up_to order
    by (x ∷ s) i = absurd (true≢false (sym i))
small_least order fs (suc (suc n)) h a = absurd (omega (arith, h))

-- no set without members has one of a node's sets in it
pub spent : (fs : List Family) (n event lo hi : ℕ) → IsNode fs n event lo hi → AreIncomparable (at fs n) → (s : List ℕ)
    → UpTo (Some 0) s → covers (at fs n) s ≡ false
spent fs n event lo hi i a s u =
    let t = some_set (at fs hi) i.hi_some in
    subst (λ x. covers x s ≡ false) (sym i.is)
    (none_spent event (at fs lo) (at fs hi) [] [] i.lo_above (subst AreIncomparable i.is a) t.0 t.1 s u)

-- ---- unions that are known
pub union_one : (s : Stored) (f g n : ℕ) → IsOperand s f → IsOperand s g → IsUnionKnown f g n
    → IsLeastOf None (λ x. covers (family s f) x || covers (family s g) x) s n
union_one s f g n a b k = ⊎_elim
    (λ e. by n k (subst (IsOperand s) (sym e) a))
    (λ e. by n k (subst (IsOperand s) (sym e) b))
    k.one
  where
    by : (n : ℕ) → IsUnionKnown f g n → IsOperand s n
        → IsLeastOf None (λ x. covers (family s f) x || covers (family s g) x) s n
    by n k o = record {
      in_store = o.in_store;
      least = record { apart = o.apart; each = λ x i. tt; at = λ x u. k.at s.families x };
    }

-- ---- a step of a union
module _ (s t u v : Stored) (f g : ℕ) (h : Halves) (cut : AreLeastHalves s.families f g h) (lo with hi : ℕ)
    (g1 : Extends s t) (g2 : Extends t u) (g3 : Extends u v)
    (l : IsLeastOf None (λ x. covers (family s h.f0.n) x || covers (family s h.g0.n) x) t lo)
    (k : IsLeastOf None (λ x. covers (family t h.f1.n) x || covers (family t h.g1.n) x) u with)
    (is : family v hi ≡ without (family u with) (family u lo)) where
  union_lower : IsLeastOf None (λ x. covers (family s h.f0.n) x || covers (family s h.g0.n) x) v lo
  union_lower = least_kept None (λ x. covers (family s h.f0.n) x || covers (family s h.g0.n) x) t v lo
      (extends_then t u v g2 g3) l

  union_upper : IsLeastOf None (λ x. covers (family s h.f1.n) x || covers (family s h.g1.n) x) u with
  union_upper = union_old None s t u h.f1.n h.g1.n with g1 cut.f1_in cut.g1_in k

  pub union_lo_above : IsAbove h.event.n (family v lo)
  union_lo_above = union_above None h.event.n (family s h.f0.n) (family s h.g0.n) (family v lo) cut.f0_above
      cut.g0_above union_lower.least

  pub union_hi_above : IsAbove h.event.n (family v hi)
  union_hi_above = subst (IsAbove h.event.n) (sym is) (IsAbove-without h.event.n (family u with) (family u lo)
      (union_above None h.event.n (family s h.f1.n) (family s h.g1.n) (family u with) cut.f1_above cut.g1_above
      union_upper.least))

  pub union_made : (z : Stored) (n : ℕ) → IsFamilyNumber z n → family z n ≡ node h.event.n (family v lo) (family v hi)
      → IsLeastOf None (λ x. covers (family s f) x || covers (family s g) x) z n
  union_made z n i e = record {
    in_store = i;
    least =
        let same : family z n ≡ node h.event.n (family v lo) (without (family u with) (family v lo)) =
        e ∙ ap (node h.event.n (family v lo)) (is
        ∙ ap (without (family u with)) (sym (kept u v lo g3 (still t u lo g2 l.in_store)))) in
        subst (AreLeastUpTo None (λ x. covers (family s f) x || covers (family s g) x)) (sym same)
        (subst (λ y. AreLeastUpTo None (λ x. covers y x || covers (family s g) x)
        (node h.event.n (family v lo) (without (family u with) (family v lo)))) (sym cut.f_is)
        (subst (λ y. AreLeastUpTo None (λ x. covers (node h.event.n (family s h.f0.n) (family s h.f1.n)) x || covers y x)
        (node h.event.n (family v lo) (without (family u with) (family v lo)))) (sym cut.g_is)
        (union_node h.event.n (family s h.f0.n) (family s h.f1.n) (family s h.g0.n) (family s h.g1.n) (family v lo)
        (family u with) cut.f0_above cut.f1_above cut.g0_above cut.g1_above union_lower.least union_upper.least)));
  }

-- ---- a step of what is small
module _ (s t u : Stored) (order : Option ℕ) (f event f0 f1 lo hi : ℕ) (i : IsNode s.families f event f0 f1)
    (f_in : IsFamilyNumber s f) (left : order ≡ Some 0 → ⊥) (g1 : Extends s t) (g2 : Extends t u)
    (l : IsLeastOf order (covers (family s f0)) t lo) (k : IsLeastOf (fewer order) (covers (family t f1)) u hi) where
  few_lower : IsLeastOf order (covers (family s f0)) u lo
  few_lower = least_kept order (covers (family s f0)) t u lo g2 l

  few_higher : IsLeastOf (fewer order) (covers (family s f1)) u hi
  few_higher = few_old (fewer order) s t u f1 hi g1 (let b = i.hi_before in omega (arith, b, f_in)) k

  pub few_lo_above : IsAbove event (family u lo)
  few_lo_above = few_above order event (family s f0) (family u lo) i.lo_above few_lower.least

  pub few_hi_above : IsAbove event (family u hi)
  few_hi_above = few_above (fewer order) event (family s f1) (family u hi) i.hi_above few_higher.least

  pub few_made : (z : Stored) (n : ℕ) → AreIncomparable (family s f) → IsFamilyNumber z n
      → family z n ≡ node event (family u lo) (family u hi) → IsLeastOf order (covers (family s f)) z n
  few_made z n a j e = record {
    in_store = j;
    least = subst (AreLeastUpTo order (covers (family s f))) (sym e)
        (subst (λ y. AreLeastUpTo order (covers y) (node event (family u lo) (family u hi))) (sym i.is)
        (few_node event (family s f0) (family s f1) [] [] order left (family u lo) (family u hi) i.lo_above i.hi_above
        (subst AreIncomparable i.is a) few_lower.least few_higher.least));
  }

pub few_operands : (s t : Stored) (f event f0 f1 : ℕ) → IsNode s.families f event f0 f1 → IsOperand s f → Extends s t
    → IsOperand s f0 × IsOperand t f1
few_operands s t f event f0 f1 i o g = (
  record {
    in_store = let b = i.lo_before in let h = o.in_store in omega (arith, b, h);
    apart = apart_lower event (family s f0) (family s f1) (subst AreIncomparable i.is o.apart);
  },
  operand_kept s t f1 g (record {
    in_store = let b = i.hi_before in let h = o.in_store in omega (arith, b, h);
    apart = apart_upper event (family s f0) (family s f1) i.lo_above i.hi_above (subst AreIncomparable i.is o.apart);
  }),
)

-- ---- a step of a product
-- the families that a product's node is made of
pub record AreParts (order : Option ℕ) (f0 f1 g0 g1 lo both first second either h : Family) : Type 0 where
  pub l : AreLeastUpTo order (λ s. covers f0 s && covers g0 s) lo
  pub p11 : AreLeastUpTo (fewer order) (λ s. covers f1 s && covers g1 s) both
  pub p10 : AreLeastUpTo (fewer order) (λ s. covers f1 s && covers g0 s) first
  pub p01 : AreLeastUpTo (fewer order) (λ s. covers f0 s && covers g1 s) second
  pub e : AreLeastUpTo None (λ s. covers first s || covers second s) either
  pub k : AreLeastUpTo None (λ s. covers both s || covers either s) h

module _ (order less : Option ℕ) (less_is : less ≡ fewer order) (s t0 t1 t2 t3 t4 t5 : Stored) (f g : ℕ) (h : Halves)
    (cut : AreLeastHalves s.families f g h) (lo both first second either with : ℕ) (g0 : Extends s t0) (g1 : Extends t0 t1)
    (g2 : Extends t1 t2) (g3 : Extends t2 t3) (g4 : Extends t3 t4) (g5 : Extends t4 t5)
    (l : IsLeastOf order (λ x. covers (family s h.f0.n) x && covers (family s h.g0.n) x) t0 lo)
    (l11 : IsLeastOf less (λ x. covers (family t0 h.f1.n) x && covers (family t0 h.g1.n) x) t1 both)
    (l10 : IsLeastOf less (λ x. covers (family t1 h.f1.n) x && covers (family t1 h.g0.n) x) t2 first)
    (l01 : IsLeastOf less (λ x. covers (family t2 h.f0.n) x && covers (family t2 h.g1.n) x) t3 second)
    (le : IsLeastOf None (λ x. covers (family t3 first) x || covers (family t3 second) x) t4 either)
    (lk : IsLeastOf None (λ x. covers (family t4 both) x || covers (family t4 either) x) t5 with) where
  to1 : Extends s t1
  to1 = extends_then s t0 t1 g0 g1

  to2 : Extends s t2
  to2 = extends_then s t1 t2 to1 g2

  from1 : Extends t1 t4
  from1 = extends_then t1 t2 t4 g2 (extends_then t2 t3 t4 g3 g4)

  from0 : Extends t0 t5
  from0 = extends_then t0 t1 t5 g1 (extends_then t1 t4 t5 from1 g5)

  pub parts : AreParts order (family s h.f0.n) (family s h.f1.n) (family s h.g0.n) (family s h.g1.n) (family t5 lo)
      (family t4 both) (family t3 first) (family t3 second) (family t4 either) (family t5 with)
  parts = record {
    l = (least_kept order (λ x. covers (family s h.f0.n) x && covers (family s h.g0.n) x) t0 t5 lo from0 l).least;
    p11 = subst (λ o. AreLeastUpTo o (λ x. covers (family s h.f1.n) x && covers (family s h.g1.n) x) (family t4 both))
        less_is
        (least_kept less (λ x. covers (family s h.f1.n) x && covers (family s h.g1.n) x) t1 t4 both from1
        (product_old less s t0 t1 h.f1.n h.g1.n both g0 cut.f1_in cut.g1_in l11)).least;
    p10 = subst (λ o. AreLeastUpTo o (λ x. covers (family s h.f1.n) x && covers (family s h.g0.n) x) (family t3 first))
        less_is
        (least_kept less (λ x. covers (family s h.f1.n) x && covers (family s h.g0.n) x) t2 t3 first g3
        (product_old less s t1 t2 h.f1.n h.g0.n first to1 cut.f1_in cut.g0_in l10)).least;
    p01 = subst (λ o. AreLeastUpTo o (λ x. covers (family s h.f0.n) x && covers (family s h.g1.n) x) (family t3 second))
        less_is
        (product_old less s t2 t3 h.f0.n h.g1.n second to2 cut.f0_in cut.g1_in l01).least;
    e = le.least;
    k = lk.least;
  }

  module _ (left : order ≡ Some 0 → ⊥) (v : Stored) (hi : ℕ) (g6 : Extends t5 v)
      (is : family v hi ≡ without (family t5 with) (family t5 lo)) where
    low_same : family v lo ≡ family t5 lo
    low_same = kept t5 v lo g6 (still t0 t5 lo from0 l.in_store)

    pub product_lo_above : IsAbove h.event.n (family v lo)
    product_lo_above = subst (IsAbove h.event.n) (sym low_same) (product_above order h.event.n (family s h.f0.n)
        (family s h.g0.n) (family t5 lo) cut.f0_above cut.g0_above parts.l)

    pub product_hi_above : IsAbove h.event.n (family v hi)
    product_hi_above = subst (IsAbove h.event.n) (sym is) (IsAbove-without h.event.n (family t5 with) (family t5 lo)
        (upper_above h.event.n (family s h.f0.n) (family s h.f1.n) (family s h.g0.n) (family s h.g1.n) order left
        (family t5 lo) (family t4 both) (family t3 first) (family t3 second) (family t4 either) (family t5 with)
        cut.f0_above cut.f1_above cut.g0_above cut.g1_above parts.l parts.p11 parts.p10 parts.p01 parts.e parts.k))

    pub product_made : (z : Stored) (n : ℕ) → IsFamilyNumber z n
        → family z n ≡ node h.event.n (family v lo) (family v hi)
        → IsLeastOf order (λ x. covers (family s f) x && covers (family s g) x) z n
    product_made z n i e = record {
      in_store = i;
      least =
          let made = node h.event.n (family t5 lo) (without (family t5 with) (family t5 lo)) in
          let same : family z n ≡ made = e ∙ ap₂ (node h.event.n) low_same is in
          subst (AreLeastUpTo order (λ x. covers (family s f) x && covers (family s g) x)) (sym same)
          (subst (λ y. AreLeastUpTo order (λ x. covers y x && covers (family s g) x) made) (sym cut.f_is)
          (subst (λ y. AreLeastUpTo order (λ x. covers (node h.event.n (family s h.f0.n) (family s h.f1.n)) x && covers y x)
          made) (sym cut.g_is)
          (product_node h.event.n (family s h.f0.n) (family s h.f1.n) (family s h.g0.n) (family s h.g1.n) order left
          (family t5 lo) (family t4 both) (family t3 first) (family t3 second) (family t4 either) (family t5 with)
          cut.f0_above cut.f1_above cut.g0_above cut.g1_above parts.l parts.p11 parts.p10 parts.p01 parts.e parts.k)));
    }

-- ---- what is held of a step
pub few_result : (s z : Stored) (f : NodeId) (most n : ℕ) → Extends s z → IsFamilyNumber s f.n
    → IsLeastOf (Some most) (covers (family s f.n)) z n → IsLeastResult z.families (Few f most) n
few_result s z f most n g i l = record {
  operands = still s z f.n g i;
  in_store = l.in_store;
  is = subst (λ y. AreLeastUpTo (Some most) (covers y) (family z n)) (sym (kept s z f.n g i)) l.least;
}

pub union_result : (s z : Stored) (f g : NodeId) (n : ℕ) → Extends s z → IsFamilyNumber s f.n → IsFamilyNumber s g.n
    → IsLeastOf None (λ x. covers (family s f.n) x || covers (family s g.n) x) z n → IsLeastResult z.families (Union f g) n
union_result s z f g n e i j l = record {
  operands = (still s z f.n e i, still s z g.n e j);
  in_store = l.in_store;
  is = subst (λ y. AreLeastUpTo None (λ x. covers y x || covers (family z g.n) x) (family z n)) (sym (kept s z f.n e i))
      (subst (λ y. AreLeastUpTo None (λ x. covers (family s f.n) x || covers y x) (family z n)) (sym (kept s z g.n e j))
      l.least);
}

pub product_result : (s z : Stored) (f g : NodeId) (order : Option ℕ) (n : ℕ) → Extends s z → IsFamilyNumber s f.n
    → IsFamilyNumber s g.n → IsLeastOf order (λ x. covers (family s f.n) x && covers (family s g.n) x) z n
    → IsLeastResult z.families (Product f g order) n
product_result s z f g order n e i j l = record {
  operands = (still s z f.n e i, still s z g.n e j);
  in_store = l.in_store;
  is = subst (λ y. AreLeastUpTo order (λ x. covers y x && covers (family z g.n) x) (family z n)) (sym (kept s z f.n e i))
      (subst (λ y. AreLeastUpTo order (λ x. covers (family s f.n) x && covers y x) (family z n)) (sym (kept s z g.n e j))
      l.least);
}

-- ---- products without a step
pub product_zero : (order : Option ℕ) (s : Stored) (f g n : ℕ) → (f ≡ 0) ⊎ (g ≡ 0) → n ≡ 0
    → IsLeastOf order (λ x. covers (family s f) x && covers (family s g) x) s n
product_zero order s f g n z e = record {
  in_store = omega (arith, e);
  least = none_least order (λ x. covers (family s f) x && covers (family s g) x) (family s n) (ap (family s) e) (λ x u.
      ⊎_elim
      (λ q. ap (λ m. covers (family s m) x && covers (family s g) x) q)
      (λ q. ap (λ m. covers (family s f) x && covers (family s m) x) q ∙ and_false (covers (family s f) x))
      z);
}
  where
    and_false : (b : Bool) → (b && false) ≡ false
    and_false true = refl
    and_false false = refl

pub product_spent : (s : Stored) (f g n : ℕ) → IsSoundStore s → IsOperand s f → 2 ≤ f → n ≡ 0
    → IsLeastOf (Some 0) (λ x. covers (family s f) x && covers (family s g) x) s n
product_spent s f g n k o two e =
    let i = k.nodes f two o.in_store in
    record {
      in_store = omega (arith, e);
      least = none_least (Some 0) (λ x. covers (family s f) x && covers (family s g) x) (family s n) (ap (family s) e)
          (λ x u. ap (λ b. b && covers (family s g) x)
          (spent s.families f i.event i.lo i.hi i.halves o.apart x u));
    }

-- Least sets node by node.
use Rattle.std.proofs.Common.{◌≡◌, ◌<◌, ℕ, Bool, true, false, ◌&&◌, ◌||◌, List, [], ◌∷◌, Option, Some, None, refl, sym, ap, ap₂, ◌∙◌, subst, ⊎_elim, true≢false}
use Rattle.std.proofs.lemmas.Bool.{or_cases}
use Rattle.ar_base.specs.Lists.{IsOneOf}
use Rattle.ar_base.proofs.Standing.{one_first}
use Rattle.ar_firing.specs.CutsInside.{UpTo}
use Rattle.zdd_nodes.specs.Families.{Family, holds, within, has, without}
use Rattle.zdd_nodes.specs.FamiliesInside.{node, IsAbove}
use Rattle.zdd_nodes.proofs.Laws.{IsAbove-without, within-more, holds-above}
use Rattle.zdd_nodes.proofs.Members.{within_law}
use Rattle.zdd_nodes.proofs.Minimal.{within-through}
use Rattle.diagram_steps.proofs.PutIn.{Above, has_lower, has_upper, above_each}
use Rattle.least_families.specs.Least.{covers, AreIncomparable, AreLeast, AreLeastUpTo}
use Rattle.least_families.proofs.Covering.{covers_from, covers_self, covered, covers_more, covers_node, over, over_within, covers_over, fewer, up_to_part, up_to_over, up_to_with, up_to_more, up_to_none}
use Rattle.least_families.proofs.Least.{least_within, least_above, least_node, least_without}

or_right : (b : Bool) → (b || true) ≡ true
or_right true = refl
or_right false = refl

-- ---- what is above v
pub union_above : (order : Option ℕ) (v : ℕ) (f g r : Family) → IsAbove v f → IsAbove v g
    → AreLeastUpTo order (λ s. covers f s || covers g s) r → IsAbove v r
union_above order v f g r a b l = least_above r v l (λ s u. up_to_part order (over v s) s (over_within v s) u)
    (λ s t. ap₂ (λ x y. x || y) (covers_over v f s a) (covers_over v g s b) ∙ t)

pub product_above : (order : Option ℕ) (v : ℕ) (f g r : Family) → IsAbove v f → IsAbove v g
    → AreLeastUpTo order (λ s. covers f s && covers g s) r → IsAbove v r
product_above order v f g r a b l = least_above r v l (λ s u. up_to_part order (over v s) s (over_within v s) u)
    (λ s t. ap₂ (λ x y. x && y) (covers_over v f s a) (covers_over v g s b) ∙ t)

pub few_above : (order : Option ℕ) (v : ℕ) (f r : Family) → IsAbove v f → AreLeastUpTo order (covers f) r → IsAbove v r
few_above order v f r a l = least_above r v l (λ s u. up_to_part order (over v s) s (over_within v s) u)
    (λ s t. covers_over v f s a ∙ t)

-- ---- unions
four_or : (a b c d : Bool) → ((a || b) || (c || d)) ≡ ((a || c) || (b || d))
four_or true b c d = refl
four_or false true c d = sym (or_right c)
four_or false false c d = refl

four_and : (a b c d : Bool) → ((a || b) && (c || d)) ≡ (((a && c) || ((a && d) || (b && c))) || (b && d))
four_and true true true d = refl
four_and true true false true = refl
four_and true true false false = refl
four_and true false true d = refl
four_and true false false true = refl
four_and true false false false = refl
four_and false true true d = refl
four_and false true false d = refl
four_and false false c d = refl

module _ (v : ℕ) (f0 f1 g0 g1 : Family) where
  pub union_node : (lo h : Family) → IsAbove v f0 → IsAbove v f1 → IsAbove v g0 → IsAbove v g1
      → AreLeastUpTo None (λ s. covers f0 s || covers g0 s) lo → AreLeastUpTo None (λ s. covers f1 s || covers g1 s) h
      → AreLeastUpTo None (λ s. covers (node v f0 f1) s || covers (node v g0 g1) s) (node v lo (without h lo))
  union_node lo h a0 a1 b0 b1 l k = least_without None
      (λ s. covers (node v f0 f1) s || covers (node v g0 g1) s) (λ s. covers f0 s || covers g0 s) v lo h
      (union_above None v f0 g0 lo a0 b0 l) (IsAbove-without v h lo (union_above None v f1 g1 h a1 b1 k)) l k.apart
      (λ t i. tt)
      (λ s u e. ap₂ (λ x y. x || y) (covers_node v f0 f1 s) (covers_node v g0 g1 s)
      ∙ ap (λ b. ((b && covers f1 s) || covers f0 s) || ((b && covers g1 s) || covers g0 s)) e)
      (λ s u e. ap₂ (λ x y. x || y) (covers_node v f0 f1 s) (covers_node v g0 g1 s)
      ∙ ap (λ b. ((b && covers f1 s) || covers f0 s) || ((b && covers g1 s) || covers g0 s)) e
      ∙ four_or (covers f1 s) (covers f0 s) (covers g1 s) (covers g0 s)
      ∙ ap₂ (λ x y. x || y) (sym (k.at s tt)) (sym (l.at s tt)))

  -- ---- products
  module _ (order : Option ℕ) (left : order ≡ Some 0 → ⊥) (lo both first second either h : Family) (a0 : IsAbove v f0)
      (a1 : IsAbove v f1) (b0 : IsAbove v g0) (b1 : IsAbove v g1)
      (l : AreLeastUpTo order (λ s. covers f0 s && covers g0 s) lo)
      (p11 : AreLeastUpTo (fewer order) (λ s. covers f1 s && covers g1 s) both)
      (p10 : AreLeastUpTo (fewer order) (λ s. covers f1 s && covers g0 s) first)
      (p01 : AreLeastUpTo (fewer order) (λ s. covers f0 s && covers g1 s) second)
      (e : AreLeastUpTo None (λ s. covers first s || covers second s) either)
      (k : AreLeastUpTo None (λ s. covers both s || covers either s) h) where
    pub upper_above : IsAbove v h
    upper_above = union_above None v both either h (product_above (fewer order) v f1 g1 both a1 b1 p11)
        (union_above None v first second either (product_above (fewer order) v f1 g0 first a1 b0 p10)
        (product_above (fewer order) v f0 g1 second a0 b1 p01) e) k

    few_by : (t w : List ℕ) → has h t ≡ true → within w t ≡ true → UpTo (fewer order) w
        → (covers both w || covers either w) ≡ true → UpTo order (v ∷ t)
    few_by t w i x u c = up_to_with order v t left (up_to_part (fewer order) t w (least_within h k t w i x tt c) u)

    few_either : (t : List ℕ) → has h t ≡ true → covers either t ≡ true → UpTo order (v ∷ t)
    few_either t i c = ⊎_elim
        (λ y. let w = covered first t y in
        few_by t w.set i w.passes (p10.each w.set w.in_family)
        (ap (λ b. covers both w.set || b)
        (e.at w.set tt ∙ ap (λ b. b || covers second w.set) (covers_self first w.set w.in_family))
        ∙ or_right (covers both w.set)))
        (λ y. let w = covered second t y in
        few_by t w.set i w.passes (p01.each w.set w.in_family)
        (ap (λ b. covers both w.set || b)
        (e.at w.set tt ∙ ap (λ b. covers first w.set || b) (covers_self second w.set w.in_family)
        ∙ or_right (covers first w.set))
        ∙ or_right (covers both w.set)))
        (or_cases (covers first t) (covers second t) (sym (e.at t tt) ∙ c))

    few_upper : (t : List ℕ) → has h t ≡ true → UpTo order (v ∷ t)
    few_upper t i = ⊎_elim
        (λ y. let w = covered both t y in
        few_by t w.set i w.passes (p11.each w.set w.in_family)
        (ap (λ b. b || covers either w.set) (covers_self both w.set w.in_family)))
        (λ y. few_either t i y)
        (or_cases (covers both t) (covers either t) (sym (k.at t tt) ∙ covers_self h t i))

    part_at : (f g r : Family) → IsAbove v f → IsAbove v g
        → AreLeastUpTo (fewer order) (λ s. covers f s && covers g s) r → (s : List ℕ) → UpTo order s
        → holds v s ≡ true → (covers f s && covers g s) ≡ covers r s
    part_at f g r a b p s u x =
        ap₂ (λ y z. y && z) (sym (covers_over v f s a)) (sym (covers_over v g s b))
        ∙ sym (p.at (over v s) (up_to_over order v s x u))
        ∙ covers_over v r s (product_above (fewer order) v f g r a b p)

    pub product_node : AreLeastUpTo order (λ s. covers (node v f0 f1) s && covers (node v g0 g1) s)
        (node v lo (without h lo))
    product_node = least_without order
        (λ s. covers (node v f0 f1) s && covers (node v g0 g1) s) (λ s. covers f0 s && covers g0 s) v lo h
        (product_above order v f0 g0 lo a0 b0 l) (IsAbove-without v h lo upper_above) l k.apart few_upper
        (λ s u x. ap₂ (λ y z. y && z) (covers_node v f0 f1 s) (covers_node v g0 g1 s)
        ∙ ap (λ b. ((b && covers f1 s) || covers f0 s) && ((b && covers g1 s) || covers g0 s)) x)
        (λ s u x. ap₂ (λ y z. y && z) (covers_node v f0 f1 s) (covers_node v g0 g1 s)
        ∙ ap (λ b. ((b && covers f1 s) || covers f0 s) && ((b && covers g1 s) || covers g0 s)) x
        ∙ four_and (covers f1 s) (covers f0 s) (covers g1 s) (covers g0 s)
        ∙ ap₂ (λ y z. y || z)
        (ap₂ (λ y z. y || z) (part_at f1 g1 both a1 b1 p11 s u x)
        (ap₂ (λ y z. y || z) (part_at f1 g0 first a1 b0 p10 s u x) (part_at f0 g1 second a0 b1 p01 s u x)
        ∙ sym (e.at s tt)) ∙ sym (k.at s tt))
        (sym (l.at s u)))

  -- ---- few members
  module _ (order : Option ℕ) (left : order ≡ Some 0 → ⊥) (lo hi : Family) (a0 : IsAbove v f0) (a1 : IsAbove v f1)
      (apart : AreIncomparable (node v f0 f1)) (l : AreLeastUpTo order (covers f0) lo)
      (k : AreLeastUpTo (fewer order) (covers f1) hi) where
    free : (t : List ℕ) → has hi t ≡ true → covers lo t ≡ true → ⊥
    free t i c =
        let u = k.each t i in
        let x = covered f0 t (sym (l.at t (up_to_more order t u)) ∙ c) in
        let y = covered f1 t (sym (k.at t u) ∙ covers_self hi t i) in
        let back = least_within hi k t y.set i y.passes (up_to_part (fewer order) y.set t y.passes u)
        (covers_self f1 y.set y.in_family) in
        let inside = within-through x.set t y.set x.passes back in
        let w = apart.least x.set (v ∷ y.set) (has_lower v f0 f1 x.set x.in_family)
        (has_upper v f0 f1 y.set a0 y.in_family) (wider x.set y.set (above_each v f0 x.set a0 x.in_family) inside) in
        not_held x.set (above_each v f0 x.set a0 x.in_family) (and_first _ _ w)
      where
        wider : (s t : List ℕ) → Above v s → within s t ≡ true → within s (v ∷ t) ≡ true
        wider s t a w = within-more v s t a ∙ w

        and_first : (a b : Bool) → (a && b) ≡ true → a ≡ true
        and_first true b h = refl
        and_first false b h = h

        not_held : (s : List ℕ) → Above v s → holds v s ≡ true → ⊥
        not_held s a h = true≢false (sym h ∙ holds-above v s a)

    pub few_node : AreLeastUpTo order (covers (node v f0 f1)) (node v lo hi)
    few_node = least_node order (covers (node v f0 f1)) (covers f0) v lo hi (few_above order v f0 lo a0 l)
        (few_above (fewer order) v f1 hi a1 k) l k.apart free
        (λ t i. up_to_with order v t left (k.each t i))
        (λ s u x. covers_node v f0 f1 s ∙ ap (λ b. (b && covers f1 s) || covers f0 s) x)
        (λ s u x. covers_node v f0 f1 s ∙ ap (λ b. (b && covers f1 s) || covers f0 s) x
        ∙ ap₂ (λ y z. y || z)
        (sym (covers_over v f1 s a1) ∙ sym (k.at (over v s) (up_to_over order v s x u))
        ∙ covers_over v hi s (few_above (fewer order) v f1 hi a1 k))
        (sym (l.at s u)))

  -- no set of no members has one in it, where there is one with v
  pub none_spent : IsAbove v f0 → AreIncomparable (node v f0 f1) → (t : List ℕ) → has f1 t ≡ true → (s : List ℕ)
      → UpTo (Some 0) s → covers (node v f0 f1) s ≡ false
  none_spent a0 apart t i s u = by (covers (node v f0 f1) s) refl
    where
      by : (b : Bool) → covers (node v f0 f1) s ≡ b → covers (node v f0 f1) s ≡ false
      by false e = e
      by true e =
          let w = covered (node v f0 f1) s e in
          let none = λ (x : ℕ) (o : IsOneOf w.set x). up_to_none s x u ((within_law w.set s).0 w.passes x o) in
          let low = (within_law w.set (v ∷ t)).1 (λ x o. absurd (none x o)) in
          let back = apart.least w.set (v ∷ t) w.in_family (has_upper v f0 f1 t a0 i) low in
          absurd (none v ((within_law (v ∷ t) w.set).0 back v (one_first v t)))

-- The halves of a family, from those of its own halves.
use Rattle.std.proofs.Common.{◌≡◌, ◌≢◌, ℕ, ◌≤◌, Bool, true, false, not, ◌||◌, eqb, List, [], ◌∷◌, refl, sym, ap, ap₂, ◌∙◌, subst, arith, eqb-true, true≢false, cond, map, filter, ◌++◌, ◌<◌, ◌⊎◌, inl, inr}
use Rattle.std.specs.List.{AllByRecursion, list_any}
use Rattle.std.proofs.lemmas.Bool.{cases_lt}
use Rattle.ar_base.proofs.Sets.{ascends_rest}
use Rattle.zdd_nodes.specs.Families.{Family, holds, minimal}
use Rattle.zdd_nodes.specs.FamiliesInside.{node, IsAbove}
use Rattle.zdd_nodes.specs.Sections.{section, IsCounted, IsPartOfBoth, IsFirstEvent, upper, lower, IsHalf, IsSetBelow}
use Rattle.zdd_nodes.specs.Sections.IsHalf.{of_minimal, of_halves}
use Rattle.zdd_nodes.proofs.Ascending.{ascends_nil, ascends_cons, ascends_head}
use Rattle.zdd_nodes.proofs.Laws.{IsAbove_set, IsAbove-node, above_less, eqb-refl, eqb-above, filter-node, filter-none, filter-all, every, each_of, holds_here, holds-above, minimal-nil}
use Rattle.zdd_nodes.proofs.Sections.{AtLeast, section-whole, section-low, section-above, section-with, section-without, deep, counted_nil}
use Rattle.zdd_nodes.proofs.Minimal.{witness, member_of}

holds_bound : (v x : ℕ) (s : List ℕ) → AtLeast v s → holds x s ≡ true → v ≤ x
holds_bound v x [] a h = absurd (true≢false (sym h))
holds_bound v x (y ∷ s) a h = step (holds_bound v x s a.1) (eqb x y) refl
  where
    step : (holds x s ≡ true → v ≤ x) → (b : Bool) → eqb x y ≡ b → v ≤ x
    step ih true e = subst (λ z. v ≤ z) (sym (eqb-true x y e)) a.0
    step ih false e = ih (ap (λ b. b || holds x s) (sym e) ∙ h)

at_least_set : (v : ℕ) (s : List ℕ) → IsAbove_set v s → AtLeast v s
at_least_set v [] a = tt
at_least_set v (x ∷ s) a = (omega (arith, a.0), at_least_set v s a.1)

at_least_node : (v : ℕ) (f0 f1 : Family) → IsAbove v f0 → IsAbove v f1 → AllByRecursion (AtLeast v) (node v f0 f1)
at_least_node v f0 [] a b = each_of (IsAbove_set v) (AtLeast v) (at_least_set v) f0 a
at_least_node v f0 (s ∷ f1) a b = ((omega arith, at_least_set v s b.0), at_least_node v f0 f1 a b.1)

-- v is not in a set above it, and is taken off again where it was added
pub keeps_above : (v : ℕ) (s : List ℕ) → IsAbove_set v s → filter (λ x. not (eqb v x)) s ≡ s
keeps_above v [] a = refl
keeps_above v (x ∷ s) a = ap (λ b. cond (not b) (x ∷ filter (λ x. not (eqb v x)) s) (filter (λ x. not (eqb v x)) s))
    (eqb-above v x a.0) ∙ ap (λ t. x ∷ t) (keeps_above v s a.1)

pub taken_off : (v : ℕ) (f : Family) → IsAbove v f → map (filter (λ x. not (eqb v x))) (map (λ s. v ∷ s) f ++ []) ≡ f
taken_off v [] a = refl
taken_off v (s ∷ f) a = ap₂ (λ t g. t ∷ g)
    (ap (λ b. cond (not b) (v ∷ filter (λ x. not (eqb v x)) s) (filter (λ x. not (eqb v x)) s)) (eqb-refl v)
    ∙ keeps_above v s a.0)
    (taken_off v f a.1)

module _ (v : ℕ) (f0 f1 : Family) (a0 : IsAbove v f0) (a1 : IsAbove v f1) where
  not_nil_minimal : (g h : Family) → IsCounted (minimal g) h → g ≢ []
  not_nil_minimal g h k = λ e. counted_nil (minimal g) h (ap minimal e ∙ minimal-nil) k

  not_nil_least : (w : ℕ) (g : Family) → IsFirstEvent w g → g ≢ []
  not_nil_least w g l = λ e. true≢false (sym l.0 ∙ ap (list_any (holds w)) e)

  pub half_lower : (h : Family) → IsHalf f0 h → IsHalf (node v f0 f1) h
  half_lower h (of_minimal i p u k) =
      let d = deep v i p f0 (section i p f0) a0 u refl (not_nil_minimal (section i p f0) h k) in
      of_minimal d.at d.taken d.under (subst (λ x. IsCounted (minimal x) h)
      (d.is ∙ sym (section-without v d.at d.taken f0 f1 d.after d.above)) k)
  half_lower h (of_halves i p w u l k) =
      let d = deep v i p f0 (section i p f0) a0 u refl (not_nil_least w (section i p f0) l) in
      let e = d.is ∙ sym (section-without v d.at d.taken f0 f1 d.after d.above) in
      of_halves d.at d.taken w d.under (subst (IsFirstEvent w) e l)
      (subst (λ x. IsPartOfBoth (minimal (upper w x)) (minimal (lower w x)) h) e k)

  pub half_upper : (h : Family) → IsHalf f1 h → IsHalf (node v f0 f1) h
  half_upper h (of_minimal i p u k) =
      let d = deep v i p f1 (section i p f1) a1 u refl (not_nil_minimal (section i p f1) h k) in
      of_minimal d.at (v ∷ d.taken) (ascends_cons v d.taken d.above d.under.0, (d.after, d.under.1))
      (subst (λ x. IsCounted (minimal x) h) (d.is ∙ sym (section-with v d.at d.taken f0 f1 d.after a0)) k)
  half_upper h (of_halves i p w u l k) =
      let d = deep v i p f1 (section i p f1) a1 u refl (not_nil_least w (section i p f1) l) in
      let e = d.is ∙ sym (section-with v d.at d.taken f0 f1 d.after a0) in
      of_halves d.at (v ∷ d.taken) w (ascends_cons v d.taken d.above d.under.0, (d.after, d.under.1))
      (subst (IsFirstEvent w) e l) (subst (λ x. IsPartOfBoth (minimal (upper w x)) (minimal (lower w x)) h) e k)

  pub half_whole : (h : Family) → IsCounted (minimal (node v f0 f1)) h → IsHalf (node v f0 f1) h
  half_whole h k = of_minimal 0 [] (ascends_nil, tt)
      (subst (λ x. IsCounted (minimal x) h) (sym (section-whole (node v f0 f1))) k)

  pub upper_is_hi : upper v (node v f0 f1) ≡ f1
  upper_is_hi = ap (map (filter (λ x. not (eqb v x)))) (filter-node v (holds v) f0 f1 ∙ ap₂ (node v)
      (filter-none (holds v) f0 (each_of (IsAbove_set v) (λ s. holds v s ≡ false) (λ s k. holds-above v s k) f0 a0))
      (filter-all (λ s. holds v (v ∷ s)) f1 (every (λ s. holds v (v ∷ s) ≡ true) (λ s. holds_here v s) f1)))
      ∙ taken_off v f1 a1

  pub lower_is_lo : lower v (node v f0 f1) ≡ f0
  lower_is_lo = filter-node v (λ s. not (holds v s)) f0 f1 ∙ ap₂ (node v)
      (filter-all (λ s. not (holds v s)) f0
      (each_of (IsAbove_set v) (λ s. not (holds v s) ≡ true) (λ s k. ap not (holds-above v s k)) f0 a0))
      (filter-none (λ s. not (holds v (v ∷ s))) f1
      (every (λ s. not (holds v (v ∷ s)) ≡ false) (λ s. ap not (holds_here v s)) f1))

  least_is : f1 ≢ [] → IsFirstEvent v (node v f0 f1)
  least_is n = (some f1 n, λ x h. let w = witness (holds x) (node v f0 f1) h in holds_bound v x w.set (member_of (AtLeast v) (node v f0 f1) w.set (at_least_node v f0 f1 a0 a1) w.in_family) w.passes)
    where
      some : (f1 : Family) → f1 ≢ [] → list_any (holds v) (node v f0 f1) ≡ true
      some [] n = absurd (n refl)
      some (s ∷ f1) n = ap (λ b. b || list_any (holds v) (node v f0 f1)) (holds_here v s)

  pub half_parts : f1 ≢ [] → (h : Family) → IsPartOfBoth (minimal f1) (minimal f0) h → IsHalf (node v f0 f1) h
  half_parts n h k =
      let e = sym (section-whole (node v f0 f1)) in
      of_halves 0 [] v (ascends_nil, tt) (subst (IsFirstEvent v) e (least_is n))
      (subst (λ x. IsPartOfBoth (minimal (upper v x)) (minimal (lower v x)) h) e
      (subst (λ x. IsPartOfBoth (minimal x) (minimal (lower v (node v f0 f1))) h) (sym upper_is_hi)
      (subst (λ x. IsPartOfBoth (minimal f1) (minimal x) h) (sym lower_is_lo) k)))

  at_least_all : (i : ℕ) → i ≤ v → AllByRecursion (AtLeast i) (node v f0 f1)
  at_least_all i l = each_of (AtLeast v) (AtLeast i) lower_bound (node v f0 f1) (at_least_node v f0 f1 a0 a1)
    where
      lower_bound : (s : List ℕ) → AtLeast v s → AtLeast i s
      lower_bound [] a = tt
      lower_bound (x ∷ s) a = (omega (arith, l, a.0), lower_bound s a.1)

  -- a counted section is the whole family, or one of a half
  pub counted_halves : (h : Family) → IsCounted (node v f0 f1) h
      → (h ≡ node v f0 f1) ⊎ (IsCounted f0 h ⊎ IsCounted f1 h)
  counted_halves h c = by c.taken c.taken_below c.is
    where
      lower_one : (p : List ℕ) → v < c.at → IsAbove_set v p → IsSetBelow c.at p → h ≡ section c.at p (node v f0 f1)
          → IsCounted f0 h
      lower_one p l a u e = record {
        at = c.at;
        taken = p;
        taken_below = u;
        is = e ∙ section-without v c.at p f0 f1 l a;
        not_empty = c.not_empty;
        not_unit = c.not_unit;
      }

      by : (p : List ℕ) → IsSetBelow c.at p → h ≡ section c.at p (node v f0 f1)
          → (h ≡ node v f0 f1) ⊎ (IsCounted f0 h ⊎ IsCounted f1 h)
      by [] u e = elim (cases_lt v c.at) [
        | inl l ↦ inr (inl (lower_one [] l tt u e))
        | inr l ↦ inl (e ∙ section-low c.at (node v f0 f1) (at_least_all c.at l))
      ]
      by (x ∷ p) u e = elim (cases_lt x v) [
        | inl low ↦ elim (section-above x c.at (x ∷ p) (node v f0 f1) (IsAbove-node x v f0 f1 low a0 a1))
            [ inl none ↦ absurd (c.not_empty (e ∙ none)) | inr above ↦ absurd (omega (arith, above.0)) ]
        | inr not_low ↦ elim (cases_lt v x) [
          | inl above ↦ inr (inl (lower_one (x ∷ p) (omega (arith, above, u.1.0))
              (above, above_less v x p above (ascends_head x p u.0)) u e))
          | inr not_above ↦
              let is : x ≡ v = omega (arith, not_low, not_above) in
              let same_section : h ≡ section c.at (v ∷ p) (node v f0 f1) =
              e ∙ ap (λ y. section c.at (y ∷ p) (node v f0 f1)) is in
              inr (inr (record {
                at = c.at;
                taken = p;
                taken_below = (ascends_rest x p u.0, u.1.1);
                is = same_section ∙ section-with v c.at p f0 f1 (omega (arith, is, u.1.0)) a0;
                not_empty = c.not_empty;
                not_unit = c.not_unit;
              }))
        ]
      ]

-- the family of the empty set has no counted section
pub counted_unit : (h : Family) → IsCounted ([] ∷ []) h → ⊥
unfolding section
counted_unit h c = by c.taken c.is
  where
    by : (p : List ℕ) → h ≡ section c.at p ([] ∷ []) → ⊥
    by [] e = c.not_unit e
    by (x ∷ p) e = c.not_empty e

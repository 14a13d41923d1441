-- Where no body is inside itself, an order has all bodies.
use Rattle.std.proofs.Common.{ℕ, zero, suc, ◌+◌, ◌<◌, ◌≤◌, ◌⊎◌, inl, inr, Vec, Global, List, [], ◌∷◌, length, subst, arith}
use Rattle.std.proofs.lemmas.Bool.{cases_eq}
use Rattle.ar_base.specs.Lists.{Stands, IsOneOf}
use Rattle.ar_base.specs.declared.places.Place.{Place}
use Rattle.ar_base.proofs.Standing.{stands_within, one_none, one_first, one_rest, one_cases}
use Rattle.ar_base.proofs.Few.{AllDiffer, nothing, new, few}
use Rattle.ar_syntax.specs.declared.items.Model.{Model}
use Rattle.class_table.specs.Declaring.{Declared, IsDeclared}
use Rattle.class_table.specs.Rules.{HasInside, class, block, IsWithin, itself, further, BreaksContainment}
use Rattle.class_table.specs.Rows.{AreInnerBodies}
use Rattle.class_table.specs.Ordering.{IsBodyOrder, IsComplete}
use Rattle.class_table.proofs.Nesting.{block_later, inside_there}

-- inside what is inside
pub within_all : {d : Declared} {a b c : ℕ} → IsWithin d a b → IsWithin d b c → IsWithin d a c
within_all itself w = w
within_all (further e i w) v = further e i (within_all w v)

-- where each body of an order comes after those inside it, none of them is inside itself
pub ordered_not_again : (d : Declared) (order : List ℕ)
    → ((k a b : ℕ) → Stands order k a → HasInside d a b → (j : ℕ) × (j < k) × Stands order j b)
    → (k a b : ℕ) → Stands order k a → HasInside d a b → IsWithin d b a → ⊥
ordered_not_again d order after k a b s h w = go k k a b s h w (omega arith)
  where
    down : (k a b : ℕ) → Stands order k a → IsWithin d a b → (j : ℕ) × (j ≤ k) × Stands order j b
    down k a b s itself = (k, omega arith, s)
    down k a b s (further c i w) =
        let u = after k a c s i in
        let v = down u.0 c b u.2 w in
        (v.0, omega (arith, u.1, v.1), v.2)

    go : (top k a b : ℕ) → Stands order k a → HasInside d a b → IsWithin d b a → k ≤ top → ⊥
    go zero k a b s h w l = let u = after k a b s h in omega (arith, u.1, l)
    go (suc top) k a b s h w l =
        let u = after k a b s h in
        let v = down u.0 b a u.2 w in
        go top v.0 a b v.2 h w (omega (arith, u.1, v.1, l))

-- where an order has all bodies, no type name breaks the rule
pub none_again : (d : Declared) (rows : List (Vec ℕ Global)) (order : List ℕ) → AreInnerBodies d rows → IsBodyOrder rows order
    → length rows ≤ length order → (p : Place) → BreaksContainment d p → ⊥
none_again d rows order inside is_order long p h =
    let i = class h.member h.stands h.names in
    let r = inside.from h.body h.class i in
    let o = is_order.whole long h.body (stands_within rows h.body r.row r.stands) in
    ordered_not_again d order (λ k a b s q. is_order.after.each k a b s (inside.from a b q)) o.place h.body h.class
    o.stands i h.again

module _ {model : Model} {d : Declared} (declared : IsDeclared model d)
    (kept : (p : Place) → BreaksContainment d p → ⊥) where
  -- what is within a body has a later number, unless a class is named in between and there is a way back
  later_or : (a b : ℕ) → IsWithin d a b → IsWithin d b a → a ≤ b
  later_or a b itself back = omega arith
  later_or a b (further c (class m s n) w) back =
      absurd (kept _ (record { body = a; member = m; stands = s; class = c; names = n; again = within_all w back }))
  later_or a b (further c (block x at id s) w) back =
      let l = later_or id.n b w (within_all back (further id.n (block x at id s) itself)) in
      let m = block_later declared a x at id s in
      omega (arith, l, m)

  -- no body is inside one that is inside it
  pub not_again : (a b : ℕ) → HasInside d a b → IsWithin d b a → ⊥
  not_again a b (class m s n) w =
      kept _ (record { body = a; member = m; stands = s; class = b; names = n; again = w })
  not_again a b (block x at id s) w =
      let l = later_or id.n a w (further id.n (block x at id s) itself) in
      let m = block_later declared a x at id s in
      omega (arith, l, m)

  module _ (rows : List (Vec ℕ Global)) (order : List ℕ) (inside : AreInnerBodies d rows) (is_order : IsBodyOrder rows order) where
    is_one : (xs : List ℕ) (b : ℕ) → IsOneOf xs b ⊎ (IsOneOf xs b → ⊥)
    is_one [] b = inr (one_none b)
    is_one (x ∷ xs) b = elim (cases_eq x b) [
      | inl e ↦ inl (subst (IsOneOf (x ∷ xs)) e (one_first x xs))
      | inr n ↦ elim (is_one xs b) [
        | inl o ↦ inl (one_rest x xs b o)
        | inr m ↦ inr (λ o. elim (one_cases x xs b o) [ inl e ↦ n e | inr q ↦ m q ])
      ]
    ]

    -- bodies that are not in the order, each inside those before it, go on without end
    walk : (left a : ℕ) (xs : List ℕ) → a < length rows → (IsOneOf order a → ⊥) → AllDiffer (a ∷ xs)
        → ((b : ℕ) → IsOneOf xs b → b < length rows) → ((b : ℕ) → IsOneOf xs b → IsWithin d b a)
        → length rows < length (a ∷ xs) + left → ⊥
    walk zero a xs low out differ below within long =
        let f = few (length rows) (a ∷ xs) differ (λ b o. elim (one_cases a xs b o) [ inl e ↦ subst (λ (k : ℕ). k < length rows) e low | inr q ↦ below b q ]) in
        omega (arith, f, long)
    walk (suc left) a xs low out differ below within long =
        let n = is_order.stuck.each a low out in
        let h = inside.to a n.0 n.1 in
        elim (is_one (a ∷ xs) n.0) [
          | inl o ↦ elim (one_cases a xs n.0 o) [
            | inl e ↦ not_again a n.0 h (subst (λ (k : ℕ). IsWithin d k a) e itself)
            | inr q ↦ not_again a n.0 h (within n.0 q)
          ]
          | inr m ↦ walk left n.0 (a ∷ xs)
              (let l = inside_there declared a n.0 h in let e = inside.long in omega (arith, l, e)) n.2 (new m differ)
              (λ b o. elim (one_cases a xs b o) [ inl e ↦ subst (λ (k : ℕ). k < length rows) e low | inr q ↦ below b q ])
              (λ b o. elim (one_cases a xs b o) [
                | inl e ↦ subst (λ (k : ℕ). IsWithin d k n.0) e (further n.0 h itself)
                | inr q ↦ within_all (within b q) (further n.0 h itself)
              ]) (omega (arith, long))
        ]

    pub all_in_order : (a : ℕ) → a < length rows → IsOneOf order a
    all_in_order a low = elim (is_one order a) [
      | inl o ↦ o
      | inr n ↦ absurd (walk (length rows) a [] low n (new (one_none a) nothing) (λ b o. absurd (one_none b o))
          (λ b o. absurd (one_none b o)) (omega arith))
    ]

    pub is_complete : IsComplete d order
    is_complete = record {
      within = λ a o. let l = is_order.within a o in let e = inside.long in omega (arith, l, e);
      after = λ k a b s h. is_order.after.each k a b s (inside.from a b h);
      all = λ a l. all_in_order a (let e = inside.long in omega (arith, l, e));
    }

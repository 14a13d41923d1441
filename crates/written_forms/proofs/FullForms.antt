-- Expressions in which nothing has a wrong kind have no empty lists of operands.
use Rattle.std.proofs.Common.{ℕ, zero, suc, ◌<◌, ◌⊎◌, inl, inr, Bool, true, false, List, [], ◌∷◌, ◌++◌, map, length, subst, arith}
use Rattle.ar_base.specs.Lists.{IsOneOf}
use Rattle.ar_base.specs.declared.places.Place.{Place}
use Rattle.ar_base.proofs.Standing.{stands_map_back, one_none, one_cases, one_first, one_rest, one_split, one_here}
use Rattle.ar_syntax.specs.declared.expressions.RawExpr.{RawExpr}
use Rattle.ar_syntax.specs.declared.expressions.RawForm.TheOpen as raw
use Rattle.ar_syntax.specs.declared.paths.Path.{Path}
use Rattle.typed_expr.specs.Yields.{Level}
use Rattle.typed_expr.specs.declared.expr.Expr.{Expr}
use Rattle.typed_expr.specs.declared.expr.ValueKind.{ValueKind}
use Rattle.typed_expr.specs.declared.expr.ValueKind.TheVariants.{Truth, Whole}
use Rattle.written_forms.specs.Operands.{RawLevel, level_of, Demand, AnyKind, OfKind, Like, OperandOfKind, wanting, tests, branches, first_branch, is_equality, sides_by, choice_operands, operands_of, HasOperands}
use Rattle.written_forms.specs.Wrong.{IsMistyped}
use Rattle.written_forms.specs.Wrong as wrong
use Rattle.written_forms.specs.Translating.{Becomes, All_become, Parts_become, Cases_become}
use Rattle.written_forms.specs.Translating as t
use Rattle.written_forms.proofs.OperandLists.{mapped_one, test_one, branch_one, other_one, left_side, right_side}

-- no list of operands in the expression is empty
pub data IsFull : RawLevel → Type 0 where
  full : {l : RawLevel} → HasOperands l → ((o : OperandOfKind) → IsOneOf (operands_of l) o → IsFull (level_of
      o.written)) → IsFull l

-- each operand has no empty list
abbrev Each : List OperandOfKind → Type 0
Each os = (o : OperandOfKind) → IsOneOf os o → IsFull (level_of o.written)

each_mapped : {A : Type 0} (f : A → OperandOfKind) (xs : List A) → ((a : A) → IsOneOf xs a → IsFull (level_of (f
    a).written)) → Each (map f xs)
each_mapped f xs h o i =
    let b = stands_map_back f xs i.place o i.stands in
    subst (λ (z : OperandOfKind). IsFull (level_of z.written)) b.2 (h b.0 (one_here xs i.place b.0 b.1))

each_one : (d : Demand) (e : RawExpr) → IsFull (level_of e) → Each (wanting d e ∷ [])
each_one d e h o i = elim (one_cases (wanting d e) [] o i) [
  | inl q ↦ subst (λ (z : OperandOfKind). IsFull (level_of z.written)) q h
  | inr j ↦ absurd (one_none o j)
]

each_two : (c d : Demand) (a b : RawExpr) → IsFull (level_of a) → IsFull (level_of b)
    → Each (wanting c a ∷ wanting d b ∷ [])
each_two c d a b h k o i = elim (one_cases (wanting c a) (wanting d b ∷ []) o i) [
  | inl q ↦ subst (λ (z : OperandOfKind). IsFull (level_of z.written)) q h
  | inr j ↦ each_one d b k o j
]

each_joined : (os ps : List OperandOfKind) → Each os → Each ps → Each (os ++ ps)
each_joined os ps h k o i = elim (one_split os ps o i) [ inl j ↦ h o j | inr j ↦ k o j ]

each_side : (equal : Bool) (a b : RawExpr) → IsFull (level_of a) → IsFull (level_of b) → Each (sides_by equal a b)
each_side true a b h k = each_two AnyKind (Like a) a b h k
each_side false a b h k = each_two (OfKind Whole) (OfKind Whole) a b h k

-- the tests and values of these cases have no empty list
abbrev AreCasesFull : List (RawExpr × RawExpr) → Type 0
AreCasesFull cases = (q r : RawExpr) → IsOneOf cases (q, r) → IsFull (level_of q) × IsFull (level_of r)

each_choice : (cases : List (RawExpr × RawExpr)) (other : RawExpr) → AreCasesFull cases → IsFull (level_of other)
    → Each (choice_operands cases other)
each_choice cases other h k =
    let first = first_branch cases other in
    each_joined (tests cases ++ branches first cases) (wanting (Like first) other ∷ [])
    (each_joined (tests cases) (branches first cases) (each_mapped (λ (c : RawExpr × RawExpr). wanting (OfKind Truth) c.0) cases (λ c i. let w = h c.0 c.1 i in w.0))
    (each_mapped (λ (c : RawExpr × RawExpr). wanting (Like first) c.1) cases (λ c i. let w = h c.0 c.1 i in w.1)))
    (each_one (Like first) other k)

-- a list of operands is empty or not
some_or_none : (n : ℕ) → (0 < n) ⊎ (0 < n → ⊥)
some_or_none zero = inr (λ l. absurd (omega (arith, l)))
some_or_none (suc n) = inl (omega arith)

pub operands_or_none : (l : RawLevel) → HasOperands l ⊎ (HasOperands l → ⊥)
operands_or_none (raw.Truth b) = inl (record {})
operands_or_none (raw.Whole n) = inl (record {})
operands_or_none raw.Real = inl (record {})
operands_or_none (raw.Path p) = inl (record {})
operands_or_none (raw.Not a) = inl (record {})
operands_or_none (raw.Minus a) = inl (record {})
operands_or_none (raw.All es) = some_or_none (length es.items)
operands_or_none (raw.Any es) = some_or_none (length es.items)
operands_or_none (raw.Compare r a b) = inl (record {})
operands_or_none (raw.Sum parts) = some_or_none (length parts.items)
operands_or_none (raw.Product es) = some_or_none (length es.items)
operands_or_none (raw.Least es) = some_or_none (length es.items)
operands_or_none (raw.Greatest es) = some_or_none (length es.items)
operands_or_none (raw.Count es) = some_or_none (length es.items)
operands_or_none (raw.Choose cases other) = some_or_none (length cases.items)

module _ {V : Type 0} (names : Path → Level V → Type 0) (kinds : Path → ValueKind → Type 0) where
  -- nothing in the expression has a wrong kind, where this is wanted of it
  abbrev IsRight : Demand → RawExpr → Type 0
  IsRight d e = (at : Place) → IsMistyped kinds d e at → ⊥

  abbrev AreRight : List OperandOfKind → Type 0
  AreRight os = (o : OperandOfKind) → IsOneOf os o → IsRight o.demand o.written

  pub right_operands : (d : Demand) (e : RawExpr) → IsRight d e → HasOperands (level_of e)
  right_operands d e right = elim (operands_or_none (level_of e))
      [ inl h ↦ h | inr n ↦ absurd (right e.at (wrong.empty n)) ]

  inside : (d : Demand) (e : RawExpr) → IsRight d e → AreRight (operands_of (level_of e))
  inside d e right o i at m = right at (wrong.inside o i m)

  mutual
    full_of : {l : RawLevel} {y : Level V} → Becomes names l y → HasOperands l → AreRight (operands_of l) → IsFull l
    full_of t.truth h g = full h (λ o i. absurd (one_none o i))
    full_of t.whole h g = full h (λ o i. absurd (one_none o i))
    full_of t.real h g = full h (λ o i. absurd (one_none o i))
    full_of (t.path n) h g = full h (λ o i. absurd (one_none o i))
    full_of (t.opposite {a = a} d) h g =
        let d0 = OfKind Truth in
        let r = g (wanting d0 a.value) (one_first (wanting d0 a.value) []) in
        full h (each_one d0 a.value (full_of d (right_operands d0 a.value r) (inside d0 a.value r)))
    full_of (t.negative {a = a} e d q) h g =
        let d0 = OfKind Whole in
        let r = g (wanting d0 a.value) (one_first (wanting d0 a.value) []) in
        full h (each_one d0 a.value (full_of d (right_operands d0 a.value r) (inside d0 a.value r)))
    full_of (t.all {rs = rs} ds) h g =
        full h (each_mapped (wanting (OfKind Truth)) rs.items
        (all_full ds (OfKind Truth) (λ r i. g (wanting (OfKind Truth) r) (mapped_one (wanting (OfKind Truth)) rs.items r i))))
    full_of (t.any {rs = rs} ds) h g =
        full h (each_mapped (wanting (OfKind Truth)) rs.items
        (all_full ds (OfKind Truth) (λ r i. g (wanting (OfKind Truth) r) (mapped_one (wanting (OfKind Truth)) rs.items r i))))
    full_of (t.compared {r = r} {a = a} {b = b} d e) h g =
        let s = left_side (is_equality r) a.value b.value in
        let z = right_side (is_equality r) a.value b.value in
        let left = subst (λ (x : RawExpr). IsRight s.0.demand x) s.2 (g s.0 s.1) in
        let right = subst (λ (x : RawExpr). IsRight z.0.demand x) z.2 (g z.0 z.1) in
        full h (each_side (is_equality r) a.value b.value
        (full_of d (right_operands s.0.demand a.value left) (inside s.0.demand a.value left))
        (full_of e (right_operands z.0.demand b.value right) (inside z.0.demand b.value right)))
    full_of (t.sum {rs = rs} ds) h g =
        let f = λ (p : Bool × RawExpr). wanting (OfKind Whole) p.1 in
        full h (each_mapped f rs.items (λ p i. parts_full ds (λ plus r j. g (f (plus, r)) (mapped_one f rs.items (plus, r) j)) p.0 p.1 i))
    full_of (t.product {rs = rs} ds) h g =
        full h (each_mapped (wanting (OfKind Whole)) rs.items
        (all_full ds (OfKind Whole) (λ r i. g (wanting (OfKind Whole) r) (mapped_one (wanting (OfKind Whole)) rs.items r i))))
    full_of (t.least {rs = rs} ds) h g =
        full h (each_mapped (wanting (OfKind Whole)) rs.items
        (all_full ds (OfKind Whole) (λ r i. g (wanting (OfKind Whole) r) (mapped_one (wanting (OfKind Whole)) rs.items r i))))
    full_of (t.greatest {rs = rs} ds) h g =
        full h (each_mapped (wanting (OfKind Whole)) rs.items
        (all_full ds (OfKind Whole) (λ r i. g (wanting (OfKind Whole) r) (mapped_one (wanting (OfKind Whole)) rs.items r i))))
    full_of (t.count {rs = rs} ds) h g =
        full h (each_mapped (wanting (OfKind Truth)) rs.items
        (all_full ds (OfKind Truth) (λ r i. g (wanting (OfKind Truth) r) (mapped_one (wanting (OfKind Truth)) rs.items r i))))
    full_of (t.choice {rs = rs} {a = a} ds d) h g =
        let first = first_branch rs.items a.value in
        let last = g (wanting (Like first) a.value) (other_one rs.items a.value first) in
        full h (each_choice rs.items a.value
        (cases_full ds first (λ q r i. (
          g (wanting (OfKind Truth) q) (test_one rs.items a.value first q r i),
          g (wanting (Like first) r) (branch_one rs.items a.value first q r i),
        )))
        (full_of d (right_operands (Like first) a.value last) (inside (Like first) a.value last)))

    all_full : {rs : List RawExpr} {es : List (Expr V)} → All_become names rs es → (d : Demand)
        → ((r : RawExpr) → IsOneOf rs r → IsRight d r) → (r : RawExpr) → IsOneOf rs r → IsFull (level_of r)
    all_full t.none d g q i = absurd (one_none q i)
    all_full (t.one_and {r = r} {rs = rs} b bs) d g q i =
        let right = g r (one_first r rs) in
        elim (one_cases r rs q i) [
          | inl e ↦ subst (λ (z : RawExpr). IsFull (level_of z)) e
              (full_of b (right_operands d r right) (inside d r right))
          | inr j ↦ all_full bs d (λ p k. g p (one_rest r rs p k)) q j
        ]

    parts_full : {rs : List (Bool × RawExpr)} {es : List (Bool × Expr V)} → Parts_become names rs es
        → ((plus : Bool) (r : RawExpr) → IsOneOf rs (plus, r) → IsRight (OfKind Whole) r)
        → (plus : Bool) (r : RawExpr) → IsOneOf rs (plus, r) → IsFull (level_of r)
    parts_full t.no_part g plus q i = absurd (one_none (plus, q) i)
    parts_full (t.part {plus = sign} {r = r} {rs = rs} b bs) g plus q i =
        let right = g sign r (one_first (sign, r) rs) in
        elim (one_cases (sign, r) rs (plus, q) i) [
          | inl e ↦ subst (λ (z : Bool × RawExpr). IsFull (level_of z.1)) e
              (full_of b (right_operands (OfKind Whole) r right) (inside (OfKind Whole) r right))
          | inr j ↦ parts_full bs (λ s p k. g s p (one_rest (sign, r) rs (s, p) k)) plus q j
        ]

    cases_full : {rs : List (RawExpr × RawExpr)} {es : List (Expr V × Expr V)} → Cases_become names rs es
        → (first : RawExpr)
        → ((q r : RawExpr) → IsOneOf rs (q, r) → IsRight (OfKind Truth) q × IsRight (Like first) r)
        → AreCasesFull rs
    cases_full t.no_case first g u v i = absurd (one_none (u, v) i)
    cases_full (t.case_and {q = q} {r = r} {rs = rs} b d ds) first g u v i =
        let right = g q r (one_first (q, r) rs) in
        elim (one_cases (q, r) rs (u, v) i) [
          | inl e ↦ subst (λ (z : RawExpr × RawExpr). IsFull (level_of z.0) × IsFull (level_of z.1)) e (
            full_of b (right_operands (OfKind Truth) q right.0) (inside (OfKind Truth) q right.0),
            full_of d (right_operands (Like first) r right.1) (inside (Like first) r right.1),
          )
          | inr j ↦ cases_full ds first (λ x y k. g x y (one_rest (q, r) rs (x, y) k)) u v j
        ]

  -- the whole expression
  pub full_whole : (d : Demand) (e : RawExpr) (y : Level V) → IsRight d e → Becomes names (level_of e) y
      → IsFull (level_of e)
  full_whole d e y right b = full_of b (right_operands d e right) (inside d e right)

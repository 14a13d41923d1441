-- The operands of forms, where they stand.
use Rattle.std.proofs.Common.{◌≡◌, Bool, true, false, List, [], ◌∷◌, ◌++◌, map, refl}
use Rattle.ar_base.specs.Lists.{IsOneOf}
use Rattle.ar_base.proofs.Standing.{stands_map, one_here, one_first, one_rest, one_left, one_right}
use Rattle.ar_syntax.specs.declared.expressions.RawExpr.{RawExpr}
use Rattle.typed_expr.specs.declared.expr.ValueKind.TheVariants.{Truth, Whole}
use Rattle.written_forms.specs.Operands.{AnyKind, OfKind, Like, OperandOfKind, wanting, tests, branches, first_branch, sides_by, choice_operands}

pub mapped_one : {A B : Type 0} (f : A → B) (xs : List A) (a : A) → IsOneOf xs a → IsOneOf (map f xs) (f a)
mapped_one f xs a i = one_here (map f xs) i.place (f a) (stands_map f xs i.place a i.stands)

module _ (cases : List (RawExpr × RawExpr)) (other first : RawExpr) where
  pub test_one : (q r : RawExpr) → IsOneOf cases (q, r)
      → IsOneOf (tests cases ++ branches first cases ++ wanting (Like first) other ∷ []) (wanting (OfKind Truth) q)
  test_one q r i =
      one_left (tests cases ++ branches first cases) (wanting (Like first) other ∷ []) (wanting (OfKind Truth) q)
      (one_left (tests cases) (branches first cases) (wanting (OfKind Truth) q)
      (mapped_one (λ (c : RawExpr × RawExpr). wanting (OfKind Truth) c.0) cases (q, r) i))

  pub branch_one : (q r : RawExpr) → IsOneOf cases (q, r)
      → IsOneOf (tests cases ++ branches first cases ++ wanting (Like first) other ∷ []) (wanting (Like first) r)
  branch_one q r i =
      one_left (tests cases ++ branches first cases) (wanting (Like first) other ∷ []) (wanting (Like first) r)
      (one_right (tests cases) (branches first cases) (wanting (Like first) r)
      (mapped_one (λ (c : RawExpr × RawExpr). wanting (Like first) c.1) cases (q, r) i))

  pub other_one : IsOneOf (tests cases ++ branches first cases ++ wanting (Like first) other ∷ [])
      (wanting (Like first) other)
  other_one = one_right (tests cases ++ branches first cases) (wanting (Like first) other ∷ [])
      (wanting (Like first) other) (one_first (wanting (Like first) other) [])

pub first_one : (cases : List (RawExpr × RawExpr)) (other : RawExpr)
    → IsOneOf (choice_operands cases other) (wanting (Like (first_branch cases other)) (first_branch cases other))
first_one [] other = other_one [] other other
first_one (c ∷ cases) other = branch_one (c ∷ cases) other c.1 c.0 c.1 (one_first c cases)

-- the sides of a comparison, each with what is wanted of it
pub left_side : (equal : Bool) (a b : RawExpr) → (o : OperandOfKind) × IsOneOf (sides_by equal a b) o × (o.written ≡ a)
left_side true a b = (wanting AnyKind a, one_first (wanting AnyKind a) (wanting (Like a) b ∷ []), refl)
left_side false a b = (
  wanting (OfKind Whole) a,
  one_first (wanting (OfKind Whole) a) (wanting (OfKind Whole) b ∷ []),
  refl,
)

pub right_side : (equal : Bool) (a b : RawExpr) → (o : OperandOfKind) × IsOneOf (sides_by equal a b) o × (o.written ≡ b)
right_side true a b = (
  wanting (Like a) b,
  one_rest (wanting AnyKind a) (wanting (Like a) b ∷ []) (wanting (Like a) b)
      (one_first (wanting (Like a) b) []),
  refl,
)
right_side false a b = (
  wanting (OfKind Whole) b,
  one_rest (wanting (OfKind Whole) a) (wanting (OfKind Whole) b ∷ [])
      (wanting (OfKind Whole) b) (one_first (wanting (OfKind Whole) b) []),
  refl,
)

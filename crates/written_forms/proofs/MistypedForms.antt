-- The earliest place in a form that has a wrong kind.
use Rattle.std.proofs.Common.{◌≡◌, ◌⊎◌, inl, inr, Bool, true, false, List, [], ◌∷◌, ◌++◌, Option, Some, None, Box, Vec, Global, refl, sym, ◌∙◌, ap, subst}
use Rattle.ar_base.specs.Lists.{IsOneOf}
use Rattle.ar_base.specs.declared.places.Place.{Place}
use Rattle.ar_base.proofs.Comparing.{not_before}
use Rattle.ar_syntax.specs.declared.expressions.RawExpr.{RawExpr}
use Rattle.ar_syntax.specs.declared.expressions.RawForm.TheOpen as raw
use Rattle.ar_syntax.specs.declared.paths.Path.{Path}
use Rattle.typed_expr.specs.declared.expr.ValueKind.{ValueKind}
use Rattle.typed_expr.specs.declared.expr.ValueKind.TheVariants.{Whole}
use Rattle.class_table.specs.Earliest.{IsEarliest, nowhere, there, IsEarlierOf, no_first, no_second}
use Rattle.class_table.proofs.FirstPlaces.{earliest_both, earliest_same}
use Rattle.written_forms.specs.Operands.{RawLevel, level_of, Demand, AnyKind, OfKind, Like, OperandOfKind, wanting, tests, branches, first_branch, sides_by, choice_operands, operands_of, HasOperands}
use Rattle.written_forms.specs.Forms.{HasForm}
use Rattle.written_forms.specs.FormsInside.{IsFormOf}
use Rattle.written_forms.specs.Wrong.{IsWantedKind, this, that_of, IsMistyped}
use Rattle.written_forms.specs.WrongInside.{NamesKind, demanding, AreTwoKinds, two, AreWanted, IsWrongItself, Among, MistypedOperand}
use Rattle.written_forms.specs.Wrong as wrong
use Rattle.written_forms.specs.WrongInside as wrongly
use Rattle.written_forms.proofs.Gathering.{none_among, one_among, both_among, two_among}
use Rattle.written_forms.proofs.KindsFound.{one_form, one_named, first_of_choice}

only_first : (f : Option Place) → IsEarlierOf f None f
only_first None = no_first
only_first (Some p) = no_second

module _ (kinds : Path → Option ValueKind) where
  one_of : {l : RawLevel} {j k : ValueKind} → HasForm (NamesKind kinds) l j → HasForm (NamesKind kinds) l k → j ≡ k
  one_of h g = one_form (NamesKind kinds) (one_named kinds) h g

  -- The expression itself

  no_any : {k : ValueKind} → IsWantedKind (NamesKind kinds) AnyKind k → ⊥
  no_any w = elim w [ ]

  of_kind : {j k : ValueKind} → IsWantedKind (NamesKind kinds) (OfKind j) k → j ≡ k
  of_kind this = refl

  wanted_is : (want : Option ValueKind) (k : ValueKind) → IsWantedKind (NamesKind kinds) (demanding want) k
      → want ≡ Some k
  wanted_is None k w = absurd (no_any w)
  wanted_is (Some j) k w = ap (λ (z : ValueKind). Some z) (of_kind w)

  place_of : (d : Demand) (e : RawExpr) (p : Place) → IsWrongItself (NamesKind kinds) d e p → p ≡ e.at
  place_of d e p (wrongly.another k want h w n i) = i
  place_of d e p (wrongly.real h i) = i
  place_of d e p (wrongly.empty h i) = i

  pub wrong_real : (d : Demand) (e : RawExpr) → level_of e ≡ raw.Real
      → IsEarliest (IsWrongItself (NamesKind kinds) d e) (Some e.at)
  wrong_real d e i = there (wrongly.real i refl) (λ p b w. not_before p e.at b (place_of d e p w))

  pub wrong_empty : (d : Demand) (e : RawExpr) → (HasOperands (level_of e) → ⊥)
      → IsEarliest (IsWrongItself (NamesKind kinds) d e) (Some e.at)
  wrong_empty d e n = there (wrongly.empty n refl) (λ p b w. not_before p e.at b (place_of d e p w))

  two_wrong : (e : RawExpr) (found want : Option ValueKind) → IsFormOf (NamesKind kinds) (level_of e) found
      → AreTwoKinds found want → IsWrongItself (NamesKind kinds) (demanding want) e e.at
  two_wrong e found want h (two {j = j} {k = k} n) = wrongly.another j k h this n refl

  pub wrong_kind : (e : RawExpr) (found want : Option ValueKind) → IsFormOf (NamesKind kinds) (level_of e) found
      → AreTwoKinds found want
      → IsEarliest (IsWrongItself (NamesKind kinds) (demanding want) e) (Some e.at)
  wrong_kind e found want h t = there (two_wrong e found want h t)
      (λ p b w. not_before p e.at b (place_of (demanding want) e p w))

  pub right_kind : (e : RawExpr) (found want : Option ValueKind) → (level_of e ≡ raw.Real → ⊥)
      → HasOperands (level_of e) → IsFormOf (NamesKind kinds) (level_of e) found → (AreTwoKinds found want → ⊥)
      → IsEarliest (IsWrongItself (NamesKind kinds) (demanding want) e) None
  right_kind e found want r some h n = nowhere none
    where
      differs : (found : Option ValueKind) (k j : ValueKind) → IsFormOf (NamesKind kinds) (level_of e) found
          → HasForm (NamesKind kinds) (level_of e) k → (k ≡ j → ⊥) → AreTwoKinds found (Some j)
      differs None k j h g d = absurd (h k g)
      differs (Some i) k j h g d = two (λ q. d (one_of g h ∙ q))

      none : (p : Place) → IsWrongItself (NamesKind kinds) (demanding want) e p → ⊥
      none p (wrongly.another k j g w d i) =
          n (subst (AreTwoKinds found) (sym (wanted_is want j w)) (differs found k j h g d))
      none p (wrongly.real i j) = r i
      none p (wrongly.empty i j) = i some

  -- The expression with its operands

  pub wrong_both : (d : Demand) (e : RawExpr) (l : RawLevel) (f g r : Option Place) → level_of e ≡ l
      → IsEarliest (IsWrongItself (NamesKind kinds) d e) f
      → IsEarliest (Among (MistypedOperand (NamesKind kinds)) (operands_of l)) g → IsEarlierOf f g r
      → IsEarliest (IsMistyped (NamesKind kinds) d e) r
  wrong_both d e l f g r i h k o = earliest_same r to from (earliest_both f g r h k o)
    where
      here : (p : Place) → p ≡ e.at → IsMistyped (NamesKind kinds) d e e.at → IsMistyped (NamesKind kinds) d e p
      here p q m = subst (λ (z : Place). IsMistyped (NamesKind kinds) d e z) (sym q) m

      to : (p : Place) → IsWrongItself (NamesKind kinds) d e p ⊎ Among (MistypedOperand (NamesKind kinds)) (operands_of
          l) p → IsMistyped (NamesKind kinds) d e p
      to p (inl (wrongly.another k want h w n q)) = here p q (wrong.itself k want h w n)
      to p (inl (wrongly.real h q)) = here p q (wrong.real h)
      to p (inl (wrongly.empty h q)) = here p q (wrong.empty h)
      to p (inr a) = wrong.inside a.operand
          (subst (λ (z : RawLevel). IsOneOf (operands_of z) a.operand) (sym i) a.is_operand) a.has

      from : (p : Place) → IsMistyped (NamesKind kinds) d e p
          → IsWrongItself (NamesKind kinds) d e p ⊎ Among (MistypedOperand (NamesKind kinds)) (operands_of l) p
      from p (wrong.itself k want h w n) = inl (wrongly.another k want h w n refl)
      from p (wrong.real h) = inl (wrongly.real h refl)
      from p (wrong.empty h) = inl (wrongly.empty h refl)
      from p (wrong.inside o q h) =
          inr (record { operand = o; is_operand = subst (λ (z : RawLevel). IsOneOf (operands_of z) o) i q; has = h })

  -- a form without operands
  pub wrong_leaf : (d : Demand) (e : RawExpr) (l : RawLevel) (f : Option Place) → level_of e ≡ l → operands_of l ≡ []
      → IsEarliest (IsWrongItself (NamesKind kinds) d e) f
      → IsEarliest (IsMistyped (NamesKind kinds) d e) f
  wrong_leaf d e l f i n h =
      wrong_both d e l f None f i h
      (subst (λ (os : List OperandOfKind). IsEarliest (Among (MistypedOperand (NamesKind kinds)) os) None) (sym n)
      (none_among (MistypedOperand (NamesKind kinds)))) (only_first f)

  -- Operands

  -- an operand of which the kind of another expression is wanted, by that kind
  pub wrong_like : (first e : RawExpr) (found : Option ValueKind) (f : Option Place)
      → IsFormOf (NamesKind kinds) (level_of first) found → IsEarliest
      (IsMistyped (NamesKind kinds) (demanding found) e) f
      → IsEarliest (IsMistyped (NamesKind kinds) (Like first) e) f
  wrong_like first e found f h = earliest_same f (to found h) (from found h)
    where
      to : (found : Option ValueKind) → IsFormOf (NamesKind kinds) (level_of first) found → (p : Place)
          → IsMistyped (NamesKind kinds) (demanding found) e p → IsMistyped (NamesKind kinds) (Like first) e p
      to None h p (wrong.itself k want g w n) = absurd (no_any w)
      to (Some j) h p (wrong.itself k want g w n) =
          wrong.itself k want g (that_of (subst (λ (z : ValueKind). HasForm (NamesKind kinds) (level_of first) z)
          (of_kind w) h)) n
      to found h p (wrong.real i) = wrong.real i
      to found h p (wrong.empty i) = wrong.empty i
      to found h p (wrong.inside o i m) = wrong.inside o i m

      that : {k : ValueKind} → IsWantedKind (NamesKind kinds) (Like first) k
          → HasForm (NamesKind kinds) (level_of first) k
      that (that_of g) = g

      from : (found : Option ValueKind) → IsFormOf (NamesKind kinds) (level_of first) found → (p : Place)
          → IsMistyped (NamesKind kinds) (Like first) e p → IsMistyped (NamesKind kinds) (demanding found) e p
      from None h p (wrong.itself k want g w n) = absurd (h want (that w))
      from (Some j) h p (wrong.itself k want g w n) =
          wrong.itself k want g
          (subst (λ (z : ValueKind). IsWantedKind (NamesKind kinds) (OfKind j) z) (one_of h (that w))
          this) n
      from found h p (wrong.real i) = wrong.real i
      from found h p (wrong.empty i) = wrong.empty i
      from found h p (wrong.inside o i m) = wrong.inside o i m

  -- the sides of a comparison
  pub wrong_sides : (equal : Bool) (a b : RawExpr) (want : Option ValueKind × Option ValueKind) (f g r : Option Place)
      → AreWanted (NamesKind kinds) equal (level_of a) want
      → IsEarliest (IsMistyped (NamesKind kinds) (demanding want.0) a) f
      → IsEarliest (IsMistyped (NamesKind kinds) (demanding want.1) b) g → IsEarlierOf f g r
      → IsEarliest (Among (MistypedOperand (NamesKind kinds)) (sides_by equal a b)) r
  wrong_sides true a b want f g r w h k o =
      two_among (MistypedOperand (NamesKind kinds)) (wanting AnyKind a) (wanting (Like a) b) f g r
      (subst (λ (z : Option ValueKind). IsEarliest (IsMistyped (NamesKind kinds) (demanding z) a) f) w.0 h)
      (wrong_like a b want.1 g w.1 k) o
  wrong_sides false a b want f g r w h k o =
      two_among (MistypedOperand (NamesKind kinds)) (wanting (OfKind Whole) a) (wanting (OfKind Whole) b) f g r
      (subst (λ (z : Option ValueKind). IsEarliest (IsMistyped (NamesKind kinds) (demanding z) a) f) w.0 h)
      (subst (λ (z : Option ValueKind). IsEarliest (IsMistyped (NamesKind kinds) (demanding z) b) g) w.1 k) o

  -- the operands of a choice
  pub wrong_choices : (e : RawExpr) (cases : Vec (RawExpr × RawExpr) Global) (other : Box RawExpr Global)
      (found : Option ValueKind) (f g r : Option Place)
      → level_of e ≡ raw.Choose cases other → IsFormOf (NamesKind kinds) (level_of e) found
      → ((first : RawExpr) → IsFormOf (NamesKind kinds) (level_of first) found
      → IsEarliest (Among (MistypedOperand (NamesKind kinds)) (tests cases.items ++ branches first cases.items)) f)
      → IsEarliest (IsMistyped (NamesKind kinds) (demanding found) other.value) g → IsEarlierOf f g r
      → IsEarliest (Among (MistypedOperand (NamesKind kinds)) (choice_operands cases.items other.value)) r
  wrong_choices e cases other found f g r i k h m o =
      let first = first_branch cases.items other.value in
      let kind = first_of_choice (NamesKind kinds) e cases other found i k in
      both_among (MistypedOperand (NamesKind kinds)) (tests cases.items ++ branches first cases.items)
      (wanting (Like first) other.value ∷ []) f g r (h first kind)
      (one_among (MistypedOperand (NamesKind kinds)) (wanting (Like first) other.value) g
      (wrong_like first other.value found g kind m)) o

-- The earliest place at which an instruction breaks a rule by itself, by its form.
use Rattle.std.proofs.Common.{◌≡◌, ◌⊎◌, inl, inr, Bool, true, false, Option, Some, None, Box, Vec, Global, refl, sym, ◌∙◌, ap, subst}
use mathlib.Core.Bool.{beq}
use Rattle.ar_base.specs.declared.places.Place.{Place}
use Rattle.ar_base.proofs.Comparing.{not_before}
use Rattle.ar_syntax.specs.declared.expressions.RawExpr.{RawExpr}
use Rattle.ar_syntax.specs.declared.instructions.Instr.{Instr, out-Instr}
use Rattle.ar_syntax.specs.declared.instructions.Instr.TheOpen as instr
use Rattle.ar_syntax.specs.declared.paths.Path.{Path}
use Rattle.typed_expr.specs.declared.expr.ValueKind.{ValueKind}
use Rattle.typed_expr.specs.declared.expr.ValueKind.TheVariants.{Truth}
use Rattle.class_table.specs.Earliest.{IsEarliest, nowhere, there, IsEarlierOf}
use Rattle.class_table.proofs.FirstPlaces.{earliest_both, earliest_same}
use Rattle.written_forms.specs.Operands.{level_of, OfKind}
use Rattle.written_forms.specs.Wrong.{IsMisnamed, IsMistyped}
use Rattle.written_forms.specs.WrongInside.{NamesKind, AreTwoKinds, two}
use Rattle.written_forms.specs.Parts.{InstrForm}
use Rattle.written_forms.specs.Breaches.{MisnamesItself, MistypesItself, MisplacedInAction, MisplacedInAssertion}
use Rattle.written_forms.specs.BreachesInside.{Targets, IsTarget, IsSort, IsNoTargetAt, IsSortAt, AreOtherKinds, other}
use Rattle.written_forms.specs.Breaches as breach

module _ (P : InstrForm → Place → Type 0) where
  pub by_form : (i : Instr) (l : InstrForm) (f : Option Place) → out-Instr i ≡ l → IsEarliest (P l) f
      → IsEarliest (P (out-Instr i)) f
  by_form i l f e h = subst (λ (z : InstrForm). IsEarliest (P z) f) (sym e) h

  -- a form that never breaks the rule
  pub never : (i : Instr) (l : InstrForm) → out-Instr i ≡ l → ((at : Place) → P l at → ⊥)
      → IsEarliest (P (out-Instr i)) None
  never i l e n = by_form i l None e (nowhere n)

-- a property of one place
one_place : (P : Place → Type 0) (at : Place) → P at → ((p : Place) → P p → p ≡ at) → IsEarliest P (Some at)
one_place P at h one = there h (λ p b k. not_before p at b (one p k))

no_sort : (o : Option Bool) → ((b : Bool) × (o ≡ Some b) → ⊥) → o ≡ None
no_sort None n = refl
no_sort (Some b) n = absurd (n (b, refl))

module _ (targets : Targets) (p : Path) where
  pub target_named : (b : Bool) → targets p ≡ Some b → IsEarliest (IsNoTargetAt targets p) None
  target_named b e = nowhere (λ at h. let n = h.none in cc)

  pub target_unnamed : targets p ≡ None → IsEarliest (IsNoTargetAt targets p) (Some p.at)
  target_unnamed e = one_place (IsNoTargetAt targets p) p.at (record { none = e; place = refl }) (λ q h. h.place)

  pub sort_there : (b : Bool) → targets p ≡ Some b → IsEarliest (IsSortAt targets b p) (Some p.at)
  sort_there b e = one_place (IsSortAt targets b p) p.at (record { names = e; place = refl }) (λ q h. h.place)

  pub other_sort : (b c : Bool) → targets p ≡ Some c → (c ≡ b → ⊥) → IsEarliest (IsSortAt targets b p) None
  other_sort b c e n = nowhere (λ at h. let d = h.names in n (let f : c ≡ b = cc in f))

  pub no_sort_there : (b : Bool) → targets p ≡ None → IsEarliest (IsSortAt targets b p) None
  no_sort_there b e = nowhere (λ at h. let d = h.names in cc)

same_sort : (b c : Bool) → beq c b ≡ true → c ≡ b
same_sort true true e = refl
same_sort true false e = cc
same_sort false true e = cc
same_sort false false e = refl

differ_sort : (b c : Bool) → beq c b ≡ false → c ≡ b → ⊥
differ_sort true true e d = cc
differ_sort true false e d = cc
differ_sort false true e d = cc
differ_sort false false e d = cc

module _ (targets : Targets) (p : Path) (b c : Bool) (e : targets p ≡ Some c) where
  pub sort_tested : beq c b ≡ true → IsEarliest (IsSortAt targets b p) (Some p.at)
  sort_tested t = sort_there targets p b (e ∙ ap (λ (z : Bool). Some z) (same_sort b c t))

  pub sort_refused : beq c b ≡ false → IsEarliest (IsSortAt targets b p) None
  sort_refused t = other_sort targets p b c e (differ_sort b c t)

-- Names

module _ (may : Path → Type 0) (targets : Targets) where
  none_at : (p : Path) → (IsTarget targets p → ⊥) → IsNoTargetAt targets p p.at
  none_at p n = record { none = no_sort (targets p) n; place = refl }

  no_target : (p : Path) (at : Place) → IsNoTargetAt targets p at → IsTarget targets p → ⊥
  no_target p at h t = let a = h.none in let b = t.1 in cc

  pub assign_misnamed : (i : Instr) (p : Path) (e : RawExpr) (f g r : Option Place) → out-Instr i ≡ instr.Assign p e
      → IsEarliest (IsNoTargetAt targets p) f
      → IsEarliest (IsMisnamed may (level_of e)) g → IsEarlierOf f g r
      → IsEarliest (MisnamesItself may (IsTarget targets) (out-Instr i)) r
  assign_misnamed i p e f g r q h k o =
      by_form (MisnamesItself may (IsTarget targets)) i (instr.Assign p e) r q
      (earliest_same r to from (earliest_both f g r h k o))
    where
      to : (at : Place) → IsNoTargetAt targets p at ⊎ IsMisnamed may (level_of e) at → MisnamesItself may
          (IsTarget targets) (instr.Assign p e) at
      to at (inl n) = subst (λ (z : Place). MisnamesItself may (IsTarget targets) (instr.Assign p e) z) (sym n.place)
          (breach.target (no_target p at n))
      to at (inr m) = breach.value m

      from : (at : Place) → MisnamesItself may (IsTarget targets) (instr.Assign p e) at → IsNoTargetAt targets p
          at ⊎ IsMisnamed may (level_of e) at
      from at (breach.target n) = inl (none_at p n)
      from at (breach.value m) = inr m

  pub tie_misnamed : (i : Instr) (p q : Path) (f g r : Option Place) → out-Instr i ≡ instr.Tie p q
      → IsEarliest (IsNoTargetAt targets p) f → IsEarliest (IsNoTargetAt targets q) g
      → IsEarlierOf f g r → IsEarliest (MisnamesItself may (IsTarget targets) (out-Instr i)) r
  tie_misnamed i p q f g r e h k o = by_form (MisnamesItself may (IsTarget targets)) i (instr.Tie p q) r e
      (earliest_same r to from (earliest_both f g r h k o))
    where
      to : (at : Place) → IsNoTargetAt targets p at ⊎ IsNoTargetAt targets q at → MisnamesItself may (IsTarget targets)
          (instr.Tie p q) at
      to at (inl n) = subst (λ (z : Place). MisnamesItself may (IsTarget targets) (instr.Tie p q) z) (sym n.place)
          (breach.left (no_target p at n))
      to at (inr n) = subst (λ (z : Place). MisnamesItself may (IsTarget targets) (instr.Tie p q) z) (sym n.place)
          (breach.right (no_target q at n))

      from : (at : Place) → MisnamesItself may (IsTarget targets) (instr.Tie p q) at → IsNoTargetAt targets p
          at ⊎ IsNoTargetAt targets q at
      from at (breach.left n) = inl (none_at p n)
      from at (breach.right n) = inr (none_at q n)

  pub if_misnamed : (i : Instr) (e : RawExpr) (a : Box Instr Global) (b : Option (Box Instr Global)) (f : Option Place)
      → out-Instr i ≡ instr.If e a b → IsEarliest (IsMisnamed may (level_of e)) f
      → IsEarliest (MisnamesItself may (IsTarget targets) (out-Instr i)) f
  if_misnamed i e a b f q h = by_form (MisnamesItself may (IsTarget targets)) i (instr.If e a b) f q
      (earliest_same f (λ at m. breach.test m) from h)
    where
      from : (at : Place) → MisnamesItself may (IsTarget targets) (instr.If e a b) at → IsMisnamed may (level_of e) at
      from at (breach.test m) = m

  pub skip_named : (at : Place) → MisnamesItself may (IsTarget targets) instr.Skip at → ⊥
  skip_named at h = elim h [ ]

  pub all_named : (is : Vec Instr Global) (at : Place) → MisnamesItself may (IsTarget targets) (instr.All is) at → ⊥
  all_named is at h = elim h [ ]

-- Kinds

module _ (kinds : Path → Option ValueKind) where
  pub assign_untyped : (i : Instr) (p : Path) (e : RawExpr) → out-Instr i ≡ instr.Assign p e → kinds p ≡ None
      → IsEarliest (MistypesItself (NamesKind kinds) (out-Instr i)) None
  assign_untyped i p e q n = never (MistypesItself (NamesKind kinds)) i (instr.Assign p e) q none
    where
      none : (at : Place) → MistypesItself (NamesKind kinds) (instr.Assign p e) at → ⊥
      none at (breach.value k h m) = cc

  pub assign_mistyped : (i : Instr) (p : Path) (e : RawExpr) (k : ValueKind) (f : Option Place)
      → out-Instr i ≡ instr.Assign p e → kinds p ≡ Some k
      → IsEarliest (IsMistyped (NamesKind kinds) (OfKind k) e) f
      → IsEarliest (MistypesItself (NamesKind kinds) (out-Instr i)) f
  assign_mistyped i p e k f q n h = by_form (MistypesItself (NamesKind kinds)) i (instr.Assign p e) f q
      (earliest_same f (λ at m. breach.value k n m) from h)
    where
      same : (j : ValueKind) → kinds p ≡ Some j → j ≡ k
      same j d = cc

      from : (at : Place) → MistypesItself (NamesKind kinds) (instr.Assign p e) at → IsMistyped (NamesKind kinds)
          (OfKind k) e at
      from at (breach.value j d m) = subst (λ (z : ValueKind). IsMistyped (NamesKind kinds) (OfKind z) e at) (same j d)
          m

  pub tie_mistyped : (i : Instr) (p q : Path) (f : Option Place) → out-Instr i ≡ instr.Tie p q
      → IsEarliest (AreOtherKinds (NamesKind kinds) p q) f
      → IsEarliest (MistypesItself (NamesKind kinds) (out-Instr i)) f
  tie_mistyped i p q f e h = by_form (MistypesItself (NamesKind kinds)) i (instr.Tie p q) f e
      (earliest_same f to from h)
    where
      to : (at : Place) → AreOtherKinds (NamesKind kinds) p q at → MistypesItself (NamesKind kinds) (instr.Tie p q) at
      to at (other j k a b n) = breach.tied j k a b n

      from : (at : Place) → MistypesItself (NamesKind kinds) (instr.Tie p q) at → AreOtherKinds (NamesKind kinds) p q at
      from at (breach.tied j k a b n) = other j k a b n

  pub if_mistyped : (i : Instr) (e : RawExpr) (a : Box Instr Global) (b : Option (Box Instr Global)) (f : Option Place)
      → out-Instr i ≡ instr.If e a b
      → IsEarliest (IsMistyped (NamesKind kinds) (OfKind Truth) e) f
      → IsEarliest (MistypesItself (NamesKind kinds) (out-Instr i)) f
  if_mistyped i e a b f q h = by_form (MistypesItself (NamesKind kinds)) i (instr.If e a b) f q
      (earliest_same f (λ at m. breach.test m) from h)
    where
      from : (at : Place) → MistypesItself (NamesKind kinds) (instr.If e a b) at → IsMistyped (NamesKind kinds) (OfKind
          Truth) e at
      from at (breach.test m) = m

  pub skip_typed : (at : Place) → MistypesItself (NamesKind kinds) instr.Skip at → ⊥
  skip_typed at h = elim h [ ]

  pub all_typed : (is : Vec Instr Global) (at : Place) → MistypesItself (NamesKind kinds) (instr.All is) at → ⊥
  all_typed is at h = elim h [ ]

  -- the kinds of two paths
  kinds_differ : (p q : Path) (j k : ValueKind) → kinds p ≡ Some j → kinds q ≡ Some k → (k ≡ j → ⊥)
      → AreTwoKinds (kinds q) (kinds p)
  kinds_differ p q j k a b n = subst (λ (z : Option ValueKind). AreTwoKinds z (kinds p)) (sym b)
      (subst (λ (z : Option ValueKind). AreTwoKinds (Some k) z) (sym a) (two n))

  differ_kinds : (p q : Path) (x y : Option ValueKind) → x ≡ kinds q → y ≡ kinds p → AreTwoKinds x y
      → AreOtherKinds (NamesKind kinds) p q q.at
  differ_kinds p q x y a b (two {j = j} {k = k} n) = other k j (sym b) (sym a) n

  pub kinds_other : (p q : Path) (x y : Option ValueKind) → x ≡ kinds q → y ≡ kinds p → AreTwoKinds x y
      → IsEarliest (AreOtherKinds (NamesKind kinds) p q) (Some q.at)
  kinds_other p q x y a b t = one_place (AreOtherKinds (NamesKind kinds) p q) q.at (differ_kinds p q x y a b t) only
    where
      only : (at : Place) → AreOtherKinds (NamesKind kinds) p q at → at ≡ q.at
      only at (other j k c d n) = refl

  pub kinds_same : (p q : Path) (x y : Option ValueKind) → x ≡ kinds q → y ≡ kinds p → (AreTwoKinds x y → ⊥)
      → IsEarliest (AreOtherKinds (NamesKind kinds) p q) None
  kinds_same p q x y a b n = nowhere none
    where
      none : (at : Place) → AreOtherKinds (NamesKind kinds) p q at → ⊥
      none at (other j k c d m) =
          n (subst (λ (z : Option ValueKind). AreTwoKinds z y) (sym a)
          (subst (λ (z : Option ValueKind). AreTwoKinds (kinds q) z) (sym b) (kinds_differ p q j k c d m)))

-- Targets

module _ (targets : Targets) where
  pub assign_acted : (i : Instr) (p : Path) (e : RawExpr) (f : Option Place) → out-Instr i ≡ instr.Assign p e
      → IsEarliest (IsSortAt targets false p) f
      → IsEarliest (MisplacedInAction (IsSort targets false) (out-Instr i)) f
  assign_acted i p e f q h = by_form (MisplacedInAction (IsSort targets false)) i (instr.Assign p e) f q
      (earliest_same f to from h)
    where
      to : (at : Place) → IsSortAt targets false p at → MisplacedInAction (IsSort targets false) (instr.Assign p e) at
      to at s = subst (λ (z : Place). MisplacedInAction (IsSort targets false) (instr.Assign p e) z) (sym s.place)
          (breach.assigns s.names)

      from : (at : Place) → MisplacedInAction (IsSort targets false) (instr.Assign p e) at → IsSortAt targets false p at
      from at (breach.assigns n) = record { names = n; place = refl }

  pub tie_acted : (i : Instr) (p q : Path) → out-Instr i ≡ instr.Tie p q
      → IsEarliest (MisplacedInAction (IsSort targets false) (out-Instr i)) (Some p.at)
  tie_acted i p q e = by_form (MisplacedInAction (IsSort targets false)) i (instr.Tie p q) (Some p.at) e
      (one_place (MisplacedInAction (IsSort targets false) (instr.Tie p q)) p.at breach.ties only)
    where
      only : (at : Place) → MisplacedInAction (IsSort targets false) (instr.Tie p q) at → at ≡ p.at
      only at breach.ties = refl

  pub skip_acted : (at : Place) → MisplacedInAction (IsSort targets false) instr.Skip at → ⊥
  skip_acted at h = elim h [ ]

  pub if_acted : (e : RawExpr) (a : Box Instr Global) (b : Option (Box Instr Global)) (at : Place)
      → MisplacedInAction (IsSort targets false) (instr.If e a b) at → ⊥
  if_acted e a b at h = elim h [ ]

  pub all_acted : (is : Vec Instr Global) (at : Place) → MisplacedInAction (IsSort targets false) (instr.All is) at → ⊥
  all_acted is at h = elim h [ ]

module _ (targets : Targets) where
  pub assign_asserted : (i : Instr) (p : Path) (e : RawExpr) (f : Option Place) → out-Instr i ≡ instr.Assign p e
      → IsEarliest (IsSortAt targets true p) f
      → IsEarliest (MisplacedInAssertion (IsSort targets true) (IsSort targets false) (out-Instr i)) f
  assign_asserted i p e f q h = by_form (MisplacedInAssertion (IsSort targets true) (IsSort targets false)) i
      (instr.Assign p e) f q (earliest_same f to from h)
    where
      to : (at : Place) → IsSortAt targets true p at → MisplacedInAssertion (IsSort targets true) (IsSort targets false)
          (instr.Assign p e) at
      to at s = subst (λ (z : Place). MisplacedInAssertion (IsSort targets true) (IsSort targets false)
          (instr.Assign p e) z) (sym s.place) (breach.assigns s.names)

      from : (at : Place) → MisplacedInAssertion (IsSort targets true) (IsSort targets false) (instr.Assign p e)
          at → IsSortAt targets true p at
      from at (breach.assigns n) = record { names = n; place = refl }

  pub left_asserted : (i : Instr) (p q : Path) → out-Instr i ≡ instr.Tie p q → targets p ≡ Some true
      → IsEarliest (MisplacedInAssertion (IsSort targets true) (IsSort targets false) (out-Instr i)) (Some p.at)
  left_asserted i p q e n = by_form (MisplacedInAssertion (IsSort targets true) (IsSort targets false)) i
      (instr.Tie p q) (Some p.at) e (one_place
      (MisplacedInAssertion (IsSort targets true) (IsSort targets false) (instr.Tie p q)) p.at (breach.left n) only)
    where
      only : (at : Place) → MisplacedInAssertion (IsSort targets true) (IsSort targets false) (instr.Tie p q)
          at → at ≡ p.at
      only at (breach.left m) = refl
      only at (breach.right m k) = cc

  pub right_asserted : (i : Instr) (p q : Path) (f : Option Place) → out-Instr i ≡ instr.Tie p q
      → targets p ≡ Some false → IsEarliest (IsSortAt targets true q) f
      → IsEarliest (MisplacedInAssertion (IsSort targets true) (IsSort targets false) (out-Instr i)) f
  right_asserted i p q f e n h = by_form (MisplacedInAssertion (IsSort targets true) (IsSort targets false)) i
      (instr.Tie p q) f e (earliest_same f to from h)
    where
      to : (at : Place) → IsSortAt targets true q at → MisplacedInAssertion (IsSort targets true) (IsSort targets false)
          (instr.Tie p q) at
      to at s = subst (λ (z : Place). MisplacedInAssertion (IsSort targets true) (IsSort targets false) (instr.Tie p q)
          z) (sym s.place) (breach.right n s.names)

      from : (at : Place) → MisplacedInAssertion (IsSort targets true) (IsSort targets false) (instr.Tie p q)
          at → IsSortAt targets true q at
      from at (breach.left m) = cc
      from at (breach.right m k) = record { names = k; place = refl }

  pub none_asserted : (i : Instr) (p q : Path) → out-Instr i ≡ instr.Tie p q → targets p ≡ None
      → IsEarliest (MisplacedInAssertion (IsSort targets true) (IsSort targets false) (out-Instr i)) None
  none_asserted i p q e n = never (MisplacedInAssertion (IsSort targets true) (IsSort targets false)) i (instr.Tie p q)
      e none
    where
      none : (at : Place) → MisplacedInAssertion (IsSort targets true) (IsSort targets false) (instr.Tie p q) at → ⊥
      none at (breach.left m) = cc
      none at (breach.right m k) = cc

  pub skip_asserted : (at : Place) → MisplacedInAssertion (IsSort targets true) (IsSort targets false) instr.Skip at → ⊥
  skip_asserted at h = elim h [ ]

  pub if_asserted : (e : RawExpr) (a : Box Instr Global) (b : Option (Box Instr Global)) (at : Place)
      → MisplacedInAssertion (IsSort targets true) (IsSort targets false) (instr.If e a b) at → ⊥
  if_asserted e a b at h = elim h [ ]

  pub all_asserted : (is : Vec Instr Global) (at : Place)
      → MisplacedInAssertion (IsSort targets true) (IsSort targets false) (instr.All is) at → ⊥
  all_asserted is at h = elim h [ ]

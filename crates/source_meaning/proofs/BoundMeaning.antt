-- A bound expression is what the written one means, where each path in it became what it stands for.
use Rattle.std.proofs.Common.{◌≡◌, Bool, false, List, [], ◌∷◌, Option, slice_get, unwrap_or, refl, sym, ap, ◌∙◌, subst}
use Rattle.ar_base.specs.Lists.{Stands, IsOneOf}
use Rattle.ar_base.specs.Numbers.{VarId}
use Rattle.ar_base.specs.declared.places.Place.{Place}
use Rattle.ar_base.proofs.Standing.{one_first, one_rest}
use Rattle.ar_syntax.specs.declared.expressions.RawExpr.{RawExpr}
use Rattle.ar_syntax.specs.declared.expressions.RawForm.TheOpen as raw
use Rattle.ar_syntax.specs.declared.paths.Path.{Path}
use Rattle.typed_expr.specs.Yields.{Level}
use Rattle.typed_expr.specs.Renames.{Renames, All_rename, Parts_rename, Cases_rename}
use Rattle.typed_expr.specs.Renames as r
use Rattle.typed_expr.specs.declared.expr.Expr.{Expr, out-Expr}
use Rattle.typed_expr.specs.declared.expr.Expr.TheOpen.{Variable}
use Rattle.typed_expr.specs.declared.expr.ValueKind.TheVariants.{Truth, Whole}
use Rattle.written_forms.specs.Operands.{RawLevel, level_of, AnyKind, OfKind, Like, OperandOfKind, wanting, first_branch, is_equality, sides_by, operands_of, PathIn}
use Rattle.written_forms.specs.Operands as in_form
use Rattle.written_forms.specs.Wrong.{IsMistyped}
use Rattle.written_forms.specs.Wrong as wrong
use Rattle.written_forms.specs.Translating.{leaf_level, StandsFor, Becomes, All_become, Parts_become, Cases_become, BecomesBy}
use Rattle.written_forms.specs.Translating as t
use Rattle.written_forms.specs.declared.naming.Leaf.{Leaf}
use Rattle.written_forms.proofs.OperandLists.{mapped_one, test_one, branch_one, other_one, left_side, right_side}
use Rattle.hierarchy.specs.Models.{RootedModel}
use Rattle.hierarchy.specs.Units.{UnitPath, Thing}
use Rattle.hierarchy.specs.Listing.{variables}
use Rattle.source_meaning.specs.Means.{Means, All_mean, Parts_mean, Cases_mean}
use Rattle.source_meaning.specs.Means as means
use Rattle.source_meaning.specs.Kinds.{HasKindAt}
use Rattle.source_meaning.specs.BoundExpressions.{IsNumberOfVariable, IsLeafFor, IsBoundExpression}
use Rattle.source_meaning.specs.BoundExpressions as leaf
use Rattle.source_meaning.proofs.Moving.{moved, IsMoved, renames_moved}

-- the variable of a number that was looked up, any where there is none
at_number : List Thing → VarId → Thing
at_number things x = unwrap_or (slice_get things x.n) (record { unit = []; name = 0 })

number_is : (things : List Thing) (x : VarId) (v : Thing) → Stands things x.n v → at_number things x ≡ v
unfolding at_number
number_is things x v s = ap (λ (o : Option Thing). unwrap_or o (record { unit = []; name = 0 })) s

module _ (m : RootedModel) (units : List UnitPath) (u : UnitPath) (leaves : Path → Leaf) where
  abbrev place : VarId → Thing
  place = at_number (variables m units)

  -- each path in the form became what it stands for, no operand has a wrong kind, and the form is no real
  record Sound (l : RawLevel) : Type 0 where
    leafs : (p : Path) → PathIn p l → IsLeafFor m units u p (leaves p)
    right : (o : OperandOfKind) → IsOneOf (operands_of l) o → (at : Place)
        → IsMistyped (HasKindAt m u) o.demand o.written at → ⊥
    no_real : l ≡ raw.Real → ⊥

  operand_sound : {l : RawLevel} → Sound l → (o : OperandOfKind) → IsOneOf (operands_of l) o
      → Sound (level_of o.written)
  operand_sound g o i = record {
    leafs = λ p h. g.leafs p (in_form.inside o i h);
    right = λ q j at k. g.right o i at (wrong.inside q j k);
    no_real = λ e. g.right o i o.written.at (wrong.real e);
  }

  -- the sides of a comparison
  left_sound : (equal : Bool) (a b : RawExpr) {l : RawLevel} → operands_of l ≡ sides_by equal a b → Sound l
      → Sound (level_of a)
  left_sound equal a b {l = l} q g =
      let s = left_side equal a b in
      subst (λ (e : RawExpr). Sound (level_of e)) s.2
      (operand_sound g s.0 (subst (λ (os : List OperandOfKind). IsOneOf os s.0) (sym q) s.1))

  right_sound : (equal : Bool) (a b : RawExpr) {l : RawLevel} → operands_of l ≡ sides_by equal a b → Sound l
      → Sound (level_of b)
  right_sound equal a b {l = l} q g =
      let s = right_side equal a b in
      subst (λ (e : RawExpr). Sound (level_of e)) s.2
      (operand_sound g s.0 (subst (λ (os : List OperandOfKind). IsOneOf os s.0) (sym q) s.1))

  -- what is meant, with numbers for variables
  abbrev Meant : RawLevel → Level VarId → Level Thing → Type 0
  Meant e y l = Means m u e l × Renames (IsNumberOfVariable m units) l y

  -- a path
  path_means : (p : Path) (x : Leaf) (l : Level Thing) → IsLeafFor m units u p x
      → Renames (IsMoved place) (leaf_level x) l → Meant (raw.Path p) (leaf_level x) l
  path_means p x l (leaf.variable {x = n} v f s) (r.variable {y = w} q) =
      let same : v ≡ w = sym (number_is (variables m units) n v s) ∙ q in (
        subst (λ (z : Thing). Means m u (raw.Path p) (Variable z)) same (means.variable f),
        r.variable
            (subst (λ (z : Thing). IsNumberOfVariable m units z n) same s),
      )
  path_means p x l (leaf.parameter v f w) r.constant = (means.parameter v f w, r.constant)
  path_means p x l (leaf.symbol k s) r.constant = (means.symbol s, r.constant)

  -- the one part of a sum
  one_part : {b : Bool} {e : Expr VarId} {qs : List (Bool × Expr Thing)} → Parts_rename (IsMoved place) ((b, e) ∷ []) qs
      → (f : Expr Thing) × (qs ≡ (b, f) ∷ []) × Renames (IsMoved place) (out-Expr VarId e) (out-Expr Thing f)
  one_part (r.part {b = f} h r.no_part) = (f, refl, h)

  mutual
    means_moved : {e : RawLevel} {y : Level VarId} {l : Level Thing} → Becomes (StandsFor leaves) e y
        → Renames (IsMoved place) y l → Sound e → Meant e y l
    means_moved t.truth r.constant g = (means.truth, r.constant)
    means_moved t.whole r.constant g = (means.whole, r.constant)
    means_moved t.real h g = absurd (g.no_real refl)
    means_moved {l = l} (t.path {p = p} s) h g =
        subst (λ (z : Level VarId). Meant (raw.Path p) z l) s
        (path_means p (leaves p) l (g.leafs p in_form.itself)
        (subst (λ (z : Level VarId). Renames (IsMoved place) z l) (sym s) h))
    means_moved (t.opposite {a = a} d) (r.opposite h) g =
        let k = means_moved d h (operand_sound g (wanting (OfKind Truth) a.value)
        (one_first (wanting (OfKind Truth) a.value) [])) in
        (means.opposite k.0, r.opposite k.1)
    means_moved (t.negative {a = a} {parts = ps} e d q) (r.sum {qs = qs} hs) g =
        let one = one_part (subst (λ (z : List (Bool × Expr VarId)). Parts_rename (IsMoved place) z qs.items) q hs) in
        let k = means_moved d one.2 (operand_sound g (wanting (OfKind Whole) a.value) (one_first (wanting (OfKind Whole) a.value) [])) in (
          means.negative one.0 k.0 one.1,
          r.sum (subst (λ (z : List (Bool × Expr Thing)). Parts_rename (IsNumberOfVariable m units) z ps.items) (sym one.1)
              (subst (λ (z : List (Bool × Expr VarId)). Parts_rename (IsNumberOfVariable m units) ((false, one.0) ∷ []) z)
              (sym q) (r.part k.1 r.no_part))),
        )
    means_moved (t.all {rs = rs} ds) (r.all hs) g =
        let k = all_moved ds hs (λ e i. operand_sound g (wanting (OfKind Truth) e)
        (mapped_one (wanting (OfKind Truth)) rs.items e i)) in
        (means.all k.0, r.all k.1)
    means_moved (t.any {rs = rs} ds) (r.any hs) g =
        let k = all_moved ds hs (λ e i. operand_sound g (wanting (OfKind Truth) e)
        (mapped_one (wanting (OfKind Truth)) rs.items e i)) in
        (means.any k.0, r.any k.1)
    means_moved (t.product {rs = rs} ds) (r.product hs) g =
        let k = all_moved ds hs (λ e i. operand_sound g (wanting (OfKind Whole) e)
        (mapped_one (wanting (OfKind Whole)) rs.items e i)) in
        (means.product k.0, r.product k.1)
    means_moved (t.least {rs = rs} ds) (r.least hs) g =
        let k = all_moved ds hs (λ e i. operand_sound g (wanting (OfKind Whole) e)
        (mapped_one (wanting (OfKind Whole)) rs.items e i)) in
        (means.least k.0, r.least k.1)
    means_moved (t.greatest {rs = rs} ds) (r.greatest hs) g =
        let k = all_moved ds hs (λ e i. operand_sound g (wanting (OfKind Whole) e)
        (mapped_one (wanting (OfKind Whole)) rs.items e i)) in
        (means.greatest k.0, r.greatest k.1)
    means_moved (t.count {rs = rs} ds) (r.count hs) g =
        let k = all_moved ds hs (λ e i. operand_sound g (wanting (OfKind Truth) e)
        (mapped_one (wanting (OfKind Truth)) rs.items e i)) in
        (means.count k.0, r.count k.1)
    means_moved (t.compared {r = o} {a = a} {b = b} d e) (r.compared h k) g =
        let i = means_moved d h (left_sound (is_equality o) a.value b.value refl g) in
        let j = means_moved e k (right_sound (is_equality o) a.value b.value refl g) in
        (means.compared i.0 j.0, r.compared i.1 j.1)
    means_moved (t.sum {rs = rs} ds) (r.sum hs) g =
        let k = parts_moved ds hs (λ plus e i. operand_sound g (wanting (OfKind Whole) e)
        (mapped_one (λ (p : Bool × RawExpr). wanting (OfKind Whole) p.1) rs.items (plus, e) i)) in
        (means.sum k.0, r.sum k.1)
    means_moved (t.choice {rs = rs} {a = a} ds d) (r.choice hs h) g =
        let first = first_branch rs.items a.value in
        let i = cases_moved ds hs (λ q e i. (
          operand_sound g (wanting (OfKind Truth) q) (test_one rs.items a.value first q e i),
          operand_sound g (wanting (Like first) e) (branch_one rs.items a.value first q e i),
        )) in
        let j = means_moved d h (operand_sound g (wanting (Like first) a.value) (other_one rs.items a.value first)) in
        (means.choice i.0 j.0, r.choice i.1 j.1)

    all_moved : {rs : List RawExpr} {es : List (Expr VarId)} {ls : List (Expr Thing)}
        → All_become (StandsFor leaves) rs es → All_rename (IsMoved place) es ls
        → ((e : RawExpr) → IsOneOf rs e → Sound (level_of e))
        → All_mean m u rs ls × All_rename (IsNumberOfVariable m units) ls es
    all_moved t.none r.none g = (means.none, r.none)
    all_moved (t.one_and {r = e} {rs = rs} d ds) (r.one_and h hs) g =
        let k = means_moved d h (g e (one_first e rs)) in
        let ks = all_moved ds hs (λ q i. g q (one_rest e rs q i)) in
        (means.one_and k.0 ks.0, r.one_and k.1 ks.1)

    parts_moved : {rs : List (Bool × RawExpr)} {es : List (Bool × Expr VarId)} {ls : List (Bool × Expr Thing)}
        → Parts_become (StandsFor leaves) rs es → Parts_rename (IsMoved place) es ls
        → ((plus : Bool) (e : RawExpr) → IsOneOf rs (plus, e) → Sound (level_of e))
        → Parts_mean m u rs ls × Parts_rename (IsNumberOfVariable m units) ls es
    parts_moved t.no_part r.no_part g = (means.no_part, r.no_part)
    parts_moved (t.part {plus = plus} {r = e} {rs = rs} d ds) (r.part h hs) g =
        let k = means_moved d h (g plus e (one_first (plus, e) rs)) in
        let ks = parts_moved ds hs (λ b q i. g b q (one_rest (plus, e) rs (b, q) i)) in
        (means.part k.0 ks.0, r.part k.1 ks.1)

    cases_moved : {rs : List (RawExpr × RawExpr)} {es : List (Expr VarId × Expr VarId)}
        {ls : List (Expr Thing × Expr Thing)} → Cases_become (StandsFor leaves) rs es
        → Cases_rename (IsMoved place) es ls
        → ((q e : RawExpr) → IsOneOf rs (q, e) → Sound (level_of q) × Sound (level_of e))
        → Cases_mean m u rs ls × Cases_rename (IsNumberOfVariable m units) ls es
    cases_moved t.no_case r.no_case g = (means.no_case, r.no_case)
    cases_moved (t.case_and {q = q} {r = e} {rs = rs} d k ds) (r.case_and h j hs) g =
        let s = g q e (one_first (q, e) rs) in
        let i = means_moved d h s.0 in
        let o = means_moved k j s.1 in
        let ks = cases_moved ds hs (λ a b i. g a b (one_rest (q, e) rs (a, b) i)) in
        (means.case_and i.0 o.0 ks.0, r.case_and i.1 o.1 ks.1)

  -- a whole expression
  pub bound_meaning : (e : RawExpr) (f : Expr VarId)
      → ((p : Path) → PathIn p (level_of e) → IsLeafFor m units u p (leaves p))
      → ((at : Place) → IsMistyped (HasKindAt m u) AnyKind e at → ⊥) → BecomesBy leaves e f
      → IsBoundExpression m units u e f
  bound_meaning e f leafs right b =
      let g : Sound (level_of e) = record {
        leafs = leafs;
        right = λ o i at k. right at (wrong.inside o i k);
        no_real = λ q. right e.at (wrong.real q);
      } in
      let k = means_moved b (renames_moved place f) g in
      record { meaning = moved place f; means = k.0; numbers = k.1 }

-- The kinds of forms, and of what paths name in a table.
use Rattle.std.proofs.Common.{◌≡◌, List, [], ◌∷◌, Option, Some, None, Box, Vec, Global, slice_get, sym, subst}
use Rattle.ar_syntax.specs.declared.expressions.RawExpr.{RawExpr}
use Rattle.ar_syntax.specs.declared.expressions.RawForm.TheOpen as raw
use Rattle.ar_syntax.specs.declared.paths.Path.{Path}
use Rattle.typed_expr.specs.declared.expr.ValueKind.{ValueKind}
use Rattle.written_forms.specs.Operands.{RawLevel, level_of, first_branch}
use Rattle.written_forms.specs.Forms.{own_kind, HasForm}
use Rattle.written_forms.specs.FormsInside.{IsFormOf}
use Rattle.written_forms.specs.Forms as form
use Rattle.written_forms.specs.WrongInside.{NamesKind}

-- an expression has one kind, where each path has
module _ (names : Path → ValueKind → Type 0) (one : (p : Path) (j k : ValueKind) → names p j → names p k → j ≡ k) where
  pub one_form : {l : RawLevel} {j k : ValueKind} → HasForm names l j → HasForm names l k → j ≡ k
  one_form (form.own e) (form.own d) = cc
  one_form (form.own e) (form.path h) = cc
  one_form (form.own e) (form.choice h) = cc
  one_form (form.path h) (form.own e) = cc
  one_form {j = j} {k = k} (form.path {p = p} h) (form.path g) = one p j k h g
  one_form (form.choice h) (form.own e) = cc
  one_form (form.choice h) (form.choice g) = one_form h g

-- a table gives a path one kind
pub one_named : (kinds : Path → Option ValueKind) (p : Path) (j k : ValueKind) → NamesKind kinds p j → NamesKind kinds p
    k → j ≡ k
one_named kinds p j k h g = cc

module _ (names : Path → ValueKind → Type 0) where
  pub own_answer : (e : RawExpr) (l : RawLevel) (k : ValueKind) → level_of e ≡ l → own_kind l ≡ Some k
      → IsFormOf names (level_of e) (Some k)
  own_answer e l k i h = subst (λ (z : RawLevel). HasForm names z k) (sym i) (form.own h)

  choice_only : (cases : Vec (RawExpr × RawExpr) Global) (other : Box RawExpr Global) (k : ValueKind)
      → HasForm names (raw.Choose cases other) k
      → HasForm names (level_of (first_branch cases.items other.value)) k
  choice_only cases other k (form.own e) = cc
  choice_only cases other k (form.choice h) = h

  choice_same : (cases : Vec (RawExpr × RawExpr) Global) (other : Box RawExpr Global) (found : Option ValueKind)
      → IsFormOf names (level_of (first_branch cases.items other.value)) found
      → IsFormOf names (raw.Choose cases other) found
  choice_same cases other None n = λ k h. n k (choice_only cases other k h)
  choice_same cases other (Some k) h = form.choice h

  at_first : (cases : List (RawExpr × RawExpr)) (other : RawExpr) (c : RawExpr × RawExpr) (kind : Option ValueKind)
      → Some c ≡ slice_get cases 0 → IsFormOf names (level_of c.1) kind
      → IsFormOf names (level_of (first_branch cases other)) kind
  at_first [] other c kind e h = absurd (cc)
  at_first (d ∷ cases) other c kind e h =
      let same : c ≡ d = cc in subst (λ (z : RawExpr × RawExpr). IsFormOf names (level_of z.1) kind) same h

  at_last : (cases : List (RawExpr × RawExpr)) (other : RawExpr) (kind : Option ValueKind)
      → None ≡ slice_get cases 0 → IsFormOf names (level_of other) kind
      → IsFormOf names (level_of (first_branch cases other)) kind
  at_last [] other kind e k = k
  at_last (c ∷ cases) other kind e k = absurd (cc)

  pub choice_answer : (e : RawExpr) (cases : Vec (RawExpr × RawExpr) Global) (other : Box RawExpr Global)
      (found : Option ValueKind) → level_of e ≡ raw.Choose cases other
      → IsFormOf names (level_of (first_branch cases.items other.value)) found → IsFormOf names (level_of e) found
  choice_answer e cases other found i h =
      subst (λ (z : RawLevel). IsFormOf names z found) (sym i) (choice_same cases other found h)

  pub first_answer : (e : RawExpr) (cases : Vec (RawExpr × RawExpr) Global) (other : Box RawExpr Global)
      (c : RawExpr × RawExpr) (kind : Option ValueKind) → level_of e ≡ raw.Choose cases other
      → Some c ≡ slice_get cases.items 0 → IsFormOf names (level_of c.1) kind → IsFormOf names (level_of e) kind
  first_answer e cases other c kind i f h =
      choice_answer e cases other kind i (at_first cases.items other.value c kind f h)

  pub last_answer : (e : RawExpr) (cases : Vec (RawExpr × RawExpr) Global) (other : Box RawExpr Global)
      (kind : Option ValueKind) → level_of e ≡ raw.Choose cases other
      → None ≡ slice_get cases.items 0 → IsFormOf names (level_of other.value) kind
      → IsFormOf names (level_of e) kind
  last_answer e cases other kind i f k = choice_answer e cases other kind i (at_last cases.items other.value kind f k)

  -- the kind of a choice is that of its first branch
  pub first_of_choice : (e : RawExpr) (cases : Vec (RawExpr × RawExpr) Global) (other : Box RawExpr Global)
      (found : Option ValueKind) → level_of e ≡ raw.Choose cases other
      → IsFormOf names (level_of e) found → IsFormOf names (level_of (first_branch cases.items other.value)) found
  first_of_choice e cases other None i n =
      λ k h. n k (subst (λ (z : RawLevel). HasForm names z k) (sym i) (form.choice h))
  first_of_choice e cases other (Some k) i h =
      choice_only cases other k (subst (λ (z : RawLevel). HasForm names z k) i h)

module _ (kinds : Path → Option ValueKind) where
  path_only : (p : Path) (k : ValueKind) → HasForm (NamesKind kinds) (raw.Path p) k → kinds p ≡ Some k
  path_only p k (form.own e) = cc
  path_only p k (form.path h) = h

  path_found : (p : Path) (found : Option ValueKind) → found ≡ kinds p → IsFormOf (NamesKind kinds) (raw.Path p) found
  path_found p None e = λ k h. let i = path_only p k h in cc
  path_found p (Some k) e = form.path (sym e)

  pub path_answer : (e : RawExpr) (p : Path) (found : Option ValueKind) → level_of e ≡ raw.Path p → found ≡ kinds p
      → IsFormOf (NamesKind kinds) (level_of e) found
  path_answer e p found i h = subst (λ (z : RawLevel). IsFormOf (NamesKind kinds) z found) (sym i)
      (path_found p found h)

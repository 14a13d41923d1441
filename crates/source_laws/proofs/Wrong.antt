-- Expressions that agree have the same kinds and the same paths, and are wrong at the same places.
use Rattle.std.specs.Prelude.{◌≡◌, ℕ, ◌<◌, Bool, true, false, List, [], ◌∷◌}
use Rattle.std.proofs.Common.{length, refl, sym, subst, ◌∙◌}
use Rattle.ar_base.specs.Lists.{Along, IsOneOf}
use Rattle.ar_base.specs.Lists as along
use Rattle.ar_base.specs.declared.places.Place.{Place}
use Rattle.ar_base.proofs.Items.{along_append}
use Rattle.ar_base.proofs.Standing.{along_on, along_length}
use Rattle.ar_syntax.specs.declared.expressions.RawExpr.{RawExpr}
use Rattle.ar_syntax.specs.declared.expressions.RawForm.{out-RawForm}
use Rattle.ar_syntax.specs.declared.expressions.RawForm.TheOpen as raw
use Rattle.ar_syntax.specs.declared.paths.Path.{Path}
use Rattle.ar_meaning.proofs.ImageWays.{along_map}
use Rattle.typed_expr.specs.declared.expr.ValueKind.{ValueKind}
use Rattle.typed_expr.specs.declared.expr.ValueKind.TheVariants.{Truth, Whole}
use Rattle.parser_laws.specs.Expressions.{SamePath, SameExpr}
use Rattle.parser_laws.specs.Opened.{SameForm}
use Rattle.written_forms.specs.Forms.{own_kind, HasForm, own, path, choice}
use Rattle.written_forms.specs.Operands.{RawLevel, Demand, AnyKind, OfKind, Like, OperandOfKind, wanting, each_wanting, tests, branches, first_branch, is_equality, sides_by, choice_operands, operands_of, HasOperands, PathIn, itself, inside}
use Rattle.written_forms.specs.Wrong.{IsMisnamed, IsWantedKind, this, that_of, IsMistyped}
use Rattle.written_forms.specs.Wrong.IsMistyped.{itself as wrong_itself, real as is_real, empty as is_empty, inside as wrong_inside}
use Rattle.source_laws.proofs.Levels.{SameTerm, SameCase, SameLevels, level_there}
use Rattle.source_laws.proofs.Levels as same

-- expressions that agree stand in one place
pub place_same : (e f : RawExpr) → SameExpr e f → e.at ≡ f.at
place_same e f s = (s 1).0

-- Kinds by form

own_same : {l k : RawLevel} → SameLevels l k → own_kind l ≡ own_kind k
own_same same.truth = refl
own_same same.whole = refl
own_same same.real = refl
own_same (same.path s) = refl
own_same (same.opposite s) = refl
own_same (same.negative s) = refl
own_same (same.all s) = refl
own_same (same.any s) = refl
own_same (same.compared s r) = refl
own_same (same.sum s) = refl
own_same (same.product s) = refl
own_same (same.least s) = refl
own_same (same.greatest s) = refl
own_same (same.count s) = refl
own_same (same.choice s r) = refl

first_same : (cs ds : List (RawExpr × RawExpr)) {a b : RawExpr} → Along SameCase cs ds → SameExpr a b
    → SameExpr (first_branch cs a) (first_branch ds b)
first_same [] [] along.none s = s
first_same _ _ (along.one_and r more) s = r.1

-- Operands

-- the same is wanted: one kind, or that of expressions that agree
pub data SameDemand : Demand → Demand → Type 0 where
  any_kind : SameDemand AnyKind AnyKind
  of_kind : {k : ValueKind} → SameDemand (OfKind k) (OfKind k)
  like : {e f : RawExpr} → SameExpr e f → SameDemand (Like e) (Like f)

-- the same is wanted of expressions that agree
pub record SameOperand (o p : OperandOfKind) : Type 0 where
  pub demand : SameDemand o.demand p.demand
  pub written : SameExpr o.written p.written

one_operand : {d c : Demand} {e f : RawExpr} → SameDemand d c → SameExpr e f
    → SameOperand (wanting d e) (wanting c f)
one_operand q s = record { demand = q; written = s }

single_operand : {d c : Demand} {e f : RawExpr} → SameDemand d c → SameExpr e f
    → Along SameOperand (wanting d e ∷ []) (wanting c f ∷ [])
single_operand q s = along.one_and (one_operand q s) along.none

each_same : (k : ValueKind) {es fs : List RawExpr} → Along SameExpr es fs
    → Along SameOperand (each_wanting (OfKind k) es) (each_wanting (OfKind k) fs)
each_same k s = along_map (wanting (OfKind k)) (wanting (OfKind k)) (λ a b r. one_operand of_kind r) s

sides_same : (c : Bool) {a b d e : RawExpr} → SameExpr a d → SameExpr b e
    → Along SameOperand (sides_by c a b) (sides_by c d e)
sides_same true s r = along.one_and (one_operand any_kind s) (single_operand (like s) r)
sides_same false s r = along.one_and (one_operand of_kind s) (single_operand of_kind r)

tests_same : {cs ds : List (RawExpr × RawExpr)} → Along SameCase cs ds → Along SameOperand (tests cs) (tests ds)
tests_same s =
    along_map (λ (c : RawExpr × RawExpr). wanting (OfKind Truth) c.0)
    (λ (c : RawExpr × RawExpr). wanting (OfKind Truth) c.0) (λ a b r. one_operand of_kind r.0) s

branches_same : {e f : RawExpr} {cs ds : List (RawExpr × RawExpr)} → SameExpr e f → Along SameCase cs ds
    → Along SameOperand (branches e cs) (branches f ds)
branches_same {e = e} {f = f} q s =
    along_map (λ (c : RawExpr × RawExpr). wanting (Like e) c.1)
    (λ (c : RawExpr × RawExpr). wanting (Like f) c.1) (λ a b r. one_operand (like q) r.1) s

choice_same : (cs ds : List (RawExpr × RawExpr)) {a b : RawExpr} → Along SameCase cs ds → SameExpr a b
    → Along SameOperand (choice_operands cs a) (choice_operands ds b)
choice_same cs ds s q =
    let first = first_same cs ds s q in
    along_append (along_append (tests_same s) (branches_same first s)) (single_operand (like first) q)

pub operands_same : {l k : RawLevel} → SameLevels l k → Along SameOperand (operands_of l) (operands_of k)
operands_same same.truth = along.none
operands_same same.whole = along.none
operands_same same.real = along.none
operands_same (same.path s) = along.none
operands_same (same.opposite s) = single_operand of_kind s
operands_same (same.negative s) = single_operand of_kind s
operands_same (same.all s) = each_same Truth s
operands_same (same.any s) = each_same Truth s
operands_same (same.compared {r = r} s q) = sides_same (is_equality r) s q
operands_same (same.sum s) =
    along_map (λ (p : Bool × RawExpr). wanting (OfKind Whole) p.1)
    (λ (p : Bool × RawExpr). wanting (OfKind Whole) p.1) (λ a b r. one_operand of_kind r.1) s
operands_same (same.product s) = each_same Whole s
operands_same (same.least s) = each_same Whole s
operands_same (same.greatest s) = each_same Whole s
operands_same (same.count s) = each_same Truth s
operands_same (same.choice {v = v} {w = w} s r) = choice_same v.items w.items s r

some_back : {A : Type 0} {R : A → A → Type 0} (xs ys : List A) → Along R xs ys → 0 < length ys → 0 < length xs
some_back xs ys s h = subst (λ (n : ℕ). 0 < n) (sym (along_length xs ys s)) h

operands_back : {l k : RawLevel} → SameLevels l k → HasOperands k → HasOperands l
operands_back same.truth h = tt
operands_back same.whole h = tt
operands_back same.real h = tt
operands_back (same.path s) h = tt
operands_back (same.opposite s) h = tt
operands_back (same.negative s) h = tt
operands_back (same.all {v = v} {w = w} s) h = some_back v.items w.items s h
operands_back (same.any {v = v} {w = w} s) h = some_back v.items w.items s h
operands_back (same.compared s r) h = tt
operands_back (same.sum {v = v} {w = w} s) h = some_back v.items w.items s h
operands_back (same.product {v = v} {w = w} s) h = some_back v.items w.items s h
operands_back (same.least {v = v} {w = w} s) h = some_back v.items w.items s h
operands_back (same.greatest {v = v} {w = w} s) h = some_back v.items w.items s h
operands_back (same.count {v = v} {w = w} s) h = some_back v.items w.items s h
operands_back (same.choice {v = v} {w = w} s r) h = some_back v.items w.items s h

real_there : {l k : RawLevel} → SameLevels l k → l ≡ raw.Real → k ≡ raw.Real
real_there same.truth e = cc
real_there same.whole e = cc
real_there same.real e = refl
real_there (same.path s) e = cc
real_there (same.opposite s) e = cc
real_there (same.negative s) e = cc
real_there (same.all s) e = cc
real_there (same.any s) e = cc
real_there (same.compared s r) e = cc
real_there (same.sum s) e = cc
real_there (same.product s) e = cc
real_there (same.least s) e = cc
real_there (same.greatest s) e = cc
real_there (same.count s) e = cc
real_there (same.choice s r) e = cc

module _ (opens : (e f : RawExpr) → SameExpr e f → SameForm (out-RawForm e.form) (out-RawForm f.form)) where
  -- the operand that stands where this one does
  record OperandThere (l : RawLevel) (o : OperandOfKind) : Type 0 where
    operand : OperandOfKind
    is_one : IsOneOf (operands_of l) operand
    agree : SameOperand o operand

  operand_there : {l k : RawLevel} (o : OperandOfKind) → SameLevels l k → IsOneOf (operands_of l) o
      → OperandThere k o
  operand_there {l = l} {k = k} o s is =
      let p = along_on (operands_of l) (operands_of k) (operands_same s) is.place o is.stands in
      record { operand = p.0; is_one = record { place = is.place; stands = p.1 }; agree = p.2 }

  -- Paths

  -- a path that agrees stands in the expression
  record PathThere (l : RawLevel) (p : Path) : Type 0 where
    path : Path
    is_in : PathIn path l
    agree : SamePath p path

  path_there : {p : Path} {l k : RawLevel} → SameLevels l k → PathIn p l → PathThere k p
  path_there (same.path {q = q} s) itself = record { path = q; is_in = itself; agree = s }
  path_there s (inside o is h) =
      let there = operand_there o s is in
      let deep = path_there (level_there opens o.written there.operand.written there.agree.written) h in
      record { path = deep.path; is_in = inside there.operand there.is_one deep.is_in; agree = deep.agree }

  -- a path that names nothing is there, where what paths may name is the same
  pub misnamed_there : (may other : Path → Type 0) → ((p q : Path) → SamePath p q → other q → may p)
      → {l k : RawLevel} {at : Place} → SameLevels l k → IsMisnamed may l at → IsMisnamed other k at
  misnamed_there may other back s h =
      let there = path_there s h.is_in in
      record {
        path = there.path;
        is_in = there.is_in;
        not = λ r. h.not (back h.path there.path there.agree r);
        place = h.place ∙ there.agree.place;
      }

  -- Kinds

  module _ (names other : Path → ValueKind → Type 0)
      (carried : (p q : Path) (k : ValueKind) → SamePath p q → names p k → other q k) where
    form_there : {l k : RawLevel} {w : ValueKind} → SameLevels l k → HasForm names l w → HasForm other k w
    form_there (same.path {p = p} {q = q} s) (path {k = w} h) = path (carried p q w s h)
    form_there (same.choice {v = v} {w = w} {a = a} {b = b} s r) (choice h) =
        choice (form_there (level_there opens (first_branch v.items a.value) (first_branch w.items b.value)
        (first_same v.items w.items s r)) h)
    form_there s (own e) = own (sym (own_same s) ∙ e)

    wanted_there : {d c : Demand} {w : ValueKind} → IsWantedKind names d w → SameDemand d c → IsWantedKind other c w
    wanted_there this of_kind = this
    wanted_there (that_of h) (like {e = e} {f = f} s) = that_of (form_there (level_there opens e f s) h)

    -- an expression that is wrong is wrong there
    pub mistyped_there : {d c : Demand} {e f : RawExpr} {at : Place} → SameDemand d c → SameExpr e f
        → IsMistyped names d e at → IsMistyped other c f at
    mistyped_there {c = c} {e = e} {f = f} q s (wrong_itself k want h w differ) =
        subst (λ (p : Place). IsMistyped other c f p) (sym (place_same e f s))
        (wrong_itself k want (form_there (level_there opens e f s) h) (wanted_there w q) differ)
    mistyped_there {c = c} {e = e} {f = f} q s (is_real i) =
        subst (λ (p : Place). IsMistyped other c f p) (sym (place_same e f s))
        (is_real (real_there (level_there opens e f s) i))
    mistyped_there {c = c} {e = e} {f = f} q s (is_empty not) =
        subst (λ (p : Place). IsMistyped other c f p) (sym (place_same e f s))
        (is_empty (λ h. not (operands_back (level_there opens e f s) h)))
    mistyped_there {e = e} {f = f} q s (wrong_inside o is h) =
        let there = operand_there o (level_there opens e f s) is in
        wrong_inside there.operand there.is_one (mistyped_there there.agree.demand there.agree.written h)

-- Expressions that differ in their variables alone have one kind, where related variables do.
use Rattle.std.proofs.Common.{◌≡◌, ◌<◌, Bool, List, length, sym, subst, arith}
use Rattle.typed_expr.specs.Yields.{Level}
use Rattle.typed_expr.specs.Kinds.{HasKind, Each, Each_part, Each_case}
use Rattle.typed_expr.specs.Kinds as k
use Rattle.typed_expr.specs.Renames.{Renames, All_rename, Parts_rename, Cases_rename}
use Rattle.typed_expr.specs.Renames as r
use Rattle.typed_expr.specs.declared.expr.Expr.{Expr}
use Rattle.typed_expr.specs.declared.expr.Expr.TheOpen.{Variable}
use Rattle.typed_expr.specs.declared.expr.ValueKind.{ValueKind}

-- as many operands
all_long : {V W : Type 0} {same : V → W → Type 0} {es : List (Expr V)} {fs : List (Expr W)} → All_rename same es fs
    → 0 < length es → 0 < length fs
all_long r.none h = h
all_long (r.one_and q qs) h = omega arith

parts_long : {V W : Type 0} {same : V → W → Type 0} {ps : List (Bool × Expr V)} {qs : List (Bool × Expr W)}
    → Parts_rename same ps qs → 0 < length ps → 0 < length qs
parts_long r.no_part h = h
parts_long (r.part q qs) h = omega arith

cases_long : {V W : Type 0} {same : V → W → Type 0} {cs : List (Expr V × Expr V)} {ds : List (Expr W × Expr W)}
    → Cases_rename same cs ds → 0 < length cs → 0 < length ds
cases_long r.no_case h = h
cases_long (r.case_and p q qs) h = omega arith

module _ (V W : Type 0) (kinds : V → ValueKind) (others : W → ValueKind) (same : V → W → Type 0)
    (alike : (x : V) (y : W) → same x y → kinds x ≡ others y) where
  mutual
    pub kind_renamed : {e : Level V} {f : Level W} {kind : ValueKind} → HasKind kinds e kind → Renames same e f
        → HasKind others f kind
    kind_renamed k.constant r.constant = k.constant
    kind_renamed (k.variable {x = x}) (r.variable {y = y} q) = let P : ValueKind → Type 0 = λ z. HasKind others (Variable y) z in subst P (sym (alike x y q)) k.variable
    kind_renamed (k.opposite d) (r.opposite q) = k.opposite (kind_renamed d q)
    kind_renamed (k.all h d) (r.all q) = k.all (all_long q h) (each_renamed d q)
    kind_renamed (k.any h d) (r.any q) = k.any (all_long q h) (each_renamed d q)
    kind_renamed (k.compared c d e) (r.compared p q) = k.compared c (kind_renamed d p) (kind_renamed e q)
    kind_renamed (k.sum h d) (r.sum q) = k.sum (parts_long q h) (parts_renamed d q)
    kind_renamed (k.product h d) (r.product q) = k.product (all_long q h) (each_renamed d q)
    kind_renamed (k.least h d) (r.least q) = k.least (all_long q h) (each_renamed d q)
    kind_renamed (k.greatest h d) (r.greatest q) = k.greatest (all_long q h) (each_renamed d q)
    kind_renamed (k.count h d) (r.count q) = k.count (all_long q h) (each_renamed d q)
    kind_renamed (k.choice h d e) (r.choice p q) = k.choice (cases_long p h) (cases_renamed d p) (kind_renamed e q)

    each_renamed : {es : List (Expr V)} {fs : List (Expr W)} {kind : ValueKind} → Each kinds es kind
        → All_rename same es fs → Each others fs kind
    each_renamed k.none r.none = k.none
    each_renamed (k.one_and d ds) (r.one_and q qs) = k.one_and (kind_renamed d q) (each_renamed ds qs)

    parts_renamed : {ps : List (Bool × Expr V)} {qs : List (Bool × Expr W)} → Each_part kinds ps
        → Parts_rename same ps qs → Each_part others qs
    parts_renamed k.no_part r.no_part = k.no_part
    parts_renamed (k.part_and d ds) (r.part q qs) = k.part_and (kind_renamed d q) (parts_renamed ds qs)

    cases_renamed : {cs : List (Expr V × Expr V)} {ds : List (Expr W × Expr W)} {kind : ValueKind}
        → Each_case kinds cs kind → Cases_rename same cs ds → Each_case others ds kind
    cases_renamed k.no_case r.no_case = k.no_case
    cases_renamed (k.case_and c d ds) (r.case_and p q qs) =
        k.case_and (kind_renamed c p) (kind_renamed d q) (cases_renamed ds qs)

-- Under readings that agree, an expression with other variables in their places builds the same.
use Rattle.std.proofs.Common.{◌≡◌, Bool, List, sym, subst}
use Rattle.typed_expr.specs.Yields.{Level}
use Rattle.typed_expr.specs.Renames.{Renames, All_rename, Parts_rename, Cases_rename}
use Rattle.typed_expr.specs.Renames as n
use Rattle.typed_expr.specs.declared.expr.Expr.{Expr}
use Rattle.typed_expr.specs.declared.expr.Expr.TheOpen.{Variable}
use Rattle.eq_core.specs.Gates.{Gate}
use Rattle.eq_build.specs.Entries.{Entry, Built}
use Rattle.eq_build.specs.Builds.{Builds, Builds_each, Builds_parts, Builds_cases}
use Rattle.eq_build.specs.Builds as b

module _ {V W : Type 0} (same : V → W → Type 0) (read : V → List Entry) (reads : W → List Entry)
    (agree : (x : V) (y : W) → same x y → read x ≡ reads y) where
  mutual
    pub builds_renamed : {g : List Gate} {e : Level V} {f : Level W} {r : Built} → Renames same e f
        → Builds read g e r → Builds reads g f r
    builds_renamed n.constant b.constant = b.constant
    builds_renamed (n.variable {x = x} {y = y} s) (b.variable {g = g}) =
        subst (λ z. Builds reads g (Variable y) (record { entries = z; gates = g })) (sym (agree x y s)) b.variable
    builds_renamed (n.opposite s) (b.opposite d) = b.opposite (builds_renamed s d)
    builds_renamed (n.all s) (b.all d) = b.all (each_renamed s d)
    builds_renamed (n.any s) (b.any d) = b.any (each_renamed s d)
    builds_renamed (n.compared s t) (b.compared d e) = b.compared (builds_renamed s d) (builds_renamed t e)
    builds_renamed (n.sum s) (b.sum d) = b.sum (parts_renamed s d)
    builds_renamed (n.product s) (b.product d) = b.product (each_renamed s d)
    builds_renamed (n.least s) (b.least d) = b.least (each_renamed s d)
    builds_renamed (n.greatest s) (b.greatest d) = b.greatest (each_renamed s d)
    builds_renamed (n.count s) (b.count d) = b.count (each_renamed s d)
    builds_renamed (n.choice s t) (b.choice d e) = b.choice (cases_renamed s d) (builds_renamed t e)

    pub each_renamed : {g h : List Gate} {es : List (Expr V)} {fs : List (Expr W)} {xs : List (List Entry)}
        → All_rename same es fs → Builds_each read g es xs h → Builds_each reads g fs xs h
    each_renamed n.none b.none = b.none
    each_renamed (n.one_and s t) (b.one_and d e) = b.one_and (builds_renamed s d) (each_renamed t e)

    pub parts_renamed : {g h : List Gate} {ps : List (Bool × Expr V)} {qs : List (Bool × Expr W)}
        {xs : List (Bool × List Entry)} → Parts_rename same ps qs → Builds_parts read g ps xs h
        → Builds_parts reads g qs xs h
    parts_renamed n.no_part b.no_part = b.no_part
    parts_renamed (n.part s t) (b.part_and d e) = b.part_and (builds_renamed s d) (parts_renamed t e)

    pub cases_renamed : {g h : List Gate} {cs : List (Expr V × Expr V)} {ds : List (Expr W × Expr W)}
        {xs : List (List Entry × List Entry)} → Cases_rename same cs ds → Builds_cases read g cs xs h
        → Builds_cases reads g ds xs h
    cases_renamed n.no_case b.no_case = b.no_case
    cases_renamed (n.case_and s t u) (b.case_and d e c) = b.case_and (builds_renamed s d) (builds_renamed t e)
        (cases_renamed u c)

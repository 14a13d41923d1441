-- Something is built for each well-typed expression.
use Rattle.std.proofs.Common.{Bool, List, [], ◌∷◌}
use Rattle.typed_expr.specs.Yields.{Level}
use Rattle.typed_expr.specs.Kinds.{HasKind, Each, Each_part, Each_case}
use Rattle.typed_expr.specs.Kinds as k
use Rattle.typed_expr.specs.declared.expr.ValueKind.{ValueKind}
use Rattle.typed_expr.specs.declared.expr.Expr.{Expr}
use Rattle.eq_core.specs.Gates.{Gate}
use Rattle.eq_build.specs.Entries.{Entry}
use Rattle.eq_build.specs.Builds.{Builds_each, Builds_parts, Builds_cases}
use Rattle.eq_build.specs.Builds as b
use Rattle.eq_build.specs.Laws.{SomeBuilt}

module _ {V : Type 0} (kinds : V → ValueKind) (read : V → List Entry) where
  record SomeEach (g : List Gate) (es : List (Expr V)) : Type 0 where
    pub entries : List (List Entry)
    pub gates : List Gate
    pub builds : Builds_each read g es entries gates

  record SomeParts (g : List Gate) (ps : List (Bool × Expr V)) : Type 0 where
    pub entries : List (Bool × List Entry)
    pub gates : List Gate
    pub builds : Builds_parts read g ps entries gates

  record SomeCases (g : List Gate) (cs : List (Expr V × Expr V)) : Type 0 where
    pub entries : List (List Entry × List Entry)
    pub gates : List Gate
    pub builds : Builds_cases read g cs entries gates

  mutual
    pub some_built : {e : Level V} {kd : ValueKind} → HasKind kinds e kd → (g : List Gate) → SomeBuilt read g e
    some_built k.constant g = record { built = _; builds = b.constant }
    some_built k.variable g = record { built = _; builds = b.variable }
    some_built (k.opposite d) g = let r = some_built d g in record { built = _; builds = b.opposite r.builds }
    some_built (k.all l d) g = let r = some_each d g in record { built = _; builds = b.all r.builds }
    some_built (k.any l d) g = let r = some_each d g in record { built = _; builds = b.any r.builds }
    some_built (k.compared c d e) g =
        let r = some_built d g in
        let q = some_built e r.built.gates in
        record { built = _; builds = b.compared r.builds q.builds }
    some_built (k.sum l d) g = let r = some_parts d g in record { built = _; builds = b.sum r.builds }
    some_built (k.product l d) g = let r = some_each d g in record { built = _; builds = b.product r.builds }
    some_built (k.least l d) g = let r = some_each d g in record { built = _; builds = b.least r.builds }
    some_built (k.greatest l d) g = let r = some_each d g in record { built = _; builds = b.greatest r.builds }
    some_built (k.count l d) g = let r = some_each d g in record { built = _; builds = b.count r.builds }
    some_built (k.choice l c d) g =
        let r = some_cases c g in
        let q = some_built d r.gates in
        record { built = _; builds = b.choice r.builds q.builds }

    some_each : {es : List (Expr V)} {kd : ValueKind} → Each kinds es kd → (g : List Gate) → SomeEach g es
    some_each k.none g = record { entries = []; gates = g; builds = b.none }
    some_each (k.one_and d e) g =
        let r = some_built d g in
        let q = some_each e r.built.gates in
        record { entries = r.built.entries ∷ q.entries; gates = q.gates; builds = b.one_and r.builds q.builds }

    some_parts : {ps : List (Bool × Expr V)} → Each_part kinds ps → (g : List Gate) → SomeParts g ps
    some_parts k.no_part g = record { entries = []; gates = g; builds = b.no_part }
    some_parts (k.part_and {plus = plus} d e) g =
        let r = some_built d g in
        let q = some_parts e r.built.gates in
        record { entries = (plus, r.built.entries) ∷ q.entries; gates = q.gates; builds = b.part_and r.builds q.builds }

    some_cases : {cs : List (Expr V × Expr V)} {kd : ValueKind} → Each_case kinds cs kd → (g : List Gate)
        → SomeCases g cs
    some_cases k.no_case g = record { entries = []; gates = g; builds = b.no_case }
    some_cases (k.case_and d e c) g =
        let r = some_built d g in
        let q = some_built e r.built.gates in
        let s = some_cases c q.built.gates in
        record {
          entries = (r.built.entries, q.built.entries) ∷ s.entries;
          gates = s.gates;
          builds = b.case_and r.builds q.builds s.builds;
        }

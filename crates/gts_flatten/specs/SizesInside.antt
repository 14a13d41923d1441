-- Definitions beside those of Sizes, of which clauses inside the program speak: what the whole program promises does
-- not rest on them.
use Rattle.std.specs.Prelude.{ℕ, ◌+◌, Bool, List, [], ◌∷◌}
use Rattle.typed_expr.specs.declared.expr.Expr.{Expr}
use Rattle.gts_flatten.specs.Sizes.{nodes_of}

abbrev pub term_nodes_in : {V : Type 0} → List (Bool × Expr V) → ℕ
term_nodes_in [] = 0
term_nodes_in (t ∷ ts) = nodes_of t.1 + term_nodes_in ts

abbrev pub case_nodes_in : {V : Type 0} → List (Expr V × Expr V) → ℕ
case_nodes_in [] = 0
case_nodes_in (c ∷ cs) = (nodes_of c.0 + nodes_of c.1) + case_nodes_in cs

-- The assignments of an instruction.
use Rattle.std.specs.Prelude.{◌≡◌, Bool, true, false, List, [], ◌∷◌, ◌++◌, map, Option, Some, None, Box, Vec}
use Rattle.std.specs.Global.{Global}
use Rattle.ar_base.specs.declared.places.Place.{Place}
use Rattle.ar_syntax.specs.declared.expressions.RawExpr.{RawExpr}
use Rattle.ar_syntax.specs.declared.instructions.Instr.{Instr, out-Instr}
use Rattle.ar_syntax.specs.declared.instructions.Instr.TheOpen as instr
use Rattle.ar_syntax.specs.declared.paths.Path.{Path}
use Rattle.typed_expr.specs.declared.expr.Expr.{Expr, out-Expr}
use Rattle.typed_expr.specs.declared.expr.Expr.TheOpen.{Variable}
use Rattle.ar_meaning.specs.Systems.{Assign}
use Rattle.hierarchy.specs.Models.{RootedModel}
use Rattle.hierarchy.specs.Units.{UnitPath, Thing}
use Rattle.hierarchy.specs.Walks.{Finds, is_variable}
use Rattle.written_forms.specs.Operands.{level_of}
use Rattle.written_forms.specs.Parts.{InstrForm}
use Rattle.source_meaning.specs.Means.{Means}

-- conditions from the outermost inward, each with the truth value that it must have
abbrev pub Conditions : Type 0
Conditions = List (Expr Thing × Bool)

-- an assignment, and where its target stands
pub record Placed : Type 0 where
  pub assign : Assign Thing
  pub at : Place

-- the assignment of an expression under conditions
abbrev pub sets : Thing → Conditions → Expr Thing → Place → Placed
sets t when e at = record { assign = record { target = t; conditions = when; value = e }; at = at }

-- the assignments without their places
abbrev pub assigns_of : List Placed → List (Assign Thing)
assigns_of ps = map (λ (p : Placed). p.assign) ps

-- the places of the assignments
abbrev pub places_of : List Placed → List Place
places_of ps = map (λ (p : Placed). p.at) ps

mutual
  -- the instruction, read in the unit u under these conditions, has these assignments in the order of the text; `v :=:
  -- w` is `v := w` and then `w := v`
  pub data Sets (m : RootedModel) (u : UnitPath) : Conditions → InstrForm → List Placed → Type 0 where
    skip : {when : Conditions} → Sets m u when instr.Skip []
    assign : {when : Conditions} {p : Path} {r : RawExpr} {t : Thing} {e : Expr Thing} → Finds m is_variable u p t
        → Means m u (level_of r) (out-Expr Thing e)
        → Sets m u when (instr.Assign p r) (sets t when e p.at ∷ [])
    tie : {when : Conditions} {p q : Path} {s t : Thing} {d e : Expr Thing} → Finds m is_variable u p s
        → Finds m is_variable u q t → out-Expr Thing d ≡ Variable s
        → out-Expr Thing e ≡ Variable t → Sets m u when (instr.Tie p q) (sets s when e p.at ∷ sets t when d q.at ∷ [])
    conditional : {when : Conditions} {r : RawExpr} (e : Expr Thing) {first : Box Instr Global}
        {second : Option (Box Instr Global)} {xs ys : List Placed}
        → Means m u (level_of r) (out-Expr Thing e) → Sets m u (when ++ (e, true) ∷ []) (out-Instr first.value) xs
        → Sets_else m u (when ++ (e, false) ∷ []) second ys
        → Sets m u when (instr.If r first second) (xs ++ ys)
    all : {when : Conditions} {is : Vec Instr Global} {xs : List Placed} → Sets_all m u when is.items xs
        → Sets m u when (instr.All is) xs

  -- a second branch that is not there assigns nothing
  pub data Sets_else (m : RootedModel) (u : UnitPath) : Conditions → Option (Box Instr Global) → List Placed
      → Type 0 where
    no_branch : {when : Conditions} → Sets_else m u when None []
    branch : {when : Conditions} {i : Box Instr Global} {xs : List Placed} → Sets m u when (out-Instr i.value) xs
        → Sets_else m u when (Some i) xs

  -- the assignments of several instructions, one after the other
  pub data Sets_all (m : RootedModel) (u : UnitPath) : Conditions → List Instr → List Placed → Type 0 where
    none : {when : Conditions} → Sets_all m u when [] []
    one_and : {when : Conditions} {i : Instr} {is : List Instr} {xs ys : List Placed} → Sets m u when (out-Instr i) xs
        → Sets_all m u when is ys
        → Sets_all m u when (i ∷ is) (xs ++ ys)

-- The parts of a written instruction are smaller than the instruction, so that a recursion over instructions ends.
use Rattle.std.proofs.Common.{◌≡◌, ◌∙◌, ℕ, ◌<◌, ◌≤◌, List, length, get_or, Option, Some, Vec, Box, Global, sym, ap, subst, arith}
use denote.Param.Weighed.{most, at_most}
use Rattle.ar_syntax.specs.declared.expressions.RawExpr.{RawExpr}
use Rattle.ar_syntax.specs.declared.instructions.Instr.{Instr, size-Instr}
use Rattle.ar_syntax.specs.declared.instructions.Instr.TheViews as view

pub less-first : (i b : Instr) (test : RawExpr) (a : Box Instr Global) (d : Option (Box Instr Global))
    → i ≡ view.If test a d → b ≡ a.value → size-Instr b < size-Instr i
less-first i b test a d h j =
    let k = ap size-Instr h ∙ view.sized-If test a d in let l = ap size-Instr j in omega arith

pub less-second : (i b : Instr) (test : RawExpr) (a : Box Instr Global) (d : Option (Box Instr Global))
    (x : Box Instr Global) → i ≡ view.If test a d → d ≡ Some x → b ≡ x.value → size-Instr b < size-Instr i
less-second i b test a d x h is j =
    let whole : i ≡ view.If test a (Some x) = h ∙ ap (λ (z : Option (Box Instr Global)). view.If test a z) is in
    let k = ap size-Instr whole ∙ view.sized-If test a (Some x) in let l = ap size-Instr j in omega arith

pub less-instrs : (i : Instr) (is : Vec Instr Global) (xs : List Instr) → i ≡ view.All is → xs ≡ is.items
    → most size-Instr xs < size-Instr i
less-instrs i is xs h j =
    let k = ap size-Instr h ∙ view.sized-All is in let l = ap (most size-Instr) j in omega arith

-- an instruction of a list
pub up-instr : (xs : List Instr) (n : ℕ) (x : Instr) → n < length xs → x ≡ get_or xs n x
    → size-Instr x ≤ most size-Instr xs
up-instr xs n x h is =
    subst (λ (z : Instr). size-Instr z ≤ most size-Instr xs) (sym is) (at_most size-Instr xs n x h)

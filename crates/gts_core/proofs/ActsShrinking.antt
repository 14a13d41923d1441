-- The parts of an instruction are smaller than the instruction, so that a recursion over instructions ends.
use Rattle.std.proofs.Common.{◌≡◌, ◌∙◌, ℕ, ◌<◌, ◌≤◌, List, length, get_or, Vec, Box, Global, sym, ap, subst, arith}
use denote.Param.Weighed.{most, at_most}
use Rattle.typed_expr.specs.declared.expr.Expr.{Expr}
use Rattle.ar_base.specs.Numbers.{VarId}
use Rattle.gts_core.specs.declared.bound.Act.{Act, size-Act}
use Rattle.gts_core.specs.declared.bound.Act.TheViews as view

pub less-first : (act b : Act) (test : Expr VarId) (a d : Box Act Global) → act ≡ view.If test a d → b ≡ a.value
    → size-Act b < size-Act act
less-first act b test a d i j =
    let k = ap size-Act i ∙ view.sized-If test a d in let l = ap size-Act j in omega arith

pub less-second : (act b : Act) (test : Expr VarId) (a d : Box Act Global) → act ≡ view.If test a d → b ≡ d.value
    → size-Act b < size-Act act
less-second act b test a d i j =
    let k = ap size-Act i ∙ view.sized-If test a d in let l = ap size-Act j in omega arith

pub less-acts : (act : Act) (acts : Vec Act Global) (xs : List Act) → act ≡ view.All acts → xs ≡ acts.items
    → most size-Act xs < size-Act act
less-acts act acts xs i j =
    let k = ap size-Act i ∙ view.sized-All acts in let l = ap (most size-Act) j in omega arith

-- an instruction of a list
pub up-act : (xs : List Act) (i : ℕ) (x : Act) → i < length xs → x ≡ get_or xs i x → size-Act x ≤ most size-Act xs
up-act xs i x h is =
    subst (λ (z : Act). size-Act z ≤ most size-Act xs) (sym is) (at_most size-Act xs i x h)

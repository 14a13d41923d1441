use Rattle.std.proofs.Common.{List, Contains, subst}
use Rattle.domains.specs.declared.Value.{Value}
use Rattle.typed_expr.specs.Sets.{Gathers}
use Rattle.typed_expr.specs.Evaluating.{IsNextOperand}
use Rattle.typed_expr.proofs.Gathering.{gathered-exactly}
use Rattle.typed_expr.proofs.sets.stepped.Goals as goal

pub returns : goal.returns
returns c =
    gathered-exactly c.args.most c.in_ok-all.all.items c.set_of.result
    (IsNextOperand c.args.step c.args.first c.args.numbers.now c.args.values.now) c.in_ok-all.ensures
    (subst (λ (l : List Value). Gathers c.args.most c.set_of.result (Contains l)) c.deref.ensures.value
    c.set_of.ensures)

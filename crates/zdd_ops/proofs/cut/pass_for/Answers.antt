use Rattle.std.proofs.Common.{sym, subst}
use Rattle.zdd_ops.specs.Cuts.{ArePassed}
use Rattle.zdd_ops.proofs.Passing.{minus_second}
use Rattle.zdd_ops.proofs.cut.pass_for.Goals as goal

pub returns-in-Minus : goal.returns-in-Minus
returns-in-Minus c =
    let fs = c.args.store.now.families in
    subst (λ j. ArePassed fs j c.args.f.n c.args.g.n (record { f = c.args.f; g = c.pass-g.result })) (sym c.in-Minus.is)
    (minus_second fs c.args.f c.args.g c.pass-g.result c.requires.f_in c.pass-g.ensures)

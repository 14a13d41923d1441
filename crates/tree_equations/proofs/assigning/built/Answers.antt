use Rattle.eq_build.specs.Views.{gates_in}
use Rattle.tree_equations.proofs.Giving.{built_gives}
use Rattle.tree_equations.proofs.assigning.built.Goals as goal

pub returns : goal.returns
returns c =
    built_gives c.args.rows.now c.args.expr.now (gates_in c.args.gates.now.items) c.build.result
    c.build.new.gates.items c.build.ensures.built c.build.ensures.few c.build.ensures.gates

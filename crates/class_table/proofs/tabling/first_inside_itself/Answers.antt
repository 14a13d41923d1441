use Rattle.std.proofs.Common.{arith}
use Rattle.ar_base.proofs.Standing.{along_length}
use Rattle.class_table.specs.Earliest.{nowhere}
use Rattle.class_table.proofs.Acyclic.{none_again}
use Rattle.class_table.proofs.tabling.first_inside_itself.Goals as goal

pub returns-then-order-bodies : goal.returns-then-order-bodies
returns-then-order-bodies c = λ d rows shown inside order. nowhere (none_again d rows _ inside order
    (let e = along_length c.args.bodies.now d.bodies shown.as_text in let l = inside.long in omega (arith, e, l)))

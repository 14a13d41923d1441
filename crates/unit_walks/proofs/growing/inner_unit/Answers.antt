use Rattle.unit_walks.proofs.Fronts.{made_unit, made_nothing, made_loops, made_following}
use Rattle.unit_walks.proofs.growing.inner_unit.Goals as goal

pub returns-in-ToUnit : goal.returns-in-ToUnit
returns-in-ToUnit c = λ m u g f t p named kind own. made_unit m c.args.table.now c.known.new.table c.args.unit
    c.args.name.n c.in_ok-made.field-0 u g (c.in_ok-made.ensures m u f t p) p named kind own c.in-ToUnit.made
    c.in-ToUnit.is

pub returns-in-Nothing : goal.returns-in-Nothing
returns-in-Nothing c = λ m u g f t p named kind own. made_nothing m c.args.table.now c.known.new.table c.args.unit
    c.args.name.n c.in_ok-made.field-0 u g (c.in_ok-made.ensures m u f t p) p named kind own c.in-Nothing.is

pub returns-in-Loops : goal.returns-in-Loops
returns-in-Loops c = λ m u g f t p named kind own. made_loops m c.args.table.now c.known.new.table c.args.unit
    c.args.name.n c.in_ok-made.field-0 u g (c.in_ok-made.ensures m u f t p) p named kind own c.in-Loops.is

pub returns-in-Following : goal.returns-in-Following
returns-in-Following c = λ m u g f t p named kind own. made_following m c.args.table.now c.known.new.table c.args.unit
    c.args.name.n c.in_ok-made.field-0 u g (c.in_ok-made.ensures m u f t p) p named kind own c.in-Following.is

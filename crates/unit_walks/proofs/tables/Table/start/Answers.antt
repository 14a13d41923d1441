use Rattle.unit_walks.proofs.TableSteps.{owner_start, unit_there}
use Rattle.unit_walks.proofs.tables.Table.start.Goals as goal

pub returns-in-None : goal.returns-in-None
returns-in-None c = λ m frames u t h. absurd (unit_there m frames c.args.self.now t c.args.unit u h c.in-None.ensures)

pub returns-in-Some : goal.returns-in-Some
returns-in-Some c = λ m frames u t h. rw c.in-Owner.is
    (owner_start m frames c.args.self.now t c.args.unit u c.in-Some.met h c.in-Some.ensures)

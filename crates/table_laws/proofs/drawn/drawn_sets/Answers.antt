use Rattle.std.proofs.Common.{ℕ, Option, None}
use Rattle.table_laws.specs.DrawnLaws.{DrawnAreMeantUpTo}
use Rattle.table_laws.proofs.Agreeing.{agrees}
use Rattle.table_laws.proofs.LeastByTable.{shows_least}
use Rattle.table_laws.proofs.Meant.{meant, nodes_seen, drawn_firable, drawn_stored}
use Rattle.table_laws.proofs.drawn.drawn_sets.Goals as goal

are_meant : (order : Option ℕ) → DrawnAreMeantUpTo order
are_meant order = λ sys dropped kinds kind number forest observer wanted table drawn lawful static is_forest observed steps a.
    let same = agrees sys dropped kinds kind _ observer wanted table lawful static.static is_forest observed steps in
    meant order sys dropped static number forest is_forest observer wanted table same
    (shows_least sys dropped static observer wanted table same) drawn a

pub returns-clause-meant : goal.returns-clause-meant
returns-clause-meant c = are_meant None

pub returns-clause-meant_up_to : goal.returns-clause-meant_up_to
returns-clause-meant_up_to c = are_meant

pub returns-clause-firable : goal.returns-clause-firable
returns-clause-firable c = drawn_firable None

pub returns-clause-firable_up_to : goal.returns-clause-firable_up_to
returns-clause-firable_up_to c = drawn_firable

pub returns-clause-stored : goal.returns-clause-stored
returns-clause-stored c = drawn_stored None

pub returns-clause-stored_up_to : goal.returns-clause-stored_up_to
returns-clause-stored_up_to c = drawn_stored

pub returns-clause-nodes : goal.returns-clause-nodes
returns-clause-nodes c = nodes_seen None

pub returns-clause-nodes_up_to : goal.returns-clause-nodes_up_to
returns-clause-nodes_up_to c = nodes_seen

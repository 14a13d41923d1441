use Rattle.unit_walks.proofs.Running.{known_before, known_forgotten}
use Rattle.unit_walks.proofs.walking.known.Goals as goal

pub returns-in-Some : goal.returns-in-Some
returns-in-Some c = λ m u f t p. known_before m c.args.table.now c.args.unit c.args.name.n c.in-Some.known t
    c.in-Some.ensures

pub returns-in-Nothing : goal.returns-in-Nothing
returns-in-Nothing c = λ m u f t p. known_forgotten m c.args.table.now c.discover.new.table c.forget.new.self
    c.args.unit c.args.name.n _ c.in-None.ensures
    (rw c.in-Nothing.is at (c.in_ok-found-in-None.ensures m u f t p)) c.forget.ensures

use Rattle.std.proofs.Common.{[], refl, subst, ap}
use Rattle.ar_base.specs.Numbers.{NameId}
use Rattle.hierarchy.specs.Units.{start_of}
use Rattle.unit_walks.specs.Tables.{StandsIf, table_paths}
use Rattle.unit_walks.specs.declared.tables.Known.TheVariants as known
use Rattle.unit_walks.proofs.Running.{starts_nowhere, started, run_found, run_missing, ready, known_of}
use Rattle.unit_walks.proofs.walking.statement.Goals as goal

pub returns-in_ok-add-in-None : goal.returns-in_ok-add-in-None
returns-in_ok-add-in-None c = λ m u f t p i. starts_nowhere m c.args.table.now c.add.new.self c.args.unit c.args.name.n
    u c.args.is_clone c.args.path.now t p c.in_ok-add-in-None.ensures.set i
    (subst (λ o. StandsIf (table_paths c.args.table.now) o (start_of c.args.path.now.start u)) c.in-None.is
    (c.start.ensures m [] u t p))

pub returns-in-None-at : goal.returns-in-None-at
returns-in-None-at c = λ m u f t p i.
    let next = c.begin-next.result in
    let set = c.in_ok-add-in-Some.ensures.set in
    let first = ready m c.args.table.now _ next u c.args.path.now t p c.deref.ensures.value refl i
    (subst (λ o. StandsIf (table_paths c.args.table.now) o (start_of c.args.path.now.start u)) c.in-Some.is
    (c.start.ensures m [] u t p)) (c.begin-next.ensures.frame m [] u c.args.path.now t) in
    known_of m c.args.table.now c.run.new.table known.Nothing
    c.begin-next.ensures.same.0 (ap (λ (x : NameId). x.n) c.begin-next.ensures.same.1)
    (run_missing m c.args.table.now c.add-in-Some.new.self c.run.new.table next.unit next.name.n known.Following set
    (c.in_ok-run-in-Some.ensures m f (started m next c.args.table.now c.add-in-Some.new.self first set)) c.in-None-at.ensures)

pub returns-in-Some-at : goal.returns-in-Some-at
returns-in-Some-at c = λ m u f t p i.
    let next = c.begin-next.result in
    let set = c.in_ok-add-in-Some.ensures.set in
    let first = ready m c.args.table.now _ next u c.args.path.now t p c.deref.ensures.value refl i
    (subst (λ o. StandsIf (table_paths c.args.table.now) o (start_of c.args.path.now.start u)) c.in-Some.is
    (c.start.ensures m [] u t p)) (c.begin-next.ensures.frame m [] u c.args.path.now t) in
    known_of m c.args.table.now c.run.new.table c.in-Some-at.known
    c.begin-next.ensures.same.0 (ap (λ (x : NameId). x.n) c.begin-next.ensures.same.1)
    (run_found m c.args.table.now c.add-in-Some.new.self c.run.new.table next.unit next.name.n c.in-Some-at.known
    known.Following set
    (c.in_ok-run-in-Some.ensures m f (started m next c.args.table.now c.add-in-Some.new.self first set)) c.in-Some-at.ensures)

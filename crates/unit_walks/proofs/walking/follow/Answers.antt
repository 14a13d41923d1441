use Rattle.std.proofs.Common.{refl, subst}
use Rattle.hierarchy.specs.Units.{start_of}
use Rattle.unit_walks.specs.Tables.{StandsIf, table_paths}
use Rattle.unit_walks.proofs.Stepping.{follow_nowhere, follow_into}
use Rattle.unit_walks.proofs.walking.follow.Goals as goal

pub returns-in_ok-add-in-None-clause-step : goal.returns-in_ok-add-in-None-clause-step
returns-in_ok-add-in-None-clause-step c =
    follow_nowhere c.args.top.now c.args.table.now c.add.new.self c.args.name.n c.args.is_clone c.args.path.now
    c.in_ok-add-in-None.ensures.set (λ s frames u t p. subst
    (λ o. StandsIf (table_paths c.args.table.now) o (start_of c.args.path.now.start u)) c.in-None.is
    (c.start.ensures s frames u t p))

pub returns-in_ok-add-in-Some-clause-step : goal.returns-in_ok-add-in-Some-clause-step
returns-in_ok-add-in-Some-clause-step c =
    follow_into c.args.top.now _ c.begin-next.result c.args.table.now _ c.args.name.n c.args.is_clone c.args.path.now
    c.in_ok-add-in-Some.ensures.set (λ s frames u t p. subst
    (λ o. StandsIf (table_paths c.args.table.now) o (start_of c.args.path.now.start u)) c.in-Some.is
    (c.start.ensures s frames u t p)) refl refl refl c.deref.ensures.value refl c.begin-next.ensures.frame
    c.begin-next.ensures.same.0 c.begin-next.ensures.same.1

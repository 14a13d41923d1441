use Rattle.std.proofs.Common.{[], subst}
use Rattle.unit_walks.specs.Tables.{table_paths, EntryMeans}
use Rattle.unit_walks.proofs.Outcomes.{led_unit, led_nowhere, led_loops, ends_there}
use Rattle.unit_walks.proofs.settling.led_by.Goals as goal

pub returns-in-None : goal.returns-in-None
returns-in-None c = λ m units a x u once are k w j d.
    let e = subst (λ r. EntryMeans m (table_paths c.args.table.now) [] a u x r) c.in-ToUnit.is d in
    let n = c.in-None.ensures m units e.path once are k w e.stands
    (ends_there m units (table_paths c.args.table.now) u x c.in-ToUnit.number are j e) in
    absurd n

pub returns-in-Some : goal.returns-in-Some
returns-in-Some c = λ m units a x u once are k w j d.
    let e = subst (λ r. EntryMeans m (table_paths c.args.table.now) [] a u x r) c.in-ToUnit.is d in
    let n = c.in-Some.ensures m units e.path once are k w e.stands
    (ends_there m units (table_paths c.args.table.now) u x c.in-ToUnit.number are j e) in
    led_unit m units (table_paths c.args.table.now) u x c.in-ToUnit.number c.in-Some.id e n

pub returns-in-Nothing : goal.returns-in-Nothing
returns-in-Nothing c = λ m units a x u once are k w j d. led_nowhere m units (table_paths c.args.table.now) a x u
    (subst (λ r. EntryMeans m (table_paths c.args.table.now) [] a u x r) c.in-Nothing.is d)

pub returns-in-Loops : goal.returns-in-Loops
returns-in-Loops c = λ m units a x u once are k w j d. led_loops m units (table_paths c.args.table.now) a x u
    (subst (λ r. EntryMeans m (table_paths c.args.table.now) [] a u x r) c.in-Loops.is d)

pub returns-in-Following : goal.returns-in-Following
returns-in-Following c = λ m units a x u once are k w j d.
    absurd (subst (λ r. EntryMeans m (table_paths c.args.table.now) [] a u x r) c.in-Following.is d)

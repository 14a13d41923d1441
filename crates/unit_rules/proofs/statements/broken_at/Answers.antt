use Rattle.std.proofs.Common.{◌≡◌, Option, sym, subst, true, false, rules}
use Rattle.ar_base.specs.declared.places.Place.{Place}
use Rattle.class_table.specs.Earliest.{IsEarliest}
use Rattle.hierarchy.specs.Walks.{Reaches, Nothing, Loops}
use Rattle.unit_rules.specs.Naming.{EndsWalk, broken_so, statement_of}
use Rattle.unit_rules.proofs.Ending.{ends_none, ends_here, ends_other, broken_reaches, looping_not_nothing, nothing_not_looping}
use Rattle.unit_rules.proofs.statements.broken_at.Goals as goal

pub returns-in_err-path : goal.returns-in_err-path
returns-in_err-path c = λ m units u a s.
    subst (λ (r : Option Place). IsEarliest (EndsWalk m u (broken_so c.args.looping) (statement_of c.args.owned.now)) r)
    (sym c.from_residual.ensures) (ends_none _ (sym c.in_err-path.ensures))

pub returns-in-Unit : goal.returns-in-Unit
returns-in-Unit c = λ m units u a s.
    let l = c.in-Unit.ensures m units u a s in
    ends_other (Reaches l.0) _ c.in_ok-path.path.now c.in_ok-path.name.n c.in_ok-path.ensures l.2
    (broken_reaches c.args.looping l.0)

pub returns-then-looping : goal.returns-then-looping
returns-then-looping c = λ m units u a s.
    ends_other Nothing _ c.in_ok-path.path.now c.in_ok-path.name.n c.in_ok-path.ensures
    (c.in-Nothing.ensures m units u a s) (looping_not_nothing c.args.looping c.if-looping.true)

pub returns-else-looping : goal.returns-else-looping
returns-else-looping c = λ m units u a s.
    (let e : c.args.looping ≡ false = search (rules, c.if-looping.false) in rw e (ends_here _ c.in_ok-path.path.now c.in_ok-path.name.n c.in_ok-path.ensures (c.in-Nothing.ensures m units u a s)))

pub returns-then-looping-2 : goal.returns-then-looping-2
returns-then-looping-2 c = λ m units u a s.
    (let e : c.args.looping ≡ true = search (rules, c.if-looping-2.true) in rw e (ends_here _ c.in_ok-path.path.now c.in_ok-path.name.n c.in_ok-path.ensures (c.in-Loops.ensures m units u a s)))

pub returns-else-looping-2 : goal.returns-else-looping-2
returns-else-looping-2 c = λ m units u a s.
    ends_other Loops _ c.in_ok-path.path.now c.in_ok-path.name.n c.in_ok-path.ensures (c.in-Loops.ensures m units u a s)
    (nothing_not_looping c.args.looping c.if-looping-2.false)

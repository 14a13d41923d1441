use Rattle.std.proofs.Common.{List, [], ◌∷◌, refl, sym, subst}
use Rattle.unit_rules.specs.Naming.{NameEntry, AddsNames, none, one_more, added, nothing}
use Rattle.unit_rules.proofs.Adding.{not_nothing, not_loops}
use Rattle.unit_rules.proofs.naming.add.Goals as goal

pub returns-in_ok-push-in-Unit : goal.returns-in_ok-push-in-Unit
returns-in_ok-push-in-Unit c = λ m units u a s.
    let l = c.in-Unit.ensures m units u a s in
    subst (λ (new : List NameEntry). AddsNames m units u c.args.entries.now.items (c.args.name.n ∷ []) new)
    (sym c.in_ok-push-in-Unit.ensures.items) (one_more none (added (c.args.name, c.in-Unit.found) l.0 refl l.1 l.2))

pub returns-in-Nothing : goal.returns-in-Nothing
returns-in-Nothing c = λ m units u a s. one_more none (nothing (not_nothing (c.in-Nothing.ensures m units u a s)))

pub returns-in-Loops : goal.returns-in-Loops
returns-in-Loops c = λ m units u a s. one_more none (nothing (not_loops (c.in-Loops.ensures m units u a s)))

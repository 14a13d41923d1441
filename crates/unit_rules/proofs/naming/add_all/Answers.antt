use Rattle.std.proofs.Common.{ℕ, List, map, sym, subst}
use Rattle.std.proofs.lemmas.List.{take_all}
use Rattle.ar_base.specs.Numbers.{NameId}
use Rattle.ar_base.specs.declared.places.Place.{Place}
use Rattle.ar_base.proofs.Standing.{stands_get}
use Rattle.class_table.proofs.Taken.{map_next}
use Rattle.unit_rules.specs.Naming.{AddsNames, none}
use Rattle.unit_rules.proofs.Adding.{adds_more}
use Rattle.unit_rules.proofs.naming.add_all.Goals as goal

pub loop-name-init : goal.loop-name-init
loop-name-init c = λ m units u a s. none

pub loop-name-preserved : goal.loop-name-preserved
loop-name-preserved c = λ m units u a s.
    let first : NameId × Place = (record { n = 0; of = record {} }, record { line = 0; column = 0 }) in
    let e = map_next (λ (n : NameId × Place). n.0.n) c.args.names.now c.loop-name.name-index _
    (stands_get c.args.names.now c.loop-name.name-index first c.loop-name-test.true) in
    subst (λ (xs : List ℕ). AddsNames m units u c.args.entries.now.items xs c.add.new.entries.items) (sym e)
    (adds_more _ (c.loop-name.invariant m units u a s) (c.in_ok-add.ensures m units u a s))

pub returns : goal.returns
returns c = λ m units u a s.
    subst (λ (ns : List (NameId × Place)). AddsNames m units u c.args.entries.now.items
    (map (λ (n : NameId × Place). n.0.n) ns) c.loop-name.entries.items)
    (take_all c.loop-name.name-index c.args.names.now c.loop-name-test.false) (c.loop-name.invariant m units u a s)

use Rattle.std.proofs.Common.{ℕ, ◌++◌, List, map, take, sym, ap, ◌∙◌, subst, append_assoc}
use Rattle.std.proofs.lemmas.List.{take_all, append-nil}
use Rattle.ar_base.specs.Numbers.{NameId}
use Rattle.ar_base.specs.declared.places.Place.{Place}
use Rattle.ar_base.proofs.Standing.{stands_get}
use Rattle.class_table.specs.Names.{name_and_place}
use Rattle.class_table.specs.Repeating.{HasMet}
use Rattle.class_table.proofs.Taken.{map_next}
use Rattle.class_table.proofs.repeats.Repeats.add_all.Goals as goal

pub loop-name-init : goal.loop-name-init
loop-name-init c = λ names h. subst (HasMet c.args.self.now) (sym (append-nil names)) h

pub loop-name-preserved : goal.loop-name-preserved
loop-name-preserved c = λ names h.
    let none : NameId × Place = (record { n = 0; of = record {} }, record { line = 0; column = 0 }) in
    let s = stands_get c.args.list.now c.loop-name.name-index none c.loop-name-test.true in
    let done = map name_and_place (take c.loop-name.name-index c.args.list.now) in
    subst (HasMet c.add.new.self)
    (append_assoc names done _
    ∙ ap (λ (ns : List (ℕ × Place)). names ++ ns) (sym (map_next name_and_place c.args.list.now c.loop-name.name-index _ s)))
    (c.in_ok-add.ensures (names ++ done) (c.loop-name.invariant names h))

pub returns : goal.returns
returns c = λ names h.
    subst (λ (xs : List (NameId × Place)). HasMet c.loop-name.self (names ++ map name_and_place xs))
    (take_all c.loop-name.name-index c.args.list.now c.loop-name-test.false) (c.loop-name.invariant names h)

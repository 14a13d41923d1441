use Rattle.std.proofs.Common.{ℕ, ◌<◌, List, map, length, sym, subst, arith}
use Rattle.std.proofs.lemmas.List.{take_all}
use Rattle.ar_base.specs.Numbers.{NameId}
use Rattle.ar_base.specs.declared.places.Place.{Place}
use Rattle.ar_base.proofs.Standing.{stands_get}
use Rattle.class_table.specs.Names.{name_and_place}
use Rattle.class_table.specs.TablesInside.{site_of}
use Rattle.class_table.proofs.Taken.{map_next}
use Rattle.class_table.proofs.GivenNames.{AddsAt, at_none, at_next, at_site}
use Rattle.class_table.proofs.given.Given.add_all.Goals as goal

pub loop-name-init : goal.loop-name-init
loop-name-init c = at_none _ _

pub loop-name-preserved : goal.loop-name-preserved
loop-name-preserved c =
    let l : c.loop-name.name-index < length c.args.list.now = omega arith in
    let none : NameId × Place = (record { n = 0; of = record {} }, record { line = 0; column = 0 }) in
    let st = stands_get c.args.list.now c.loop-name.name-index none l in
    subst (λ (ns : List (ℕ × Place)). AddsAt (site_of c.args.site) ns c.args.self.now c.add.new.self)
    (sym (map_next name_and_place c.args.list.now c.loop-name.name-index _ st))
    (at_next _ _ _ _ _ _ _ c.loop-name.invariant c.in_ok-add.ensures)

pub returns : goal.returns
returns c = λ d e. at_site d _ _ _ _ e
    (subst (λ (xs : List (NameId × Place)). AddsAt (site_of c.args.site) (map name_and_place xs) c.args.self.now
    c.loop-name.self)
    (take_all c.loop-name.name-index c.args.list.now (omega arith)) c.loop-name.invariant)

use Rattle.std.proofs.Common.{ℕ, ◌<◌, List, map, length, sym, subst, arith}
use Rattle.std.proofs.lemmas.List.{take_all}
use Rattle.ar_base.specs.Numbers.{NameId}
use Rattle.ar_base.specs.declared.places.Place.{Place}
use Rattle.ar_base.proofs.Standing.{stands_get}
use Rattle.class_table.specs.Earliest.{IsEarliest}
use Rattle.class_table.specs.Names.{name_and_place}
use Rattle.class_table.specs.Retested.{member_names_at, IsNameTaken}
use Rattle.class_table.specs.TablesInside.{site_of}
use Rattle.class_table.proofs.Taken.{map_next}
use Rattle.class_table.proofs.GivenNames.{taken_none, taken_same, taken_more}
use Rattle.class_table.proofs.given.Given.first_taken.Goals as goal
use Rattle.class_table.proofs.given.Given.first_taken.Goals.{then-has, else-has}

pub loop-name-init : goal.loop-name-init
loop-name-init c = λ d known. taken_none _

pub loop-name-preserved : goal.loop-name-preserved
loop-name-preserved c = λ d known.
    let l : c.loop-name.name-index < length c.args.list.now = omega arith in
    let none : NameId × Place = (record { n = 0; of = record {} }, record { line = 0; column = 0 }) in
    let st = stands_get c.args.list.now c.loop-name.name-index none l in
    subst (λ (ns : List (ℕ × Place)). IsEarliest (IsNameTaken (member_names_at d (map site_of c.args.sites.now)) ns) c.if-has.found)
    (sym (map_next name_and_place c.args.list.now c.loop-name.name-index _ st))
    (elim c.if-has.branch [
      | then-has w ↦ rw w.found-is
          (taken_more _ _ _ _ _ _ ((c.has.ensures d known).0 w.if-has.true)
          w.earliest-found.ensures (c.loop-name.invariant d known))
      | else-has w ↦ rw w.found-is
          (taken_same _ _ _ _ _ (λ n. let g = (c.has.ensures d known).1 n in let f = w.if-has.false in absurd (cc))
          (c.loop-name.invariant d known))
    ])

pub returns : goal.returns
returns c = λ d known.
    subst (λ (xs : List (NameId × Place)). IsEarliest
    (IsNameTaken (member_names_at d (map site_of c.args.sites.now)) (map name_and_place xs)) c.loop-name.found)
    (take_all c.loop-name.name-index c.args.list.now (omega arith)) (c.loop-name.invariant d known)

use Rattle.std.proofs.Common.{ℕ, ◌<◌, length, map, subst, sym, arith, List, get_or}
use Rattle.std.proofs.lemmas.List.{take_all}
use Rattle.ar_base.specs.Lists.{Along, Stands}
use Rattle.ar_base.specs.Numbers.{NameId}
use Rattle.ar_base.specs.declared.places.Place.{Place}
use Rattle.ar_base.proofs.Standing.{stands_get}
use Rattle.class_table.specs.Symbols.{UsesMore, names_of_symbols}
use Rattle.class_table.proofs.Taken.{take_next, map_next}
use Rattle.class_table.proofs.Numbered.{numbers_next, numbers_start}
use Rattle.class_table.proofs.symbols.Symbols.numbers.Goals as goal

pub loop-name-init : goal.loop-name-init
loop-name-init c = numbers_start _ _ c.new-numbers.ensures.items c.requires

pub loop-name-preserved : goal.loop-name-preserved
loop-name-preserved c =
    let i = c.loop-name.name-index in
    let l : c.loop-name.name-index < length c.args.names.now = omega arith in
    let none : NameId × Place = (record { n = 0; of = record {} }, record { line = 0; column = 0 }) in
    let s = stands_get c.args.names.now c.loop-name.name-index none l in
    let g = c.loop-name.invariant in
    let k = numbers_next _ _ _ _ _ _ _ (get_or c.args.names.now c.loop-name.name-index none) _ c.in_ok-push.ensures.items g c.in_ok-number.ensures in (
      subst (λ (xs : List ℕ). UsesMore xs c.args.self.now c.number.new.self)
          (sym (map_next (λ (n : NameId × Place). n.0.n) c.args.names.now c.loop-name.name-index _ s)) k.0,
      subst (λ (ns : List (NameId × Place)). Along
          (λ (n : NameId × Place) (m : ℕ). Stands (names_of_symbols c.number.new.self) m n.0.n) ns c.push.new.self.items)
          (sym (take_next c.args.names.now c.loop-name.name-index _ s)) k.1,
    )

pub returns : goal.returns
returns c =
    let e = take_all c.loop-name.name-index c.args.names.now (omega arith) in
    subst (λ (ns : List (NameId × Place)). UsesMore (map (λ (n : NameId × Place). n.0.n) ns) c.args.self.now
    c.loop-name.self × Along (λ (n : NameId × Place) (k : ℕ). Stands (names_of_symbols c.loop-name.self) k n.0.n) ns
    c.loop-name.numbers.items) e
    c.loop-name.invariant

pub number-requires : goal.number-requires
number-requires c = c.loop-name.invariant.0.numbered

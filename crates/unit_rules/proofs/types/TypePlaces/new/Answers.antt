use Rattle.std.proofs.Common.{◌≡◌, ◌<◌, ℕ, List, take, nat_eq, sym, subst, ap, arith, ◌∙◌, length}
use Rattle.std.proofs.lemmas.List.{take_all, length-take-le}
use Rattle.std.specs.HashMap as hash
use Rattle.std.specs.Map.{lookup}
use Rattle.ar_base.specs.Numbers.{NameId}
use Rattle.class_table.specs.declared.tables.TypeBody.{TypeBody}
use Rattle.class_table.proofs.Taken.{take_item}
use Rattle.unit_rules.specs.TypingInside.{type_place_in}
use Rattle.unit_rules.proofs.Found.{known_step, new_step}
use Rattle.unit_rules.proofs.types.TypePlaces.new.Goals as goal
use Rattle.unit_rules.proofs.types.TypePlaces.new.Goals.{then-not-contains_key+in_ok-insert, else-not-contains_key}

pub loop-place-init : goal.loop-place-init
loop-place-init c = λ x. ap (lookup (nat_eq x)) c.new.ensures.empty

pub loop-place-preserved : goal.loop-place-preserved
loop-place-preserved c =
    let l : c.loop-place.place < length c.args.types.now = omega arith in
    let e = take_item c.args.types.now c.loop-place.place c.index-types-place.result l c.index-types-place.is in
    let n = length-take-le c.loop-place.place c.args.types.now (omega arith) in
    let types = take c.loop-place.place c.args.types.now in
    let places = λ (x : ℕ). hash.get nat_eq c.loop-place.known.places x in
    let item = c.index-types-place.result in
    subst (λ (ts : List (NameId × TypeBody)). (x : ℕ) → hash.get nat_eq c.if-not-contains_key.known.places x
    ≡ type_place_in ts x) (sym e)
    (elim c.if-not-contains_key.branch [
      | then-not-contains_key+in_ok-insert w ↦
          rw w.known-is (new_step places _ types item c.loop-place.place n c.loop-place.invariant
          (sym c.contains_key.ensures ∙ w.if-not-contains_key.true) w.in_ok-insert.ensures.updates.0)
      | else-not-contains_key w ↦
          rw w.known-is (known_step places types item c.loop-place.invariant
          (sym c.contains_key.ensures ∙ w.if-not-contains_key.false))
    ])

pub returns : goal.returns
returns c = let e = take_all c.loop-place.place c.args.types.now (omega arith) in
    record { each = λ x. c.loop-place.invariant x ∙ ap (λ (ts : List (NameId × TypeBody)). type_place_in ts x) e }

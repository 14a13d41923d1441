use Rattle.std.proofs.Common.{◌≡◌, ℕ, List, take, sym, subst, ap, arith}
use Rattle.std.proofs.lemmas.List.{take_all}
use Rattle.std.specs.Map.{lookup}
use Rattle.std.proofs.Common.{nat_eq, ◌∙◌}
use Rattle.ar_base.specs.Numbers.{NameId}
use Rattle.class_table.specs.Kinds.{kind_looked_up}
use Rattle.class_table.specs.Kinding.{kind_among}
use Rattle.class_table.specs.declared.tables.TypeBody.{TypeBody}
use Rattle.class_table.proofs.Taken.{take_item}
use Rattle.class_table.proofs.Kinded.{knows, known_step, new_step}
use Rattle.class_table.proofs.types.TypeKinds.new.Goals as goal
use Rattle.class_table.proofs.types.TypeKinds.new.Goals.{then-not-contains_key+in_ok-insert, else-not-contains_key}

pub loop-name-init : goal.loop-name-init
loop-name-init c = λ x. ap (lookup (nat_eq x)) c.new.ensures.empty

pub loop-name-preserved : goal.loop-name-preserved
loop-name-preserved c =
    let e = take_item c.args.types.now c.loop-name.name-index c.loop-name-item.result (omega arith)
    c.loop-name-item.is in
    let types = take c.loop-name.name-index c.args.types.now in
    let item = c.loop-name-item.result in
    subst (λ (ts : List (NameId × TypeBody)). (x : ℕ) → kind_looked_up c.if-not-contains_key.kinds x ≡ kind_among ts x) (sym e)
    (elim c.if-not-contains_key.branch [
      | then-not-contains_key+in_ok-insert w ↦
          rw w.kinds-is (new_step (kind_looked_up c.loop-name.kinds) _ types item c.loop-name.invariant
          (sym c.contains_key.ensures ∙ w.if-not-contains_key.true)
          (rw w.kind_of.ensures at w.in_ok-insert.ensures.updates.0))
      | else-not-contains_key w ↦
          rw w.kinds-is (known_step (kind_looked_up c.loop-name.kinds) types item c.loop-name.invariant
          (sym c.contains_key.ensures ∙ w.if-not-contains_key.false))
    ])

pub returns : goal.returns
returns c = λ d a.
    let e = take_all c.loop-name.name-index c.args.types.now (omega arith) in
    knows d _ c.args.types.now a (λ x. c.loop-name.invariant x ∙ ap (λ (ts : List (NameId × TypeBody)). kind_among ts x) e)

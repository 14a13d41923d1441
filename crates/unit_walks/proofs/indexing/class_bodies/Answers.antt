use Rattle.std.proofs.Common.{◌≡◌, ℕ, List, take, sym, subst, ap, arith, nat_eq, ◌∙◌}
use Rattle.std.proofs.lemmas.List.{take_all}
use Rattle.std.specs.Map.{lookup}
use Rattle.ar_base.specs.Numbers.{NameId}
use Rattle.class_table.specs.declared.tables.TypeBody.{TypeBody}
use Rattle.class_table.proofs.Taken.{take_item}
use Rattle.unit_walks.specs.Classes.{class_at, class_in}
use Rattle.unit_walks.proofs.ClassNames.{are_classes, class_kept, class_added}
use Rattle.unit_walks.proofs.indexing.class_bodies.Goals as goal
use Rattle.unit_walks.proofs.indexing.class_bodies.Goals.{then-not-contains_key+in_ok-insert, else-not-contains_key}

pub loop-name-init : goal.loop-name-init
loop-name-init c = λ x. ap (lookup (nat_eq x)) c.new-classes.ensures.empty

pub loop-name-preserved : goal.loop-name-preserved
loop-name-preserved c =
    let e = take_item c.args.types.now c.loop-name.name-index c.loop-name-item.result (omega arith)
    c.loop-name-item.is in
    let types = take c.loop-name.name-index c.args.types.now in
    let item = c.loop-name-item.result in
    subst (λ (ts : List (NameId × TypeBody)). (x : ℕ) → class_at c.if-not-contains_key.classes x ≡ class_in ts x) (sym e)
    (elim c.if-not-contains_key.branch [
      | then-not-contains_key+in_ok-insert w ↦
          rw w.classes-is (class_added (class_at c.loop-name.classes) _ types item c.loop-name.invariant
          (sym c.contains_key.ensures ∙ w.if-not-contains_key.true)
          (rw w.class_of.ensures at w.in_ok-insert.ensures.updates.0))
      | else-not-contains_key w ↦
          rw w.classes-is (class_kept (class_at c.loop-name.classes) types item c.loop-name.invariant
          (sym c.contains_key.ensures ∙ w.if-not-contains_key.false))
    ])

pub returns : goal.returns
returns c = λ d a.
    let e = take_all c.loop-name.name-index c.args.types.now (omega arith) in
    are_classes d _ c.args.types.now a
    (λ x. c.loop-name.invariant x ∙ ap (λ (ts : List (NameId × TypeBody)). class_in ts x) e)

-- One number more.
use Rattle.std.proofs.Common.{◌≡◌, ℕ, List, [], ◌∷◌, ◌++◌, ap, ◌∙◌, subst, arith}
use Rattle.flow_blocks.specs.Slots.{AreSlots}
use Rattle.flow_blocks.proofs.RowLemmas.{Row, row_got}
use Rattle.flow_blocks.proofs.SlotLemmas.{no_slots, slots_more}
use Rattle.flow_blocks.proofs.slots.slots.Goals as goal

pub loop-number-init : goal.loop-number-init
loop-number-init c = no_slots c.args.count c.args.rows.now c.in_ok-slots.slots.items c.in_ok-slots.ensures.long
    c.in_ok-slots.ensures.none

pub loop-number-preserved : goal.loop-number-preserved
loop-number-preserved c =
    let within = c.slot_of-slot.ensures.within in
    slots_more c.args.count c.args.rows.now c.loop-number.number c.loop-number.slots.items c.slot_of-slot.result
    c.push.new.self c.loop-number.invariant c.slot_of-slot.ensures.slot within
    (c.in_ok-push.ensures.items ∙ ap (λ (l : List ℕ). l ++ c.loop-number.number ∷ [])
    (ap (λ (r : Row). r.items) c.index_mut.ensures.value
    ∙ row_got c.loop-number.slots.items _ _ (omega (arith, within, c.loop-number.invariant.long))))

pub returns : goal.returns
returns c =
    let end : c.loop-number.number ≡ c.args.count =
    omega (arith, c.loop-number-test.false, c.loop-number.auto.number-end) in
    subst (λ (n : ℕ). AreSlots c.args.count c.args.rows.now n c.loop-number.slots.items) end c.loop-number.invariant

-- The members are the class of the least number.
use Rattle.std.proofs.Common.{◌≡◌, ℕ, inl, inr, List, sym, ◌∙◌, subst, arith, true≢false}
use Rattle.ar_base.specs.Lists.{IsOneOf}
use Rattle.ar_base.specs.Sets.{Ascends}
use Rattle.flow_blocks.specs.Blocks.{IsClass}
use Rattle.flow_blocks.specs.Bits.{row_of}
use Rattle.flow_blocks.specs.Slots.{slot_of}
use Rattle.flow_blocks.specs.Table.{IsSelection}
use Rattle.flow_blocks.proofs.ClassLemmas.{class_alone}
use Rattle.flow_blocks.proofs.SlotLemmas.{slot_row, class_selected}
use Rattle.flow_blocks.proofs.classing.class_from.Goals as goal

pub returns-then-not-are_mutual-clause-is_class : goal.returns-then-not-are_mutual-clause-is_class
returns-then-not-are_mutual-clause-is_class c = λ uses all lone.
    subst (λ (l : List ℕ). IsClass c.args.count uses l) (sym c.in_ok-members.ensures.items)
    (class_alone c.args.count uses c.args.rows.now c.args.least all c.requires.below lone
    (λ own. true≢false (sym (c.are_mutual.ensures.1 (own, own)) ∙ c.if-not-are_mutual.true)))

-- the candidates are those of the slot of the least number's row
slot_taken : (c : goal.After-members-2-1)
    → c.deref.result.now ≡ row_of c.args.slots.now (slot_of c.args.count (row_of c.args.rows.now c.args.least))
slot_taken c =
    c.deref.ensures.value ∙ slot_row c.args.slots.now c.args.count c.slot_of-slot.result
    (row_of c.args.rows.now c.args.least) c.index-slots-slot.result c.slot_of-slot.ensures.within
    c.requires.slots.long c.slot_of-slot.ensures.slot c.index-slots-slot.is

selected : (c : goal.In_ok-add_others)
    → IsSelection c.args.rows.now c.args.least
    (row_of c.args.slots.now (slot_of c.args.count (row_of c.args.rows.now c.args.least)))
    c.add_others.new.members.items
selected c =
    subst (λ (l : List ℕ). IsSelection c.args.rows.now c.args.least l c.add_others.new.members.items)
    (c.deref.ensures.value ∙ slot_row c.args.slots.now c.args.count c.slot_of-slot.result
    (row_of c.args.rows.now c.args.least) c.index-slots-slot.result c.slot_of-slot.ensures.within
    c.requires.slots.long c.slot_of-slot.ensures.slot c.index-slots-slot.is)
    c.in_ok-add_others.ensures

pub add_others-requires-clause-candidates : goal.add_others-requires-clause-candidates
add_others-requires-clause-candidates c =
    λ n one. c.requires.slots.below _ n (subst (λ (l : List ℕ). IsOneOf l n) (slot_taken c) one)

pub add_others-requires-clause-ascend : goal.add_others-requires-clause-ascend
add_others-requires-clause-ascend c = subst Ascends (sym (slot_taken c)) (c.requires.slots.ascending _)

pub returns-clause-within : goal.returns-clause-within
returns-clause-within c = λ n one. elim ((selected c).only n one) [
  | inl is ↦ (omega (arith, is), omega (arith, is, c.requires.below))
  | inr more ↦ (omega (arith, more.1), c.requires.slots.below _ n more.0)
]

pub returns-clause-is_class : goal.returns-clause-is_class
returns-clause-is_class c = λ uses all lone.
    class_selected c.args.count uses c.args.rows.now c.args.slots.now c.args.least all c.requires.slots c.requires.below
    lone _ (c.are_mutual.ensures.0 c.if-not-are_mutual.false).0
    (selected c)

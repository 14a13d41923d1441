use Rattle.std.proofs.Common.{arith, sym, ℕ, Bool, List, ◌++◌, map, subst}
use borrow.Author.Count.{falls}
use Rattle.ar_base.specs.Lists.{Stands}
use Rattle.ar_base.specs.Numbers.{WayId}
use Rattle.ar_base.proofs.Standing.{stands_get}
use Rattle.gts_core.specs.Bound.{event_part_of}
use Rattle.gts_core.specs.View.{part_of}
use Rattle.sync_expand.specs.Plans.{choices_by}
use Rattle.sync_expand.proofs.Choosing.{choice_split, choice_more, choice_done}
use Rattle.sync_expand.proofs.planning.choice.Goals as goal

pub loop-must-init : goal.loop-must-init
loop-must-init c = (
  c.requires.total,
  c.requires.place,
  λ rest s. subst (λ (ws : List (Bool × WayId)). Stands
      (choices_by c.args.numbering.now.counts.items (map event_part_of c.args.parts.now)) c.args.place
      (map part_of ws ++ rest)) (sym c.new-chosen.ensures.items) s,
)

pub nonzero_div-next : goal.nonzero_div-next
nonzero_div-next c =
    let counts = c.args.numbering.now.counts.items in
    let s = stands_get c.args.parts.now c.loop-must.must-index _ c.loop-must-test.true in
    let i = c.loop-must.invariant in
    let n = choice_split counts c.args.parts.now c.loop-must.must-index _ c.loop-must.span c.loop-must.left
    c.number_at-count.result s (sym (rw c.deref.ensures.value at c.number_at-count.ensures)) i.0 i.1 in
    n.count_some

pub nonzero_div-left : goal.nonzero_div-left
nonzero_div-left c =
    let counts = c.args.numbering.now.counts.items in
    let s = stands_get c.args.parts.now c.loop-must.must-index _ c.loop-must-test.true in
    let i = c.loop-must.invariant in
    let n = choice_split counts c.args.parts.now c.loop-must.must-index _ c.loop-must.span c.loop-must.left
    c.number_at-count.result s (sym (rw c.deref.ensures.value at c.number_at-count.ensures)) i.0 i.1 in
    n.next_some

pub way-way-requires-clause-numbered : goal.way-way-requires-clause-numbered
way-way-requires-clause-numbered c = c.requires.numbered

pub way-way-requires-clause-place : goal.way-way-requires-clause-place
way-way-requires-clause-place c =
    let counts = c.args.numbering.now.counts.items in
    let s = stands_get c.args.parts.now c.loop-must.must-index _ c.loop-must-test.true in
    let i = c.loop-must.invariant in
    let n = choice_split counts c.args.parts.now c.loop-must.must-index _ c.loop-must.span c.loop-must.left
    c.number_at-count.result s (sym (rw c.deref.ensures.value at c.number_at-count.ensures)) i.0 i.1 in
    n.digit

pub nonzero_rem-left : goal.nonzero_rem-left
nonzero_rem-left c =
    let counts = c.args.numbering.now.counts.items in
    let s = stands_get c.args.parts.now c.loop-must.must-index _ c.loop-must-test.true in
    let i = c.loop-must.invariant in
    let n = choice_split counts c.args.parts.now c.loop-must.must-index _ c.loop-must.span c.loop-must.left
    c.number_at-count.result s (sym (rw c.deref.ensures.value at c.number_at-count.ensures)) i.0 i.1 in
    n.next_some

pub loop-must-smaller : goal.loop-must-smaller
loop-must-smaller c = falls _ c.loop-must.must-index c.loop-must-test.true

pub loop-must-preserved : goal.loop-must-preserved
loop-must-preserved c =
    let counts = c.args.numbering.now.counts.items in
    let s = stands_get c.args.parts.now c.loop-must.must-index _ c.loop-must-test.true in
    let i = c.loop-must.invariant in
    let n = choice_split counts c.args.parts.now c.loop-must.must-index _ c.loop-must.span c.loop-must.left
    c.number_at-count.result s (sym (rw c.deref.ensures.value at c.number_at-count.ensures)) i.0 i.1 in (
      n.next_is,
      n.rest,
      λ tail t. choice_more counts c.args.parts.now c.args.place c.loop-must.chosen.items c.push.new.self.items _
          c.way-way.result _ tail c.in_ok-push.ensures.items c.way-way.ensures (i.2 _ (n.stands tail t)),
    )

pub returns : goal.returns
returns c =
    let i = c.loop-must.invariant in
    choice_done c.args.numbering.now.counts.items c.args.parts.now c.args.place c.loop-must.must-index
    c.loop-must.left c.loop-must.span c.loop-must.chosen.items (omega arith) i.0 i.1 i.2

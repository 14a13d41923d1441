use Rattle.std.proofs.Common.{◌<◌, ℕ, List, length, get_or, sym, ◌∙◌, subst, arith}
use Rattle.ar_base.proofs.Standing.{stands_within}
use Rattle.ar_base.specs.Numbers.{WayId}
use Rattle.ar_base.specs.NumbersInside.{EventId}
use Rattle.domains.specs.declared.Value.{Value}
use Rattle.ar_meaning.specs.Systems as s
use Rattle.ar_meaning.specs.Steps as steps
use Rattle.ar_meaning.specs.Runs.{Label}
use Rattle.gts_core.specs.View.{IsWayAt, net_of}
use Rattle.gts_core.specs.declared.system.GtsParts.{GtsParts}
use Rattle.min_cuts.specs.Kept.{numbers_of_set}
use Rattle.stepper.specs.Steps.{IsStepFault, IsStartFault}
use Rattle.text_pieces.proofs.Ranges.{flows_inside, fire_inside}
use Rattle.cut_text.specs.Tables.{labels_at}
use Rattle.cut_text.proofs.Pieces.{have_here}
use Rattle.cut_text.proofs.Fault.{told_inside, labels_long, here_inside, here_label, next, found, at_start, begins, no_conflict}
use Rattle.cut_text.proofs.conflicts.fault_met.Goals as goal

-- the number of the way at hand
abbrev way_now : List WayId → List EventId → ℕ → ℕ
way_now ways events i = (get_or ways (get_or events i (record { n = 0; of = record {} })).n
    (record { n = 0; of = record {} })).n

pub returns-in-Err-Flow-clause-range : goal.returns-in-Err-Flow-clause-range
returns-in-Err-Flow-clause-range c =
    flows_inside c.args.gts.now _ c.in-Err-Flow.fault (subst
    (IsStartFault (net_of c.args.gts.now)) c.in-Err-Flow.field-0-is c.in-Err-Flow.ensures.fault)

pub returns-in-Err-Flow-clause-met : goal.returns-in-Err-Flow-clause-met
returns-in-Err-Flow-clause-met c = λ system views dropped fault h.
    at_start c.args.gts.now c.parts-sound_parts.ensures.sound system views dropped
    (labels_at c.args.gts.now c.args.ways.now (numbers_of_set c.args.events.now)) fault c.in-Err-Flow.fault
    (subst (IsStartFault (net_of c.args.gts.now)) c.in-Err-Flow.field-0-is c.in-Err-Flow.ensures.fault) h

pub loop-event-init : goal.loop-event-init
loop-event-init c = (
  c.in-Ok.ensures.system,
  λ system views dropped fault h. begins c.args.gts.now c.parts-sound_parts.ensures.sound system views dropped
      c.in-Ok.stepper.values c.in-Ok.ensures.starts,
)

pub bounds-ways-event : goal.bounds-ways-event
bounds-ways-event c =
    let h = have_here c.args.gts.now c.args.ways.now c.args.events.now c.loop-event.event-index
    (record { n = 0; of = record {} }) c.requires c.loop-event-test.true in
    stands_within c.args.ways.now _ h.way h.stands

pub fire-requires : goal.fire-requires
fire-requires c =
    let i : ℕ = c.loop-event.event-index in
    let inside : way_now c.args.ways.now c.args.events.now i < length c.args.gts.now.ways.items =
    here_inside c.args.gts.now c.args.ways.now c.args.events.now i (record { n = 0; of = record {} })
    (record { n = 0; of = record {} }) c.requires c.loop-event-test.true in
    subst (λ (q : GtsParts). way_now c.args.ways.now c.args.events.now i < length q.ways.items)
    (sym c.loop-event.invariant.0) inside

pub returns-in-Err-clause-range : goal.returns-in-Err-clause-range
returns-in-Err-clause-range c =
    let p : GtsParts = c.args.gts.now in
    let i : ℕ = c.loop-event.event-index in
    let n : ℕ = way_now c.args.ways.now c.args.events.now i in
    let inside = here_inside p c.args.ways.now c.args.events.now i (record { n = 0; of = record {} })
    (record { n = 0; of = record {} }) c.requires c.loop-event-test.true in
    told_inside p c.in-Err.fault c.flow_fault.result c.flow_fault.ensures
    (fire_inside p c.parts-sound_parts.ensures.sound n inside c.loop-event.stepper c.loop-event.invariant.0
    c.in-Err.fault c.in-Err.ensures.fault)

pub returns-in-Err-clause-met : goal.returns-in-Err-clause-met
returns-in-Err-clause-met c = λ system views dropped fault h.
    let p : GtsParts = c.args.gts.now in
    let i : ℕ = c.loop-event.event-index in
    let n : ℕ = way_now c.args.ways.now c.args.events.now i in
    let all : List Label = labels_at p c.args.ways.now (numbers_of_set c.args.events.now) in
    let inside = here_inside p c.args.ways.now c.args.events.now i (record { n = 0; of = record {} })
    (record { n = 0; of = record {} }) c.requires c.loop-event-test.true in
    let t : List Value = c.loop-event.stepper.values in
    found p c.parts-sound_parts.ensures.sound system views dropped all fault h i (record { event = 0; way = 0 })
    (omega (arith, c.loop-event-test.true, labels_long p c.args.ways.now c.args.events.now)) n inside
    (here_label p c.args.ways.now c.args.events.now i (record { n = 0; of = record {} })
    (record { n = 0; of = record {} }) (record { event = 0; way = 0 }) c.requires c.loop-event-test.true)
    t (c.loop-event.invariant.1 system views dropped fault h) c.in-Err.fault c.flow_fault.result c.flow_fault.ensures
    (subst (λ (q : GtsParts). (w : s.Way ℕ) → IsWayAt q n w → IsStepFault (net_of q) t w c.in-Err.fault)
    c.loop-event.invariant.0 c.in-Err.ensures.fault)

pub loop-event-preserved : goal.loop-event-preserved
loop-event-preserved c = (
  c.in-Ok-fire.ensures.system ∙ c.loop-event.invariant.0,
  λ system views dropped fault h.
      let p : GtsParts = c.args.gts.now in
      let i : ℕ = c.loop-event.event-index in
      let n : ℕ = way_now c.args.ways.now c.args.events.now i in
      let all : List Label = labels_at p c.args.ways.now (numbers_of_set c.args.events.now) in
      let inside = here_inside p c.args.ways.now c.args.events.now i (record { n = 0; of = record {} })
      (record { n = 0; of = record {} }) c.requires c.loop-event-test.true in
      let t : List Value = c.loop-event.stepper.values in
      let u : List Value = c.fire.new.self.values in
      next p c.parts-sound_parts.ensures.sound system views dropped all fault h i (record { event = 0; way = 0 })
      (omega (arith, c.loop-event-test.true, labels_long p c.args.ways.now c.args.events.now)) n inside
      (here_label p c.args.ways.now c.args.events.now i (record { n = 0; of = record {} })
      (record { n = 0; of = record {} }) (record { event = 0; way = 0 }) c.requires c.loop-event-test.true)
      t (c.loop-event.invariant.1 system views dropped fault h) u
      (subst (λ (q : GtsParts). (w : s.Way ℕ) → IsWayAt q n w → steps.Step (net_of q) t w (steps.Next u))
      c.loop-event.invariant.0 c.in-Ok-fire.ensures.step),
)

pub returns-clause-met : goal.returns-clause-met
returns-clause-met c = λ system views dropped fault h.
    let p : GtsParts = c.args.gts.now in
    let all : List Label = labels_at p c.args.ways.now (numbers_of_set c.args.events.now) in
    no_conflict p c.parts-sound_parts.ensures.sound system views dropped all fault c.loop-event.event-index
    c.loop-event.stepper.values
    (omega (arith, c.loop-event-test.false, labels_long p c.args.ways.now c.args.events.now))
    (c.loop-event.invariant.1 system views dropped fault h) h

use Rattle.std.proofs.Common.{◌≡◌, ◌<◌, ◌≤◌, ◌+◌, false, List, length, get_or, sym, ap, ◌∙◌, subst, arith}
use Rattle.ar_base.specs.Lists.{Stands}
use Rattle.ar_base.specs.Numbers.{VarId}
use Rattle.ar_base.proofs.Standing.{stands_get, stands_item}
use Rattle.domains.specs.declared.Value.TheVariants.{Truth}
use Rattle.gts_core.specs.declared.system.Variable.{Variable}
use Rattle.flow_reasons.specs.Resting.{reason_made}
use Rattle.flow_reasons.specs.declared.fact_marks.Mark.TheVariants.{Unknown}
use Rattle.flow_reasons.specs.declared.reason.Reason.{Reason}
use Rattle.flow_reasons.proofs.ReasonList.{AreListed, listed_none, listed_state, listed_flow, listed_done}
use Rattle.flow_reasons.proofs.listing.listed.Goals as goal
use Rattle.flow_reasons.proofs.listing.listed.Goals.{then-not-variable+in_ok-reason+in_ok-push, else-not-variable}

pub loop-place-init : goal.loop-place-init
loop-place-init c =
    listed_none c.args.parts.now c.requires.sound c.args.values.now c.requires.standing c.args.marks.now
    c.requires.marks c.new-found.result.items c.new-found.ensures.items

pub loop-place-preserved : goal.loop-place-preserved
loop-place-preserved c =
    let p = c.args.parts.now in
    let values = c.args.values.now in
    let marks = c.args.marks.now in
    let rests = c.args.rests.now in
    let i = c.loop-place.place in
    let x = c.variable-item.result in
    let found = c.loop-place.found.items in
    let items = c.deref-variable-items.ensures.value in
    let below : i < length p.variables.items =
    subst (λ (z : List Variable). i < length z) items c.loop-place-test.true in
    let is = subst (λ (z : List Variable). x ≡ get_or z i x) items c.variable-item.is in
    let sx : Stands p.variables.items i x = stands_item p.variables.items i x below is in
    let P : List Reason → Type 0 = λ z. AreListed p c.requires.sound values c.requires.standing marks c.requires.marks
    (i + 1) z in
    elim c.if-not-variable.branch [
      | then-not-variable+in_ok-reason+in_ok-push w ↦
          subst P (sym (ap (λ z. z.items) w.found-is ∙ w.in_ok-push.ensures.items))
          (listed_flow p c.requires.sound values c.requires.standing marks c.requires.marks i x found
          w.in_ok-reason.reason
          (get_or values i (Truth false)) (get_or marks i Unknown) w.index-rests-place.result sx w.if-not-variable.true
          (stands_get values i (Truth false) (omega (arith, below, c.requires.standing.total.long)))
          (stands_get marks i Unknown (omega (arith, below, c.requires.marks.are.long))) rests c.requires.rests
          (stands_item rests i w.index-rests-place.result
          (omega (arith, below, c.requires.marks.are.long, c.requires.rests.are.long)) w.index-rests-place.is)
          (w.in_ok-reason.ensures ∙ ap (λ (z : List VarId). reason_made i (get_or values i (Truth false))
          (get_or marks i Unknown) z) w.deref.ensures.value)
          c.loop-place.invariant)
      | else-not-variable w ↦
          subst P (sym (ap (λ z. z.items) w.found-is))
          (listed_state p c.requires.sound values c.requires.standing marks c.requires.marks i x found sx
          w.if-not-variable.false c.loop-place.invariant)
    ]

pub returns : goal.returns
returns c =
    listed_done c.args.parts.now c.requires.sound c.args.values.now c.requires.standing c.args.marks.now
    c.requires.marks c.loop-place.place c.loop-place.found.items
    (subst (λ (z : List Variable). length z ≤ c.loop-place.place) c.deref-variable-items.ensures.value
    c.loop-place-test.false) c.loop-place.invariant

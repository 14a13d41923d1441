use Rattle.std.proofs.Common.{◌≡◌, ◌<◌, if◌then◌else◌, Bool, true, false, Option, Some, None, List, length, get_or, refl, sym, ap, ◌∙◌, subst, arith}
use Rattle.std.specs.Option.{option_or}
use Rattle.ar_base.specs.Numbers.{VarId}
use Rattle.gts_core.specs.declared.system.Variable.{Variable}
use Rattle.ar_base.proofs.Standing.{stands_item}
use Rattle.mode_search.specs.Events.{first_with}
use Rattle.mode_search.proofs.FirstStates.{states_more}
use Rattle.mode_search.proofs.states.first_states.Goals as goal
use Rattle.mode_search.proofs.states.first_states.Goals.{then-variable, else-variable}

-- the one that was found, or else the variable's own number, where it is a state variable
first_or : (found : Option VarId) (is_state : Bool) (x : VarId) (own : Option VarId)
    → own ≡ (if is_state then Some x else None) → option_or found own ≡ first_with found is_state x
first_or (Some y) is_state x own e = refl
first_or None true x own e = e
first_or None false x own e = e

pub index-requires : goal.index-requires
index-requires c =
    let items = c.deref-variable-items.ensures.value in
    let below = subst (λ (z : List Variable). c.loop-n.n < length z) items c.loop-n-test.true in
    let is = subst (λ (z : List Variable). c.variable-item.result ≡ get_or z c.loop-n.n c.variable-item.result) items
    c.variable-item.is in
    let st = stands_item c.args.parts.now.variables.items c.loop-n.n c.variable-item.result below is in
    let unit = (c.requires.variables c.loop-n.n c.variable-item.result st).unit in
    omega (arith, unit, c.loop-n.invariant.long)

pub index_mut-requires : goal.index_mut-requires
index_mut-requires c =
    let items = c.deref-variable-items.ensures.value in
    let below = subst (λ (z : List Variable). c.loop-n.n < length z) items c.loop-n-test.true in
    let is = subst (λ (z : List Variable). c.variable-item.result ≡ get_or z c.loop-n.n c.variable-item.result) items
    c.variable-item.is in
    let st = stands_item c.args.parts.now.variables.items c.loop-n.n c.variable-item.result below is in
    let unit = (c.requires.variables c.loop-n.n c.variable-item.result st).unit in
    omega (arith, unit, c.loop-n.invariant.long)

pub loop-n-preserved : goal.loop-n-preserved
loop-n-preserved c =
    let items = c.deref-variable-items.ensures.value in
    let below = subst (λ (z : List Variable). c.loop-n.n < length z) items c.loop-n-test.true in
    let is = subst (λ (z : List Variable). c.variable-item.result ≡ get_or z c.loop-n.n c.variable-item.result) items
    c.variable-item.is in
    let st = stands_item c.args.parts.now.variables.items c.loop-n.n c.variable-item.result below is in
    let unit = (c.requires.variables c.loop-n.n c.variable-item.result st).unit in
    let old = stands_item c.loop-n.firsts.items c.variable-item.result.unit.n c.index.result.now
    (omega (arith, unit, c.loop-n.invariant.long)) c.index.ensures in
    let number = c.new-number.result in
    let by : Bool → Option VarId = λ b. if b then Some number else None in
    let own : c.if-variable.own ≡ by c.variable-item.result.is_state = elim c.if-variable.branch [
      | then-variable w ↦ w.own-is ∙ ap by (sym w.if-variable.true)
      | else-variable w ↦ w.own-is ∙ ap by (sym w.if-variable.false)
    ] in
    states_more c.args.parts.now c.loop-n.n c.variable-item.result st c.loop-n.firsts.items c.index.result.now
    c.or-first.result number c.new-number.ensures old
    (c.or-first.ensures ∙ first_or c.index.result.now c.variable-item.result.is_state number c.if-variable.own own)
    c.loop-n.invariant

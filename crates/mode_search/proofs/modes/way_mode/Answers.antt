use Rattle.std.proofs.Common.{List, subst}
use Rattle.ar_base.specs.Numbers.{VarId}
use Rattle.mode_search.specs.Modes.{IsNamedState, IsLeastVariable, IsAlone, lesser_of}
use Rattle.mode_search.proofs.LeastStates.{Read, named_least, mode_is, guard_alone, action_alone}
use Rattle.mode_search.proofs.modes.way_mode.Goals as goal

pub returns : goal.returns
returns c =
    let p = c.args.parts.now in
    let g = c.args.guard.now in
    let acts = c.args.action.now in
    let guards = c.in_ok-in_guard.in_guard.items in
    let actions = c.in_ok-in_action.in_action.items in
    let x = c.in-Some.variable in
    let read : Read g acts guards actions =
    record { guard = c.in_ok-in_guard.ensures; action = c.in_ok-in_action.ensures } in
    let a = subst (λ (z : List VarId). IsLeastVariable (IsNamedState p c.args.unit.n z) c.least_state.result)
    c.deref.ensures.value c.least_state.ensures in
    let b = subst (λ (z : List VarId). IsLeastVariable (IsNamedState p c.args.unit.n z) c.least_state-2.result)
    c.deref-2.ensures.value c.least_state-2.ensures in
    let least = named_least p c.args.unit.n g acts guards actions read c.least_state.result c.least_state-2.result a
    b in
    record {
      is_mode = mode_is p c.args.unit.n g acts guards actions read
          (lesser_of c.least_state.result c.least_state-2.result) c.args.first x least c.requires (cc);
      guard = guard_alone p c.args.unit.n g acts guards actions read x c.is_alone.result
          (subst (λ (z : List VarId). IsAlone z x.n c.is_alone.result) c.deref-3.ensures.value c.is_alone.ensures);
      action = action_alone p c.args.unit.n g acts guards actions read x c.is_alone-2.result
          (subst (λ (z : List VarId). IsAlone z x.n c.is_alone-2.result) c.deref-4.ensures.value c.is_alone-2.ensures);
    }

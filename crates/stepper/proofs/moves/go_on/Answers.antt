use Rattle.std.proofs.Common.{◌≡◌, List, Bool, sym, ◌∙◌, subst, length}
use Rattle.ar_base.specs.Numbers.{VarId}
use Rattle.ar_base.proofs.Standing.{stands_map_back}
use Rattle.domains.specs.declared.Value.{Value}
use Rattle.gts_core.specs.declared.system.GtsParts.{GtsParts}
use Rattle.gts_core.specs.Readings.{IsTotal}
use Rattle.way_flags.specs.Ways.{AreFlags}
use Rattle.flow_changes.specs.Changes.{AreChanges}
use Rattle.way_flags.specs.Renewing.{WereFlags}
use Rattle.stepper.proofs.Kept.{kept_value}
use Rattle.stepper.proofs.moves.go_on.Goals as goal

-- the flags were those of the valuation before
were : (p : GtsParts) (old new : List Value) (xs : List VarId) (can : List Bool) → IsTotal p old → AreFlags p old can
    → length old ≡ length new → AreChanges old new xs → WereFlags p new xs can
were p old new xs can total flags long are = record {
  before = old;
  total = total;
  were = flags;
  same = λ n lacks. kept_value old new long n (λ h.
      let o = (are.each n).1 h in
      let r = stands_map_back (λ (x : VarId). x.n) xs o.place n o.stands in
      lacks r.0 (record { place = o.place; stands = r.1 }) r.2);
}

pub renew-requires-clause-were : goal.renew-requires-clause-were
renew-requires-clause-were c =
    let p = c.args.gts.now in
    let old = c.args.present.now.determined.values.values.items in
    let new = c.propagate_from.new.present.determined.values.values.items in
    let now = c.propagate_from.ensures.present.determined.total in
    let was = c.requires.present.determined.total in
    let it = were p old new c.in_ok-flows.flows.variables.items c.args.can.now.items was c.requires.flags
    (was.long ∙ sym now.long) c.in_ok-flows.ensures.ok.tells.changes in
    subst (λ (z : GtsParts). WereFlags z c.deref.result.now c.deref-2.result.now c.args.can.now.items)
    (sym c.parts-parts.ensures.parts)
    (subst (λ (z : List Value). WereFlags p z c.deref-2.result.now c.args.can.now.items) (sym c.deref.ensures.value)
    (subst (λ (z : List VarId). WereFlags p new z c.args.can.now.items) (sym c.deref-2.ensures.value) it))

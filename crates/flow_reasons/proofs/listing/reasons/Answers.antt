use Rattle.std.proofs.Common.{List, sym, subst}
use Rattle.domains.specs.declared.Value.{Value}
use Rattle.flow_reasons.specs.Reasons.{AreReasons}
use Rattle.gts_core.specs.View.{net_of}
use Rattle.gts_core.specs.declared.system.GtsParts.{GtsParts}
use Rattle.flow_reasons.specs.Answers.{reasons_of}
use Rattle.flow_reasons.specs.Marks.{IsStanding}
use Rattle.flow_reasons.proofs.Totals.{stands, reasons_back}
use Rattle.flow_reasons.proofs.listing.reasons.Goals as goal

pub reasons_of-requires-clause-standing : goal.reasons_of-requires-clause-standing
reasons_of-requires-clause-standing c =
    subst (λ (z : GtsParts). IsStanding z c.deref-3.result.now) (sym c.parts.ensures.parts)
    (subst (λ (z : List Value). IsStanding c.args.gts.now z) (sym c.deref-3.ensures.value)
    (stands c.args.gts.now c.parts.ensures.sound c.args.state.now.values.items c.in_ok-total.total.values.items
    c.requires c.in_ok-total.ensures))

pub returns : goal.returns
returns c =
    reasons_back c.args.gts.now c.parts.ensures.sound c.args.state.now.values.items c.in_ok-total.total.values.items
    c.in_ok-found.found.items c.in_ok-total.ensures
    (subst (λ (z : GtsParts). AreReasons (net_of z) c.in_ok-total.total.values.items
    (reasons_of c.in_ok-found.found.items)) c.parts.ensures.parts
    (subst (λ (z : List Value). AreReasons (net_of c.parts.result.now) z (reasons_of c.in_ok-found.found.items))
    c.deref-3.ensures.value c.in_ok-found.ensures))

use Rattle.std.proofs.Common.{ap, arith}
use Rattle.text_pieces.specs.WayLabels.{ways_found}
use Rattle.job_inputs.proofs.VisibleLemmas.{found_stands, found_none, way_answer}
use Rattle.job_inputs.proofs.script_labels.way_at.Goals as goal

pub returns-in-Some : goal.returns-in-Some
returns-in-Some c =
    let s = found_stands _ _ c.args.event.n c.in-Some.found.now c.deref.ensures.value c.in-Some.ensures.lookup.0
    c.in-Some.ensures.lookup.1 in
    way_answer c.args.parts.now c.args.event c.args.digits.now c.in-Some.found.now c.deref-in-Some.result.now
    c.way_of.result s c.deref-in-Some.ensures.value c.way_of.ensures

pub returns-in-None : goal.returns-in-None
returns-in-None c = λ i same inside.
    let e = ap ways_found (found_none _ _ c.args.event.n c.deref.ensures.value c.in-None.ensures.lookup.0) in
    absurd (omega (arith, e, inside))

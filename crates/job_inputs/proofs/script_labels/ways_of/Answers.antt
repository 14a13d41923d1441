use Rattle.std.proofs.Common.{length, sym, ◌∙◌, ap, arith}
use Rattle.text_pieces.specs.WayLabels.{ways_found}
use Rattle.job_inputs.proofs.VisibleLemmas.{found_stands, found_none, one_item}
use Rattle.job_inputs.proofs.script_labels.ways_of.Goals as goal

pub returns-in-len1 : goal.returns-in-len1
returns-in-len1 c = (
  c.in-Some.found.now,
  found_stands _ _ c.args.event.n c.in-Some.found.now c.deref.ensures.value c.in-Some.ensures.lookup.0
      c.in-Some.ensures.lookup.1,
  sym c.as_slice.ensures.value ∙ one_item c.as_slice.result.now _ c.in-len1.len_below c.in-len1.len_at_least,
)

pub returns-in_default : goal.returns-in_default
returns-in_default c =
    let s = found_stands _ _ c.args.event.n c.in-Some.found.now c.deref.ensures.value c.in-Some.ensures.lookup.0
    c.in-Some.ensures.lookup.1 in
    let e = ap ways_found s in
    let v = ap length c.as_slice.ensures.value in
    omega (arith, e, v, c.in_default.len_at_least)

pub returns-in-None : goal.returns-in-None
returns-in-None c = ap ways_found (found_none _ _ c.args.event.n c.deref.ensures.value c.in-None.ensures.lookup.0)

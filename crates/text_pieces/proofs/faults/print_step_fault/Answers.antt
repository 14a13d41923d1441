use Rattle.std.proofs.Common.{ap, sym, ◌∙◌}
use Rattle.ar_io.proofs.Writing.{writes_exit, writes_on, writes_front, writes_as}
use Rattle.ar_base.specs.Texts.{text_at}
use Rattle.gts_core.specs.declared.system.GtsParts.{GtsParts}
use Rattle.gts_flatten.specs.Flat.{naming_of_parts}
use Rattle.text_pieces.specs.Faults.{step_text}
use Rattle.text_pieces.proofs.faults.print_step_fault.Goals as goal

pub returns-in-NotEnabled : goal.returns-in-NotEnabled
returns-in-NotEnabled g c = writes_as _ _ (ap (step_text c.args.gts.now) (sym c.in-NotEnabled.is)) c.write_text.ensures

pub returns-in_err-write_text-in-Clash : goal.returns-in_err-write_text-in-Clash
returns-in_err-write_text-in-Clash g c =
    writes_exit _ _ c.from_residual.ensures.1
    (writes_as _ _ (ap (step_text c.args.gts.now) (sym c.in-Clash.is))
    (writes_front _ _ c.in_err-write_text-in-Clash.ensures))

pub returns-in_ok-write_text-in-Clash : goal.returns-in_ok-write_text-in-Clash
returns-in_ok-write_text-in-Clash g c =
    writes_as _ _ (ap (step_text c.args.gts.now) (sym c.in-Clash.is))
    (writes_on c.in_ok-write_text-in-Clash.ensures (writes_as _ _
    (c.variable_path.ensures ∙ ap (λ (q : GtsParts). text_at (naming_of_parts q).variables c.in-Clash.x.n)
    c.parts.ensures.parts) c.write_text-in-Clash-2.ensures))

pub returns-in_err-write_text-in-Range : goal.returns-in_err-write_text-in-Range
returns-in_err-write_text-in-Range g c =
    writes_exit _ _ c.from_residual-in_err-write_text-in-Range.ensures.1
    (writes_as _ _ (ap (step_text c.args.gts.now) (sym c.in-Range.is))
    (writes_front _ _ (writes_as _ _ (c.variable_path-in-Range.ensures
    ∙ ap (λ (q : GtsParts). text_at (naming_of_parts q).variables c.in-Range.x.n) c.parts-in-Range.ensures.parts)
    c.in_err-write_text-in-Range.ensures)))

pub returns-in_ok-write_text-in-Range : goal.returns-in_ok-write_text-in-Range
returns-in_ok-write_text-in-Range g c =
    writes_as _ _ (ap (step_text c.args.gts.now) (sym c.in-Range.is))
    (writes_on (writes_as _ _ (c.variable_path-in-Range.ensures
    ∙ ap (λ (q : GtsParts). text_at (naming_of_parts q).variables c.in-Range.x.n) c.parts-in-Range.ensures.parts)
    c.in_ok-write_text-in-Range.ensures) c.write_text-in-Range-2.ensures)

pub returns-in-Flow : goal.returns-in-Flow
returns-in-Flow g c = writes_as _ _ (ap (step_text c.args.gts.now) (sym c.in-Flow.is)) c.print_flow_fault.ensures

use Rattle.std.proofs.Common.{◌∙◌, ap, sym, map, codes, List, Bool, true}
use Rattle.ar_base.specs.Texts.{separated}
use Rattle.ar_io.proofs.Writing.{writes_on, writes_front, writes_exit, writes_as}
use Rattle.ar_base.specs.Numbers.{WayId}
use Rattle.gts_core.specs.declared.system.Assign.{Assign}
use Rattle.gts_core.specs.Printed.{action_text, part_text, body_text}
use Rattle.gts_core.proofs.print.body.Goals as goal

pub returns-in_err-expression-in-Local : goal.returns-in_err-expression-in-Local
returns-in_err-expression-in-Local g c =
    writes_exit _ _ c.from_residual.ensures.1
    (writes_as _ _ (ap (body_text c.args.parts.now) (sym c.in-Local.is))
    (writes_front _ _ (writes_front _ _ c.in_err-expression-in-Local.ensures)))

pub returns-in_err-write_text-in-Local : goal.returns-in_err-write_text-in-Local
returns-in_err-write_text-in-Local g c =
    writes_exit _ _ c.from_residual-in_err-write_text-in-Local.ensures.1
    (writes_as _ _ (ap (body_text c.args.parts.now) (sym c.in-Local.is))
    (writes_front _ _ (writes_on c.in_ok-expression-in-Local.ensures c.in_err-write_text-in-Local.ensures)))

pub returns-in_ok-write_text-in-Local : goal.returns-in_ok-write_text-in-Local
returns-in_ok-write_text-in-Local g c =
    writes_as _ _ (ap (body_text c.args.parts.now) (sym c.in-Local.is))
    (writes_on (writes_on c.in_ok-expression-in-Local.ensures c.in_ok-write_text-in-Local.ensures)
    (writes_as _ _ (ap (λ (xs : List Assign). action_text c.args.parts.now xs) c.deref.ensures.value)
    c.action.ensures))

pub returns-in-Sync : goal.returns-in-Sync
returns-in-Sync g c =
    writes_as _ _ (ap (λ (ps : List (Bool × WayId)). separated true (codes " & ") (map (part_text c.args.parts.now) ps))
    c.deref-in-Sync.ensures.value
    ∙ ap (body_text c.args.parts.now) (sym c.in-Sync.is)) c.way_parts.ensures

use Rattle.std.proofs.Common.{◌∙◌, List, map, take_all, ap}
use Rattle.ar_base.specs.NumbersInside.{EventId, UnitId}
use Rattle.gate_modules.specs.ShortenedInside.{event_numbers}
use Rattle.module_text.specs.Arranged.{pieces_of, line_pieces, form_pieces}
use Rattle.module_text.proofs.Placing.{lines_more}
use Rattle.module_text.proofs.arranging.lines_of_forms.Goals as goal

pub loop-form-init : goal.loop-form-init
loop-form-init c = λ edges are. ap (map pieces_of) c.new-lines.ensures.items

pub loop-form-preserved : goal.loop-form-preserved
loop-form-preserved c = λ edges are.
    lines_more (form_pieces edges) c.args.forms.now c.loop-form.form-index c.form-item.result c.loop-form.lines.items
    c.push.new.self.items c.in_ok-line.line c.loop-form-test.true c.form-item.is c.in_ok-push.ensures.items
    (c.in_ok-line.ensures edges are
    ∙ ap (λ (z : List UnitId). line_pieces edges z (event_numbers c.deref-in-loop-form.result.now))
    c.deref.ensures.value
    ∙ ap (λ (z : List EventId). line_pieces edges c.form-item.result.units.items (event_numbers z)) c.deref-in-loop-form.ensures.value)
    (c.loop-form.invariant edges are)

pub returns : goal.returns
returns c = λ edges are. c.loop-form.invariant edges are
    ∙ ap (map (form_pieces edges)) (take_all c.loop-form.form-index c.args.forms.now c.loop-form-test.false)

use Rattle.std.proofs.Common.{ap, map, List}
use Rattle.std.specs.List.{concat}
use Rattle.ar_io.proofs.Writing.{writes_on, writes_front, writes_exit, writes_as}
use Rattle.gts_core.specs.declared.system.Variable.{Variable}
use Rattle.gts_core.specs.declared.system.Event.{Event}
use Rattle.gts_core.specs.declared.system.Assign.{Assign}
use Rattle.gts_core.specs.declared.system.Observer.{Observer}
use Rattle.gts_core.specs.Printed.{flat_text, flat_variable_line, event_lines, assert_lines, flat_observer_line}
use Rattle.gts_core.proofs.gts.Gts.print.Goals as goal

pub returns-in_err-variables : goal.returns-in_err-variables
returns-in_err-variables g c =
    writes_exit _ _ c.from_residual.ensures.1
    (writes_as _ _ (ap flat_text c.self.view_is) (writes_front _ _ (writes_front _ _ (writes_front _ _
    (writes_as _ _ (ap (λ (xs : List Variable). concat (map (flat_variable_line c.self.inside.parts) xs))
    c.deref.ensures.value) c.in_err-variables.ensures)))))

pub returns-in_err-events : goal.returns-in_err-events
returns-in_err-events g c =
    writes_exit _ _ c.from_residual-in_err-events.ensures.1
    (writes_as _ _ (ap flat_text c.self.view_is) (writes_front _ _ (writes_front _ _ (writes_on
    (writes_as _ _ (ap (λ (xs : List Variable). concat (map (flat_variable_line c.self.inside.parts) xs))
    c.deref.ensures.value) c.in_ok-variables.ensures)
    (writes_as _ _ (ap (λ (xs : List Event). concat (map (event_lines c.self.inside.parts) xs))
    c.deref-2.ensures.value) c.in_err-events.ensures)))))

pub returns-in_err-asserts : goal.returns-in_err-asserts
returns-in_err-asserts g c =
    writes_exit _ _ c.from_residual-in_err-asserts.ensures.1
    (writes_as _ _ (ap flat_text c.self.view_is) (writes_front _ _ (writes_on (writes_on
    (writes_as _ _ (ap (λ (xs : List Variable). concat (map (flat_variable_line c.self.inside.parts) xs))
    c.deref.ensures.value) c.in_ok-variables.ensures)
    (writes_as _ _ (ap (λ (xs : List Event). concat (map (event_lines c.self.inside.parts) xs))
    c.deref-2.ensures.value) c.in_ok-events.ensures))
    (writes_as _ _ (ap (λ (xs : List Assign). assert_lines c.self.inside.parts 0 xs) c.deref-3.ensures.value)
    c.in_err-asserts.ensures))))

pub returns : goal.returns
returns g c =
    writes_as _ _ (ap flat_text c.self.view_is) (writes_on (writes_on (writes_on (writes_as _ _
    (ap (λ (xs : List Variable). concat (map (flat_variable_line c.self.inside.parts) xs)) c.deref.ensures.value)
    c.in_ok-variables.ensures) (writes_as _ _
    (ap (λ (xs : List Event). concat (map (event_lines c.self.inside.parts) xs)) c.deref-2.ensures.value)
    c.in_ok-events.ensures)) (writes_as _ _
    (ap (λ (xs : List Assign). assert_lines c.self.inside.parts 0 xs) c.deref-3.ensures.value)
    c.in_ok-asserts.ensures)) (writes_as _ _
    (ap (λ (xs : List Observer). concat (map (flat_observer_line c.self.inside.parts) xs)) c.deref-4.ensures.value)
    c.observers.ensures))

use Rattle.std.proofs.Common.{◌<◌, ℕ, List, length, Option, Some, sym, ◌∙◌, ap, subst, arith}
use Rattle.std.proofs.lemmas.List.{take_all}
use Rattle.ar_base.specs.Numbers.{NameId}
use Rattle.ar_base.specs.declared.places.Place.{Place}
use Rattle.ar_base.proofs.Standing.{stands_get}
use Rattle.unit_rules.specs.declared.settables.Settable.{Settable}
use Rattle.unit_rules.specs.Settables.{AddsSettables}
use Rattle.unit_rules.proofs.Keeping.{adds_none, adds_more}
use Rattle.unit_rules.proofs.Entries.{same_entries, no_entries, same_next}
use Rattle.unit_rules.proofs.settables.Settables.keep_all.Goals as goal

pub loop-name-init : goal.loop-name-init
loop-name-init c = adds_none _ _

pub loop-name-preserved : goal.loop-name-preserved
loop-name-preserved c =
    let l : c.loop-name.name-index < length c.args.names.now = omega arith in
    let none : NameId × Place = (record { n = 0; of = record {} }, record { line = 0; column = 0 }) in
    let s = stands_get c.args.names.now c.loop-name.name-index none l in
    subst (λ (es : List (ℕ × Settable)). AddsSettables c.args.body.n es c.args.self.now c.keep.new.self)
    (sym (same_next _ c.args.names.now c.loop-name.name-index _ s))
    (adds_more c.args.body.n _ _ _ _ _ c.loop-name.invariant c.in_ok-keep.ensures)

pub returns-in_default : goal.returns-in_default
returns-in_default c =
    subst (λ (es : List (ℕ × Settable)). AddsSettables c.args.body.n es c.args.self.now c.args.self.now)
    (sym (ap (λ (o : Option Settable). same_entries o c.args.names.now) c.in_default.is
    ∙ no_entries c.args.names.now)) (adds_none _ _)

pub returns : goal.returns
returns c =
    subst (λ (es : List (ℕ × Settable)). AddsSettables c.args.body.n es c.args.self.now c.loop-name.self)
    (ap (same_entries (Some c.in-Some.settable))
    (take_all c.loop-name.name-index c.args.names.now c.loop-name-test.false)
    ∙ sym (ap (λ (o : Option Settable). same_entries o c.args.names.now) c.in-Some.is)) c.loop-name.invariant

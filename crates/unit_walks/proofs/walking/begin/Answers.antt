use Rattle.std.proofs.Common.{◌≡◌, ◌-◌, drop, length, refl, sym, ◌∙◌, ap, subst}
use Rattle.std.proofs.lemmas.List.{take_rest}
use Rattle.hierarchy.specs.Units.{numbers}
use Rattle.unit_walks.proofs.Stepping.{names_behind, begins_first, begins_long, begins_far}
use Rattle.unit_walks.proofs.walking.begin.Goals as goal

pub returns-then-first-lt-LONG_PATH-clause-frame : goal.returns-then-first-lt-LONG_PATH-clause-frame
returns-then-first-lt-LONG_PATH-clause-frame c = λ m frames u p t i. begins_first m frames c.args.table.now t
    c.args.first u p i

pub returns-in_default-clause-frame : goal.returns-in_default-clause-frame
returns-in_default-clause-frame c = λ m frames u p t i. begins_first m frames c.args.table.now t c.args.first u p i

pub returns-in-None-clause-frame : goal.returns-in-None-clause-frame
returns-in-None-clause-frame c = λ m frames u p t i. begins_long m frames c.args.table.now t c.args.first u p i

pub returns-in-Some-end-clause-frame : goal.returns-in-Some-end-clause-frame
returns-in-Some-end-clause-frame c = λ m frames u p t i. begins_far m frames c.args.table.now t c.args.first u p i
    c.in-Some.here c.in-Some-end.reach _ c.in-Some.ensures c.in-Some-end.ensures refl refl refl refl
    (λ before rest e n.
    let names = c.args.first.rest.now in
    ap numbers (take_rest names c.saturating_sub-passed.result)
    ∙ subst (λ k. numbers (drop k names) ≡ rest) (ap (λ k. length names - k) n ∙ sym c.saturating_sub-passed.ensures)
    (names_behind names before rest e)) i.fresh

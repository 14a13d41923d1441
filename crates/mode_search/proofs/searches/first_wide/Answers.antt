use Rattle.std.proofs.Common.{ℕ, Option, length, subst}
use Rattle.mode_search.specs.Events.{IsLeastNumber}
use Rattle.mode_search.specs.Wide.{IsWideFlow, IsWideObserver}
use Rattle.mode_search.proofs.Assigning.{flow_found, observer_found, none_found}
use Rattle.mode_search.proofs.searches.first_wide.Goals as goal

pub returns-in-Some : goal.returns-in-Some
returns-in-Some c = flow_found c.args.parts.now c.in-Some.flow
    (subst (λ (z : Option ℕ). IsLeastNumber (IsWideFlow c.args.parts.now (length c.args.parts.now.assigns.items)) z)
    c.in-Some.is c.in_ok-flow.ensures)

pub returns-in-Some-2 : goal.returns-in-Some-2
returns-in-Some-2 c = observer_found c.args.parts.now c.in-Some-2.observer
    (subst (λ (z : Option ℕ). IsLeastNumber (IsWideFlow c.args.parts.now (length c.args.parts.now.assigns.items)) z)
    c.in_default.is c.in_ok-flow.ensures)
    (subst (λ (z : Option ℕ). IsLeastNumber (IsWideObserver c.args.parts.now) z) c.in-Some-2.is c.in_ok-observer.ensures)

pub returns : goal.returns
returns c = none_found c.args.parts.now
    (subst (λ (z : Option ℕ). IsLeastNumber (IsWideFlow c.args.parts.now (length c.args.parts.now.assigns.items)) z)
    c.in_default.is c.in_ok-flow.ensures)
    (subst (λ (z : Option ℕ). IsLeastNumber (IsWideObserver c.args.parts.now) z) c.in-None.is c.in_ok-observer.ensures)

use Rattle.std.proofs.Common.{◌≡◌, ◌<◌, ℕ, List, length, Option, Some, None, sym, ◌∙◌, ap, subst}
use Rattle.ar_base.specs.Lists.{Stands}
use Rattle.ar_base.proofs.Standing.{stands_some}
use Rattle.domains.specs.declared.Value.{Value}
use Rattle.gts_core.specs.declared.system.GtsParts.{GtsParts}
use Rattle.job_inputs.proofs.VisibleLemmas.{found_stands, found_none}
use Rattle.job_inputs.specs.Wanting.{Wants}
use Rattle.job_inputs.specs.Answers.{AnswersObserver}
use Rattle.job_inputs.proofs.Observers.{inside, is_wanted, wants_none}
use Rattle.job_inputs.proofs.wanting.read_wanted.Goals as goal

pub returns-in_default : goal.returns-in_default
returns-in_default c = λ x of.
    subst (λ (o : Option ℕ). AnswersObserver x c.args.observer.now o) c.in_default.is (c.in_ok-number.ensures x of)

pub returns-in_default-get : goal.returns-in_default-get
returns-in_default-get c = λ x of n named.
    let own = subst (λ (o : Option ℕ). AnswersObserver x c.args.observer.now o) c.in-Some.is
    (c.in_ok-number.ensures x of) in
    let l : c.in-Some.number < length c.args.gts.now.observers.items = inside of.flat own in
    let r = stands_some c.args.gts.now.observers.items c.in-Some.number l in
    let same = c.deref.ensures.value ∙ ap (λ (p : GtsParts). p.observers.items) c.parts-parts.ensures.parts in
    let none : None ≡ Some r.0 = sym (found_none _ _ c.in-Some.number same c.in_default-get.ensures.lookup.0) ∙ r.1 in
    cc

pub returns-in_default-value_of : goal.returns-in_default-value_of
returns-in_default-value_of c = λ x of.
    let own = subst (λ (o : Option ℕ). AnswersObserver x c.args.observer.now o) c.in-Some.is
    (c.in_ok-number.ensures x of) in
    let same = c.deref.ensures.value ∙ ap (λ (p : GtsParts). p.observers.items) c.parts-parts.ensures.parts in
    let stands : Stands c.args.gts.now.observers.items c.in-Some.number c.in-Some-get.found.now
    = found_stands _ _ c.in-Some.number c.in-Some-get.found.now same c.in-Some-get.ensures.lookup.0
    c.in-Some-get.ensures.lookup.1 in
    let symbols = c.deref-2.ensures.value ∙ ap (λ (p : GtsParts). p.symbols.items) c.parts-parts.ensures.parts in
    record {
      number = c.in-Some.number;
      names = own;
      none = wants_none of.flat c.in-Some-get.found.now own stands
          (subst (λ (z : List (List ℕ)). (v : Value) → Wants z c.args.value.now c.in-Some-get.found.now.kind v → ⊥)
          symbols c.in_default-value_of.ensures);
    }

pub returns : goal.returns
returns c = λ x of.
    let own = subst (λ (o : Option ℕ). AnswersObserver x c.args.observer.now o) c.in-Some.is
    (c.in_ok-number.ensures x of) in
    let same = c.deref.ensures.value ∙ ap (λ (p : GtsParts). p.observers.items) c.parts-parts.ensures.parts in
    let stands : Stands c.args.gts.now.observers.items c.in-Some.number c.in-Some-get.found.now
    = found_stands _ _ c.in-Some.number c.in-Some-get.found.now same c.in-Some-get.ensures.lookup.0
    c.in-Some-get.ensures.lookup.1 in
    let symbols = c.deref-2.ensures.value ∙ ap (λ (p : GtsParts). p.symbols.items) c.parts-parts.ensures.parts in (
      is_wanted of.flat c.in-Some-get.found.now c.in-Some-value_of.value own stands
          (subst (λ (z : List (List ℕ)). Wants z c.args.value.now c.in-Some-get.found.now.kind c.in-Some-value_of.value)
          symbols c.in-Some-value_of.ensures),
      inside of.flat own,
    )

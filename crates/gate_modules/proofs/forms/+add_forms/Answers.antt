use Rattle.std.proofs.Common.{map, ap, ◌∙◌, arith}
use Rattle.gate_modules.specs.ShortenedInside.{event_numbers, short_form_of}
use Rattle.gate_modules.proofs.Numbers.{lo_in, hi_in}
use Rattle.gate_modules.proofs.Parting.{events_push}
use Rattle.gate_modules.proofs.Walking.{fit_upper, fit_lower, adds_uncovered, fit_exit, fit_skip, adds_covered}
use Rattle.gate_modules.proofs.forms.+add_forms.Goals as goal

pub add_forms-requires : goal.add_forms-requires
add_forms-requires t c =
    let l = c.in-Some.ensures.halves.hi_before in (
      omega (arith, c.decreases, l),
      (
        hi_in c.args.store.now c.split.ensures.sound c.args.number.n _ _ c.in-Some.hi.n
            c.requires.in_store c.in-Some.ensures.halves,
        (
          c.requires.units,
          fit_upper c.args.store.now c.split.ensures.sound c.args.chosen.now c.requires.units
              (event_numbers c.args.taken.now) c.args.number.n c.in-Some.event.n c.in-Some.lo.n c.in-Some.hi.n c.requires.in_store
              c.in-Some.ensures.halves c.requires.fit c.in-None.ensures _
              (ap event_numbers (c.deref.ensures.value ∙ c.in_ok-more.ensures) ∙ events_push c.args.taken.now c.in-Some.event),
        ),
      ),
    )

pub add_forms-requires-in-None : goal.add_forms-requires-in-None
add_forms-requires-in-None t c =
    let l = c.in-Some.ensures.halves.lo_before in (
      omega (arith, c.decreases, l),
      (
        lo_in c.args.store.now c.split.ensures.sound c.args.number.n _ c.in-Some.lo.n _
            c.requires.in_store c.in-Some.ensures.halves,
        (
          c.requires.units,
          fit_lower c.args.store.now c.split.ensures.sound c.args.chosen.now c.requires.units
              (event_numbers c.args.taken.now) c.args.number.n c.in-Some.event.n c.in-Some.lo.n c.in-Some.hi.n c.requires.in_store
              c.in-Some.ensures.halves c.requires.fit c.in-None.ensures,
        ),
      ),
    )

pub returns-in-None : goal.returns-in-None
returns-in-None t c = adds_uncovered c.args.store.now c.split.ensures.sound c.args.chosen.now c.requires.units
    (event_numbers c.args.taken.now) c.args.number.n c.in-Some.event.n c.in-Some.lo.n c.in-Some.hi.n c.requires.in_store
    c.in-Some.ensures.halves c.requires.fit c.in-None.ensures _
    (ap event_numbers (c.deref.ensures.value ∙ c.in_ok-more.ensures) ∙ events_push c.args.taken.now c.in-Some.event)
    (map short_form_of c.args.forms.now.items) _ _ c.in_ok-add_forms-in-None.ensures c.in_ok-add_forms-in-None-2.ensures

pub add_forms-requires-in-Some-holder : goal.add_forms-requires-in-Some-holder
add_forms-requires-in-Some-holder t c =
    let l = c.in-Some.ensures.halves.hi_before in (
      omega (arith, c.decreases, l, c.exit-end.ensures.at_most),
      (
        c.exit-end.ensures.inside,
        (
          c.requires.units,
          fit_exit c.args.store.now c.split.ensures.sound c.args.chosen.now
              c.requires.units (event_numbers c.args.taken.now) c.args.number.n c.in-Some.event.n c.in-Some.lo.n c.in-Some.hi.n
              c.requires.in_store c.in-Some.ensures.halves c.requires.fit c.in-Some-holder.range
              c.in-Some-holder.ensures.is_chosen c.in-Some-holder.ensures.holds c.exit-end.result.n c.skip-rest.result.n
              c.exit-end.ensures c.skip-rest.ensures _
              (ap event_numbers (c.deref-in-Some-holder.ensures.value ∙ c.in_ok-more.ensures)
              ∙ events_push c.args.taken.now c.in-Some.event),
        ),
      ),
    )

pub add_forms-requires-in-Some-holder-2 : goal.add_forms-requires-in-Some-holder-2
add_forms-requires-in-Some-holder-2 t c =
    let l = c.in-Some.ensures.halves.lo_before in (
      omega (arith, c.decreases, l, c.skip-rest.ensures.at_most),
      (
        c.skip-rest.ensures.inside,
        (
          c.requires.units,
          fit_skip c.args.store.now c.split.ensures.sound
              c.args.chosen.now c.requires.units (event_numbers c.args.taken.now) c.args.number.n c.in-Some.event.n c.in-Some.lo.n
              c.in-Some.hi.n c.requires.in_store c.in-Some.ensures.halves c.requires.fit c.in-Some-holder.range
              c.in-Some-holder.ensures.is_chosen c.in-Some-holder.ensures.holds c.exit-end.result.n c.skip-rest.result.n
              c.exit-end.ensures c.skip-rest.ensures,
        ),
      ),
    )

pub returns : goal.returns
returns t c = adds_covered c.args.store.now c.split.ensures.sound c.args.chosen.now c.requires.units
    (event_numbers c.args.taken.now) c.args.number.n c.in-Some.event.n c.in-Some.lo.n c.in-Some.hi.n c.requires.in_store
    c.in-Some.ensures.halves c.requires.fit c.in-Some-holder.range c.in-Some-holder.ensures.is_chosen
    c.in-Some-holder.ensures.holds c.exit-end.result.n c.skip-rest.result.n c.exit-end.ensures c.skip-rest.ensures _
    (ap event_numbers (c.deref-in-Some-holder.ensures.value ∙ c.in_ok-more.ensures)
    ∙ events_push c.args.taken.now c.in-Some.event) (map short_form_of c.args.forms.now.items) _ _
    c.in_ok-add_forms-in-Some-holder.ensures c.in_ok-add_forms-in-Some-holder-2.ensures

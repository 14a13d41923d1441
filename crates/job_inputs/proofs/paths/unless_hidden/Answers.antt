use Rattle.std.proofs.Common.{◌≡◌, None, Some, refl, sym, ◌∙◌}
use Rattle.job_inputs.proofs.VisibleLemmas.{found_stands, found_none}
use Rattle.job_inputs.proofs.paths.unless_hidden.Goals as goal

pub returns-else-found : goal.returns-else-found
returns-else-found c = (
  refl,
  (
    c.in-Some.found.now,
    found_stands _ _ c.args.event.n c.in-Some.found.now c.deref.ensures.value
        c.in-Some.ensures.lookup.0 c.in-Some.ensures.lookup.1,
    c.if-found.false,
  ),
)

pub returns-in-None : goal.returns-in-None
returns-in-None c = λ v s.
    let e : None ≡ Some v = sym (found_none _ _ c.args.event.n c.deref.ensures.value c.in-None.ensures.lookup.0) ∙ s in cc

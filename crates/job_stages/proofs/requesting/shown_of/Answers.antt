use Rattle.std.proofs.Common.{None, refl, ◌∙◌}
use Rattle.job_stages.specs.Passing.{no_path}
use Rattle.job_stages.proofs.PassLemmas.{shown_here, shown_none}
use Rattle.job_stages.proofs.requesting.shown_of.Goals as goal

pub returns-in-Some-2 : goal.returns-in-Some-2
returns-in-Some-2 c = λ x of.
    let h = c.in_ok-observer-in-Some.ensures x of in
    rw c.in-Some.is
    (shown_here x c.args.model.now.system of.flat _ _ (c.as_bytes-bytes.ensures.value ∙ c.as_str.ensures) _ _
    c.in-Some-2.is h)

pub returns-in-None-2 : goal.returns-in-None-2
returns-in-None-2 c = λ x of.
    let h = c.in_ok-observer-in-Some.ensures x of in
    rw c.in-Some.is
    (shown_none x c.args.model.now.system _ _ (c.as_bytes-bytes.ensures.value ∙ c.as_str.ensures) _
    c.in-None-2.is h)

pub returns-in-None : goal.returns-in-None
returns-in-None c = λ x of. rw c.in-None.is (None, no_path refl, record { are = refl; inside = tt })

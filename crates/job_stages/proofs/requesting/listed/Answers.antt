use Rattle.std.proofs.Common.{◌<◌, ◌≤◌, ℕ, refl, subst}
use Rattle.ar_base.specs.Counts.{limit_of}
use Rattle.ar_base.specs.declared.counts.Count.TheVariants.{CutLines}
use Rattle.job_stages.proofs.PassLemmas.{cuts_stop, cuts_many, cuts_given}
use Rattle.job_stages.proofs.requesting.listed.Goals as goal

pub returns-then-len-limit : goal.returns-then-len-limit
returns-then-len-limit c = λ x of.
    let h = rw c.deref.ensures.value at c.in-Ok.ensures.cuts x of in
    cuts_many x c.args.model.now.system c.args.list.now c.in-Ok.chains h
    (subst (λ (n : ℕ). limit_of CutLines < n) c.len.ensures
    (subst (λ (n : ℕ). n < c.len.result) c.limit.ensures c.if-len-limit.true))

pub returns-else-len-limit : goal.returns-else-len-limit
returns-else-len-limit c = λ x of.
    let h = rw c.deref.ensures.value at c.in-Ok.ensures.cuts x of in
    cuts_given x c.args.model.now.system c.args.list.now c.in-Ok.chains h
    (subst (λ (n : ℕ). n ≤ limit_of CutLines) c.len.ensures
    (subst (λ (n : ℕ). c.len.result ≤ n) c.limit.ensures c.if-len-limit.false))

pub returns-in-Err : goal.returns-in-Err
returns-in-Err c = λ x of.
    let h = rw c.deref.ensures.value at c.in-Err.ensures.cuts x of in
    cuts_stop x c.args.model.now.system c.args.list.now _ _ c.in-Err.fault refl c.cut_stop.ensures h

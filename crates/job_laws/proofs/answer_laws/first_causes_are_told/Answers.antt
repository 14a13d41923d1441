use Rattle.std.proofs.Common.{Err}
use Rattle.ar_base.specs.Stages.{refuses, passes}
use Rattle.job_stages.specs.Stages.{loaded}
use Rattle.job_laws.specs.Ready.{SameReady}
use Rattle.job_laws.proofs.Stages.{refusal_of}
use Rattle.job_stages.specs.Elaborates.{reads, breach, breaks}
use Rattle.job_stages.specs.declared.refusals.Refusal.TheVariants.{Rule}
use Rattle.job_laws.proofs.OneSource.{units_told}
use Rattle.job_laws.proofs.answer_laws.first_causes_are_told.Goals as goal

pub returns-clause-unread_text_refused : goal.returns-clause-unread_text_refused
returns-clause-unread_text_refused c = λ files known asked texts text r l t p x k.
    refusal_of SameReady x r
    (c.one_passing.ensures files known asked x (Err r) k
    (loaded texts l t (refuses (refuses p))))

pub returns-clause-unread_texts_are_refused : goal.returns-clause-unread_texts_are_refused
returns-clause-unread_texts_are_refused c = λ k s asked texts text r gave quiet known is l t p.
    c.causes_are_told.ensures k s asked r gave quiet known is
    (loaded texts l t (refuses (refuses p)))

pub returns-clause-broken_rule_refused : goal.returns-clause-broken_rule_refused
returns-clause-broken_rule_refused c = λ files known asked texts text m d r p l t h i b x k.
    refusal_of SameReady x (Rule r p)
    (c.one_passing.ensures files known asked x (Err (Rule r p)) k
    (loaded texts l t (refuses (passes m (reads h) (breaks (refuses (breach d i b)))))))

pub returns-clause-broken_rules_are_told : goal.returns-clause-broken_rules_are_told
returns-clause-broken_rules_are_told c = λ k s asked texts text m d r p gave quiet known is l t h i b.
    c.causes_are_told.ensures k s asked (Rule r p) gave quiet known is
    (loaded texts l t (refuses (passes m (reads h) (breaks (refuses (breach d i b))))))

pub returns-clause-broken_unit_rule_refused : goal.returns-clause-broken_unit_rule_refused
returns-clause-broken_unit_rule_refused c = λ files known asked texts text m n r l t h i b x k.
    refusal_of SameReady x r
    (c.one_passing.ensures files known asked x (Err r) k
    (loaded texts l t (refuses (units_told asked.job.main text m n r h i b))))

pub returns-clause-broken_unit_rules_are_told : goal.returns-clause-broken_unit_rules_are_told
returns-clause-broken_unit_rules_are_told c = λ k s asked texts text m n r gave quiet known is l t h i b.
    c.causes_are_told.ensures k s asked r gave quiet known is
    (loaded texts l t (refuses (units_told asked.job.main text m n r h i b)))

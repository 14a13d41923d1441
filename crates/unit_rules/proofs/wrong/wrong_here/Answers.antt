use Rattle.std.proofs.Common.{inl, inr}
use Rattle.ar_base.proofs.Truths.{not_both}
use Rattle.unit_rules.proofs.Searched.{wrong_here, right_here}
use Rattle.unit_rules.proofs.wrong.wrong_here.Goals as goal

pub returns-then-not-is_new : goal.returns-then-not-is_new
returns-then-not-is_new c = λ m units classes u o a k t settings i told. wrong_here (inr (told.0 c.if-not-is_new.true))

pub returns-then-not-is_target : goal.returns-then-not-is_target
returns-then-not-is_target c = λ m units classes u o a k t settings i told.
    let f = rw c.deref.ensures.value at (c.is_target.ensures m units classes u o a k t) in
    wrong_here (inl (λ w. not_both c.is_target.result c.if-not-is_target.true (f.1 w)))

pub returns : goal.returns
returns c = λ m units classes u o a k t settings i told.
    let f = rw c.deref.ensures.value at (c.is_target.ensures m units classes u o a k t) in
    right_here (f.0 c.if-not-is_target.false) (λ w. not_both c.args.is_new (told.1 w) c.if-not-is_new.false)

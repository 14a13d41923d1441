use Rattle.std.proofs.Common.{ℕ, subst}
use Rattle.ar_meaning.specs.Systems.{Way}
use Rattle.static_fragment.specs.Kept.{IsTheWay}
use Rattle.static_fragment.proofs.Ways.{leaf_at, label_at, the_way, found}
use Rattle.std.proofs.lemmas.Bool.{cases_eq}
use Rattle.ar_firing.proofs.Unbroken.{keeps_s3}
use Rattle.static_fragment.proofs.Naming.{guard_breaks, guard_other, unbroken_s3}
use Rattle.static_fragment.proofs.kept.kept_laws.Goals as goal

pub returns-clause-kept_ways : goal.returns-clause-kept_ways
returns-clause-kept_ways c = λ p system dropped kept a q k st. let l = label_at a q k st in
    (l.0, leaf_at l.2, the_way a l.0 k l.2)

pub returns-clause-all_kept_ways : goal.returns-clause-all_kept_ways
returns-clause-all_kept_ways c = λ p system dropped kept a k1 k2 l w i.
    let f = found a k1 k2 l w i in
    (f.place, f.way, f.stands, subst (λ (z : Way ℕ). IsTheWay p system dropped f.way l z) f.is (the_way a l f.way f.at))

pub returns-clause-guard_breaks : goal.returns-clause-guard_breaks
returns-clause-guard_breaks c = λ p system dropped kept a n h. guard_breaks a n h

pub returns-clause-guard_broken : goal.returns-clause-guard_broken
returns-clause-guard_broken c = λ p system dropped kept a k1 k2 n h. guard_other a k1 k2 n h

pub returns-clause-guards_keep : goal.returns-clause-guards_keep
returns-clause-guards_keep c = λ p system dropped kept a k1 k2 none. keeps_s3 cases_eq system dropped k2
    (unbroken_s3 a k1 k2 none)

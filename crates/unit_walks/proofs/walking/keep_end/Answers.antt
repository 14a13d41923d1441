use Rattle.std.proofs.Common.{length, refl}
use Rattle.unit_walks.proofs.Stepping.{kept_nothing, kept_end}
use Rattle.unit_walks.proofs.TableSteps.{triple_apart}
use Rattle.unit_walks.proofs.walking.keep_end.Goals as goal

pub returns-in_default-clause-kept : goal.returns-in_default-clause-kept
returns-in_default-clause-kept c = λ m below u v f a. kept_nothing a

pub returns-in_default-unit-clause-kept : goal.returns-in_default-unit-clause-kept
returns-in_default-unit-clause-kept c = λ m below u v f a. kept_nothing a

pub returns-clause-kept : goal.returns-clause-kept
returns-clause-kept c = λ m below u v f a.
    let here = c.in-Some-unit.here in
    let h = c.in_ok-insert.ensures.updates in
    kept_end here c.in-Some.start (record { unit = c.args.top.now.at; rest = length c.args.top.now.rest.now }) f a
    c.in-Some.is c.in-Some-unit.ensures refl refl (record {
      units = refl;
      known = λ a x. refl;
      count = refl;
      here = h.1;
      other = λ b x a n. h.2 (b, x, a) (triple_apart here.body.n c.args.top.now.name.n c.in-Some.start b x a n);
    })

use Rattle.std.proofs.Common.{refl, arith}
use Rattle.class_table.proofs.Taken.{length_next}
use Rattle.class_table.proofs.laying.add_body.Goals as goal

pub returns-clause-added : goal.returns-clause-added
returns-clause-added c =
    record {
      body = _;
      has_name = refl;
      has_place = refl;
      no_own = c.new.ensures.items;
      no_all = c.new-2.ensures.items;
      joined = c.in_ok-push.ensures.items;
    }

pub returns-clause-few : goal.returns-clause-few
returns-clause-few c = (let e = length_next _ _ _ c.in_ok-push.ensures.items in omega (arith, e, c.len-place.ensures, c.args.bodies.now.ok.0))

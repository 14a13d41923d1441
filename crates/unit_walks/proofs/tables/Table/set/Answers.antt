use Rattle.std.proofs.Common.{refl, arith}
use Rattle.unit_walks.proofs.TableSteps.{pair_apart}
use Rattle.unit_walks.proofs.tables.Table.set.Goals as goal

pub returns : goal.returns
returns c =
    let h = c.in_ok-insert.ensures.updates in
    record {
      units = refl;
      count = omega arith;
      here = h.1;
      other = λ b y n. h.2 (b, y) (pair_apart c.args.unit c.args.name.n b y n);
      ends = refl;
    }

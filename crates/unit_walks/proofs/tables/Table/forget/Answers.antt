use Rattle.std.proofs.Common.{refl}
use Rattle.unit_walks.proofs.TableSteps.{pair_apart}
use Rattle.unit_walks.proofs.tables.Table.forget.Goals as goal

pub returns-then-is_some : goal.returns-then-is_some
returns-then-is_some c =
    let h = c.remove.ensures.updates in
    record {
      units = refl;
      here = h.1;
      other = λ b y n. h.2 (b, y) (pair_apart c.args.unit c.args.name.n b y n);
      ends = refl;
    }

pub returns-else-is_some : goal.returns-else-is_some
returns-else-is_some c =
    let h = c.remove.ensures.updates in
    record {
      units = refl;
      here = h.1;
      other = λ b y n. h.2 (b, y) (pair_apart c.args.unit c.args.name.n b y n);
      ends = refl;
    }

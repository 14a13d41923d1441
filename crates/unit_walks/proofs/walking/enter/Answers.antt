use Rattle.std.proofs.Common.{◌<◌, subst}
use Rattle.unit_walks.proofs.walking.enter.Goals as goal

pub returns : goal.returns
returns c = record {
  mid = c.meet.new.self;
  grown = c.in_ok-number.ensures;
  set = c.in_ok-add.ensures.set;
  room = subst (λ n. n < 16777216) (c.in_ok-number.ensures.count) c.in_ok-add.ensures.room;
}

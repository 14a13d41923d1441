use Rattle.mode_search.proofs.Marking.{moves_by}
use Rattle.mode_search.proofs.events.still_moves.Goals as goal

pub returns-then-not-marked : goal.returns-then-not-marked
returns-then-not-marked c = moves_by c.args.moved c.args.marked c.is_empty.result c.args.ways.now c.if-moved.false
    c.if-not-marked.true c.is_empty.ensures

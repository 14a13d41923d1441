use Rattle.std.proofs.Common.{take, drop, take-append-drop}
use Rattle.ar_io.proofs.output.hand.Goals as goal

pub returns-in-Err : goal.returns-in-Err
returns-in-Err g c =
    let xs = c.args.piece.now in
    let n = c.in-Err.taken in
    record {
      front = take n xs;
      is_front = record { rest = drop n xs; joined = take-append-drop n xs };
      all = λ e. absurd (cc e);
      told = c.and-more-in-Err.ensures;
      holds = c.in-Err.ensures.front;
    }

use Rattle.std.proofs.Common.{ap, sym}
use Rattle.ar_io.proofs.Writing.{writes_as}
use Rattle.module_text.specs.Arranged.{piece_text}
use Rattle.module_text.proofs.printing.piece.Goals as goal

pub returns-in-Way : goal.returns-in-Way
returns-in-Way g c = writes_as _ _ (ap (λ z. piece_text c.args.gts.now z) (sym c.in-Way.is)) c.print_label.ensures

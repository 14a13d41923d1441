use Rattle.std.proofs.Common.{ap, sym}
use Rattle.ar_io.proofs.Writing.{writes_as}
use Rattle.cut_text.specs.Texts.{order_end}
use Rattle.cut_text.proofs.printing.write_order_end.Goals as goal

pub returns-in-Some : goal.returns-in-Some
returns-in-Some g c = writes_as _ _ (ap order_end (sym c.in-Some.is)) c.put_order.ensures

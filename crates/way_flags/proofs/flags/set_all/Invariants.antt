use Rattle.way_flags.proofs.Renewing.{AreSetTo}
use Rattle.way_flags.proofs.flags.set_all.Given as goal

abbrev pub invariant-loop-way : goal.invariant-loop-way
invariant-loop-way l = AreSetTo l.parts l.order l.values l.way-index l.flags.items

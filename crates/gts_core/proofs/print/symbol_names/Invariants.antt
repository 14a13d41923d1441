use Rattle.std.proofs.Common.{map, drop, codes, true}
use Rattle.ar_base.specs.Texts.{text_at, separated}
use Rattle.ar_io.specs.WritingInside.{Leaves}
use Rattle.gts_core.proofs.print.symbol_names.Given as goal

abbrev pub invariant-loop-symbol : goal.invariant-loop-symbol
invariant-loop-symbol g l =
    Leaves (g.K.Sink.state l.initial.out) (g.K.Sink.state l.out)
    (separated l.first (codes ", ") (map (text_at l.parts.symbols.items) (drop l.symbol-index l.symbols)))
    (separated true (codes ", ") (map (text_at l.parts.symbols.items) l.symbols))

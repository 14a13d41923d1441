use Rattle.std.proofs.Common.{sym, below_more}
use Rattle.ar_lexer.proofs.TableLemmas.{place_in_is, place_in_none, entry_at, length_mapped, length_unmapped}
use Rattle.ar_lexer.proofs.tables.place_in.Goals as goal

pub returns-then-eq : goal.returns-then-eq
returns-then-eq c =
    sym (place_in_is _ _ _ (length_mapped _ _ _ c.loop-place-test.true) c.loop-place.invariant
    (entry_at _ _ _ _ _ _ _ c.loop-place-test.true c.as_bytes.ensures.value c.if-eq.ensures))

pub loop-place-preserved : goal.loop-place-preserved
loop-place-preserved c =
    below_more _ _ c.loop-place.invariant
    (entry_at _ _ _ _ _ _ _ c.loop-place-test.true c.as_bytes.ensures.value c.if-eq.ensures)

pub returns : goal.returns
returns c = sym (place_in_none _ _ (λ k within. c.loop-place.invariant k
    (length_unmapped _ _ _ k c.loop-place-test.false within)))

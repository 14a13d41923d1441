use Rattle.ar_lexer.proofs.ReadLemmas.{read_gap, read_token, start_fits, line_fits, column_fits}
use Rattle.ar_lexer.proofs.lexer.scanned.Goals as goal

pub advance-requires-clause-at : goal.advance-requires-clause-at
advance-requires-clause-at c = start_fits _ _ _ _ _ _ c.loop-len.invariant c.requires c.in-Gap.ensures.0

pub advance-requires-clause-line : goal.advance-requires-clause-line
advance-requires-clause-line c = line_fits _ _ _ _ _ _ c.loop-len.invariant c.requires c.in-Gap.ensures.0

pub advance-requires-clause-column : goal.advance-requires-clause-column
advance-requires-clause-column c = column_fits _ _ _ _ _ _ c.loop-len.invariant c.requires c.in-Gap.ensures.0

pub loop-len-preserved-in-Gap : goal.loop-len-preserved-in-Gap
loop-len-preserved-in-Gap c =
    read_gap _ _ _ _ _ _ _ _ _ c.loop-len.invariant c.in-Gap.ensures.0 c.advance.ensures.rest c.advance.ensures.at
    c.advance.ensures.place c.in-Gap.ensures.2

pub token-requires : goal.token-requires
token-requires c = start_fits _ _ _ _ _ _ c.loop-len.invariant c.requires c.in-Text.ensures.0

pub advance-requires-in-Text-clause-line : goal.advance-requires-in-Text-clause-line
advance-requires-in-Text-clause-line c = line_fits _ _ _ _ _ _ c.loop-len.invariant c.requires c.in-Text.ensures.0

pub advance-requires-in-Text-clause-column : goal.advance-requires-in-Text-clause-column
advance-requires-in-Text-clause-column c = column_fits _ _ _ _ _ _ c.loop-len.invariant c.requires c.in-Text.ensures.0

pub loop-len-preserved : goal.loop-len-preserved
loop-len-preserved c =
    read_token _ _ _ _ _ _ _ _ _ c.loop-len.invariant c.in-Text.ensures.0 c.advance-in-Text.ensures.rest
    c.advance-in-Text.ensures.at c.advance-in-Text.ensures.place
    _ _ _ c.in-Text.ensures.2 c.token.ensures c.in_ok-push-in-Text.ensures.items

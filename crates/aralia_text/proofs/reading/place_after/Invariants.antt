use Rattle.std.proofs.Common.{◌≡◌, ◌≤◌, ◌+◌, take}
use Rattle.ar_lexer.specs.Tokens.{place_after}
use Rattle.aralia_text.proofs.reading.place_after.Given as goal

abbrev pub invariant-loop-byte : goal.invariant-loop-byte
invariant-loop-byte l = record {
  line : l.place.line ≤ l.byte-index + 1;
  column : l.place.column ≤ l.byte-index + 1;
  place : l.place ≡ place_after (take l.byte-index l.before);
}

use Rattle.std.proofs.Common.{◌≡◌, ◌≤◌, ◌+◌, take}
use Rattle.ar_lexer.specs.Scans.{MovesPlace}
use Rattle.ar_lexer.proofs.lexer.Cursor.advance.Given as goal

abbrev pub invariant-loop-b : goal.invariant-loop-b
invariant-loop-b l = record {
  line : l.self.place.line ≤ l.initial.self.place.line + l.b-index;
  column : l.self.place.column ≤ l.initial.self.place.column + l.b-index;
  at : l.self.at ≡ l.initial.self.at;
  place : MovesPlace (take l.b-index l.passed) l.initial.self.place l.self.place;
}

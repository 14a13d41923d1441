use Rattle.std.proofs.Common.{sym}
use Rattle.ar_lexer.specs.Spelling.{is_letter}
use Rattle.ar_lexer.specs.declared.token.TokenKind.TheVariants.{Name, Reserved}
use Rattle.ar_lexer.proofs.PieceLemmas.{head_passes, word_piece, blank_piece, sign_piece, nothing_piece}
use Rattle.ar_lexer.proofs.piece.piece_at.Goals as goal

pub returns-then-is_blank : goal.returns-then-is_blank
returns-then-is_blank c = blank_piece _ c.requires (sym c.if-is_blank.ensures)

pub returns-in-Some : goal.returns-in-Some
returns-in-Some c =
    word_piece (Reserved _) _ _ (head_passes is_letter _ c.requires (sym c.if-is_letter.ensures))
    c.word_len-len.ensures.value (λ w. (w, sym c.in-Some.ensures))

pub returns-in-None : goal.returns-in-None
returns-in-None c =
    word_piece Name _ _ (head_passes is_letter _ c.requires (sym c.if-is_letter.ensures)) c.word_len-len.ensures.value
    (λ w. (w, sym c.in-None.ensures))

pub returns-in-Some-sign_at : goal.returns-in-Some-sign_at
returns-in-Some-sign_at c =
    sign_piece _ _ _ c.requires (sym c.if-is_letter.ensures) (sym c.if-is_ascii_digit.ensures.value)
    c.in_default.ensures.none c.in-Some-sign_at.ensures.found.0 c.in-Some-sign_at.ensures.found.1

pub returns-in-None-sign_at : goal.returns-in-None-sign_at
returns-in-None-sign_at c =
    nothing_piece _ c.requires (sym c.if-is_blank.ensures) (sym c.if-is_letter.ensures)
    (sym c.if-is_ascii_digit.ensures.value) c.in_default.ensures.none c.in-None-sign_at.ensures.none

use Rattle.std.proofs.Common.{◌∷◌, List, ℕ, sym, ap, ◌∙◌}
use Rattle.ar_lexer.proofs.PieceLemmas.{two_bytes, line_gap, block_gap}
use Rattle.ar_lexer.proofs.piece.comment_at.Goals as goal

pub returns-then-rest-eq47-clause-found : goal.returns-then-rest-eq47-clause-found
returns-then-rest-eq47-clause-found c =
    line_gap _ _ _ (two_bytes _ _ _ c.if-rest-lt2.false c.if-rest-ne47.false c.if-rest-eq47.true
    ∙ ap (λ (s : List ℕ). 47 ∷ 47 ∷ s) (sym c.split_at.ensures.back)) c.line_len.ensures.value

pub returns-in-Some-clause-found : goal.returns-in-Some-clause-found
returns-in-Some-clause-found c =
    block_gap _ _ _ (two_bytes _ _ _ c.if-rest-lt2.false c.if-rest-ne47.false c.if-rest-ne42.false
    ∙ ap (λ (s : List ℕ). 47 ∷ 42 ∷ s) (sym c.split_at.ensures.back)) c.in-Some.ensures.found

pub returns-in-None-clause-found : goal.returns-in-None-clause-found
returns-in-None-clause-found c = (
  c.split_at.result.1.now,
  two_bytes _ _ _ c.if-rest-lt2.false c.if-rest-ne47.false c.if-rest-ne42.false
      ∙ ap (λ (s : List ℕ). 47 ∷ 42 ∷ s) (sym c.split_at.ensures.back),
  c.in-None.ensures.none,
)

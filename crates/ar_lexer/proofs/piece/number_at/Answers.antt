use Rattle.std.proofs.Common.{List, ℕ, subst, rules}
use Rattle.std.proofs.lemmas.List.{take_rest}
use Rattle.ar_lexer.specs.Spelling.{IsTail}
use Rattle.ar_lexer.specs.Scans.{IsLongestFront}
use Rattle.ar_lexer.specs.declared.token.TokenKind.TheVariants.{Real}
use Rattle.ar_lexer.proofs.PieceLemmas.{number_piece, digits_taken, real_front, too_large, whole_piece}
use Rattle.ar_lexer.proofs.piece.number_at.Goals as goal

pub returns-then-tail-gt0 : goal.returns-then-tail-gt0
returns-then-tail-gt0 c =
    let tail = subst (λ (s : List ℕ). IsLongestFront IsTail s c.tail_len-tail.result)
    (take_rest c.args.rest.now c.digits_len-digits.result) c.tail_len-tail.ensures in
    number_piece Real _ _ _ c.requires c.digits_len-digits.ensures.value tail
    (real_front _ _ _ c.requires c.digits_len-digits.ensures.value tail c.if-tail-gt0.true)

pub whole_of-requires : goal.whole_of-requires
whole_of-requires c = digits_taken _ _ c.digits_len-digits.ensures.value

pub returns-in-Some : goal.returns-in-Some
returns-in-Some c =
    let tail = subst (λ (s : List ℕ). IsLongestFront IsTail s c.tail_len-tail.result)
    (take_rest c.args.rest.now c.digits_len-digits.result) c.tail_len-tail.ensures in
    whole_piece _ _ _ _ c.in-Some.n (search rules) c.requires c.digits_len-digits.ensures.value tail c.if-tail-gt0.false
    c.in-Some.ensures.found c.in-Some.ensures.fits

pub returns-in-None : goal.returns-in-None
returns-in-None c =
    let tail = subst (λ (s : List ℕ). IsLongestFront IsTail s c.tail_len-tail.result)
    (take_rest c.args.rest.now c.digits_len-digits.result) c.tail_len-tail.ensures in
    too_large _ _ _ c.requires c.digits_len-digits.ensures.value tail c.if-tail-gt0.false c.in-None.ensures.none

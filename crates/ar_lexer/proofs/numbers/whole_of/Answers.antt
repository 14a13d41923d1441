use Rattle.std.proofs.Common.{◌≡◌, ◌<◌, ◌≤◌, ◌+◌, ◌*◌, ◌-◌, ◌/◌, ℕ, arith, get_or, drop, ap, ◌∙◌}
use Rattle.std.proofs.lemmas.List.{drop_more}
use Rattle.ar_lexer.specs.Spelling.{number_after}
use Rattle.ar_lexer.proofs.NumberLemmas.{number_grows}
use Rattle.ar_lexer.proofs.numbers.whole_of.Goals as goal

too_large : (value number : ℕ) → value < 256 → (9223372036854775807 - value) / 10 < number
    → 9223372036854775808 ≤ 10 * number + value
too_large value number small over = omega (arith, small, over)

pub returns-then-number-value-clause-none : goal.returns-then-number-value-clause-none
returns-then-number-value-clause-none c =
    let d = get_or c.args.digits.now c.loop-digit.digit-index 0 in
    let e : number_after 0 c.args.digits.now
    ≡ number_after (10 * c.loop-digit.number + (d - 48))
    (drop (c.loop-digit.digit-index + 1) c.args.digits.now) =
    c.loop-digit.invariant.0 ∙ ap (number_after c.loop-digit.number)
    (drop_more c.args.digits.now c.loop-digit.digit-index 0 c.loop-digit-test.true) in
    let g = number_grows (10 * c.loop-digit.number + (d - 48))
    (drop (c.loop-digit.digit-index + 1) c.args.digits.now) in
    let v = c.from-value.ensures in
    let t = too_large c.from-value.result c.loop-digit.number
    (omega (arith, v, c.type_inv.digits c.loop-digit.digit-index)) c.if-number-value.true in
    omega (arith, e, g, v, t)

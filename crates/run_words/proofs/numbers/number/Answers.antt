use Rattle.std.proofs.Common.{rules}
use Rattle.ar_base.proofs.Truths.{equal_is_false}
use Rattle.run_words.proofs.Digits.{parsed, out_of_range, other_digits}
use Rattle.run_words.proofs.numbers.number.Goals as goal

pub returns-in_default : goal.returns-in_default
returns-in_default c = λ n is. c.in_default.not-Ok n
    (parsed c.args.word.now _ c.args.least c.args.most n (search rules) c.parse.ensures.value.0 is)

pub returns-then-n-least : goal.returns-then-n-least
returns-then-n-least c = λ n is. out_of_range c.args.word.now _ c.args.least c.args.most c.in-Ok.n n c.in-Ok.is
    c.then-n-least.either
    (parsed c.args.word.now _ c.args.least c.args.most n (search rules) c.parse.ensures.value.0 is) is

pub returns-else-eq : goal.returns-else-eq
returns-else-eq c = λ n is.
    let same = other_digits c.args.word.now c.format.result.now _ c.args.least c.args.most c.in-Ok.n n c.in-Ok.is
    c.format.ensures.text
    (parsed c.args.word.now _ c.args.least c.args.most n (search rules) c.parse.ensures.value.0 is) is in
    equal_is_false _ _ _ same c.eq.ensures c.if-eq.false

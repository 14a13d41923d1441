use Rattle.std.proofs.Common.{[], Err, Vec, refl}
use Rattle.std.specs.declared.alloc.Global.{Global}
use Rattle.ar_syntax.specs.declared.items.Item.{Item}
use Rattle.ar_syntax.specs.declared.items.Model.{Model}
use Rattle.ar_parser.proofs.NameLemmas.{no_fault_there}
use Rattle.ar_parser.proofs.WholeTexts.{lex_faulty, lex_reaches, lex_not_syntax, lex_not_depth, lex_unplaced, its_items, told_reaches, told_not_lex, plain_text, unsigned_text, stopped, at_limit, gets_at_limit, told_syntax, told_depth, syntax_told, depth_told, read_no_syntax, read_no_depth, items_at_limit}
use Rattle.ar_parser.proofs.reading.parse.Goals as goal

pub returns-in_err-lexemes-clause-faulty : goal.returns-in_err-lexemes-clause-faulty
returns-in_err-lexemes-clause-faulty c =
    lex_faulty c.args.text.now _ _ c.from_residual.ensures.1 c.in_err-lexemes.ensures.fault

pub returns-in_err-lexemes-clause-only : goal.returns-in_err-lexemes-clause-only
returns-in_err-lexemes-clause-only c =
    lex_reaches c.args.text.now 128 _ _ c.from_residual.ensures.1 c.in_err-lexemes.ensures.fault

pub returns-in_err-lexemes-clause-syntax : goal.returns-in_err-lexemes-clause-syntax
returns-in_err-lexemes-clause-syntax c =
    lex_not_syntax c.args.text.now _ _ c.from_residual.ensures.1 c.in_err-lexemes.ensures.fault

pub returns-in_err-lexemes-clause-depth : goal.returns-in_err-lexemes-clause-depth
returns-in_err-lexemes-clause-depth c =
    lex_not_depth c.args.text.now _ _ c.from_residual.ensures.1 c.in_err-lexemes.ensures.fault

pub returns-in_err-lexemes-clause-stuck : goal.returns-in_err-lexemes-clause-stuck
returns-in_err-lexemes-clause-stuck c =
    λ at s. lex_unplaced c.args.text.now _ _ _ _ c.from_residual.ensures.1 c.in_err-lexemes.ensures.fault at s

pub returns-in_err-lexemes-clause-deep : goal.returns-in_err-lexemes-clause-deep
returns-in_err-lexemes-clause-deep c =
    λ at s. lex_unplaced c.args.text.now _ _ _ _ c.from_residual.ensures.1 c.in_err-lexemes.ensures.fault at s

pub model-read-requires-clause-unsigned : goal.model-read-requires-clause-unsigned
model-read-requires-clause-unsigned c = unsigned_text _ _ _ _ _ c.as_slice.ensures.value c.in_ok-lexemes.ensures.found

pub model-read-requires-clause-plain : goal.model-read-requires-clause-plain
model-read-requires-clause-plain c = plain_text _ _ _ _ _ c.as_slice.ensures.value c.in_ok-lexemes.ensures.found

pub returns-in-Ok-clause-faulty : goal.returns-in-Ok-clause-faulty
returns-in-Ok-clause-faulty c = λ at f. absurd (no_fault_there c.args.text.now _ _ _ at c.in_ok-lexemes.ensures.found f)

pub returns-in-Ok-clause-stuck : goal.returns-in-Ok-clause-stuck
returns-in-Ok-clause-stuck c = λ at s. absurd
    (read_no_syntax 128 c.args.text.now _ _ _
    (stopped {rest = []} c.in_ok-lexemes.ensures.found c.as_slice.ensures.value refl) c.in-Ok.items.items
    (items_at_limit _ _ c.limit.ensures c.in-Ok.ensures.found) at s)

pub returns-in-Ok-clause-deep : goal.returns-in-Ok-clause-deep
returns-in-Ok-clause-deep c = λ at s. absurd
    (read_no_depth 128 c.args.text.now _ _ _
    (stopped {rest = []} c.in_ok-lexemes.ensures.found c.as_slice.ensures.value refl) c.in-Ok.items.items
    (items_at_limit _ _ c.limit.ensures c.in-Ok.ensures.found) at s)

pub returns-in-Err-clause-faulty : goal.returns-in-Err-clause-faulty
returns-in-Err-clause-faulty c = λ at f. absurd
    (no_fault_there c.args.text.now _ _ _ at c.in_ok-lexemes.ensures.found f)

pub returns-in-Err-clause-only : goal.returns-in-Err-clause-only
returns-in-Err-clause-only c =
    λ n model m. told_reaches (Vec Item Global) Model 128 n c.in-Err.refused _ _ c.refused_at.ensures
    (gets_at_limit {A = Vec Item Global} n (Err c.in-Err.refused) c.limit.ensures
    (c.in-Err.ensures.only n (its_items c.args.text.now _ _ _ _ n model c.as_slice.ensures.value
    c.in_ok-lexemes.ensures.found m)))

pub returns-in-Err-clause-syntax : goal.returns-in-Err-clause-syntax
returns-in-Err-clause-syntax c = told_syntax 128 c.args.text.now _ _ _
    (stopped c.in_ok-lexemes.ensures.found c.as_slice.ensures.value c.place_of.ensures) c.in-Err.refused _
    c.refused_at.ensures (at_limit c.in-Err.refused _ _ c.limit.ensures c.in-Err.ensures.stuck)

pub returns-in-Err-clause-depth : goal.returns-in-Err-clause-depth
returns-in-Err-clause-depth c = told_depth 128 c.args.text.now _ _ _
    (stopped c.in_ok-lexemes.ensures.found c.as_slice.ensures.value c.place_of.ensures) c.in-Err.refused _
    c.refused_at.ensures (at_limit c.in-Err.refused _ _ c.limit.ensures c.in-Err.ensures.stuck)

pub returns-in-Err-clause-lex : goal.returns-in-Err-clause-lex
returns-in-Err-clause-lex c = told_not_lex c.args.text.now c.in-Err.refused _ _ c.refused_at.ensures

pub returns-in-Err-clause-stuck : goal.returns-in-Err-clause-stuck
returns-in-Err-clause-stuck c = syntax_told 128 c.args.text.now _ _ _
    (stopped c.in_ok-lexemes.ensures.found c.as_slice.ensures.value c.place_of.ensures) c.in-Err.refused _
    c.refused_at.ensures (at_limit c.in-Err.refused _ _ c.limit.ensures c.in-Err.ensures.stuck)

pub returns-in-Err-clause-deep : goal.returns-in-Err-clause-deep
returns-in-Err-clause-deep c = depth_told 128 c.args.text.now _ _ _
    (stopped c.in_ok-lexemes.ensures.found c.as_slice.ensures.value c.place_of.ensures) c.in-Err.refused _
    c.refused_at.ensures (at_limit c.in-Err.refused _ _ c.limit.ensures c.in-Err.ensures.stuck)

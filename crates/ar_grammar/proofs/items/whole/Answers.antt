use Rattle.std.proofs.Common.{refl, sym, ◌∙◌, rules}
use mir.Syntax.{w64}
use mir.Val.{SFits}
use Rattle.ar_grammar.specs.Items.{ReadsWhole}
use Rattle.expression_grammar.specs.Results.{Spans}
use Rattle.expression_grammar.specs.declared.lexeme.Refusal.TheVariants.{Syntax}
use Rattle.expression_grammar.proofs.Finding.{finds_given, finds_ok, finds_token, finds_syntax, finds_at, spans_token, spans_map, token_kind, eats_kind}
use Rattle.expression_grammar.proofs.Standing.{refuses_here}
use Rattle.ar_grammar.proofs.Standing.{refuses_at}
use Rattle.ar_grammar.proofs.ItemParts.{again, no_sign_of, whole_as, some_whole}
use Rattle.ar_grammar.proofs.items.whole.Goals as goal

pub returns-in-Some-clause-found : goal.returns-in-Some-clause-found
returns-in-Some-clause-found c = let f : SFits w64 c.in-Some.n = search rules in again (λ z. Spans (ReadsWhole z) c.args.parser.now.rest.now c.eat_whole.new.parser.rest.now) c.in-Some.n f (spans_map (spans_token c.in-Some.ensures.taken) (λ next ts h. record { no_sign = no_sign_of c.in-Some.n c.in-Some.ensures.taken c.requires; reads = h }))

pub returns-in-Some-clause-only : goal.returns-in-Some-clause-only
returns-in-Some-clause-only c = λ left. finds_given (finds_ok _ (finds_token c.in-Some.ensures.taken))
    (λ n next ts h s k. (whole_as c.in-Some.n next ts h (k ∙ eats_kind c.in-Some.ensures.taken), refl))

pub returns-in-None-clause-only : goal.returns-in-None-clause-only
returns-in-None-clause-only c = λ left. finds_at
    (finds_syntax (λ n next ts h s k. c.in-None.ensures.other h.z (sym k ∙ token_kind h.reads))) c.in-None.ensures.left

pub returns-in-None-clause-stuck : goal.returns-in-None-clause-stuck
returns-in-None-clause-stuck c = λ left. refuses_at (refuses_here Syntax refl (λ m. some_whole)) c.in-None.ensures.left

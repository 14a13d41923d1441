use Rattle.std.proofs.Common.{refl}
use Rattle.expression_grammar.proofs.Finding.{finds_then, finds_fails, finds_given, finds_err, finds_ok, spans_then, spans_expected, spans_map, follows_token, follows_any}
use Rattle.ar_grammar.proofs.MemberParts.{names_follow, turns_type, turns_names, turns_settings}
use Rattle.ar_grammar.proofs.members.declaration.Goals as goal
use Rattle.expression_grammar.proofs.Standing.{halts_err, refuses_fails, refuses_then, passes, begins_then, begins_token, begins_no_more, begins_nothing, begins_map}
use Rattle.std.proofs.Common.{inl}
use Rattle.ar_lexer.specs.declared.token.TokenKind.TheVariants.{Name, Sign}
use Rattle.ar_lexer.specs.declared.signs.TheConstants.{SEMICOLON}

pub returns-in_err-of_type-clause-only : goal.returns-in_err-of_type-clause-only
returns-in_err-of_type-clause-only c =
    finds_given (finds_fails (c.in_err-of_type.ensures.only _) c.from_residual.ensures.1 follows_any)
    (λ n next ts h s k. (h, s))

pub returns-in_err-names-clause-only : goal.returns-in_err-names-clause-only
returns-in_err-names-clause-only c =
    finds_given (finds_then (c.in_ok-of_type.ensures.only _)
    (finds_fails (c.in_err-names.ensures.only _) c.from_residual-in_err-names.ensures.1 names_follow) follows_any)
    (λ n next ts h s k. (h, s))

pub returns-in_err-settings-clause-only : goal.returns-in_err-settings-clause-only
returns-in_err-settings-clause-only c =
    finds_given (finds_then (c.in_ok-of_type.ensures.only _)
    (finds_then (c.in_ok-names.ensures.only _)
    (finds_fails c.in_err-settings.ensures.only c.from_residual-in_err-settings.ensures.1 (follows_token refl))
    names_follow) follows_any) (λ n next ts h s k. (h, s))

pub returns-in_err-expect-clause-only : goal.returns-in_err-expect-clause-only
returns-in_err-expect-clause-only c =
    finds_given (finds_then (c.in_ok-of_type.ensures.only _)
    (finds_then (c.in_ok-names.ensures.only _)
    (finds_then c.in_ok-settings.ensures.only
    (finds_err (c.in_err-expect.ensures.only _) c.from_residual-in_err-expect.ensures.1) (follows_token refl))
    names_follow) follows_any) (λ n next ts h s k. (h, s))

pub returns-clause-found : goal.returns-clause-found
returns-clause-found c = spans_map (spans_then c.in_ok-of_type.ensures.found
    (spans_then c.in_ok-names.ensures.found
    (spans_then c.in_ok-settings.ensures.found (spans_expected c.in_ok-expect.ensures.found))))
    (λ next ts h. record {
      type = _;
      names = c.in_ok-names.names;
      settings = c.in_ok-settings.settings;
      is = refl;
      reads = h;
    })

pub returns-clause-only : goal.returns-clause-only
returns-clause-only c = finds_given
    (finds_then (c.in_ok-of_type.ensures.only _)
    (finds_then (c.in_ok-names.ensures.only _)
    (finds_then c.in_ok-settings.ensures.only (finds_ok _ (c.in_ok-expect.ensures.only _)) (follows_token refl))
    names_follow) follows_any) (λ n next ts h s k. (h, s))

pub returns-in_err-of_type-clause-stuck : goal.returns-in_err-of_type-clause-stuck
returns-in_err-of_type-clause-stuck c =
    halts_err _ _ c.from_residual.ensures.1
    (refuses_fails (c.in_err-of_type.ensures.stuck _)
    (λ m. begins_then (begins_then (begins_token Name) begins_no_more)
    (begins_then (begins_map begins_nothing (λ next ts h. inl h)) (begins_token (Sign SEMICOLON)))))

pub returns-in_err-names-clause-stuck : goal.returns-in_err-names-clause-stuck
returns-in_err-names-clause-stuck c =
    halts_err _ _ c.from_residual-in_err-names.ensures.1
    (refuses_then (passes c.in_ok-of_type.ensures.found (λ m l. turns_type c.in_ok-of_type.of_type))
    (refuses_fails (c.in_err-names.ensures.stuck _)
    (λ m. begins_then (begins_map begins_nothing (λ next ts h. inl h)) (begins_token (Sign SEMICOLON)))))

pub returns-in_err-settings-clause-stuck : goal.returns-in_err-settings-clause-stuck
returns-in_err-settings-clause-stuck c =
    halts_err _ _ c.from_residual-in_err-settings.ensures.1
    (refuses_then (passes c.in_ok-of_type.ensures.found (λ m l. turns_type c.in_ok-of_type.of_type))
    (refuses_then (passes c.in_ok-names.ensures.found (λ m l. turns_names c.in_ok-names.names.items))
    (refuses_fails c.in_err-settings.ensures.stuck (λ m. begins_token (Sign SEMICOLON)))))

pub returns-in_err-expect-clause-stuck : goal.returns-in_err-expect-clause-stuck
returns-in_err-expect-clause-stuck c =
    halts_err _ _ c.from_residual-in_err-expect.ensures.1
    (refuses_then (passes c.in_ok-of_type.ensures.found (λ m l. turns_type c.in_ok-of_type.of_type))
    (refuses_then (passes c.in_ok-names.ensures.found (λ m l. turns_names c.in_ok-names.names.items))
    (refuses_then (passes c.in_ok-settings.ensures.found (λ m l. turns_settings _ m l c.in_ok-settings.settings.items))
    (c.in_err-expect.ensures.stuck _))))

-- The program's command as `clap` reads it.
use Rattle.std.proofs.Common.{◌≡◌, ◌∙◌, [], ◌∷◌, List, Bool, true, false, not, ◌&&◌, is_some, ap, ap₂, refl, sym, inl, inr, subst, map, fold, codes, Option, Some, None, Result, IfOk}
use Rattle.std.proofs.lemmas.Bool.{and_parts, not-true}
use Rattle.std.proofs.lemmas.Result.{IfOk-weaker}
use Rattle.std.specs.Option.{IsSomeAnd}
use Rattle.clap.specs.Simple.{app_of_fields}
use Rattle.clap.specs.Walk.{is_empty, is_simple_arg}
use Rattle.clap.specs.declared.builder.arg.Arg.{Arg}
use Rattle.clap.specs.declared.builder.range.ValueRange.{ValueRange}
use Rattle.clap.specs.declared.builder.command.Command.{Command}
use Rattle.clap.specs.declared.builder.command.Command.TheViews.{out-Command}
use Rattle.clap.specs.declared.error.Error.{Error}
use Rattle.clap.specs.declared.error.kind.ErrorKind.TheVariants as kind
use Rattle.clap.specs.declared.parser.matches.ArgMatches.{ArgMatches}
use Rattle.clap.specs.Words.{AddsArg, AddsInTurn, App, HasKind, HasMatchesOf, Kinds, Text, app_of, fault_of, found_of, is_simple, is_simple_and_free, kind_of, matches_of, new_app, rows_of, rule_of, Rule, with_rule}
use Rattle.clap.proofs.OnLiterals.{clap_on_literals}
use Rattle.run_words.specs.Lines.{bare_command, program, rules}

is_simple_program : is_simple program ≡ true
unfolding program clap_on_literals
is_simple_program = refl

is_free_program : is_simple_and_free program ≡ true
unfolding program clap_on_literals
is_free_program = refl

-- the two settings
pub with_settings : (x y z : Command) → app_of x ≡ new_app (codes "altarica")
    → out-Command y ≡ record (out-Command x) { disable_help_flag = true }
    → out-Command z ≡ record (out-Command y) { disable_version_flag = true } → app_of z ≡ bare_command
with_settings x y z e1 e2 e3 =
    ap app_of_fields e3
    ∙ ap (λ f. app_of_fields (record f { disable_version_flag = true })) e2
    ∙ ap (λ (a : App). record a { top = record a.top { disable_help_flag = true; disable_version_flag = true } }) e1

-- what `clap` finds
pub rows_found : (a : App) (words : List Text) (m : ArgMatches) → a ≡ program → HasMatchesOf a words m
    → rows_of (found_of m) ≡ matches_of program words
rows_found a words m e h = (h (ap is_simple e ∙ is_simple_program)).0 ∙ ap (λ b. matches_of b words) e

-- where it finds no fault in the words it refuses them for want of memory alone
pub refused : (a : App) (words : List Text) (e : Error) → a ≡ program
    → (is_simple_and_free a ≡ true → HasKind (fault_of a words) e)
    → fault_of program words ≡ [] → kind_of e ≡ kind.OutOfMemory
refused a words e is h none = elim (subst (λ (ks : Kinds). HasKind ks e) (ap (λ b. fault_of b words) is ∙ none)
    (h (ap is_simple_and_free is ∙ is_free_program))) [
      | inl memory ↦ memory
      | inr among ↦ absurd among
    ]

-- an argument that must be there
pub required_rule : (x y : Arg) → y ≡ record x { required = true } → rule_of y ≡ record (rule_of x) { required = true }
required_rule x y e = ap rule_of e

-- an argument with so many values
pub ranged_rule : (x y : Arg) (r : ValueRange) → y ≡ record x { num_vals = y.num_vals }
    → IsSomeAnd y.num_vals (λ s. s ≡ r) → rule_of y ≡ record (rule_of x) { range = Some r }
ranged_rule x y r e some = ap rule_of e ∙ ap (λ o. record (rule_of x) { range = o }) (is_some_of y.num_vals r some)
  where
    is_some_of : (o : Option ValueRange) (r : ValueRange) → IsSomeAnd o (λ s. s ≡ r) → o ≡ Some r
    is_some_of (Some s) r is = ap (λ q. Some q) is
    is_some_of None r is = absurd is

-- no fault was found where the parse succeeds
pub no_fault : (a : App) (words : List Text) → a ≡ program → (is_simple_and_free a ≡ true → fault_of a words ≡ [])
    → fault_of program words ≡ []
no_fault a words e h = sym (ap (λ b. fault_of b words) e) ∙ h (ap is_simple_and_free e ∙ is_free_program)

second : (x y : Bool) → (x && y) ≡ true → y ≡ true
second x y e = (and_parts x y e).1

-- a simple argument is none for subcommands too
is_local : (a : Arg) → is_simple_arg a ≡ true → a.global ≡ false
is_local a simple =
    not-true _ (second (not a.last) _ (second (not a.require_equals) _ (second (not a.allow_negative_numbers) _
    (second (not a.allow_hyphen_values) _ (second (not (is_some a.terminator)) _ (second (not (is_some a.val_delim)) _
    (second (is_empty a.groups.items) _ (second (is_empty a.default_vals_ifs.items) _
    (second (is_empty a.overrides.items) _ simple)))))))))

-- each of the rules is simple
abbrev are_simple : List Rule → Bool
are_simple [] = true
are_simple (r ∷ rs) = r.is_simple && are_simple rs

-- simple arguments that are added in turn add their rules
added_in_turn : (old new : Command) (args : List Arg) → are_simple (map rule_of args) ≡ true
    → AddsInTurn AddsArg old args new → app_of new ≡ fold with_rule (app_of old) (map rule_of args)
added_in_turn old new [] simple is = ap app_of (sym is)
added_in_turn old new (a ∷ args) simple added =
    let both = and_parts (is_simple_arg a) (are_simple (map rule_of args)) simple in
    added_in_turn added.0 new args both.1 added.2
    ∙ ap (λ app. fold with_rule app (map rule_of args)) (added.1.shape (is_local a both.0))

-- the arguments make the bare command that of the program, if memory was given
pub program_of : {E : Type 0} (r : Result Command E) (old : Command) (args : List Arg) → app_of old ≡ bare_command
    → map rule_of args ≡ rules → IfOk r (λ new. AddsInTurn AddsArg old args new) → IfOk r (λ new. app_of new ≡ program)
unfolding program
program_of r old args is by added =
    IfOk-weaker r _ _ (λ new h. added_in_turn old new args (ap are_simple by) h ∙ ap₂ (fold with_rule) is by) added

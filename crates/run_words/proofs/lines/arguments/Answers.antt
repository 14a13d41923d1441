use Rattle.std.proofs.Common.{◌≡◌, ◌∙◌, Some, ap, refl, true}
use Rattle.clap.specs.Words.{Rule, rule_of}
use Rattle.run_words.specs.Lines.{any_number, command, files}
use Rattle.run_words.proofs.Program.{ranged_rule, required_rule}
use Rattle.run_words.proofs.lines.arguments.Goals as goal

pub returns : goal.returns
returns c =
    let word : rule_of c.required.result ≡ command =
    required_rule c.new.result c.required.result c.required.ensures
    ∙ ap (λ (r : Rule). record r { required = true }) c.new.ensures.rule in
    let further : rule_of c.num_args.result ≡ files =
    ranged_rule c.new-2.result c.num_args.result any_number c.num_args.ensures.0 c.num_args.ensures.1
    ∙ ap (λ (r : Rule). record r { range = Some any_number }) c.new-2.ensures.rule in
    rw (
      c.in_ok-args.ensures.items,
      word,
      further,
      c.option.ensures,
      c.option-2.ensures,
      c.option-3.ensures,
      c.option-4.ensures,
      c.option-5.ensures,
      c.option-6.ensures,
    ) refl

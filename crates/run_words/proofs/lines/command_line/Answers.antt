use Rattle.std.proofs.Common.{◌∙◌, codes, refl}
use Rattle.clap.specs.Words.{found_of}
use Rattle.clap.proofs.WalkLemmas.{first_value-rows, raw_values-rows}
use Rattle.run_words.proofs.lines.command_line.Goals as goal

pub returns : goal.returns
returns c =
    let found = found_of c.args.matches.now in
    rw (
      c.get_str.ensures ∙ first_value-rows found (codes "command"),
      c.get_strs.ensures ∙ raw_values-rows found (codes "file"),
      c.get_str-2.ensures ∙ first_value-rows found (codes "main"),
      c.get_str-3.ensures ∙ first_value-rows found (codes "observer"),
      c.get_str-4.ensures ∙ first_value-rows found (codes "value"),
      c.get_str-5.ensures ∙ first_value-rows found (codes "nodes"),
      c.get_str-6.ensures ∙ first_value-rows found (codes "drop"),
      c.get_str-7.ensures ∙ first_value-rows found (codes "max-order"),
    ) refl

use Rattle.run_words.proofs.Program.{with_settings, program_of}
use Rattle.run_words.proofs.lines.described.Goals as goal

pub returns : goal.returns
returns c =
    program_of c.args-2.result c.disable_version_flag.result c.in_ok-args.args.items
    (with_settings c.new.result c.disable_help_flag.result c.disable_version_flag.result c.new.ensures.app
    c.disable_help_flag.ensures c.disable_version_flag.ensures)
    c.in_ok-args.ensures c.args-2.ensures

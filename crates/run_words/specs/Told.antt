-- What the command line that the code holds says.
use Rattle.std.specs.Prelude.{map, option_map}
use Rattle.run_words.specs.Lines.{CommandWords, or_none}
use Rattle.run_words.specs.declared.lines.CommandLine.{CommandLine}

abbrev pub told : CommandLine → CommandWords
told l = record {
  command = option_map (λ s. s.now) l.command;
  files = or_none (option_map (λ s. map (λ w. w.now) s.now) l.files);
  main = option_map (λ s. s.now) l.main;
  observer = option_map (λ s. s.now) l.observer;
  value = option_map (λ s. s.now) l.value;
  nodes = option_map (λ s. s.now) l.nodes;
  dropped = option_map (λ s. s.now) l.dropped;
  order = option_map (λ s. s.now) l.order;
}

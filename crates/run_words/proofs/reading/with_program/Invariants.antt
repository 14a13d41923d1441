use Rattle.std.proofs.Common.{◌≡◌, map, take}
use Rattle.ar_base.specs.TextsInside.{bytes_of_all}
use Rattle.run_words.specs.Jobs.{given_words}
use Rattle.run_words.proofs.reading.with_program.Given as goal

abbrev pub invariant-loop-word : goal.invariant-loop-word
invariant-loop-word l = map (λ w. w.now) l.given.items ≡ given_words (bytes_of_all (take l.word-index l.words))

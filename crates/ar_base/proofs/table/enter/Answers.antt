-- The map's look-up by bytes after an insertion.
use Rattle.std.proofs.Common.{ℕ, List, Some, ap, ◌∙◌, if◌then◌else◌}
use Rattle.std.proofs.lemmas.Map.Text.{hash_map_updates_text}
use Rattle.std.specs.HashMap.{get_by_text}
use Rattle.std.specs.Str.{bytes_eq}
use Rattle.std.specs.String.{string_bytes}
use Rattle.ar_base.proofs.table.enter.Goals as goal

pub returns-clause-entered : goal.returns-clause-entered
returns-clause-entered c = λ other.
    hash_map_updates_text (string_bytes c.in_ok-owned.owned) c.args.numbers.now c.insert.new.self _
    c.in_ok-insert.ensures.updates other
    ∙ ap (λ (t : List ℕ). if bytes_eq t other then Some c.args.number else get_by_text c.args.numbers.now other)
    c.in_ok-owned.ensures.ok

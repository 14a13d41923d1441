-- The sets of the events of lines as rows of bits.
use Rattle.std.specs.Prelude.{◌≡◌, ◌<◌, ◌/◌, ℕ, List, length}
use Rattle.ar_base.specs.Lists.{Stands, IsOneOf}
use Rattle.ar_meaning.specs.Runs.{Label}
use Rattle.flow_blocks.specs.Bits.{words_for}
use Rattle.gts_core.specs.declared.system.GtsParts.{GtsParts}
use Rattle.cut_check.specs.Rows.{HaveBits}
use Rattle.cut_check.specs.declared.lookup.LineSets.{LineSets}
use Rattle.cut_check.specs.declared.rows.Row.{Row}

-- the rows are those of these lines, and each, as the one that is asked for, has a bit for each event of the system
pub record AreLineSets (p : GtsParts) (lines : List (List Label)) (sets : LineSets) : Type 0 where
  pub have : HaveBits lines sets.rows.items
  pub wide : (k : ℕ) (r : Row) → Stands sets.rows.items k r → length r.words.items ≡ words_for (length p.events.items)
  pub room : length sets.asked.items ≡ words_for (length p.events.items)

-- the same of some lines
pub record AreSomeLineSets (p : GtsParts) (sets : LineSets) : Type 0 where
  pub lines : List (List Label)
  pub are : AreLineSets p lines sets

-- each of these is an event of the system
pub record AreEventNumbers (p : GtsParts) (events : List ℕ) : Type 0 where
  pub each : (e : ℕ) → IsOneOf events e → e < length p.events.items

-- the same of each of these sets
pub record HaveEventNumbers (p : GtsParts) (sets : List (List ℕ)) : Type 0 where
  pub each : (events : List ℕ) → IsOneOf sets events → AreEventNumbers p events

-- the rows are equally long, and have a bit for each of these events
pub record HasEqualRows (sets : LineSets) (events : List ℕ) : Type 0 where
  pub same : (k : ℕ) (r : Row) → Stands sets.rows.items k r → length r.words.items ≡ length sets.asked.items
  pub inside : (e : ℕ) → IsOneOf events e → e / 64 < length sets.asked.items

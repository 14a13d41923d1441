-- The events of lines as rows of bits, and which lines may be fired.
use Rattle.std.specs.Prelude.{◌≡◌, ◌↔◌, ℕ, Bool, true, false, List, length}
use Rattle.ar_base.specs.Lists.{Stands, IsOneOf, AreDifferent}
use Rattle.ar_meaning.specs.Found.{IsAnswer}
use Rattle.ar_meaning.specs.Runs.{Label}
use Rattle.flow_blocks.specs.Bits.{IsSet, words_for}
use Rattle.gts_core.specs.declared.bound.Chain.{Chain}
use Rattle.gts_core.specs.declared.system.Event.{Event}
use Rattle.gts_core.specs.declared.system.GtsParts.{GtsParts}
use Rattle.job_inputs.specs.Chains.{chain_labels}
use Rattle.cut_check.specs.Verdicts.{events_of}
use Rattle.cut_check.specs.declared.rows.Row.{Row}

-- the event of this number is visible and not dropped
pub record IsOpenEvent (p : GtsParts) (dropped : List ℕ) (e : ℕ) : Type 0 where
  pub event : Event
  pub stands : Stands p.events.items e event
  pub visible : event.hidden ≡ false
  pub stays : IsOneOf dropped e → ⊥

-- for each event whether it is visible and not dropped
pub record AreOpenEvents (p : GtsParts) (dropped : List ℕ) (open_events : List Bool) : Type 0 where
  pub long : length open_events ≡ length p.events.items
  pub each : (n : ℕ) (b : Bool) → Stands open_events n b → IsAnswer b (IsOpenEvent p dropped n)

-- for each event whether it is visible
pub record AreVisible (p : GtsParts) (visible : List Bool) : Type 0 where
  pub long : length visible ≡ length p.events.items
  pub each : (n : ℕ) (b : Bool) (e : Event) → Stands visible n b → Stands p.events.items n e
      → IsAnswer b (e.hidden ≡ false)

-- each label's event is open, and stands once
pub record IsFit (p : GtsParts) (dropped : List ℕ) (ls : List Label) : Type 0 where
  pub once : AreDifferent (events_of ls)
  pub are_open : (k : ℕ) (l : Label) → Stands ls k l → IsOpenEvent p dropped l.event

-- the table says that the event is open, and it is not in the row
pub record IsFreshEvent (open_events : List Bool) (row : List ℕ) (e : ℕ) : Type 0 where
  pub is_open : Stands open_events e true
  pub is_new : IsSet row e → ⊥

-- the row of a line
pub record IsRow (p : GtsParts) (dropped : List ℕ) (ls : List Label) (row : Row) : Type 0 where
  pub long : length row.words.items ≡ words_for (length p.events.items)
  pub bits : (n : ℕ) → IsSet row.words.items n ↔ IsOneOf (events_of ls) n
  pub fit : IsAnswer row.fit (IsFit p dropped ls)

-- the rows of these lines, in order
pub record AreLineRows (p : GtsParts) (dropped : List ℕ) (chains : List Chain) (rows : List Row) : Type 0 where
  pub long : length rows ≡ length chains
  pub each : (k : ℕ) (c : Chain) (r : Row) → Stands chains k c → Stands rows k r
      → IsRow p dropped (chain_labels p c.ways.items) r

-- the rows have the events of these lines as bits
pub record HaveBits (lines : List (List Label)) (rows : List Row) : Type 0 where
  pub long : length rows ≡ length lines
  pub each : (k : ℕ) (ls : List Label) (r : Row) → Stands lines k ls → Stands rows k r
      → (n : ℕ) → IsSet r.words.items n ↔ IsOneOf (events_of ls) n

-- the rows are equally long
pub record AreWide (rows : List Row) : Type 0 where
  pub same : (j k : ℕ) (r s : Row) → Stands rows j r → Stands rows k s → length r.words.items ≡ length s.words.items

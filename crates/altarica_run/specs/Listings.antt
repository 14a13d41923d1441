-- What a listing of cuts says of the model once it ends well.
use Rattle.std.specs.Prelude.{◌≡◌, ℕ, ◌++◌, List, Ok, length, reverse}
use Rattle.ar_base.specs.Lists.{Stands}
use Rattle.ar_meaning.specs.Runs.{Label}
use Rattle.ar_firing.specs.Cuts.{AreEvents, Cut}
use Rattle.firable_families.specs.Firable.{AndUpTo}
use Rattle.cut_text.specs.Texts.{count_line, label_lists}
use Rattle.gts_flatten.specs.Flat.{naming_of}
use Rattle.run_words.specs.declared.jobs.Asked.{Asked}
use Rattle.altarica_run.specs.Follows.{Call, Wrote}
use Rattle.job_stages.specs.Stages.{Ready, Passes}
use Rattle.job_stages.specs.Tells.{HasCuts, Replays}

-- the set is a cut of the observer's value that is asked for, of at most as many events as are asked for
abbrev pub IsCut : (w : Ready) → HasCuts w → List ℕ → Type 0
IsCut w has set = AndUpTo w.order (Cut w.source.system w.dropped has.observed has.wanted.value) set

-- the labels, fired as they stand, are an order of a cut that replays in the whole model and ends with the wanted value
pub record IsCutOrder (w : Ready) (has : HasCuts w) (ls : List Label) : Type 0 where
  pub set : List ℕ
  pub is_cut : IsCut w has set
  pub replay : Replays w.source.system has.observed has.wanted.value set ls

-- what was written are lines of labels and their number; each line is an order of a cut that replays, each cut has a
-- line, and no cut has two
pub record IsListing (c : Call) (asked : Asked) : Type 0 where
  pub ready : Ready
  pub passes : Passes c.files asked (Ok ready)
  pub has : HasCuts ready
  pub lines : List (List Label)
  pub wrote : Wrote c
      (label_lists (naming_of ready.source.declarations) ready.source.system lines
      ++ count_line ready.order (length lines))
  pub sound : (k : ℕ) (ls : List Label) → Stands lines k ls → IsCutOrder ready has ls
  pub whole : (set : List ℕ) → IsCut ready has set
      → (k : ℕ) × (ls : List Label) × Stands lines k ls × AreEvents (reverse ls) set
  pub once : (j k : ℕ) (ls ms : List Label) (set : List ℕ) → Stands lines j ls → Stands lines k ms
      → AreEvents (reverse ls) set → AreEvents (reverse ms) set → j ≡ k

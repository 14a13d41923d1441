-- What the walks keep.
use Rattle.std.specs.Prelude.{◌≡◌, ℕ, ◌<◌, Bool, true, List}
use Rattle.ar_base.specs.Lists.{Stands}
use Rattle.zdd_nodes.specs.Nodes.{Stored, family, IsFamilyNumber}
use Rattle.zdd_nodes.specs.Bounds.{EndsBelow}
use Rattle.gate_modules.specs.Ends.{Agree, AgreeSome}
use Rattle.gate_modules.specs.declared.twins.Twin.{Twin}
use Rattle.gate_modules.specs.declared.twins.Question.{Question}

-- each of the table's entries tells of two families that agree; its number 0 stands for no entry
pub record AreTwins (s : Stored) (twins : List Twin) : Type 0 where
  pub each : (k : ℕ) (t : Twin) → Stands twins k t → 0 < t.node.n
      → Agree t.to (family s k) (family s t.node.n) (family s t.end.n) (family s t.node_end.n)

-- the families of these numbers agree as asked
abbrev pub HaveTwinFamilies : Stored → Question → ℕ → ℕ → Type 0
HaveTwinFamilies s asked n m = Agree asked.to (family s n) (family s m) (family s asked.end.n) (family s asked.node_end.n)

-- the same but for the empty set
abbrev pub AgreesSome : Stored → Question → ℕ → ℕ → Type 0
AgreesSome s asked n m = AgreeSome asked.to (family s n) (family s m) (family s asked.end.n) (family s asked.node_end.n)

-- what is to follow are families of the store that are not empty
pub record AreEnds (s : Stored) (asked : Question) : Type 0 where
  pub end_in : IsFamilyNumber s asked.end.n
  pub end_some : 0 < asked.end.n
  pub node_end_in : IsFamilyNumber s asked.node_end.n
  pub node_end_some : 0 < asked.node_end.n

-- the answer is yes exactly where P holds
pub record SaysWhether (answer : Bool) (P : Type 0) : Type 0 where
  pub yes : answer ≡ true → P
  pub only : P → answer ≡ true

-- the entry is about this number and what is asked
pub record IsAskedPair (known : Twin) (asked : Question) (second : ℕ) : Type 0 where
  pub node : known.node.n ≡ second
  pub to : known.to ≡ asked.to
  pub end : known.end.n ≡ asked.end.n
  pub node_end : known.node_end.n ≡ asked.node_end.n

-- the entry has no event below the bound, or it agrees with the reference e0, which goes on as y, as to nonempty sets
pub data EntryAgrees (s : Stored) (to e0 y e : ℕ) : Type 0 where
  no_part : EndsBelow s to e → EntryAgrees s to e0 y e
  alike : (x : ℕ) → AgreeSome to (family s e) (family s e0) (family s x) (family s y) → EntryAgrees s to e0 y e

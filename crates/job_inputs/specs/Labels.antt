-- What labels name: paths from the main block, which may pass through aliases, and numbers of ways.
use Rattle.std.specs.Prelude.{◌≡◌, ℕ, ◌+◌, ◌<◌, ◌≤◌, Bool, false, List, [], ◌++◌, codes, decimal, length}
use Rattle.ar_base.specs.Lists.{Stands, Along}
use Rattle.ar_meaning.specs.Systems.{Event}
use Rattle.ar_meaning.specs.Runs.{Label}
use Rattle.ar_syntax.specs.declared.paths.PathStart.TheVariants.{Here}
use Rattle.class_table.specs.Members.{MemberKind}
use Rattle.hierarchy.specs.Models.{RootedModel}
use Rattle.hierarchy.specs.Units.{UnitPath, Thing}
use Rattle.hierarchy.specs.Walks.{IsThingAt, is_event}
use Rattle.hierarchy.specs.Listing.{events}
use Rattle.gts_flatten.specs.Elaborating.{Elaborated}
use Rattle.job_inputs.specs.Lines.{pieces, is_mark}

-- a dot
abbrev pub is_dot : ℕ → Bool
is_dot b = is_mark 46 b

-- the pieces of the text between its dots are the texts of these names, which have these texts by number
abbrev pub Spells : List (List ℕ) → List ℕ → List ℕ → Type 0
Spells texts text names = Along (λ piece x. Stands texts x piece) (pieces is_dot text) names

-- the text is a path from the main block that names this thing, which passes the test
pub record TextNames (m : RootedModel) (test : MemberKind → Bool) (text : List ℕ) (t : Thing) : Type 0 where
  pub names : List ℕ
  pub spells : Spells m.names text names
  pub is_thing : IsThingAt m test [] Here names t

-- the text names a thing that passes the test, the one of this number in this listing of the units' things
pub record NamesOne (x : Elaborated) (test : MemberKind → Bool) (listing : RootedModel → List UnitPath → List Thing)
    (text : List ℕ) (n : ℕ) : Type 0 where
  pub thing : Thing
  pub is_thing : TextNames x.declarations.model test text thing
  pub number : Stands (listing x.declarations.model x.declarations.units) n thing

-- the text names the event of this number
abbrev pub NamesEvent : Elaborated → List ℕ → ℕ → Type 0
NamesEvent x = NamesOne x is_event events

-- the text names the event of this number, which is not hidden and has so many ways
pub record NamesVisible (x : Elaborated) (text : List ℕ) (e ways : ℕ) : Type 0 where
  pub names : NamesEvent x text e
  pub event : Event Thing
  pub stands : Stands x.system.events e event
  pub visible : event.hidden ≡ false
  pub count : length event.ways ≡ ways

-- a path names the only way of its event; a path with `#k` names way k, counted from 1
pub data IsLabel (x : Elaborated) (text : List ℕ) : Label → Type 0 where
  path : {e : ℕ} → NamesVisible x text e 1 → IsLabel x text (record { event = e; way = 0 })
  numbered : {e k : ℕ} (path : List ℕ) (ways : ℕ) → text ≡ path ++ (codes "#" ++ decimal (k + 1))
      → NamesVisible x path e ways → k < ways
      → IsLabel x text (record { event = e; way = k })

-- a path of an event with two ways or more
pub record NeedsWay (x : Elaborated) (text : List ℕ) : Type 0 where
  pub event : ℕ
  pub ways : ℕ
  pub names : NamesVisible x text event ways
  pub many : 2 ≤ ways

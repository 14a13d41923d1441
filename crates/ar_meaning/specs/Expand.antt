-- The ways that declared transitions and synchronisations give. L is what stands for a transition, and E what stands
-- for an event.
use Rattle.std.specs.Prelude.{◌≡◌, ◌⊎◌, ℕ, Bool, List, [], ◌∷◌, ◌++◌, map}
use Rattle.std.specs.List.{flat_map}
use Rattle.ar_base.specs.Lists.{Stands, IsOneOf}
use Rattle.ar_meaning.specs.Systems.{Transition, Tree, Leaf, Joint, Branches, Empty, Branch, Event}

-- a member that gives an event ways: a transition, or a synchronisation, which names an event for each part, with its
-- mark, which is true for !
pub data Member (L E : Type 0) : Type 0 where
  One : L → Member L E
  Synchronises : (parts : List (Bool × E)) → Member L E

-- an event as it is declared: what stands for it, the number of its unit, whether a hide clause names it, and its
-- members in order
pub record EventDeclaration (L E : Type 0) : Type 0 where
  pub key : E
  pub unit : ℕ
  pub hidden : Bool
  pub members : List (Member L E)

-- each choice of one of these ways and of one of these choices for the parts after it, in lexicographic order
abbrev pub choices : {L : Type 0} → Bool → List (Tree L) → List (Branches L) → List (Branches L)
choices must ts bss = flat_map (λ t. map (λ bs. Branch must t bs) bss) ts

mutual
  -- the ways of an event are what its members give, in member order
  pub data Ways {L E : Type 0} (events : List (EventDeclaration L E)) : E → List (Tree L) → Type 0 where
    event : {d : EventDeclaration L E} {e : E} {ts : List (Tree L)} (n : ℕ) → Stands events n d → d.key ≡ e
        → Members_give events d.members ts → Ways events e ts

  -- a transition gives one way, a synchronisation one for each choice of one way for each part
  pub data Members_give {L E : Type 0} (events : List (EventDeclaration L E)) : List (Member L E) → List (Tree L)
      → Type 0 where
    no_member : Members_give events [] []
    one : {l : L} {ms : List (Member L E)} {ts : List (Tree L)} → Members_give events ms ts
        → Members_give events (One l ∷ ms) (Leaf l ∷ ts)
    synchronises : {ps : List (Bool × E)} {ms : List (Member L E)} {bss : List (Branches L)} {ts : List (Tree L)}
        → Parts_give events ps bss → Members_give events ms ts
        → Members_give events (Synchronises ps ∷ ms) (map Joint bss ++ ts)

  -- every choice of one way for each part, in lexicographic order
  pub data Parts_give {L E : Type 0} (events : List (EventDeclaration L E)) : List (Bool × E) → List (Branches L)
      → Type 0 where
    no_part : Parts_give events [] (Empty ∷ [])
    choice : {must : Bool} {e : E} {ps : List (Bool × E)} {ts : List (Tree L)} {bss : List (Branches L)}
        → Ways events e ts → Parts_give events ps bss
        → Parts_give events ((must, e) ∷ ps) (choices must ts bss)

-- a synchronisation of the first event has the second as a part
pub record HasPart {L E : Type 0} (events : List (EventDeclaration L E)) (d e : E) : Type 0 where
  pub place : ℕ
  pub declared : EventDeclaration L E
  pub stands : Stands events place declared
  pub is_key : declared.key ≡ d
  pub parts : List (Bool × E)
  pub is_member : IsOneOf declared.members (Synchronises parts)
  pub must : Bool
  pub is_part : IsOneOf parts (must, e)

-- the second event is reached from the synchronisations of the first
pub data ReachesPart {L E : Type 0} (events : List (EventDeclaration L E)) : E → E → Type 0 where
  part_of : {d e : E} → HasPart events d e → ReachesPart events d e
  further : {d e f : E} → HasPart events d e → ReachesPart events e f → ReachesPart events d f

-- member k of the event is a synchronisation from which the event is reached again
pub record LeadsBack {L E : Type 0} (events : List (EventDeclaration L E)) (e : E) (k : ℕ) : Type 0 where
  pub place : ℕ
  pub declared : EventDeclaration L E
  pub stands : Stands events place declared
  pub is_key : declared.key ≡ e
  pub parts : List (Bool × E)
  pub is_member : Stands declared.members k (Synchronises parts)
  pub must : Bool
  pub part : E
  pub is_part : IsOneOf parts (must, part)
  pub back : (part ≡ e) ⊎ ReachesPart events part e

-- the event of a system that a declared event is
pub record IsExpanded {V E : Type 0} (events : List (EventDeclaration (Transition V) E)) (d : EventDeclaration
    (Transition V) E) (e : Event V) : Type 0 where
  pub unit : d.unit ≡ e.unit
  pub hidden : d.hidden ≡ e.hidden
  pub ways : Ways events d.key e.ways

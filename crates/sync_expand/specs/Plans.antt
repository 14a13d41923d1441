-- The plan of the ways of declared events: all ways in one list, in which parts name ways by
-- number.
use Rattle.std.specs.Prelude.{ℕ, ◌+◌, Bool, List, [], ◌∷◌, ◌++◌, map, sum, take, slice_index}
use Rattle.std.specs.List.{flat_map, range_with_len}
use Rattle.ar_meaning.specs.Expand.{EventDeclaration, Member, One, Synchronises}
use Rattle.ar_meaning.specs.Numbered.{Body, Acts, Joins}

-- `counts` has the number of ways of each event, in the order of the events

-- the number of the first way of the event: the ways of the events before it come first
abbrev pub first_of : List ℕ → ℕ → ℕ
first_of counts e = sum (take e counts)

-- the numbers of the ways of the event
abbrev pub ways_at : List ℕ → ℕ → List ℕ
ways_at counts e = range_with_len (first_of counts e) (slice_index counts e)

-- each choice of one way for each part, with the part's mark and the way's number, in lexicographic
-- order
abbrev pub choices_by : List ℕ → List (Bool × ℕ) → List (List (Bool × ℕ))
choices_by counts [] = [] ∷ []
choices_by counts (p ∷ ps) =
    flat_map (λ n. map (λ c. (p.0, n) ∷ c) (choices_by counts ps)) (ways_at counts p.1)

-- what the ways are made of that these members give, the first of which has place k among the
-- event's members: a transition makes one way, a synchronisation one for each choice of one way for
-- each part
abbrev pub bodies_by : {L M : Type 0} → (ℕ → L → M) → List ℕ → ℕ → List (Member L ℕ) → List (Body M)
bodies_by act counts k [] = []
bodies_by act counts k (One l ∷ ms) = Acts (act k l) ∷ bodies_by act counts (k + 1) ms
bodies_by act counts k (Synchronises parts ∷ ms) =
    map Joins (choices_by counts parts) ++ bodies_by act counts (k + 1) ms

-- a way of the plan: its event, its number among the event's ways, and its body, in which a
-- transition stands by its place among the event's members
pub record PlannedWay : Type 0 where
  pub event : ℕ
  pub number : ℕ
  pub body : Body ℕ

-- ways of the event with these bodies, numbered from k on
abbrev pub numbered_from : ℕ → ℕ → List (Body ℕ) → List PlannedWay
numbered_from e k [] = []
numbered_from e k (b ∷ bs) = record { event = e; number = k; body = b } ∷ numbered_from e (k + 1) bs

-- the ways of one event
abbrev pub ways_of_event : {L : Type 0} → List ℕ → EventDeclaration L ℕ → List PlannedWay
ways_of_event counts d = numbered_from d.key 1 (bodies_by (λ k l. k) counts 0 d.members)

-- the ways of all events, event by event
abbrev pub planned_ways : {L : Type 0} → List ℕ → List (EventDeclaration L ℕ) → List PlannedWay
planned_ways counts events = flat_map (ways_of_event counts) events

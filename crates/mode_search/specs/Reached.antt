-- The modes that one variable reaches, and the edges from them.
use Rattle.std.specs.Prelude.{◌≡◌, ◌<◌, ◌⊎◌, ℕ, Bool, true, false, ◌||◌, List, [], ◌∷◌, map, length, Contains, Vec}
use Rattle.std.specs.Global.{Global}
use Rattle.ar_base.specs.Lists.{Stands, IsOneOf, AreDifferent}
use Rattle.ar_base.specs.Numbers.{VarId}
use Rattle.domains.specs.Domains.{values_of}
use Rattle.domains.specs.declared.Value.{Value}
use Rattle.typed_expr.specs.declared.expr.Expr.{Expr}
use Rattle.ar_meaning.specs.Found.{IsAnswer}
use Rattle.ar_meaning.specs.Systems.{Leaf}
use Rattle.ar_meaning.specs.Ways.{Can}
use Rattle.ar_firing.specs.Fragment.{At}
use Rattle.gts_core.specs.declared.system.Variable.{Variable}
use Rattle.gts_core.specs.declared.system.Assign.{Assign}
use Rattle.gts_core.specs.declared.system.GtsParts.{GtsParts}
use Rattle.mode_search.specs.EdgeAdding.{AddsEdge}
use Rattle.mode_search.specs.Modes.{transition_of}
use Rattle.mode_search.specs.Moves.{IsMove}
use Rattle.mode_search.specs.declared.moves.Move.{Move}
use Rattle.mode_search.specs.declared.moves.Move.TheVariants.{Still, To, Wrong}
use Rattle.mode_search.specs.Kept.{IsLocal}
use Rattle.mode_search.specs.declared.kept.KeptWay.{KeptWay}
use Rattle.mode_trees.specs.declared.forests.Edge.{Edge}
use Rattle.mode_search.specs.declared.searching.Reach.{Reach}

-- each of these is a way of the parts
pub record AreWaysOfParts (p : GtsParts) (ways : List KeptWay) : Type 0 where
  pub inside : (q : ℕ) (k : KeptWay) → Stands ways q k → k.way.n < length p.ways.items

-- no way stands at two places
pub record AreDifferentWays (ways : List KeptWay) : Type 0 where
  pub one : (q r : ℕ) (k l : KeptWay) → Stands ways q k → Stands ways r l → k.way ≡ l.way → q ≡ r

-- the way of this number is a transition and leads from one mode to another
pub record Leads (p : GtsParts) (n : ℕ) (domain : List Value) (way : ℕ) (from : Value) (move : Move) : Type 0 where
  pub guard : Expr VarId
  pub action : Vec Assign Global
  pub local : IsLocal p way guard action
  pub is : IsMove (At n from) (transition_of guard action.items) n domain move

-- where the way of this number leads from a mode; a way that is no transition leads nowhere
abbrev pub IsMoveOf : GtsParts → ℕ → List Value → ℕ → Value → Move → Type 0
IsMoveOf p n domain way from Still = (guard : Expr VarId) (action : Vec Assign Global) → IsLocal p way guard action
    → Can (At n from) (Leaf (transition_of guard action.items)) → ⊥
IsMoveOf p n domain way from Wrong = Leads p n domain way from Wrong
IsMoveOf p n domain way from (To v) = Leads p n domain way from (To v)

-- what is looked at: the variable's number, the values of its domain, and its ways in order
pub record Setting : Type 0 where
  pub parts : GtsParts
  pub number : ℕ
  pub domain : List Value
  pub ways : List KeptWay

-- the edge is that of one of the ways
pub record IsEdgeOf (s : Setting) (e : Edge) : Type 0 where
  pub place : ℕ
  pub way : KeptWay
  pub stands : Stands s.ways place way
  pub is_event : e.event ≡ way.event
  pub is_way : e.way ≡ way.way
  pub leads : Leads s.parts s.number s.domain way.way.n e.from (To e.to)

-- the mode is reached from the first along such edges
pub data IsReachable (s : Setting) (first : Value) : Value → Type 0 where
  here : IsReachable s first first
  along : (e : Edge) → IsReachable s first e.from → IsEdgeOf s e → IsReachable s first e.to

-- one of the ways is wrong at a mode that is reached
pub record HasWrong (s : Setting) (first : Value) : Type 0 where
  pub mode : Value
  pub reachable : IsReachable s first mode
  pub place : ℕ
  pub way : KeptWay
  pub stands : Stands s.ways place way
  pub leads : Leads s.parts s.number s.domain way.way.n mode Wrong

-- one of the edges enters the first mode, or one that an earlier edge enters
pub record EntersAgain (first : Value) (edges : List Edge) : Type 0 where
  pub place : ℕ
  pub edge : Edge
  pub stands : Stands edges place edge
  pub again : (edge.to ≡ first) ⊎ ((j : ℕ) × (f : Edge) × (j < place) × Stands edges j f × (f.to ≡ edge.to))

-- whether an edge enters a mode again; where none does, each mode but the first is entered by one edge, in their order
abbrev pub HasModeAgain : Value → List Value → List Edge → Bool → Type 0
HasModeAgain first modes edges true = EntersAgain first edges
HasModeAgain first modes edges false = modes ≡ first ∷ map (λ (e : Edge). e.to) edges

-- what the variable reaches from the first mode
pub record IsReachFrom (s : Setting) (first : Value) (r : Reach) : Type 0 where
  pub different : AreDifferent r.modes.items
  pub modes_sound : (m : Value) → IsOneOf r.modes.items m → IsReachable s first m
  pub modes_whole : (m : Value) → IsReachable s first m → IsOneOf r.modes.items m
  pub edges_sound : (e : Edge) → IsOneOf r.edges.items e → IsReachable s first e.from × IsEdgeOf s e
  pub edges_whole : (e : Edge) → IsReachable s first e.from → IsEdgeOf s e → IsOneOf r.edges.items e
  pub apart : (j k : ℕ) (e f : Edge) → Stands r.edges.items j e → Stands r.edges.items k f → e.from ≡ f.from
      → e.way ≡ f.way → j ≡ k
  pub wrong : IsAnswer r.wrong (HasWrong s first)
  pub again : HasModeAgain first r.modes.items r.edges.items r.again

-- what the variable of this number reaches from its init value along the edges of these ways
pub record IsReach (p : GtsParts) (n : ℕ) (ways : List KeptWay) (r : Reach) : Type 0 where
  pub variable : Variable
  pub stands : Stands p.variables.items n variable
  pub is : IsReachFrom (record { parts = p; number = n; domain = values_of variable.domain; ways = ways })
      variable.value r

-- the first mode alone
pub record IsFirstModeAlone (first : Value) (r : Reach) : Type 0 where
  pub modes : r.modes.items ≡ first ∷ []
  pub edges : r.edges.items ≡ []
  pub wrong : r.wrong ≡ false
  pub again : r.again ≡ false

-- an edge more is reached, and perhaps the mode that it enters
pub record ReachesMore (edge : Edge) (old new : Reach) : Type 0 where
  pub known : Bool
  pub adds : AddsEdge edge old.modes.items old.edges.items known new.modes.items new.edges.items
  pub wrong : new.wrong ≡ old.wrong
  pub again : new.again ≡ (known || old.again)

-- the same for where a way leads from a mode
abbrev pub AddsMove : KeptWay → Value → Move → Reach → Reach → Type 0
AddsMove way mode Still old new = new ≡ old
AddsMove way mode Wrong old new = new ≡ record old { wrong = true }
AddsMove way mode (To to) old new =
    ReachesMore (record { from = mode; event = way.event; way = way.way; to = to }) old new

-- the way of place q was looked at, at the mode of place j, before the way of place i at the mode of place next
abbrev pub IsLookedAt : ℕ → ℕ → ℕ → ℕ → Type 0
IsLookedAt next i j q = (j < next) ⊎ ((j ≡ next) × (q < i))

-- where the way leads from the mode is recorded
abbrev pub IsRecorded : KeptWay → Value → Move → Reach → Type 0
IsRecorded way mode Still r = Unit {0}
IsRecorded way mode Wrong r = r.wrong ≡ true
IsRecorded way mode (To to) r = IsOneOf r.modes.items to
    × IsOneOf r.edges.items (record { from = mode; event = way.event; way = way.way; to = to })

pub record Records (s : Setting) (way : KeptWay) (mode : Value) (r : Reach) : Type 0 where
  pub move : Move
  pub is : IsMoveOf s.parts s.number s.domain way.way.n mode move
  pub recorded : IsRecorded way mode move r

-- an edge that was found at a mode of place j
pub record IsFoundEdge (s : Setting) (next i : ℕ) (r : Reach) (e : Edge) : Type 0 where
  pub is_edge : IsEdgeOf s e
  pub place : ℕ
  pub from : Stands r.modes.items place e.from
  pub done : IsLookedAt next i place is_edge.place

-- what is reached so far, where the ways before place i were looked at, at the mode of place next, and all at those
-- before
pub record IsReaching (s : Setting) (first : Value) (next i : ℕ) (r : Reach) : Type 0 where
  pub begins : Stands r.modes.items 0 first
  pub different : AreDifferent r.modes.items
  pub inside : (m : Value) → IsOneOf r.modes.items m → Contains s.domain m
  pub modes : (m : Value) → IsOneOf r.modes.items m → IsReachable s first m
  pub edges : (e : Edge) → IsOneOf r.edges.items e → IsFoundEdge s next i r e
  pub records : (j q : ℕ) (mode : Value) (way : KeptWay) → IsLookedAt next i j q → Stands r.modes.items j mode
      → Stands s.ways q way → Records s way mode r
  pub apart : (j k : ℕ) (e f : Edge) → Stands r.edges.items j e → Stands r.edges.items k f → e.from ≡ f.from
      → e.way ≡ f.way → j ≡ k
  pub wrong : r.wrong ≡ true → HasWrong s first
  pub again : HasModeAgain first r.modes.items r.edges.items r.again

-- once the ways before place i were looked at, at the mode of place next
pub record Expands (p : GtsParts) (n : ℕ) (domain : List Value) (ways : List KeptWay) (mode : Value) (i : ℕ)
    (old new : Reach) : Type 0 where
  pub on : (first : Value) (next : ℕ) → AreDifferentWays ways → Stands old.modes.items next mode
      → IsReaching (record { parts = p; number = n; domain = domain; ways = ways }) first next 0 old
      → Stands new.modes.items next mode
      × IsReaching (record { parts = p; number = n; domain = domain; ways = ways }) first next i new

-- Which ways have to be looked at again where a variable or the flag of a way changed.
use Rattle.std.specs.Prelude.{◌≡◌, ◌⊎◌, ℕ, ◌<◌, Bool, List, length}
use Rattle.ar_base.specs.Lists.{Stands, IsOneOf}
use Rattle.ar_base.specs.Numbers.{VarId, WayId}
use Rattle.typed_expr.specs.Mentions.{Mentions}
use Rattle.typed_expr.specs.declared.expr.Expr.{out-Expr}
use Rattle.gts_core.specs.declared.system.Way.{Way}
use Rattle.gts_core.specs.declared.system.WayBody.{WayBody}
use Rattle.gts_core.specs.declared.system.WayBody.TheVariants.{Local, Sync}
use Rattle.gts_core.specs.declared.system.GtsParts.{GtsParts}
use Rattle.flow_propagate.specs.Named.{IsPairFor}
use Rattle.way_flags.specs.Ways.{WayHasPart, IsWayOrder}
use Rattle.way_flags.specs.declared.index.WayIndex.{WayIndex}

-- the way of number n stands at this place of the order
pub record IsPlacedAt (order : List WayId) (n place : ℕ) : Type 0 where
  pub id : WayId
  pub at : Stands order place id
  pub number : id.n ≡ n

-- the guard of a local way names the variable
abbrev pub WayGuardNames : WayBody → VarId → Type 0
WayGuardNames (Local guard action) x = Mentions x (out-Expr VarId guard)
WayGuardNames (Sync parts) x = ⊥

-- a variable and a way whose guard names it, by their numbers
pub record IsGuard (p : GtsParts) (q : ℕ × ℕ) : Type 0 where
  pub way : Way
  pub stands : Stands p.ways.items q.1 way
  pub variable : VarId
  pub names : WayGuardNames way.body variable
  pub number : variable.n ≡ q.0

-- the pairs of a variable and a way whose guard names it, of the first so many ways
pub record AreGuards (p : GtsParts) (count : ℕ) (guards : List (ℕ × ℕ)) : Type 0 where
  pub only : (q : ℕ × ℕ) → IsOneOf guards q → IsGuard p q
  pub all : (n : ℕ) (way : Way) (x : VarId) → n < count → Stands p.ways.items n way → WayGuardNames way.body x
      → IsOneOf guards (x.n, n)

-- way m has way n as a part
pub record IsWholeOf (p : GtsParts) (n m : ℕ) : Type 0 where
  pub part : Bool × WayId
  pub has : WayHasPart p m part
  pub number : part.1.n ≡ n

-- the pairs of a way and a way that has it as a part, of the first so many ways
pub record AreAbove (p : GtsParts) (count : ℕ) (above : List (ℕ × ℕ)) : Type 0 where
  pub only : (n m : ℕ) → IsOneOf above (n, m) → IsWholeOf p n m
  pub all : (n m : ℕ) → m < count → IsWholeOf p n m → IsOneOf above (n, m)

-- the index of a system's ways
pub record IsWayIndex (p : GtsParts) (index : WayIndex) : Type 0 where
  pub order : IsWayOrder p index.order.items
  pub long : length index.places.items ≡ length p.ways.items
  pub placed : (n place : ℕ) → Stands index.places.items n place → IsPlacedAt index.order.items n place
  pub guards : AreGuards p (length p.ways.items) index.guards.pairs.items
  pub above : AreAbove p (length p.ways.items) index.above.pairs.items

-- the list got the pairs of the variables that the guard of this way names
pub record AddsGuards (body : WayBody) (n : ℕ) (old new : List (ℕ × ℕ)) : Type 0 where
  pub grows : (q : ℕ × ℕ) → IsOneOf old q → IsOneOf new q
  pub only : (q : ℕ × ℕ) → IsOneOf new q → IsOneOf old q ⊎ IsPairFor n (WayGuardNames body) q
  pub all : (x : VarId) → WayGuardNames body x → IsOneOf new (x.n, n)

-- the pair of a part and of the way
pub record IsPartPair (parts : List (Bool × WayId)) (n : ℕ) (q : ℕ × ℕ) : Type 0 where
  pub part : Bool × WayId
  pub is_part : IsOneOf parts part
  pub first : q.0 ≡ part.1.n
  pub second : q.1 ≡ n

-- the list got the pairs of these parts of the way
pub record AddsParts (parts : List (Bool × WayId)) (n : ℕ) (old new : List (ℕ × ℕ)) : Type 0 where
  pub grows : (q : ℕ × ℕ) → IsOneOf old q → IsOneOf new q
  pub only : (q : ℕ × ℕ) → IsOneOf new q → IsOneOf old q ⊎ IsPartPair parts n q
  pub all : (part : Bool × WayId) → IsOneOf parts part → IsOneOf new (part.1.n, n)

-- each way that stands among the first so many of the order has a place at which it stands
pub record ArePlacedUpTo (order : List WayId) (count : ℕ) (places : List ℕ) : Type 0 where
  pub placed : (k : ℕ) (id : WayId) (place : ℕ) → k < count → Stands order k id → Stands places id.n place
      → IsPlacedAt order id.n place

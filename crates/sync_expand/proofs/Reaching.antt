-- What is reached from an event.
use Rattle.std.proofs.Common.{ℕ, ◌<◌, ◌≤◌, List, sym, subst, inl, inr, arith, slice_index}
use Rattle.ar_meaning.specs.Expand.{EventDeclaration, HasPart, ReachesPart, part_of, further}
use Rattle.gts_core.specs.Bound.{declared_from}
use Rattle.gts_core.specs.declared.bound.DeclaredEvent.{DeclaredEvent}
use Rattle.sync_expand.specs.Links.{Falls}
use Rattle.sync_expand.specs.Reached.{IsEventReached}

-- one step further
pub reaches_on : {L E : Type 0} {ds : List (EventDeclaration L E)} {a b c : E} → ReachesPart ds a b → HasPart ds b c
    → ReachesPart ds a c
reaches_on (part_of h) k = further h (part_of k)
reaches_on (further h r) k = further h (reaches_on r k)

module _ (events : List DeclaredEvent) (from : ℕ) where
  pub reached_on : (b c : ℕ) → IsEventReached events from b → HasPart (declared_from 0 events) b c → IsEventReached events from c
  reached_on b c (inl e) k = inr (part_of (subst (λ (n : ℕ). HasPart (declared_from 0 events) n c) (sym e) k))
  reached_on b c (inr r) k = inr (reaches_on r k)

-- ranks that never rise never rise along what is reached, and ranks that fall fall
module _ (events : List DeclaredEvent) (ranks : List ℕ) where
  pub never_rises : ((e p : ℕ) → HasPart (declared_from 0 events) e p → slice_index ranks p ≤ slice_index ranks e)
      → (a b : ℕ) → ReachesPart (declared_from 0 events) a b → slice_index ranks b ≤ slice_index ranks a
  never_rises h a b (part_of k) = h a b k
  never_rises h a b (further {e = e} k r) = let i = never_rises h e b r in let j = h a e k in omega arith

  pub always_falls : Falls events ranks → (a b : ℕ) → ReachesPart (declared_from 0 events) a b
      → slice_index ranks b < slice_index ranks a
  always_falls h a b (part_of k) = h.falls a b k
  always_falls h a b (further {e = e} k r) = let i = always_falls h e b r in let j = h.falls a e k in omega arith

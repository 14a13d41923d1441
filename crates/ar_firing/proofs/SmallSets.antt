-- Sets of at most so many events.
use Rattle.std.proofs.Common.{◌≤◌, ℕ, List, Option, None, Some, arith}
use Rattle.ar_base.specs.Sets.{Within}
use Rattle.ar_meaning.specs.Systems.{System}
use Rattle.ar_firing.specs.Cuts.{IsLeast, MeetsConflict, IsConflictFree, HasAtMost, IsConflictFreeUpTo}
use Rattle.ar_firing.specs.CutsInside.{UpTo}
use Rattle.ar_firing.proofs.LeastSets.{within_then}

-- a part of a set has no more events
pub part_up_to : (order : Option ℕ) {set part : List ℕ} → Within part set → UpTo order set → UpTo order part
part_up_to None w u = tt
part_up_to (Some k) w u = record { list = u.list; within = within_then w u.within; few = u.few }

pub few_more : {k n : ℕ} {set : List ℕ} → k ≤ n → HasAtMost k set → HasAtMost n set
few_more m h = record { list = h.list; within = h.within; few = let f = h.few in omega (arith, f, m) }

module _ (order : Option ℕ) (P : List ℕ → Type 0) {set : List ℕ} where
  pub least_of_small : IsLeast (λ (s : List ℕ). P s × UpTo order s) set → IsLeast P set × UpTo order set
  least_of_small l = (
    record { has = l.has.0; least = λ part w p. l.least part w (p, part_up_to order w l.has.1) },
    l.has.1,
  )

  pub small_and_least : IsLeast P set × UpTo order set → IsLeast (λ (s : List ℕ). P s × UpTo order s) set
  small_and_least b = record { has = (b.0.has, b.1); least = λ part w p. b.0.least part w p.0 }

-- where no set meets a conflict, none of at most so many events does
pub free_up_to : {V : Type 0} (order : Option ℕ) (sys : System V) (dropped : List ℕ) → IsConflictFree sys dropped
    → IsConflictFreeUpTo order sys dropped
free_up_to None sys dropped free = free
free_up_to (Some k) sys dropped free = λ set few m. free set m

-- no part of a set of at most so many events meets a conflict
pub free_within : {V : Type 0} (order : Option ℕ) (sys : System V) (dropped : List ℕ)
    → IsConflictFreeUpTo order sys dropped → (set : List ℕ) → UpTo order set
    → (part : List ℕ) → Within part set → MeetsConflict sys dropped part → ⊥
free_within None sys dropped free set u part w m = free part m
free_within (Some k) sys dropped free set u part w m = free part (part_up_to (Some k) w u) m

-- what holds of each set of at most so many events
pub told_free : {V : Type 0} (order : Option ℕ) (sys : System V) (dropped : List ℕ)
    → ((set : List ℕ) → UpTo order set → MeetsConflict sys dropped set → ⊥) → IsConflictFreeUpTo order sys dropped
told_free None sys dropped h = λ set m. h set tt m
told_free (Some k) sys dropped h = h

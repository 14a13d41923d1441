-- The least firable sets at which a test is true, in the system.
use Rattle.std.proofs.Common.{◌↔◌, ℕ, Bool, List}
use Rattle.ar_meaning.specs.Systems.{System}
use Rattle.ar_meaning.specs.FactsInside.{AreKeyed}
use Rattle.ar_firing.specs.Static.{IsStatic}
use Rattle.ar_firing.specs.Cuts.{IsLeast}
use Rattle.ar_firing.specs.Operands.{IsFirableWith}
use Rattle.ar_firing.specs.Listed.{AreListed}
use Rattle.ar_firing.specs.Forest.{ModeTree, IsForest}
use Rattle.firable_families.specs.FirableInside.{ListsLeast}
use Rattle.firable_families.proofs.Listing.{lists_as, lists_listed, listed_lists}
use Rattle.firable_families.proofs.InForests.{true_in_system}

pub least_as : {P Q : List ℕ → Type 0} → ((s : List ℕ) → P s ↔ Q s) → (s : List ℕ) → IsLeast P s → IsLeast Q s
least_as e s l = record { has = (e s).0 l.has; least = λ part w q. l.least part w ((e part).1 q) }

module _ {V : Type 0} (sys : System V) (dropped : List ℕ) (keyed : AreKeyed sys.net) (static : IsStatic sys dropped)
    (trees : List ModeTree) (forest : IsForest sys dropped trees) where
  -- an answer over the trees is one over the system
  pub in_system : (test : List ℕ → Bool) (sets : List (List ℕ)) → ListsLeast trees test sets
      → AreListed (IsLeast (IsFirableWith sys dropped test)) sets
  in_system test sets l = lists_listed (lists_as
      (least_as (true_in_system sys dropped keyed static trees forest test))
      (least_as (λ s. let e = true_in_system sys dropped keyed static trees forest test s in (e.1, e.0)))
      (listed_lists l))

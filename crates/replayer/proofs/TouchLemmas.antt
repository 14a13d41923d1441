-- The observers that name some variables.
use Rattle.std.proofs.Common.{◌↔◌, ℕ, List}
use Rattle.ar_base.specs.Lists.{IsOneOf}
use Rattle.ar_base.specs.Numbers.{VarId}
use Rattle.ar_base.specs.Sets.{Ascends}
use Rattle.flow_changes.specs.Changes.{changed_numbers}
use Rattle.gts_core.specs.declared.system.GtsParts.{GtsParts}
use Rattle.ar_base.specs.Pairing.{IsPaired}
use Rattle.replayer.specs.Observing.{AreInOrder, ObserverNamesOne, AreTouched}

-- the numbers that stand in pairs with the variables are those of the observers
pub paired_touched : (pairs : List (ℕ × ℕ)) (xs : List VarId) (all : List ℕ) → Ascends all
    → ((n : ℕ) → (IsOneOf all n ↔ IsPaired pairs (changed_numbers xs) n)) → (p : GtsParts) → AreInOrder p pairs
    → AreTouched p xs all
paired_touched pairs xs all ascends each p known = record {
  ascend = ascends;
  each = λ n. (λ o. on n ((each n).0 o), λ q. (each n).1 (off n q));
}
  where
    on : (n : ℕ) → IsPaired pairs (changed_numbers xs) n → ObserverNamesOne p xs n
    on n q = record { variable = q.first; is_one = q.is_one; observes = known.only (q.first, n) q.pair }

    off : (n : ℕ) → ObserverNamesOne p xs n → IsPaired pairs (changed_numbers xs) n
    off n q = record { first = q.variable; is_one = q.is_one; pair = known.all q.variable n q.observes }

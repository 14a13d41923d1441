-- Systems that are images of each other over one variable for one have the same flat systems and gate tables.
use Rattle.std.proofs.Common.{◌≡◌, ℕ, List, subst}
use Rattle.domains.specs.declared.Value.{Value}
use Rattle.typed_expr.specs.PairsInside.{turned_pairs}
use Rattle.ar_meaning.specs.Systems.{System}
use Rattle.ar_meaning.specs.ImageInside.{IsImage}
use Rattle.ar_meaning.specs.FlatOf.{IsNumber, IsFlatOf}
use Rattle.ar_meaning.proofs.ImageTurned.{image_turned}
use Rattle.ar_meaning.proofs.ImageJoined.{along_joined, variable_joined, assign_joined, event_joined, observer_joined}
use Rattle.ar_firing.proofs.ImageModes.{forest_there}
use Rattle.eq_core.specs.Gates.{Table}
use Rattle.table_text.specs.Texts.{IsTableFor}

module _ {V : Type 0} (things : List V) (here there : System V) (image : IsImage (λ (x y : V). x ≡ y) here there) where
  abbrev Same : V → V → Type 0
  Same x y = x ≡ y

  by_place : (x y : V) (n : ℕ) → turned_pairs Same x y → IsNumber things y n → IsNumber things x n
  by_place x y n e s = subst (λ (z : V). IsNumber things z n) e s

  -- a flat system of the first is one of the second
  pub flat_there : (flat : System ℕ) → IsFlatOf things here flat → IsFlatOf things there flat
  flat_there flat f =
      let back : IsImage (turned_pairs Same) there here = image_turned Same image in
      record {
        different = f.different;
        variables = along_joined (variable_joined (turned_pairs Same) (IsNumber things) (IsNumber things) by_place)
            back.net.variables f.variables;
        assertions = along_joined (assign_joined (turned_pairs Same) (IsNumber things) (IsNumber things) by_place)
            back.net.assertions f.assertions;
        events = along_joined (event_joined (turned_pairs Same) (IsNumber things) (IsNumber things) by_place) back.events
            f.events;
        observers = along_joined (observer_joined (turned_pairs Same) (IsNumber things) (IsNumber things) by_place)
            back.observers f.observers;
      }

  pub table_there : (dropped : List ℕ) (n : ℕ) (wanted : Value) (table : Table)
      → IsTableFor things here dropped n wanted table → IsTableFor things there dropped n wanted table
  table_there dropped n wanted table h = record {
    flat = h.flat;
    is_flat = flat_there h.flat h.is_flat;
    trees = h.trees;
    is_forest = forest_there Same here there image dropped h.is_forest;
    observed = h.observed;
    is_observed = h.is_observed;
    is_table = h.is_table;
  }

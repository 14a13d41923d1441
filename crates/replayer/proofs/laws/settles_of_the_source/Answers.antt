use Rattle.std.proofs.Common.{◌≡◌, ℕ, refl, subst, sym}
use Rattle.ar_meaning.specs.FlatOf.{IsNumber, IsFlatOf}
use Rattle.ar_meaning.specs.FlatOfInside.{NameAlike}
use Rattle.ar_meaning.specs.Systems.{System}
use Rattle.ar_meaning.specs.TraceText.{Naming}
use Rattle.ar_meaning.proofs.FlatSystems.{flat_image, flat_back}
use Rattle.ar_meaning.proofs.ImageRuns.{runs_there}
use Rattle.ar_meaning.proofs.ImageTexts.{moment_there}
use Rattle.gts_flatten.specs.Flat.{naming_of, naming_of_parts}
use Rattle.hierarchy.specs.Listing.{variables}
use Rattle.typed_expr.specs.PairsInside.{turned_pairs}
use Rattle.replayer.proofs.laws.settles_of_the_source.Goals as goal

-- equal namings name alike
alike : (a b : Naming) → a ≡ b → NameAlike a b
alike a b e = subst (λ (z : Naming). NameAlike a z) e
    (record {
      variables = λ n. refl;
      events = λ n. refl;
      observers = λ n. refl;
      symbols = λ n. refl;
      places = λ n. refl;
    })

pub returns-clause-settles : goal.returns-clause-settles
returns-clause-settles c = λ x flat p is views commands t.
    let things = variables x.declarations.model x.declarations.units in
    let same : is.flat ≡ flat = c.one_system.ensures.one p is.flat flat is.views views in
    let own = subst (λ (z : System ℕ). IsFlatOf things x.system z) same is.is_flat in (
      λ r. record {
        first = r.first;
        moments = r.moments;
        runs = runs_there (turned_pairs (IsNumber things)) flat x.system (flat_back things x.system flat own) r.runs;
        no_fault = r.no_fault;
        last = r.last;
      },
      λ r. record {
        first = r.first;
        moments = r.moments;
        runs = runs_there (IsNumber things) x.system flat (flat_image things x.system flat own) r.runs;
        no_fault = r.no_fault;
        last = r.last;
      },
    )

pub returns-clause-fault_lines : goal.returns-clause-fault_lines
returns-clause-fault_lines c = λ x flat p is views commands text.
    let things = variables x.declarations.model x.declarations.units in
    let same : is.flat ≡ flat = c.one_system.ensures.one p is.flat flat is.views views in
    let own = subst (λ (z : System ℕ). IsFlatOf things x.system z) same is.is_flat in (
      λ r. record {
        before = r.before;
        fault = r.fault;
        runs = runs_there (turned_pairs (IsNumber things)) flat x.system (flat_back things x.system flat own) r.runs;
        is_fault = r.is_fault;
        told = moment_there (turned_pairs (IsNumber things)) flat x.system (flat_back things x.system flat own)
            (naming_of_parts p) (naming_of x.declarations) (alike _ _ is.names) r.told;
      },
      λ r. record {
        before = r.before;
        fault = r.fault;
        runs = runs_there (IsNumber things) x.system flat (flat_image things x.system flat own) r.runs;
        is_fault = r.is_fault;
        told = moment_there (IsNumber things) x.system flat (flat_image things x.system flat own)
            (naming_of x.declarations) (naming_of_parts p) (alike _ _ (sym is.names)) r.told;
      },
    )

use Rattle.std.proofs.Common.{◌≡◌, ℕ, List, sym, ap, subst}
use Rattle.ar_base.specs.Lists.{Stands}
use Rattle.ar_base.proofs.Standing.{stands_map, one_here}
use Rattle.typed_expr.specs.PairsInside.{turned_pairs}
use Rattle.typed_expr.specs.declared.expr.Expr.{Expr}
use Rattle.ar_meaning.specs.Systems.{Net, System}
use Rattle.ar_meaning.specs.FlatOf.{IsNumber, IsFlatOf}
use Rattle.ar_meaning.specs.TraceText.{Naming}
use Rattle.ar_meaning.proofs.FlatSystems.{flat_back}
use Rattle.ar_firing.specs.Forest.{ModeTree}
use Rattle.ar_firing.proofs.ImageModes.{forest_there}
use Rattle.gts_core.specs.Lawful.{kind_by_number}
use Rattle.gts_core.specs.View.{net_of, numbered}
use Rattle.gts_core.specs.declared.system.Observer.{Observer}
use Rattle.hierarchy.specs.Listing.{variables}
use Rattle.mode_trees.specs.Views.{trees_of, number_in}
use Rattle.eq_build.specs.Table.{IsTable}
use Rattle.aralia_text.specs.Texts.{equations_text}
use Rattle.table_text.proofs.laws.tables_of_the_source.Goals as goal

pub returns-clause-table : goal.returns-clause-table
returns-clause-table c = λ x p flat of views dropped f is n o stands wanted table is_table.
    let things = variables x.declarations.model x.declarations.units in
    let same : of.flat ≡ flat = c.one_system.ensures.one p of.flat flat of.views views in
    let flat_of = subst (λ (z : System ℕ). IsFlatOf things x.system z) same of.is_flat in
    let trees : List ModeTree = trees_of (number_in p) f in
    record {
      flat = flat;
      is_flat = flat_of;
      trees = trees;
      is_forest = forest_there (turned_pairs (IsNumber things)) flat x.system (flat_back things x.system flat flat_of) dropped
          is;
      observed = numbered o.value;
      is_observed = subst (λ (z : List (Expr ℕ)). Stands z n (numbered o.value)) (sym views.observers)
          (stands_map (λ (z : Observer). numbered z.value) p.observers.items n o stands);
      is_table = subst (λ (z : Net ℕ). IsTable z trees (numbered o.value) wanted table) (sym views.net) is_table;
    }

pub returns-clause-text : goal.returns-clause-text
returns-clause-text c = λ x p of dropped n wanted table is.
    record { table = table; is_table = is; is_text = ap (λ (z : Naming). equations_text z.events table) of.names }

pub returns-clause-some : goal.returns-clause-some
returns-clause-some c = λ p sound n o stands trees wanted.
    c.one_table.ensures.some (net_of p) (kind_by_number p) o.kind trees (numbered o.value) wanted
    (c.lawful_systems.ensures.net p sound)
    (c.lawful_systems.ensures.observers p o sound (one_here p.observers.items n o stands))

-- The table of a model is that of the model, seen from its main block.
use Rattle.std.proofs.Common.{ℕ, List, map, Option, Ok, refl, sym, ◌∙◌, subst}
use Rattle.std.proofs.lemmas.List.{length-map}
use Rattle.ar_base.specs.Breach.{AreKept}
use Rattle.ar_base.specs.Lists.{Stands}
use Rattle.ar_base.proofs.Standing.{stands_map_back, along_length}
use Rattle.ar_syntax.specs.declared.items.Model.{Model}
use Rattle.class_table.specs.Declaring.{Declared}
use Rattle.class_table.specs.Members.{Site, Members}
use Rattle.class_table.specs.Rules.{BreaksTextRule, text_rules}
use Rattle.class_table.specs.Tables.{IsMain}
use Rattle.class_table.specs.TablesInside.{IsTableOfModel}
use Rattle.class_table.specs.Tabling.{Tabulates, table}
use Rattle.class_table.specs.declared.tables.Classes.{Classes}
use Rattle.hierarchy.specs.Models.{RootedModel, IsRootedIn}
use Rattle.hierarchy.specs.ModelsInside.{IsKeptTable, sites_kept}

-- a table with what it declares, as the model is seen from its main block
model_of : Declared → Classes → RootedModel
model_of d c = record { declared = d; members = map sites_kept c.bodies.items; main = c.main.n; names = c.names }

members_kept : {model : Model} {main : Option (List ℕ)} {d : Declared} {c : Classes} → IsTableOfModel model main d c
    → (b : ℕ) (sites : List Site) → Stands (map sites_kept c.bodies.items) b sites → Members d b sites
members_kept {d = d} {c = c} t b sites s =
    let r = stands_map_back sites_kept c.bodies.items b sites s in
    subst (λ (xs : List Site). Members d b xs) r.2 (t.members b r.0 r.1)

rooted_in : {model : Model} {main : Option (List ℕ)} {d : Declared} {c : Classes} → IsTableOfModel model main d c
    → IsRootedIn model main (model_of d c)
unfolding model_of
rooted_in {main = main} {d = d} {c = c} t = record {
  declared = t.declared;
  names = t.names;
  is_main = subst (λ (names : List (List ℕ)). IsMain names d main c.main.n) (sym t.names) t.is_main;
  bodies = length-map c.bodies.items sites_kept ∙ along_length c.bodies.items d.bodies t.holds.bodies;
  members = members_kept t;
}

kept_table : {model : Model} {main : Option (List ℕ)} {d : Declared} {c : Classes} → IsTableOfModel model main d c
    → AreKept text_rules (BreaksTextRule model main d) → IsKeptTable (model_of d c) c
unfolding model_of
kept_table {model = model} {main = main} t k = record {
  table = record { holds = t.holds; names = refl; main = refl; members = refl };
  kept = record { model = model; main = main; rooted = rooted_in t; kept = k };
}

pub rooted : {model : Model} {main : Option (List ℕ)} {c : Classes} → Tabulates main model (Ok c)
    → (m : RootedModel) × IsRootedIn model main m × IsKeptTable m c
rooted {c = c} (table d t k) = (model_of d c, rooted_in t, kept_table t k)

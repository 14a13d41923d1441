-- A walk has one outcome.
use Rattle.std.proofs.Common.{◌≡◌, ℕ, Bool, true, false, if◌then◌else◌, List, ◌∷◌, Option, Some, refl, sym, ◌∙◌, ap, subst}
use Rattle.ar_syntax.specs.declared.paths.Path.{Path}
use Rattle.ar_syntax.specs.declared.paths.PathStart.TheVariants.{Owner}
use Rattle.class_table.specs.Members.{MemberKind, Clone}
use Rattle.hierarchy.specs.Models.{RootedModel}
use Rattle.hierarchy.specs.Units.{UnitLevel, UnitPath, Thing, start_of, has_number, bodies_of, body_of, set_at_of}
use Rattle.hierarchy.specs.Walks.{WalkOutcome, Reaches, Nothing, Loops, NameLeads, NamesLead, inner, clones, embeds, clones_again, embeds_again, no_unit, absent, nowhere, arrives, on, stops, loops, cloned}

pub unit_of_reaches : {v w : UnitPath} → Reaches v ≡ Reaches w → v ≡ w
unit_of_reaches e = cc

mutual
  pub leads_same : {m : RootedModel} {f : List Thing} {u : UnitPath} {x : ℕ} {w : Option MemberKind} {o r : WalkOutcome}
      → NameLeads m f u x w o → NameLeads m f u x w r → o ≡ r
  leads_same inner inner = refl
  leads_same inner (no_unit y) = cc
  leads_same {m = m} {u = u} {x = x} (clones n g e) (clones n' g' e') = e ∙ ap (cloned m u x) (walks_same g g') ∙ sym e'
  leads_same (clones n g e) (clones_again y) = cc
  leads_same (clones n g e) (no_unit y) = cc
  leads_same (embeds n g) (embeds n' g') = walks_same g g'
  leads_same (embeds n g) (embeds_again y) = cc
  leads_same (embeds n g) (no_unit y) = cc
  leads_same (clones_again y) (clones n g e) = cc
  leads_same (clones_again y) (clones_again y') = refl
  leads_same (clones_again y) (no_unit y') = cc
  leads_same (embeds_again y) (embeds n g) = cc
  leads_same (embeds_again y) (embeds_again y') = refl
  leads_same (embeds_again y) (no_unit y') = cc
  leads_same (no_unit y) inner = cc
  leads_same (no_unit y) (clones n g e) = cc
  leads_same (no_unit y) (clones_again y') = cc
  leads_same (no_unit y) (embeds n g) = cc
  leads_same (no_unit y) (embeds_again y') = cc
  leads_same (no_unit y) (no_unit y') = refl
  leads_same absent absent = refl

  pub walks_same : {m : RootedModel} {f : List Thing} {u : Option UnitPath} {xs : List ℕ} {o r : WalkOutcome}
      → NamesLead m f u xs o → NamesLead m f u xs r → o ≡ r
  walks_same nowhere nowhere = refl
  walks_same arrives arrives = refl
  walks_same {m = m} {f = f} {xs = x ∷ xs} {r = r} (on v n g) (on v' n' g') =
      walks_same g (subst (λ w. NamesLead m f (Some w) xs r) (sym (unit_of_reaches (leads_same n n'))) g')
  walks_same (on v n g) (stops n') = cc (leads_same n n')
  walks_same (on v n g) (loops n') = cc (leads_same n n')
  walks_same (stops n) (on v' n' g') = cc (leads_same n n')
  walks_same (stops n) (stops n') = refl
  walks_same (stops n) (loops n') = cc (leads_same n n')
  walks_same (loops n) (on v' n' g') = cc (leads_same n n')
  walks_same (loops n) (stops n') = cc (leads_same n n')
  walks_same (loops n) (loops n') = refl

-- The owner of a clone

owner_by : (b : Bool) {u v : UnitPath} (l : UnitLevel) → Reaches v ≡ (if b then Loops else Reaches (l ∷ u))
    → start_of Owner v ≡ Some u
owner_by true l e = cc
owner_by false {u = u} l e = ap (start_of Owner) (unit_of_reaches e)

cloned_owner : (m : RootedModel) {u v : UnitPath} (x : ℕ) (o : WalkOutcome) → Reaches v ≡ cloned m u x o
    → start_of Owner v ≡ Some u
cloned_owner m {u = u} x (Reaches t) e =
    owner_by (has_number (bodies_of m u) (body_of m t)) (record { name = x; body = body_of m t; set_at = set_at_of t })
    e
cloned_owner m x Nothing e = cc
cloned_owner m x Loops e = cc

pub clone_owner : {m : RootedModel} {f : List Thing} {u v : UnitPath} {x : ℕ} {p : Path}
    → NameLeads m f u x (Some (Clone p)) (Reaches v) → start_of Owner v ≡ Some u
clone_owner {m = m} {u = u} {x = x} (clones {o = o} n g e) = cloned_owner m x o e

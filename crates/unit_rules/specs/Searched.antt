-- The places where declarations are wrong, as they are searched.
use Rattle.std.specs.Prelude.{Option, List}
use Rattle.std.specs.List.{flat_map}
use Rattle.ar_base.specs.Lists.{IsOneOf}
use Rattle.ar_base.specs.declared.places.Place.{Place}
use Rattle.class_table.specs.Declaring.{MemberForm, Declared}
use Rattle.class_table.specs.Earliest.{IsEarliest}
use Rattle.class_table.specs.Members.{Site, owned_at}
use Rattle.class_table.specs.declared.tables.Body.{Body}
use Rattle.hierarchy.specs.ModelsInside.{sites_kept}
use Rattle.hierarchy.specs.Listing.{form_of}
use Rattle.unit_rules.specs.Rules.{BreaksForm}

-- one of these forms breaks the rule at the place
pub record BreaksOne (d : Declared) (forms : List MemberForm) (p : Place) : Type 0 where
  pub form : MemberForm
  pub is_one : IsOneOf forms form
  pub breaks : BreaksForm d form p

-- the forms of the members at these sites
abbrev pub forms_of : Declared → List Site → List MemberForm
forms_of d sites = flat_map (λ s. form_of (owned_at d s)) sites

-- the earliest place of a declaration of the body that is wrong
abbrev pub IsFirstIn : Declared → Body → Option Place → Type 0
IsFirstIn d b found = IsEarliest (BreaksOne d (forms_of d (sites_kept b))) found

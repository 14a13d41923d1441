-- The entries of members, one after the other.
use Rattle.std.proofs.Common.{◌≡◌, ℕ, ◌+◌, ◌≤◌, take, List, [], ◌∷◌, ◌++◌, length, Option, Some, None, option_map, option_and_then, slice_get, unwrap_or, refl, sym, ◌∙◌, ap, subst, arith}
use Rattle.std.specs.List.{flat_map}
use Rattle.std.proofs.lemmas.List.Concat.{flat_map-append}
use Rattle.std.proofs.lemmas.List.{length-map, append-nil}
use Rattle.std.proofs.lemmas.Option.{slice_get_past}
use Rattle.ar_base.specs.Lists.{Stands}
use Rattle.ar_base.specs.Numbers.{NameId, BodyId}
use Rattle.ar_base.specs.declared.places.Place.{Place}
use Rattle.ar_base.proofs.Standing.{stands_map}
use Rattle.ar_syntax.specs.declared.members.Setting.{Setting}
use Rattle.ar_syntax.specs.declared.members.TypeForm.{TypeForm}
use Rattle.domains.specs.declared.Domain.{Domain}
use Rattle.class_table.specs.Declaring.{Declared, NamedType}
use Rattle.class_table.specs.Members.{Site, NamedMember, MemberKind, member_kind_of, all_named, named_at, names_of, owned_at}
use Rattle.class_table.proofs.Taken.{take_next}
use Rattle.class_table.specs.TablesInside.{domain, class}
use Rattle.class_table.specs.declared.tables.TypeBody.TheVariants as types
use Rattle.class_table.specs.declared.tables.Body.{Body}
use Rattle.class_table.specs.declared.tables.Classes.{Classes}
use Rattle.hierarchy.specs.Models.{RootedModel}
use Rattle.hierarchy.specs.ModelsInside.{IsRootedTable, sites_kept}
use Rattle.unit_rules.specs.TypingInside.{IsFound, none, some}
use Rattle.unit_rules.specs.declared.settables.Settable.{Settable}
use Rattle.unit_rules.specs.declared.settables.Settable.TheVariants as settable
use Rattle.unit_rules.specs.Settables.{settable_of, variable_set, one_entry, settable_entries}

-- the entries of these names, where each is this
abbrev pub same_entries : Option Settable → List (NameId × Place) → List (ℕ × Settable)
same_entries s names = flat_map (λ (n : NameId × Place). one_entry n.0.n s) names

pub no_entries : (names : List (NameId × Place)) → same_entries None names ≡ []
no_entries [] = refl
no_entries (n ∷ ns) = no_entries ns

-- the entries of a declaration
pub declared_entries : (s : Site) (kind : Option MemberKind) (names : List (NameId × Place))
    → settable_entries (all_named s kind names) ≡ same_entries (option_and_then settable_of kind) names
declared_entries s None names = sym (no_entries names)
declared_entries s (Some k) [] = refl
declared_entries s (Some k) (n ∷ ns) =
    ap (λ (es : List (ℕ × Settable)). one_entry n.0.n (settable_of k) ++ es) (declared_entries s (Some k) ns)

pub entries_join : (xs ys : List NamedMember) → settable_entries (xs ++ ys) ≡ settable_entries xs ++ settable_entries ys
entries_join xs ys = flat_map-append (λ (g : NamedMember). one_entry g.name (settable_of g.kind)) xs ys

-- those of one member more
pub sites_next : (d : Declared) (xs : List Site) (x : Site)
    → settable_entries (named_at d (xs ++ x ∷ [])) ≡ settable_entries (named_at d xs) ++ settable_entries (names_of d x (owned_at d x))
sites_next d xs x =
    ap settable_entries (flat_map-append (λ (s : Site). names_of d s (owned_at d s)) xs (x ∷ [])
    ∙ ap (λ (gs : List NamedMember). named_at d xs ++ gs) (append-nil (names_of d x (owned_at d x))))
    ∙ entries_join (named_at d xs) (names_of d x (owned_at d x))

-- those of one name more of a declaration
pub same_next : (s : Settable) (names : List (NameId × Place)) (i : ℕ) (n : NameId × Place) → Stands names i n
    → same_entries (Some s) (take (i + 1) names) ≡ same_entries (Some s) (take i names) ++ (n.0.n, s) ∷ []
same_next s names i n t = ap (same_entries (Some s)) (take_next names i n t)
    ∙ flat_map-append (λ (m : NameId × Place). one_entry m.0.n (Some s)) (take i names) (n ∷ [])

module _ (m : RootedModel) (classes : Classes) (table : IsRootedTable m classes) where
  -- the members of a body that is there, and of none
  pub members_there : (b : ℕ) (body : Body) → Stands classes.bodies.items b body
      → sites_kept body ≡ unwrap_or (slice_get m.members b) []
  members_there b body s =
      let t = subst (λ (ms : List (List Site)). Stands ms b (sites_kept body)) table.members
      (stands_map sites_kept classes.bodies.items b body s) in
      ap (λ (o : Option (List Site)). unwrap_or o []) (sym t)

  pub members_past : (b : ℕ) → length classes.bodies.items ≤ b → unwrap_or (slice_get m.members b) [] ≡ []
  members_past b l =
      let k = ap length table.members in
      let j = length-map classes.bodies.items sites_kept in
      ap (λ (o : Option (List Site)). unwrap_or o []) (slice_get_past m.members b (omega arith))

-- Types

module _ (symbols : List ℕ) (s : Site) (f : TypeForm) (settings : List Setting) where
  -- what the names of a declaration are, by the type that was found
  pub kind_domain : (t : Option NamedType) (v : Domain) → IsFound symbols t (Some (types.Domain v))
      → option_and_then settable_of (option_map (λ (u : NamedType). member_kind_of s f u settings) t) ≡ variable_set
      settings
  kind_domain t v (some (domain h)) = refl

  pub kind_class : (t : Option NamedType) (b : BodyId) → IsFound symbols t (Some (types.Class b))
      → option_and_then settable_of (option_map (λ (u : NamedType). member_kind_of s f u settings) t) ≡ Some
      settable.Inner
  kind_class t b (some (class h)) = refl

  pub kind_none : (t : Option NamedType) → IsFound symbols t None
      → option_and_then settable_of (option_map (λ (u : NamedType). member_kind_of s f u settings) t) ≡ None
  kind_none t none = refl

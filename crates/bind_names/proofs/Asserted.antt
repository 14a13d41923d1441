-- Assertions by numbers.
use Rattle.std.proofs.Common.{◌≡◌, ℕ, ◌+◌, false, List, [], ◌∷◌, ◌++◌, map, take, Option, Some, None, refl, sym, ◌∙◌, ap, subst, append_assoc}
use Rattle.std.specs.List.{flat_map}
use Rattle.std.proofs.lemmas.List.Concat.{flat_map-append}
use Rattle.std.proofs.lemmas.List.{append-nil}
use Rattle.ar_base.specs.Lists.{Stands, IsOneOf, Along}
use Rattle.ar_base.specs.Lists as l
use Rattle.ar_base.specs.Numbers.{BodyId}
use Rattle.ar_base.specs.declared.places.Place.{Place}
use Rattle.ar_base.proofs.Standing.{one_first, along_back}
use Rattle.ar_syntax.specs.declared.instructions.Instr.{Instr}
use Rattle.ar_syntax.specs.declared.members.Member.{out-Member}
use Rattle.ar_syntax.specs.declared.members.Member.TheOpen as member
use Rattle.ar_meaning.specs.FlatOf.{IsNumber}
use Rattle.ar_meaning.specs.Systems.{Assign}
use Rattle.ar_meaning.specs.Image.{Assign_renames}
use Rattle.gts_core.specs.Bound.{assigns_of_act, places_of_act}
use Rattle.gts_core.specs.declared.bound.Act.{Act, out-Act}
use Rattle.class_table.specs.Declaring.{Declared, MemberForm}
use Rattle.class_table.specs.Members.{Site, owned_at}
use Rattle.class_table.specs.TablesInside.{site_of}
use Rattle.class_table.specs.declared.tables.Owned.{Owned}
use Rattle.class_table.specs.declared.tables.Owned.TheVariants.{Plain, Nested}
use Rattle.class_table.proofs.Laid.{along_append}
use Rattle.class_table.proofs.Taken.{take_next, map_next, map_join}
use Rattle.hierarchy.specs.Models.{RootedModel}
use Rattle.hierarchy.specs.Units.{UnitPath, Thing, members_at}
use Rattle.hierarchy.specs.Listing.{variables, In, all_in, asserted, assertions, form_of, forms_at}
use Rattle.hierarchy.specs.declared.tree.Tree.{Tree}
use Rattle.source_meaning.specs.Acts.{Placed, assigns_of, places_of}
use Rattle.source_meaning.specs.Systems.{AreAsserted}
use Rattle.source_meaning.specs.Systems as s
use Rattle.unit_rules.specs.Searched.{forms_of}
use Rattle.unit_rules.proofs.Sited.{one_flat}
use Rattle.bind_names.specs.Typed.{IsSoundIn}
use Rattle.bind_names.specs.Adding.{asserted_form, asserted_in, IsBoundAssertion, AddsAssertions}
use Rattle.bind_names.specs.ListBound.{AreBoundAssertions}

-- Members that are assertions

asserts : (i : Instr) (f : MemberForm) → asserted_form f ≡ Some i → f ≡ member.Assert i
asserts i (member.Assert j) e = let q : j ≡ i = cc in ap (λ (z : Instr). member.Assert z) q
asserts i f e = cc

no_assert : (f : MemberForm) → asserted_form f ≡ None → asserted f ≡ []
no_assert (member.Assert i) e = cc
no_assert f e = refl

-- the form of a member that is one
pub form_asserted : (o : Option Owned) (i : Instr) → Some i ≡ asserted_in o → form_of o ≡ member.Assert i ∷ []
form_asserted None i e = cc
form_asserted (Some (Plain w)) i e = ap (λ (f : MemberForm). f ∷ []) (asserts i (out-Member w) (sym e))
form_asserted (Some (Nested x at b)) i e = cc

-- no instruction of one that is none
pub none_asserted : (o : Option Owned) → None ≡ asserted_in o → flat_map asserted (form_of o) ≡ []
none_asserted None e = refl
none_asserted (Some (Plain w)) e = append-nil (asserted (out-Member w)) ∙ no_assert (out-Member w) (sym e)
none_asserted (Some (Nested x at b)) e = refl

-- the member at a site of a unit is one of the unit
pub site_member : (m : RootedModel) (u : UnitPath) (site : Site) (f : MemberForm)
    → form_of (owned_at m.declared site) ≡ f ∷ [] → IsOneOf (members_at m u) site → IsOneOf (forms_at m u) f
site_member m u site f e o =
    one_flat (λ (s : Site). form_of (owned_at m.declared s)) (members_at m u) o.place site f o.stands
    (subst (λ (fs : List MemberForm). IsOneOf fs f) (sym e) (one_first f []))

-- Adding

module _ (m : RootedModel) (units : List UnitPath) (tree : Tree) where
  -- nothing is added, or one
  pub adds_none : (written : List (In Instr)) (old : List Act) → written ≡ []
      → AddsAssertions m units tree written old old
  adds_none written old e = record {
    added = [];
    is = sym (append-nil old);
    are = subst (λ (is : List (In Instr)). Along (IsBoundAssertion m units tree) is []) (sym e) l.none;
  }

  pub adds_one : (written : List (In Instr)) (i : In Instr) (a : Act) (old new : List Act) → written ≡ i ∷ []
      → IsBoundAssertion m units tree i a → new ≡ old ++ a ∷ []
      → AddsAssertions m units tree written old new
  adds_one written i a old new e h k = record {
    added = a ∷ [];
    is = k;
    are = subst (λ (is : List (In Instr)). Along (IsBoundAssertion m units tree) is (a ∷ [])) (sym e)
        (l.one_and h l.none);
  }

  -- one after the other
  pub adds_join : (is js ks : List (In Instr)) (old mid new : List Act) → ks ≡ is ++ js
      → AddsAssertions m units tree is old mid → AddsAssertions m units tree js mid new
      → AddsAssertions m units tree ks old new
  adds_join is js ks old mid new e h k = record {
    added = h.added ++ k.added;
    is = k.is ∙ (ap (λ (acts : List Act). acts ++ k.added) h.is ∙ append_assoc old h.added k.added);
    are = subst (λ (zs : List (In Instr)). Along (IsBoundAssertion m units tree) zs (h.added ++ k.added)) (sym e)
        (along_append is h.added js k.added h.are k.are);
  }

abbrev in_this : UnitPath → Instr → In Instr
in_this u i = record { unit = u; item = i }

-- the assertions of one site more
pub sites_next : (d : Declared) (u : UnitPath) (sites : List (BodyId × ℕ)) (i : ℕ) (site : BodyId × ℕ)
    → Stands sites i site
    → all_in u (flat_map asserted (forms_of d (map site_of (take (i + 1) sites))))
    ≡ all_in u (flat_map asserted (forms_of d (map site_of (take i sites)))) ++ all_in u
    (flat_map asserted (form_of (owned_at d (site_of site))))
sites_next d u sites i site at =
    let f = λ (s : Site). form_of (owned_at d s) in
    let before = map site_of (take i sites) in
    let forms = ap (flat_map f) (map_next site_of sites i site at)
    ∙ (flat_map-append f before (site_of site ∷ [])
    ∙ ap (λ (fs : List MemberForm). flat_map f before ++ fs) (append-nil (f (site_of site)))) in
    let instrs = ap (flat_map asserted) forms ∙ flat_map-append asserted (flat_map f before) (f (site_of site)) in
    ap (all_in u) instrs ∙ map_join (in_this u) (flat_map asserted (flat_map f before))
    (flat_map asserted (f (site_of site)))

-- the assertions of one unit more
pub units_next : (m : RootedModel) (units : List UnitPath) (i : ℕ) (u : UnitPath) → Stands units i u
    → assertions m (take (i + 1) units) ≡ assertions m (take i units) ++ all_in u (flat_map asserted (forms_at m u))
units_next m units i u at =
    let f = λ (v : UnitPath). all_in v (flat_map asserted (forms_at m v)) in
    ap (flat_map f) (take_next units i u at)
    ∙ (flat_map-append f (take i units) (u ∷ [])
    ∙ ap (λ (is : List (In Instr)). flat_map f (take i units) ++ is) (append-nil (f u)))

-- All assertions

module _ (m : RootedModel) (units : List UnitPath) (tree : Tree) where
  -- what instructions by numbers mean, where those of assertions stand
  record AreMeant (is : List (In Instr)) (acts : List Act) : Type 0 where
    pub placed : List Placed
    pub are : AreAsserted m is placed
    pub numbers : Along (Assign_renames (IsNumber (variables m units))) (assigns_of placed) (flat_map assigns_of_act acts)
    pub places : flat_map places_of_act acts ≡ places_of placed

  meant : (is : List (In Instr)) (acts : List Act) → Along (IsBoundAssertion m units tree) is acts → AreMeant is acts
  meant [] (a ∷ more) h = elim h [ ]
  meant (i ∷ is) [] h = elim h [ ]
  meant [] [] l.none = record { placed = []; are = s.none; numbers = l.none; places = refl }
  meant (i ∷ is) (a ∷ more) (l.one_and h r) =
      let k = meant is more r in
      let ps = h.bound.placed in
      record {
        placed = ps ++ k.placed;
        are = s.one_and h.bound.sets k.are;
        numbers = subst (λ (xs : List (Assign Thing)). Along (Assign_renames (IsNumber (variables m units))) xs
            (assigns_of_act a ++ flat_map assigns_of_act more)) (sym (map_join (λ (p : Placed). p.assign) ps k.placed))
            (along_append (assigns_of ps) (assigns_of_act a) (assigns_of k.placed) (flat_map assigns_of_act more)
            h.bound.numbers k.numbers);
        places = ap (λ (ys : List Place). ys ++ flat_map places_of_act more) (sym h.bound.places)
            ∙ (ap (λ (ys : List Place). places_of ps ++ ys) k.places
            ∙ sym (map_join (λ (p : Placed). p.at) ps k.placed));
      }

  sound : (is : List (In Instr)) (acts : List Act) → Along (IsBoundAssertion m units tree) is acts → (a : Act)
      → IsOneOf acts a → IsSoundIn tree false (out-Act a)
  sound is acts h a o = (along_back is acts h o.place a o.stands).2.sound

  -- all that was added to nothing is all that there is
  pub bound_assertions : (acts : List Act) → AddsAssertions m units tree (assertions m units) [] acts
      → AreBoundAssertions m units tree acts
  bound_assertions acts h =
      let along = subst (λ (all : List Act). Along (IsBoundAssertion m units tree) (assertions m units) all) (sym h.is)
      h.are in
      let k = meant (assertions m units) acts along in
      record {
        placed = k.placed;
        asserted = k.are;
        numbers = k.numbers;
        places = k.places;
        sound = sound (assertions m units) acts along;
      }

-- Members of units, and where they break a rule.
use Rattle.std.proofs.Common.{◌≡◌, ℕ, ◌⊎◌, inl, inr, List, [], ◌∷◌, map, Option, None, refl, sym, subst}
use Rattle.std.specs.List.{flat_map}
use Rattle.ar_base.specs.Lists.{Stands, IsOneOf}
use Rattle.ar_base.specs.Numbers.{NameId, BodyId}
use Rattle.ar_base.specs.declared.places.Place.{Place}
use Rattle.ar_base.proofs.Standing.{one_here, one_none, one_cases, one_first, stands_map, stands_map_back, stands_one, along_on}
use Rattle.ar_syntax.specs.declared.expressions.RawExpr.{RawExpr}
use Rattle.ar_syntax.specs.declared.instructions.Instr.{Instr, out-Instr}
use Rattle.ar_syntax.specs.declared.members.Member.{Member, out-Member}
use Rattle.ar_syntax.specs.declared.members.Member.TheOpen as member
use Rattle.ar_syntax.specs.declared.members.Member.TheVariants.{Local, Assert}
use Rattle.typed_expr.specs.declared.expr.ValueKind.TheVariants.{Truth}
use Rattle.written_forms.specs.PartsInside.{BreaksInside}
use Rattle.class_table.specs.Declaring.{MemberForm}
use Rattle.class_table.specs.Earliest.{IsEarliest, nowhere, IsEarlierOf}
use Rattle.class_table.specs.Members.{Site, owned_at}
use Rattle.class_table.specs.TablesInside.{site_of}
use Rattle.class_table.proofs.FirstPlaces.{earliest_same, earliest_both}
use Rattle.class_table.proofs.Looping.{AtItem}
use Rattle.hierarchy.specs.Models.{RootedModel}
use Rattle.hierarchy.specs.Units.{UnitPath, members_at}
use Rattle.hierarchy.specs.Listing.{form_of, forms_at}
use Rattle.hierarchy.specs.Tie.{IsTreeOf}
use Rattle.hierarchy.specs.declared.tree.UnitNode.{UnitNode}
use Rattle.hierarchy.specs.declared.tree.Tree.{Tree}
use Rattle.source_meaning.specs.Tested.{Everything}
use Rattle.unit_rules.proofs.Sited.{flat_one, one_flat}
use Rattle.bind_names.specs.Breaking.{BreaksExpression, BreaksAction, BreaksAssertion, BreaksEvent, BreaksMember, event, guard, action, assertion, BreaksOneMember, BreaksUnit}
use Rattle.bind_names.specs.declared.breaches.Rule.{Rule}

module _ (m : RootedModel) (rule : Rule) (u : UnitPath) where
  -- a transition breaks it by its event, its guard or its action
  local_to : {x : NameId} {here at : Place} {g : RawExpr} {i : Instr}
      → BreaksEvent m rule u (member.Local x here g i)
      at ⊎ (BreaksExpression m rule u Everything Truth g at ⊎ BreaksInside (BreaksAction m rule u) (out-Instr i) at)
      → BreaksMember m rule u (member.Local x here g i) at
  local_to (inl h) = event h
  local_to (inr (inl h)) = guard h
  local_to (inr (inr h)) = action h

  local_back : {x : NameId} {here at : Place} {g : RawExpr} {i : Instr}
      → BreaksMember m rule u (member.Local x here g i) at
      → BreaksEvent m rule u (member.Local x here g i)
      at ⊎ (BreaksExpression m rule u Everything Truth g at ⊎ BreaksInside (BreaksAction m rule u) (out-Instr i) at)
  local_back (event h) = inl h
  local_back (guard h) = inr (inl h)
  local_back (action h) = inr (inr h)

  pub local_member : (f : MemberForm) (x : NameId) (here : Place) (g : RawExpr) (i : Instr) (a b c d r : Option Place)
      → f ≡ member.Local x here g i → IsEarliest (BreaksEvent m rule u f) a
      → IsEarliest (BreaksExpression m rule u Everything Truth g) b
      → IsEarliest (BreaksInside (BreaksAction m rule u) (out-Instr i)) c → IsEarlierOf b c d → IsEarlierOf a d r
      → IsEarliest (BreaksMember m rule u f) r
  local_member f x here g i a b c d r e h k l n o =
      subst (λ (z : MemberForm). IsEarliest (BreaksMember m rule u z) r) (sym e)
      (earliest_same r (λ at z. local_to z) (λ at z. local_back z)
      (earliest_both a d r (subst (λ (z : MemberForm). IsEarliest (BreaksEvent m rule u z) a) e h)
      (earliest_both b c d k l n) o))

  -- an assertion by its instruction
  assert_to : {at : Place} {i : Instr}
      → BreaksEvent m rule u (member.Assert i) at ⊎ BreaksInside (BreaksAssertion m rule u) (out-Instr i)
      at → BreaksMember m rule u (member.Assert i) at
  assert_to (inl h) = event h
  assert_to (inr h) = assertion h

  assert_back : {at : Place} {i : Instr}
      → BreaksMember m rule u (member.Assert i) at → BreaksEvent m rule u (member.Assert i) at ⊎ BreaksInside
      (BreaksAssertion m rule u) (out-Instr i) at
  assert_back (event h) = inl h
  assert_back (assertion h) = inr h

  pub assert_member : (f : MemberForm) (i : Instr) (a b r : Option Place) → f ≡ member.Assert i
      → IsEarliest (BreaksEvent m rule u f) a → IsEarliest (BreaksInside (BreaksAssertion m rule u) (out-Instr i)) b
      → IsEarlierOf a b r → IsEarliest (BreaksMember m rule u f) r
  assert_member f i a b r e h k o =
      subst (λ (z : MemberForm). IsEarliest (BreaksMember m rule u z) r) (sym e)
      (earliest_same r (λ at z. assert_to z) (λ at z. assert_back z)
      (earliest_both a b r (subst (λ (z : MemberForm). IsEarliest (BreaksEvent m rule u z) a) e h) k o))

  -- any other member by an event alone
  event_member : (f : MemberForm) (r : Option Place)
      → ((at : Place) → BreaksMember m rule u f at → BreaksEvent m rule u f at) → IsEarliest (BreaksEvent m rule u f) r
      → IsEarliest (BreaksMember m rule u f) r
  event_member f r back h = earliest_same r (λ at z. event z) back h

  pub other_member : (w : Member) (r : Option Place)
      → ((x : NameId) (here : Place) (g : RawExpr) (i : Instr) → w ≡ Local x here g i → ⊥)
      → ((i : Instr) → w ≡ Assert i → ⊥)
      → IsEarliest (BreaksEvent m rule u (out-Member w)) r → IsEarliest (BreaksMember m rule u (out-Member w)) r
  unfolding out-Member denote.Hole.Carrier.out
  other_member (Local x here g i) r n k h = absurd (n x here g i refl)
  other_member (Assert i) r n k h = absurd (k i refl)
  other_member w r n k h = event_member (out-Member w) r (λ at z. elim z [ event b ↦ b ]) h

  -- of no forms none breaks it, and of one form that one
  pub none_of_forms : IsEarliest (BreaksOneMember m rule u []) None
  none_of_forms = nowhere (λ at h. one_none h.form h.is_one)

  pub one_form : (f : MemberForm) (r : Option Place) → IsEarliest (BreaksMember m rule u f) r
      → IsEarliest (BreaksOneMember m rule u (f ∷ [])) r
  one_form f r h = earliest_same r to from h
    where
      to : (at : Place) → BreaksMember m rule u f at → BreaksOneMember m rule u (f ∷ []) at
      to at b = record { form = f; is_one = one_first f []; breaks = b }

      from : (at : Place) → BreaksOneMember m rule u (f ∷ []) at → BreaksMember m rule u f at
      from at b = elim (one_cases f [] b.form b.is_one) [
        | inl e ↦ subst (λ (g : MemberForm). BreaksMember m rule u g at) (sym e) b.breaks
        | inr n ↦ absurd (one_none b.form n)
      ]

  -- sites
  pub site_to : (all : List (BodyId × ℕ)) (k : ℕ) (site : BodyId × ℕ) (at : Place) → Stands all k site
      → BreaksOneMember m rule u (form_of (owned_at m.declared (site_of site))) at
      → BreaksOneMember m rule u (flat_map (λ (s : Site). form_of (owned_at m.declared s)) (map site_of all)) at
  site_to all k site at s b = record {
    form = b.form;
    is_one = one_flat (λ (t : Site). form_of (owned_at m.declared t)) (map site_of all) k (site_of site) b.form
        (stands_map site_of all k site s) b.is_one;
    breaks = b.breaks;
  }

  pub site_back : (all : List (BodyId × ℕ)) (at : Place)
      → BreaksOneMember m rule u (flat_map (λ (s : Site). form_of (owned_at m.declared s)) (map site_of all)) at
      → (k : ℕ) × AtItem all (λ (j : ℕ) (site : BodyId × ℕ) (q : Place). BreaksOneMember m rule u
      (form_of (owned_at m.declared (site_of site))) q) k at
  site_back all at b =
      let w = flat_one (λ (t : Site). form_of (owned_at m.declared t)) (map site_of all) b.form b.is_one in
      let v = stands_map_back site_of all w.0 w.1 w.2 in (
        w.0,
        record {
          item = v.0;
          stands = v.1;
          has = record {
            form = b.form;
            is_one = subst (λ (t : Site). IsOneOf (form_of (owned_at m.declared t)) b.form)
                (sym v.2) w.3;
            breaks = b.breaks;
          };
        },
      )

  -- the members of the unit are those at its body's sites
  pub body_members : (all : List (BodyId × ℕ)) → map site_of all ≡ members_at m u → (r : Option Place)
      → IsEarliest (BreaksOneMember m rule u (flat_map (λ (s : Site). form_of (owned_at m.declared s)) (map site_of all))) r
      → IsEarliest (BreaksOneMember m rule u (forms_at m u)) r
  body_members all q r h = subst (λ (sites : List Site). IsEarliest
      (BreaksOneMember m rule u (flat_map (λ (s : Site). form_of (owned_at m.declared s)) sites)) r) q h

-- units
module _ (m : RootedModel) (units : List UnitPath) (rule : Rule) where
  -- the unit of this number breaks it
  pub record BreaksUnitAt (n : ℕ) (at : Place) : Type 0 where
    pub unit : UnitPath
    pub stands : Stands units n unit
    pub breaks : BreaksOneMember m rule unit (forms_at m unit) at

  pub unit_now : (n : ℕ) (u : UnitPath) (r : Option Place) → Stands units n u
      → IsEarliest (BreaksOneMember m rule u (forms_at m u)) r → IsEarliest (BreaksUnitAt n) r
  unit_now n u r s h = earliest_same r (λ at b. record { unit = u; stands = s; breaks = b })
      (λ at b. subst (λ (z : UnitPath). BreaksOneMember m rule z (forms_at m z) at)
      (stands_one units n b.unit u b.stands s) b.breaks) h

  pub unit_to : (nodes : List UnitNode) (k : ℕ) (d : UnitNode) (at : Place) → Stands nodes k d
      → BreaksUnitAt k at → BreaksUnit m units rule at
  unit_to nodes k d at s h = record { unit = h.unit; is_unit = one_here units k h.unit h.stands; breaks = h.breaks }

  pub unit_back : (tree : Tree) → IsTreeOf m units tree → (at : Place)
      → BreaksUnit m units rule at → (k : ℕ)
      × AtItem tree.units.items (λ (j : ℕ) (d : UnitNode) (q : Place). BreaksUnitAt j q) k at
  unit_back tree t at h =
      let a = along_on units tree.units.items t.units_are h.is_unit.place h.unit h.is_unit.stands in (
        h.is_unit.place,
        record {
          item = a.0;
          stands = a.1;
          has = record { unit = h.unit; stands = h.is_unit.stands; breaks = h.breaks };
        },
      )

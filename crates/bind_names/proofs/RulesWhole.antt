-- What the parts of a tree break, and what the tree breaks by the rules.
use Rattle.std.proofs.Common.{◌≡◌, ◌⊎◌, inl, inr, List, Option, Some, refl, sym, subst}
use Rattle.ar_base.specs.Lists.{IsOneOf}
use Rattle.ar_base.specs.Numbers.{NameId}
use Rattle.ar_base.specs.declared.places.Place.{Place}
use Rattle.ar_syntax.specs.declared.expressions.RawExpr.{RawExpr}
use Rattle.ar_syntax.specs.declared.instructions.Instr.{Instr, out-Instr}
use Rattle.ar_syntax.specs.declared.members.Member.TheOpen as member
use Rattle.typed_expr.specs.declared.expr.ValueKind.{ValueKind}
use Rattle.typed_expr.specs.declared.expr.ValueKind.TheVariants.{Truth}
use Rattle.written_forms.specs.Parts.{InstrForm}
use Rattle.written_forms.specs.PartsInside.{BreaksInside}
use Rattle.class_table.specs.Declaring.{MemberForm}
use Rattle.class_table.specs.Earliest.{IsEarliest, IsEarlierOf}
use Rattle.class_table.proofs.FirstPlaces.{earliest_same, earliest_both}
use Rattle.hierarchy.specs.Models.{RootedModel}
use Rattle.hierarchy.specs.Units.{UnitPath, Thing}
use Rattle.hierarchy.specs.Listing.{forms_at, variables, parameters, observers}
use Rattle.hierarchy.specs.Settings.{Attribute, in_force}
use Rattle.source_meaning.specs.Kinds.{IsOfKind}
use Rattle.source_meaning.specs.Tested as s
use Rattle.source_meaning.specs.Rules as r
use Rattle.source_meaning.specs.Rules.{BreaksNaming, BreaksKinds, BreaksTargets, IsWayOf}
use Rattle.hierarchy.specs.Walks.{PassesTest, thing, is_event}
use Rattle.bind_names.specs.Breaking.{BreaksExpression, BreaksAction, BreaksAssertion, BreaksValueInForce, BreaksParameter, BreaksObserver, BreaksThing, BreaksUnit, BreaksMember, event, guard, action, assertion, BreaksTree, variable, parameter, observer, unit, MisnamesEvent, hides, part, sync, local}
use Rattle.bind_names.specs.declared.breaches.Rule.{Rule}
use Rattle.bind_names.specs.declared.breaches.Rule.TheVariants.{Names, Kinds, Targets}

module _ (m : RootedModel) (units : List UnitPath) where
  -- what is tested breaks a rule, then the tree does
  from_value : (rule : Rule) (t : Thing) (a : Attribute) (k : ValueKind) {at : Place} → s.IsReadable m units t
      → in_force m t ≡ Some a → IsOfKind m t k
      → BreaksExpression m rule a.unit (s.scope_of t.name a.setting) k a.value at
      → BreaksTree m units rule at
  from_value rule t a k (s.of_variable o) f q b =
      variable (record {
        thing = t;
        is_one = o;
        breaks = record { attribute = a; in_force = f; kind = k; is_kind = q; breaks = b };
      })
  from_value rule t a k (s.of_parameter o v) f q b =
      parameter (record {
        thing = t;
        is_one = o;
        breaks = record {
          valued = v;
          breaks = record
              { attribute = a; in_force = f; kind = k; is_kind = q; breaks = b };
        };
      })

  in_member : (rule : Rule) (u : UnitPath) (f : MemberForm) {at : Place} → IsOneOf units u → IsOneOf (forms_at m u) f
      → BreaksMember m rule u f at → BreaksTree m units rule at
  in_member rule u f o i b = unit (record
      { unit = u; is_unit = o; breaks = record { form = f; is_one = i; breaks = b } })

  from_tested : (rule : Rule) {u : UnitPath} {scope : s.Scope} {k : ValueKind} {e : RawExpr} {at : Place}
      → s.Tested m units u scope k e → BreaksExpression m rule u scope k e at → BreaksTree m units rule at
  from_tested rule (s.value {k = k} t a v f q) b = from_value rule t a k v f q b
  from_tested rule (s.observer {e = e} {k = k} t type o i q) b =
      observer (record {
        thing = t;
        is_one = o;
        breaks = record { type = type; written = e; is = i; kind = k; is_kind = q; breaks = b };
      })
  from_tested rule (s.guard {u = u} {e = e} x here act o i) b =
      in_member rule u (member.Local x here e act) o i (guard b)

  from_action : (rule : Rule) (u : UnitPath) (i : InstrForm) {at : Place} → IsOneOf units u → s.InAction m u i
      → BreaksAction m rule u i at → BreaksTree m units rule at
  from_action rule u i o h b = in_member rule u (member.Local h.event h.at h.guard h.action) o h.is_member
      (action (record { part = i; is_part = h.is_part; broken = b }))

  from_assertion : (rule : Rule) (u : UnitPath) (i : InstrForm) {at : Place} → IsOneOf units u → s.InAssertion m u i
      → BreaksAssertion m rule u i at → BreaksTree m units rule at
  from_assertion rule u i o h b = in_member rule u (member.Assert h.whole) o h.is_member
      (assertion (record { part = i; is_part = h.is_part; broken = b }))

  -- where a member's instruction stands
  acts : (u : UnitPath) (x : NameId) (here : Place) (g : RawExpr) (i : Instr) {at : Place}
      {P : InstrForm → Place → Type 0} → IsOneOf (forms_at m u) (member.Local x here g i)
      → (b : BreaksInside P (out-Instr i) at) → s.InAction m u b.part
  acts u x here g i o b = record { event = x; at = here; guard = g; action = i; is_member = o; is_part = b.is_part }

  asserts : (u : UnitPath) (i : Instr) {at : Place} {P : InstrForm → Place → Type 0}
      → IsOneOf (forms_at m u) (member.Assert i) → (b : BreaksInside P (out-Instr i) at) → s.InAssertion m u b.part
  asserts u i o b = record { whole = i; is_member = o; is_part = b.is_part }

  -- Names

  event_breaks : (u : UnitPath) (f : MemberForm) {at : Place} → IsOneOf units u → IsOneOf (forms_at m u) f
      → MisnamesEvent m u f at → BreaksNaming m units at
  event_breaks u f o i (hides {p = p} h) =
      subst (λ (z : Place). BreaksNaming m units z) (sym h.place) (r.hides o i h.none)
  event_breaks u f o i (part {x = x} {here = here} {parts = parts} h) =
      subst (λ (z : Place). BreaksNaming m units z) (sym h.no_event.place)
      (r.part x here parts h.part o i h.is_one h.no_event.none)
  event_breaks u f o i (sync {x = x} h) =
      subst (λ (z : Place). BreaksNaming m units z) (sym h.place) (r.way f x o i r.sync h.not)
  event_breaks u f o i (local {x = x} h) =
      subst (λ (z : Place). BreaksNaming m units z) (sym h.place) (r.way f x o i r.local h.not)

  member_names : (u : UnitPath) (f : MemberForm) {at : Place} → IsOneOf units u → IsOneOf (forms_at m u) f
      → BreaksMember m Names u f at → BreaksNaming m units at
  member_names u f o i (event b) = event_breaks u f o i b
  member_names u f o i (guard {x = x} {here = here} {guard = g} {action = act} b) =
      r.in_expression s.Everything Truth g (s.guard x here act o i) b
  member_names u f o i (action {x = x} {here = here} {guard = g} {action = act} b) =
      r.in_instruction b.part o (inl (acts u x here g act i b)) b.broken
  member_names u f o i (assertion {i = act} b) = r.in_instruction b.part o (inr (asserts u act i b)) b.broken

  names_to : (at : Place) → BreaksTree m units Names at → BreaksNaming m units at
  names_to at (variable h) = let b = h.breaks in r.in_expression _ b.kind b.attribute.value (s.value h.thing b.attribute (s.of_variable h.is_one) b.in_force b.is_kind) b.breaks
  names_to at (parameter h) = let b = h.breaks.breaks in r.in_expression _ b.kind b.attribute.value (s.value h.thing b.attribute (s.of_parameter h.is_one h.breaks.valued) b.in_force b.is_kind) b.breaks
  names_to at (observer h) = let b = h.breaks in r.in_expression s.Everything b.kind b.written (s.observer h.thing b.type h.is_one b.is b.is_kind) b.breaks
  names_to at (unit h) = member_names h.unit h.breaks.form h.is_unit h.breaks.is_one h.breaks.breaks

  way_back : (u : UnitPath) (f : MemberForm) (x : NameId) {at : Place} → IsOneOf units u → IsOneOf (forms_at m u) f
      → IsWayOf f x at → (PassesTest m is_event (thing u x.n) → ⊥) → BreaksTree m units Names at
  way_back u f x o i r.local n = in_member Names u f o i (event (local (record { not = n; place = refl })))
  way_back u f x o i r.sync n = in_member Names u f o i (event (sync (record { not = n; place = refl })))

  names_from : (at : Place) → BreaksNaming m units at → BreaksTree m units Names at
  names_from at (r.in_expression scope k e t b) = from_tested Names t b
  names_from at (r.in_instruction {u = u} i o (inl a) b) = from_action Names u i o a b
  names_from at (r.in_instruction {u = u} i o (inr a) b) = from_assertion Names u i o a b
  names_from at (r.hides {u = u} {p = p} o i n) =
      in_member Names u (member.Hide p) o i (event (hides (record { none = n; place = refl })))
  names_from at (r.part {u = u} x here parts p o i j n) =
      in_member Names u (member.Sync x here parts) o i
      (event (part (record { part = p; is_one = j; no_event = record { none = n; place = refl } })))
  names_from at (r.way {u = u} f x o i w n) = way_back u f x o i w n

  pub tree_names : (f : Option Place) → IsEarliest (BreaksTree m units Names) f → IsEarliest (BreaksNaming m units) f
  tree_names f h = earliest_same f names_to names_from h

  -- Kinds

  member_kinds : (u : UnitPath) (f : MemberForm) {at : Place} → IsOneOf units u → IsOneOf (forms_at m u) f
      → BreaksMember m Kinds u f at → BreaksKinds m units at
  member_kinds u f o i (event b) = absurd b
  member_kinds u f o i (guard {x = x} {here = here} {guard = g} {action = act} b) =
      r.in_expression s.Everything Truth g (s.guard x here act o i) b
  member_kinds u f o i (action {x = x} {here = here} {guard = g} {action = act} b) =
      r.in_instruction b.part o (inl (acts u x here g act i b)) b.broken
  member_kinds u f o i (assertion {i = act} b) = r.in_instruction b.part o (inr (asserts u act i b)) b.broken

  kinds_to : (at : Place) → BreaksTree m units Kinds at → BreaksKinds m units at
  kinds_to at (variable h) = let b = h.breaks in r.in_expression _ b.kind b.attribute.value (s.value h.thing b.attribute (s.of_variable h.is_one) b.in_force b.is_kind) b.breaks
  kinds_to at (parameter h) = let b = h.breaks.breaks in r.in_expression _ b.kind b.attribute.value (s.value h.thing b.attribute (s.of_parameter h.is_one h.breaks.valued) b.in_force b.is_kind) b.breaks
  kinds_to at (observer h) = let b = h.breaks in r.in_expression s.Everything b.kind b.written (s.observer h.thing b.type h.is_one b.is b.is_kind) b.breaks
  kinds_to at (unit h) = member_kinds h.unit h.breaks.form h.is_unit h.breaks.is_one h.breaks.breaks

  kinds_from : (at : Place) → BreaksKinds m units at → BreaksTree m units Kinds at
  kinds_from at (r.in_expression scope k e t b) = from_tested Kinds t b
  kinds_from at (r.in_instruction {u = u} i o (inl a) b) = from_action Kinds u i o a b
  kinds_from at (r.in_instruction {u = u} i o (inr a) b) = from_assertion Kinds u i o a b

  pub tree_kinds : (f : Option Place) → IsEarliest (BreaksTree m units Kinds) f → IsEarliest (BreaksKinds m units) f
  tree_kinds f h = earliest_same f kinds_to kinds_from h

  -- Targets

  member_targets : (u : UnitPath) (f : MemberForm) {at : Place} → IsOneOf units u → IsOneOf (forms_at m u) f
      → BreaksMember m Targets u f at → BreaksTargets m units at
  member_targets u f o i (event b) = absurd b
  member_targets u f o i (guard b) = absurd b
  member_targets u f o i (action {x = x} {here = here} {guard = g} {action = act} b) =
      r.in_action b.part o (acts u x here g act i b) b.broken
  member_targets u f o i (assertion {i = act} b) = r.in_assertion b.part o (asserts u act i b) b.broken

  targets_to : (at : Place) → BreaksTree m units Targets at → BreaksTargets m units at
  targets_to at (variable h) = absurd h.breaks.breaks
  targets_to at (parameter h) = absurd h.breaks.breaks.breaks
  targets_to at (observer h) = absurd h.breaks.breaks
  targets_to at (unit h) = member_targets h.unit h.breaks.form h.is_unit h.breaks.is_one h.breaks.breaks

  targets_from : (at : Place) → BreaksTargets m units at → BreaksTree m units Targets at
  targets_from at (r.in_action {u = u} i o a b) = from_action Targets u i o a b
  targets_from at (r.in_assertion {u = u} i o a b) = from_assertion Targets u i o a b

  pub tree_targets : (f : Option Place) → IsEarliest (BreaksTree m units Targets) f
      → IsEarliest (BreaksTargets m units) f
  tree_targets f h = earliest_same f targets_to targets_from h

  -- all parts
  tree_of_four : (rule : Rule) (at : Place)
      → (BreaksThing (variables m units) (BreaksValueInForce m rule) at ⊎ BreaksThing (parameters m units) (BreaksParameter m rule)
      at) ⊎ (BreaksThing (observers m units) (BreaksObserver m rule) at ⊎ BreaksUnit m units rule at)
      → BreaksTree m units rule at
  tree_of_four rule at (inl (inl h)) = variable h
  tree_of_four rule at (inl (inr h)) = parameter h
  tree_of_four rule at (inr (inl h)) = observer h
  tree_of_four rule at (inr (inr h)) = unit h

  four_of_tree : (rule : Rule) (at : Place) → BreaksTree m units rule at
      → (BreaksThing (variables m units) (BreaksValueInForce m rule) at ⊎ BreaksThing (parameters m units) (BreaksParameter m rule)
      at) ⊎ (BreaksThing (observers m units) (BreaksObserver m rule) at ⊎ BreaksUnit m units rule at)
  four_of_tree rule at (variable h) = inl (inl h)
  four_of_tree rule at (parameter h) = inl (inr h)
  four_of_tree rule at (observer h) = inr (inl h)
  four_of_tree rule at (unit h) = inr (inr h)

  pub tree_earliest : (rule : Rule) (a b c d e f g : Option Place)
      → IsEarliest (BreaksThing (variables m units) (BreaksValueInForce m rule)) a
      → IsEarliest (BreaksThing (parameters m units) (BreaksParameter m rule)) b
      → IsEarlierOf a b c → IsEarliest (BreaksThing (observers m units) (BreaksObserver m rule)) d
      → IsEarliest (BreaksUnit m units rule) e → IsEarlierOf d e f → IsEarlierOf c f g
      → IsEarliest (BreaksTree m units rule) g
  tree_earliest rule a b c d e f g h k o n l p q =
      earliest_same g (tree_of_four rule) (four_of_tree rule)
      (earliest_both c f g (earliest_both a b c h k o) (earliest_both d e f n l p) q)

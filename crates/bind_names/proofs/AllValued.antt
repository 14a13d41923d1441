-- All values of a tree, and the earliest of them that is outside its domain.
use Rattle.std.proofs.Common.{◌≡◌, ◌⊎◌, inl, inr, List, Option, Some, None, refl}
use Rattle.ar_base.specs.Lists.{IsOneOf, Along}
use Rattle.ar_base.specs.declared.places.Place.{Place}
use Rattle.domains.specs.Domains.{Holds}
use Rattle.domains.specs.declared.Domain.{Domain}
use Rattle.domains.specs.declared.Value.{Value}
use Rattle.class_table.specs.Earliest.{IsEarliest, IsEarlierOf, nowhere, there}
use Rattle.class_table.proofs.FirstPlaces.{earliest_same, earliest_both}
use Rattle.hierarchy.specs.Models.{RootedModel}
use Rattle.hierarchy.specs.Units.{UnitPath, Thing}
use Rattle.hierarchy.specs.Listing.{variables, parameters}
use Rattle.hierarchy.specs.Settings.{Attribute, in_force}
use Rattle.hierarchy.specs.Tie.{IsTreeOf, IsVariableNode, IsParameterNode}
use Rattle.hierarchy.specs.declared.tree.ParNode.{ParNode}
use Rattle.hierarchy.specs.declared.tree.Tree.{Tree}
use Rattle.hierarchy.specs.declared.tree.VarNode.{VarNode}
use Rattle.source_meaning.specs.Tested.{IsReadable, of_variable, of_parameter}
use Rattle.source_meaning.specs.Rules.{BreaksValue}
use Rattle.bind_names.specs.Values.{IsValue, IsParameterValue, IsDomainAt, HoldsIn, AreValues, BreaksOneValue}
use Rattle.bind_names.specs.declared.all_values.Values.{Values}
use Rattle.bind_names.proofs.OutsideDomains.{holds_by, variable_domain, parameter_domain, domain_valued, along_both}
use Rattle.bind_names.proofs.ValuesRight.{parameter_attribute}

module _ (m : RootedModel) (units : List UnitPath) where
  -- the earliest place among parameters and variables is that of the rule
  pub whole_earliest : (f g r : Option Place) → IsEarliest (BreaksOneValue m units (parameters m units)) f
      → IsEarliest (BreaksOneValue m units (variables m units)) g → IsEarlierOf f g r
      → IsEarliest (BreaksValue m units) r
  whole_earliest f g r p v e = earliest_same r to from (earliest_both f g r p v e)
    where
      to : (at : Place) → BreaksOneValue m units (parameters m units) at ⊎ BreaksOneValue m units (variables m units)
          at → BreaksValue m units at
      to at (inl b) = b.breaks.breaks
      to at (inr b) = b.breaks.breaks

      by : (at : Place) (b : BreaksValue m units at) → IsReadable m units b.thing
          → BreaksOneValue m units (parameters m units) at ⊎ BreaksOneValue m units (variables m units) at
      by at b (of_variable o) = inr (record
          { thing = b.thing; is_one = o; breaks = record { breaks = b; thing = refl } })
      by at b (of_parameter o h) = inl (record
          { thing = b.thing; is_one = o; breaks = record { breaks = b; thing = refl } })

      from : (at : Place) → BreaksValue m units at → BreaksOneValue m units (parameters m units) at ⊎ BreaksOneValue m units
          (variables m units) at
      from at b = by at b b.has_value

  -- where nothing breaks the rule, each value is in its domain
  module _ (none : (at : Place) → BreaksValue m units at → ⊥) where
    holds_in : (t : Thing) (v : Value) → IsReadable m units t → IsValue m t v → (d : Domain) → IsDomainAt m t d
        → (b : (a : Attribute) × (in_force m t ≡ Some a)) → Holds d v
    holds_in t v has is d type b = holds_by d v (λ n. none b.0.value.at (record {
      thing = t;
      has_value = has;
      attribute = b.0;
      in_force = b.1;
      value = v;
      is_value = is.value;
      member = type.member;
      is = type.is;
      type = type.type;
      is_type = type.is_type;
      domain = d;
      is_domain = type.domain;
      outside = n;
      place = refl;
    }))

    module _ (tree : Tree) (is_tree : IsTreeOf m units tree) (values : Values)
        (ps : Along (IsParameterValue m) (parameters m units) values.parameters.items)
        (vs : Along (IsValue m) (variables m units) values.variables.items) where
      variable_held : (t : Thing) (d : VarNode) (v : Value) → IsOneOf (variables m units) t → IsVariableNode m units t d
          → IsValue m t v → Holds d.domain v
      variable_held t d v one h is = holds_in t v (of_variable one) is d.domain (variable_domain m units t d h)
          (h.value.attribute, h.value.in_force)

      parameter_held : (t : Thing) (d : ParNode) (v : Value) → IsOneOf (parameters m units) t → IsParameterNode m units
          t d → IsParameterValue m t v → HoldsIn d.domain v
      parameter_held t d v one h is = by d.domain refl
        where
          by : (o : Option Domain) → d.domain ≡ o → HoldsIn o v
          by None e = tt
          by (Some w) e =
              let valued = domain_valued m units t d h w e in
              let a = parameter_attribute m units t d h valued in
              holds_in t v (of_parameter one valued) (is.value valued) w (parameter_domain m units t d h w e)
              (a.attribute, a.in_force)

      pub all_valued : AreValues m units tree values
      all_valued = record {
        parameters_are = ps;
        variables_are = vs;
        parameters_held = along_both (parameters m units) tree.parameters.items values.parameters.items parameter_held
            is_tree.parameters_are ps;
        variables_held = along_both (variables m units) tree.variables.items values.variables.items variable_held
            is_tree.variables_are vs;
      }

-- nothing breaks the rule
pub none_breaks : {P : Place → Type 0} (r : Option Place) → r ≡ None → IsEarliest P r → (at : Place) → P at → ⊥
none_breaks r e (nowhere n) at b = n at b
none_breaks r e (there q l) at b = cc

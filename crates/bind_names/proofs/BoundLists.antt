-- Bound forms whose lists are those of a tree are those of its units.
use Rattle.std.proofs.Common.{◌≡◌, ◌<◌, ◌^◌, List, map, length, refl, sym, ◌∙◌, ap, subst, arith}
use Rattle.ar_base.specs.Lists.{IsOneOf, Along, AreDifferent}
use Rattle.ar_base.specs.Numbers.{NameId}
use Rattle.ar_base.proofs.Standing.{stands_one, along_back, along_length}
use Rattle.typed_expr.specs.declared.expr.ValueKind.TheVariants as kind
use Rattle.class_table.proofs.Taken.{length_map}
use Rattle.gts_core.specs.declared.bound.DeclaredEvent.{DeclaredEvent}
use Rattle.gts_core.specs.declared.system.GtsParts.{GtsParts}
use Rattle.gts_core.specs.declared.system.Observer.{Observer}
use Rattle.gts_core.specs.declared.system.Variable.{Variable}
use Rattle.hierarchy.specs.Models.{RootedModel}
use Rattle.hierarchy.specs.Units.{UnitPath, Thing}
use Rattle.hierarchy.specs.Walks.{is_variable}
use Rattle.hierarchy.specs.Listing.{variables, events, observers}
use Rattle.hierarchy.specs.Paths.{name_text, unit_path, thing_path}
use Rattle.hierarchy.specs.Tie.{IsTreeOf}
use Rattle.hierarchy.specs.declared.tree.Tree.{Tree}
use Rattle.source_meaning.specs.Acts.{assigns_of, places_of}
use Rattle.source_meaning.specs.Binding.{IsBoundFrom, HasTexts}
use Rattle.source_meaning.specs.SoundBound.{IsOverBound, IsSoundBound}
use Rattle.source_meaning.specs.Systems.{Declarations, AreOf}
use Rattle.source_meaning.specs.declared.bound.Bound.{Bound}
use Rattle.source_meaning.proofs.Different.{things_different}
use Rattle.bind_names.specs.Bound.{IsBoundEvent, IsSoundEvent}
use Rattle.bind_names.specs.ListBound.{IsBoundVariable, IsSoundVariable, AreBoundVariables, AreBoundAssertions, IsBoundObserver}
use Rattle.bind_names.specs.Whole.{IsBoundOf}
use Rattle.bind_names.proofs.Meanings.{along_each, along_same, stand_whole, MeantVariables, meant_variables, MeantEvents, meant_events, MeantObservers, meant_observers}
use Rattle.bind_names.proofs.Soundness.{HasParts, typed_there, sound_there, variable_sound}

-- the lists of the bound forms are those of the tree
pub record HasLists (m : RootedModel) (units : List UnitPath) (tree : Tree) (b : Bound) : Type 0 where
  pub is_tree : IsTreeOf m units tree
  pub symbols : b.symbols.items ≡ map (name_text m) m.declared.symbols
  pub symbols_few : length b.symbols.items < 2 ^ 32
  pub units_are : b.units.items ≡ map (unit_path m) units
  pub variables_are : AreBoundVariables m units tree b.variables.items
  pub events_are : Along (IsBoundEvent m units tree) (events m units) b.events.items
  pub assertions_are : AreBoundAssertions m units tree b.assertions.items
  pub observers_are : Along (IsBoundObserver m units tree) (observers m units) b.observers.items

module _ (m : RootedModel) (units : List UnitPath) (tree : Tree) (b : Bound) (has : HasLists m units tree b) where
  -- what the lists mean
  meant : MeantVariables m units 0 (variables m units) b.variables.items
  meant =
      let all = stand_whole (variables m units) in
      meant_variables m units 0 (variables m units) b.variables.items all has.variables_are.are

  happens : MeantEvents m units tree 0 (events m units) b.events.items
  happens =
      let all = stand_whole (events m units) in
      meant_events m units tree 0 (events m units) b.events.items all has.events_are

  seen : MeantObservers m units tree (observers m units) b.observers.items
  seen = meant_observers m units tree (observers m units) b.observers.items has.observers_are

  abbrev declarations : Declarations
  declarations = record {
    model = m;
    units = units;
    net = record { variables = meant.meanings; assertions = assigns_of has.assertions_are.placed };
    events = happens.meanings;
    observers = seen.meanings;
    places = places_of has.assertions_are.placed;
  }

  are : AreOf m units declarations
  are = record {
    model = refl;
    units_are = refl;
    variables = meant.are;
    placed = has.assertions_are.placed;
    asserted = has.assertions_are.asserted;
    assertions = refl;
    places = refl;
    events = happens.are;
    observers = seen.are;
  }

  texts : HasTexts declarations b
  texts = record {
    symbols = has.symbols;
    units_are = has.units_are;
    variables_are = along_same (thing_path m) (λ (x : Variable). x.path)
        (λ (t : Thing) (x : Variable) (h : IsBoundVariable m units t x). h.path) has.variables_are.are;
    events_are = along_same (thing_path m) (λ (e : DeclaredEvent). e.path)
        (λ (t : Thing) (e : DeclaredEvent) (h : IsBoundEvent m units tree t e). h.path) has.events_are;
    observers_are = along_same (thing_path m) (λ (o : Observer). o.path)
        (λ (t : Thing) (o : Observer) (h : IsBoundObserver m units tree t o). h.path) has.observers_are;
  }

  different : AreDifferent (variables m units)
  different = things_different m is_variable units has.is_tree.table.kept has.is_tree.are_units

  bound : IsBoundFrom declarations b
  bound = record {
    net = record {
      variables = meant.numbers;
      assertions = has.assertions_are.numbers;
      one = λ t j k p q. different.one j k t p q;
      one_back = λ t u n p q. stands_one (variables m units) n t u p q;
    };
    places = has.assertions_are.places;
    events_are = happens.numbers;
    sync_places = along_each
        (λ (t : Thing) (e : DeclaredEvent) (h : IsBoundEvent m units tree t e). h.places) has.events_are;
    observers_are = seen.numbers;
    kinds = along_each (λ (t : Thing) (o : Observer) (h : IsBoundObserver m units tree t o). h.kind) has.observers_are;
    texts = texts;
  }

  -- the lengths of the lists
  symbols_long : length b.symbols.items ≡ length tree.classes.symbols.items
  symbols_long =
      let e = ap length has.symbols ∙ length_map (name_text m) m.declared.symbols in
      let f = ap length (sym has.is_tree.table.table.holds.symbols) in
      e ∙ (f ∙ length_map (λ (x : NameId). x.n) tree.classes.symbols.items)

  units_long : length b.units.items ≡ length tree.units.items
  units_long =
      let e = ap length has.units_are ∙ length_map (unit_path m) units in
      e ∙ along_length units tree.units.items has.is_tree.units_are

  variables_long : length tree.variables.items ≡ length b.variables.items
  variables_long = along_length tree.variables.items b.variables.items has.variables_are.sound

  events_long : length tree.events.items ≡ length b.events.items
  events_long = sym (along_length (events m units) tree.events.items has.is_tree.events_are)
      ∙ along_length (events m units) b.events.items has.events_are

  observers_long : length tree.observers.items ≡ length b.observers.items
  observers_long = sym (along_length (observers m units) tree.observers.items has.is_tree.observers_are)
      ∙ along_length (observers m units) b.observers.items has.observers_are

  -- parts over the bound forms
  parts_of : (p : GtsParts) → IsOverBound b p → HasParts tree p
  parts_of p o = record {
    symbols = ap (λ v. length v.items) o.symbols ∙ symbols_long;
    units = ap (λ v. length v.items) o.units ∙ units_long;
    variables = subst (λ v. Along (IsSoundVariable tree) tree.variables.items v.items) (sym o.variables)
        has.variables_are.sound;
  }

  -- each event is sound
  event_sound : (e : DeclaredEvent) → IsOneOf b.events.items e → IsSoundEvent tree e
  event_sound e o = (along_back (events m units) b.events.items has.events_are o.place e o.stands).2.sound

  sound : IsSoundBound b
  sound = record {
    few = record {
      symbols = has.symbols_few;
      units = (let l = units_long in let f = has.is_tree.units_few in omega (arith, l, f));
      variables = (let l = variables_long in let f = has.is_tree.variables_few in omega (arith, l, f));
      events = (let l = events_long in let f = has.is_tree.events_few in omega (arith, l, f));
      ways = λ e o. (event_sound e o).few;
      observers = (let l = observers_long in let f = has.is_tree.observers_few in omega (arith, l, f));
    };
    variables = λ p o n x s.
        let w = along_back tree.variables.items b.variables.items has.variables_are.sound n x s in
        variable_sound tree p (parts_of p o) w.0 x w.2;
    event_units = λ e o. let h = (event_sound e o).unit in let l = units_long in omega (arith, h, l);
    guards = λ p o e guard action i w.
        typed_there tree p (parts_of p o) guard kind.Truth ((event_sound e i).guards guard action w);
    actions = λ p o e guard action i w. sound_there tree p (parts_of p o) ((event_sound e i).actions guard action w);
    parts = λ e parts at part i w q.
        let h = (event_sound e i).parts parts at part w q in
        let l = events_long in
        omega (arith, h, l);
    assertions = λ p o a i. sound_there tree p (parts_of p o) (has.assertions_are.sound a i);
    observers = λ p o x i. typed_there tree p (parts_of p o) x.value x.kind
        (along_back (observers m units) b.observers.items has.observers_are i.place x i.stands).2.typed;
  }

  pub bound_of_lists : IsBoundOf m units b
  bound_of_lists = record { declarations = declarations; are = are; bound = bound; sound = sound }

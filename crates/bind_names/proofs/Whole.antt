-- Whole events by numbers.
use Rattle.std.proofs.Common.{◌≡◌, ◌<◌, ◌^◌, List, [], ◌∷◌, map, length, refl, arith}
use Rattle.ar_base.specs.Lists.{Stands, IsOneOf, Along}
use Rattle.ar_base.specs.Lists as l
use Rattle.ar_base.proofs.Standing.{stands_within, along_back, along_length}
use Rattle.ar_meaning.specs.Systems.{Transition}
use Rattle.ar_meaning.specs.Expand.{Member}
use Rattle.ar_meaning.specs.ExpandImageInside.{Member_renames}
use Rattle.ar_meaning.specs.Found.{IsAnswer}
use Rattle.gts_core.specs.Bound.{member_of}
use Rattle.gts_core.specs.declared.bound.DeclaredEvent.{DeclaredEvent}
use Rattle.gts_core.specs.declared.bound.DeclaredWay.{DeclaredWay}
use Rattle.gts_core.specs.declared.bound.DeclaredWay.TheVariants.{Local, Sync}
use Rattle.class_table.specs.Declaring.{MemberForm}
use Rattle.hierarchy.specs.Models.{RootedModel}
use Rattle.hierarchy.specs.Units.{UnitPath, Thing}
use Rattle.hierarchy.specs.Listing.{variables, events, ways_declared}
use Rattle.hierarchy.specs.Paths.{thing_path}
use Rattle.hierarchy.specs.Tie.{IsTreeOf}
use Rattle.hierarchy.specs.declared.tree.Tree.{Tree}
use Rattle.source_meaning.specs.Binding.{HasPlace}
use Rattle.source_meaning.specs.Systems.{IsMember, IsHidden}
use Rattle.bind_names.specs.Bound.{IsBoundEvent}
use Rattle.bind_names.specs.Ways.{IsBoundWay, IsSoundWay}

module _ (m : RootedModel) (units : List UnitPath) (tree : Tree) where
  -- what ways mean, and where they stand
  record AreMeant (u : UnitPath) (forms : List MemberForm) (ways : List DeclaredWay) : Type 0 where
    pub meanings : List (Member (Transition Thing) Thing)
    pub are : Along (IsMember m u) forms meanings
    pub numbers : Along (Member_renames (λ x n. Stands (variables m units) n x) (λ x n. Stands (events m units) n x))
        meanings (map member_of ways)
    pub places : Along HasPlace forms ways

  meant : (u : UnitPath) (forms : List MemberForm) (ways : List DeclaredWay)
      → Along (IsBoundWay m units tree u) forms ways → AreMeant u forms ways
  meant u [] (w ∷ ws) h = elim h [ ]
  meant u (f ∷ fs) [] h = elim h [ ]
  meant u [] [] l.none = record { meanings = []; are = l.none; numbers = l.none; places = l.none }
  meant u (f ∷ fs) (w ∷ ws) (l.one_and h r) =
      let k = meant u fs ws r in
      record {
        meanings = h.meaning ∷ k.meanings;
        are = l.one_and h.is k.are;
        numbers = l.one_and h.numbers k.numbers;
        places = l.one_and h.place k.places;
      }

  -- the event, by its parts
  pub bound_event : (t : Thing) (e : DeclaredEvent) → IsTreeOf m units tree → Stands units e.unit.n t.unit
      → e.path ≡ thing_path m t → IsAnswer e.hidden (IsHidden m units t)
      → Along (IsBoundWay m units tree t.unit) (ways_declared m t) e.ways.items → length e.ways.items < 2 ^ 32
      → IsBoundEvent m units tree t e
  bound_event t e is at path told ways few = record {
    meaning = record { key = t; unit = e.unit.n; hidden = e.hidden; members = k.meanings };
    is = record { key = refl; unit = at; hidden = told; members = k.are };
    unit = refl;
    hidden = refl;
    members = k.numbers;
    path = path;
    places = k.places;
    sound = record {
      unit = inside;
      few = few;
      guards = λ guard action o. (sound (Local guard action) o).0;
      actions = λ guard action o. (sound (Local guard action) o).1;
      parts = λ parts here part o p. sound (Sync parts here) o part p;
    };
  }
    where
      k : AreMeant t.unit (ways_declared m t) e.ways.items
      k = meant t.unit (ways_declared m t) e.ways.items ways

      sound : (w : DeclaredWay) → IsOneOf e.ways.items w → IsSoundWay tree w
      sound w o = (along_back (ways_declared m t) e.ways.items ways o.place w o.stands).2.sound

      inside : e.unit.n < length tree.units.items
      inside =
          let s = stands_within units e.unit.n t.unit at in
          let n = along_length units tree.units.items is.units_are in
          omega (arith, s, n)

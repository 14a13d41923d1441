-- Transitions and synchronisations by numbers.
use Rattle.std.proofs.Common.{◌≡◌, ℕ, ◌+◌, ◌≤◌, Bool, true, List, [], ◌∷◌, ◌++◌, map, take, take_all, length, Vec, refl, sym, subst, arith}
use Rattle.std.specs.Global.{Global}
use Rattle.ar_base.specs.Lists.{Stands, IsOneOf, Along}
use Rattle.ar_base.specs.Lists as l
use Rattle.ar_base.specs.Numbers.{NameId, VarId}
use Rattle.ar_base.specs.NumbersInside.{EventId}
use Rattle.ar_base.specs.declared.places.Place.{Place}
use Rattle.ar_base.proofs.Standing.{stands_within, along_back, along_length, one_here}
use Rattle.ar_syntax.specs.declared.expressions.RawExpr.{RawExpr}
use Rattle.ar_syntax.specs.declared.instructions.Instr.{Instr, out-Instr}
use Rattle.ar_syntax.specs.declared.members.Member.TheOpen as member
use Rattle.ar_syntax.specs.declared.members.Part.{Part}
use Rattle.typed_expr.specs.declared.expr.Expr.{Expr}
use Rattle.typed_expr.specs.declared.expr.ValueKind.TheVariants.{Truth}
use Rattle.ar_meaning.specs.Expand.{One, Synchronises}
use Rattle.ar_meaning.specs.ExpandImage.{Part_renames, transitions, synchronise}
use Rattle.gts_core.specs.Bound.{event_part_of}
use Rattle.gts_core.specs.declared.bound.Act.{Act, out-Act}
use Rattle.gts_core.specs.declared.bound.DeclaredWay.TheVariants.{Local, Sync}
use Rattle.gts_core.proofs.Numbering.{source_numbered}
use Rattle.class_table.proofs.Laid.{along_append}
use Rattle.class_table.proofs.Taken.{take_next}
use Rattle.hierarchy.specs.Models.{RootedModel}
use Rattle.hierarchy.specs.Units.{UnitPath, Thing}
use Rattle.hierarchy.specs.Listing.{variables, events, forms_at}
use Rattle.hierarchy.specs.Walks.{Finds, is_event}
use Rattle.hierarchy.specs.Tie.{IsTreeOf}
use Rattle.hierarchy.specs.declared.tree.Tree.{Tree}
use Rattle.source_meaning.specs.Acts.{assigns_of}
use Rattle.source_meaning.specs.BoundActs.{IsBoundInstruction}
use Rattle.source_meaning.specs.BoundExpressions.{IsBoundExpression}
use Rattle.source_meaning.specs.Binding as has
use Rattle.source_meaning.specs.Rules.{FindsNone}
use Rattle.source_meaning.specs.Rules as way
use Rattle.bind_scopes.specs.declared.scopes.Scopes.{Scopes}
use Rattle.bind_names.specs.Settled.{AreSettled}
use Rattle.bind_names.specs.declared.all_values.Values.{Values}
use Rattle.source_meaning.specs.Systems.{IsPart}
use Rattle.source_meaning.specs.Systems as is
use Rattle.bind_names.specs.Typed.{IsTypedIn, IsSoundIn}
use Rattle.bind_names.specs.Ways.{IsBoundPart, IsBoundWay}

-- Lists that are made item by item from another list

module _ {A B : Type 0} {R : A → B → Type 0} where
  pub rows_start : (ys : List B) → ys ≡ [] → Along R [] ys
  rows_start ys e = subst (λ (zs : List B). Along R [] zs) (sym e) l.none

  pub rows_more : (xs : List A) (n : ℕ) (x : A) (y : B) (ys zs : List B) → Stands xs n x → Along R (take n xs) ys
      → R x y → zs ≡ ys ++ y ∷ [] → Along R (take (n + 1) xs) zs
  rows_more xs n x y ys zs s k r e =
      subst (λ (ws : List B). Along R (take (n + 1) xs) ws) (sym e)
      (subst (λ (ws : List A). Along R ws (ys ++ y ∷ [])) (sym (take_next xs n x s))
      (along_append _ _ _ _ k (l.one_and r l.none)))

  pub rows_end : (xs : List A) (n : ℕ) (ys : List B) → length xs ≤ n → Along R (take n xs) ys → Along R xs ys
  rows_end xs n ys h k = subst (λ (ws : List A). Along R ws ys) (take_all n xs h) k

-- Parts

-- each part of a synchronisation names an event, where the rule of names is kept
pub parts_named : {m : RootedModel} {units : List UnitPath} {scopes : Scopes} {values : Values}
    → AreSettled m units scopes values → (n : ℕ) (u : UnitPath) → Stands units n u → (x : NameId) (at : Place)
    (parts : Vec Part Global) → IsOneOf (forms_at m u) (member.Sync x at parts) → (p : Part) → IsOneOf parts.items p
    → FindsNone m is_event u p.event → ⊥
parts_named {units = units} st n u here x at parts form p one none =
    st.names.naming p.event.at (way.part x at parts p (one_here units n u here) form one none)

-- a part that names an event, by the event's number
pub part_bound : (m : RootedModel) (units : List UnitPath) (u : UnitPath) (part : Part) (id : EventId) (t : Thing)
    → Stands (events m units) id.n t → Finds m is_event u part.event t → IsBoundPart m units u part (part.must, id)
part_bound m units u part id t number finds = record {
  event = t;
  is = record { must = refl; event = finds };
  number = number;
}

-- Members

module _ (m : RootedModel) (units : List UnitPath) (tree : Tree) (u : UnitPath) where
  pub bound_local : (x : NameId) (at : Place) (guard : RawExpr) (action : Instr) (test : Expr VarId) (act : Act)
      → IsBoundExpression m units u guard test → IsTypedIn tree test Truth
      → IsBoundInstruction m units u (out-Instr action) act → IsSoundIn tree true (out-Act act)
      → IsBoundWay m units tree u (member.Local x at guard action) (Local test act)
  bound_local x at guard action test act e typed i sound = record {
    meaning = One (record { guard = e.meaning; action = assigns_of i.placed });
    is = is.local e.means i.sets;
    numbers = transitions (record {
      guard = source_numbered (variables m units) e.meaning test e.numbers;
      action = i.numbers;
    });
    place = has.local;
    sound = (typed, sound);
  }

  -- the parts' events
  record Parted (parts : List Part) (bound : List (Bool × EventId)) : Type 0 where
    pub named : List (Bool × Thing)
    pub are : Along (IsPart m u) parts named
    pub numbers : Along (Part_renames (λ x n. Stands (events m units) n x)) named (map event_part_of bound)

  parted : (parts : List Part) (bound : List (Bool × EventId)) → Along (IsBoundPart m units u) parts bound
      → Parted parts bound
  parted [] (b ∷ bs) h = elim h [ ]
  parted (p ∷ ps) [] h = elim h [ ]
  parted [] [] l.none = record { named = []; are = l.none; numbers = l.none }
  parted (p ∷ ps) (b ∷ bs) (l.one_and h r) =
      let w = parted ps bs r in
      record {
        named = (b.0, h.event) ∷ w.named;
        are = l.one_and h.is w.are;
        numbers = l.one_and (record { must = refl; key = h.number }) w.numbers;
      }

  pub bound_sync : (x : NameId) (at : Place) (parts : Vec Part Global) (bound : Vec (Bool × EventId) Global)
      → IsTreeOf m units tree → Along (IsBoundPart m units u) parts.items bound.items
      → IsBoundWay m units tree u (member.Sync x at parts) (Sync bound at)
  bound_sync x at parts bound t h =
      let w = parted parts.items bound.items h in
      record {
        meaning = Synchronises w.named;
        is = is.sync w.are;
        numbers = synchronise w.numbers;
        place = has.sync x way.sync;
        sound = λ part o.
            let b = along_back parts.items bound.items h o.place part o.stands in
            let s = stands_within (events m units) part.1.n b.2.event b.2.number in
            let n = along_length (events m units) tree.events.items t.events_are in
            omega (arith, s, n);
      }

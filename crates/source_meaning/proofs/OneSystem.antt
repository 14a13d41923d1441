-- A main block means one system, up to the room that its expressions take.
use Rattle.std.proofs.Common.{◌≡◌, Bool, true, false, List, [], ◌∷◌, ◌++◌, Option, Some, Box, refl, sym, ◌∙◌, ap, subst}
use Rattle.ar_base.specs.Lists.{Stands, AreDifferent, Along}
use Rattle.std.specs.Global.{Global}
use Rattle.ar_base.specs.Lists as along
use Rattle.ar_base.specs.declared.places.Place.{Place}
use Rattle.ar_base.proofs.Items.{along_append}
use Rattle.ar_syntax.specs.declared.instructions.Instr.{Instr}
use Rattle.ar_syntax.specs.declared.members.Part.{Part}
use Rattle.typed_expr.specs.Renames.{Renames}
use Rattle.typed_expr.specs.Renames as r
use Rattle.typed_expr.specs.declared.expr.Expr.{Expr, out-Expr}
use Rattle.typed_expr.specs.declared.expr.Expr.TheOpen.{Variable as Named}
use Rattle.ar_meaning.specs.Systems as s
use Rattle.ar_meaning.specs.Image.{Assign_renames, Conditions_rename, Variable_renames, Expr_renames}
use Rattle.ar_meaning.specs.Image as i
use Rattle.ar_meaning.specs.ImageInside as images
use Rattle.ar_meaning.specs.Expand.{EventDeclaration, Member}
use Rattle.ar_meaning.specs.ExpandInside.{AreKeyedEvents}
use Rattle.ar_meaning.specs.ExpandImage.{Part_renames, transitions, synchronise, Declared_renames}
use Rattle.ar_meaning.specs.ExpandImageInside.{Member_renames}
use Rattle.ar_meaning.proofs.ImageWays.{along_map, events_along}
use Rattle.ar_meaning.proofs.OneRun.{events_same}
use Rattle.ar_meaning.proofs.ImageTurned.{along_turned}
use Rattle.ar_meaning.proofs.ImageFlows.{partner}
use Rattle.ar_meaning.proofs.Found.{same_answer}
use Rattle.class_table.specs.Declaring.{MemberForm}
use Rattle.class_table.specs.Members.{Variable, Observer}
use Rattle.hierarchy.specs.Models.{RootedModel}
use Rattle.hierarchy.specs.TypeDomains.{HasDomain}
use Rattle.hierarchy.specs.Units.{UnitPath, Thing}
use Rattle.source_meaning.proofs.OneDomain.{values_same}
use Rattle.hierarchy.specs.Listing.{In, events}
use Rattle.hierarchy.specs.Settings.{is_state}
use Rattle.source_meaning.specs.Acts.{Conditions, Placed, assigns_of, Sets, skip, assign, tie, conditional, all, Sets_else, no_branch, branch, Sets_all}
use Rattle.source_meaning.specs.Acts as a
use Rattle.written_forms.specs.Parts.{InstrForm}
use Rattle.written_forms.specs.Operands.{level_of}
use Rattle.source_meaning.specs.Means.{Means}
use Rattle.source_meaning.specs.Systems.{IsVariable, IsObserver, AreAsserted, IsPart, IsMember, IsHidden, IsEvent}
use Rattle.source_meaning.specs.SystemsInside.{IsSystemOfUnits}
use Rattle.source_meaning.specs.Systems as b
use Rattle.source_meaning.proofs.OneMeaning.{means_same, value_same, leads_same}

-- the assignments are the same, and stand in the same places
pub record Placed_same (x y : Placed) : Type 0 where
  pub assign : Assign_renames (λ (t u : Thing). t ≡ u) x.assign y.assign
  pub at : x.at ≡ y.at

more_conditions : {cs ds : Conditions} (e f : Expr Thing) (b : Bool) → Conditions_rename (λ (t u : Thing). t ≡ u) cs ds
    → Renames (λ (t u : Thing). t ≡ u) (out-Expr Thing e) (out-Expr Thing f)
    → Conditions_rename (λ (t u : Thing). t ≡ u) (cs ++ (e, b) ∷ []) (ds ++ (f, b) ∷ [])
more_conditions e f b i.none q = i.one_and q i.none
more_conditions e f b (i.one_and p cs) q = i.one_and p (more_conditions e f b cs q)

one_placed : {t u : Thing} {cs ds : Conditions} {e f : Expr Thing} {p : Place} → t ≡ u
    → Conditions_rename (λ (t u : Thing). t ≡ u) cs ds
    → Renames (λ (t u : Thing). t ≡ u) (out-Expr Thing e) (out-Expr Thing f)
    → Placed_same (a.sets t cs e p) (a.sets u ds f p)
one_placed q cs e = record { assign = record { target = q; conditions = cs; value = e }; at = refl }

named_same : (d e : Expr Thing) {t u : Thing} → out-Expr Thing d ≡ Named t → out-Expr Thing e ≡ Named u → t ≡ u
    → Renames (λ (t u : Thing). t ≡ u) (out-Expr Thing d) (out-Expr Thing e)
named_same d e {t = t} {u = u} p q o =
    subst (λ l. Renames (λ (t u : Thing). t ≡ u) (out-Expr Thing d) l) (sym q)
    (subst (λ l. Renames (λ (t u : Thing). t ≡ u) l (Named u)) (sym p) (r.variable o))

one_item : {A : Type 0} {o : Option A} {a b : A} → o ≡ Some a → o ≡ Some b → a ≡ b
one_item p q = cc

pub along_both : {A B C : Type 0} {R : A → B → Type 0} {S : A → C → Type 0} {T : B → C → Type 0}
    → ((a : A) (b : B) (m : C) → R a b → S a m → T b m)
    → {es : List A} {bs : List B} {cs : List C} → Along R es bs → Along S es cs → Along T bs cs
along_both f along.none along.none = along.none
along_both f (along.one_and {a = a} {b = b} r rs) (along.one_and {b = m} q qs) =
    along.one_and (f a b m r q) (along_both f rs qs)

module _ (m : RootedModel) (different : AreDifferent m.declared.symbols) where
  mutual
    pub sets_same : {u : UnitPath} {cs ds : Conditions} {f : InstrForm} {xs ys : List Placed}
        → Conditions_rename (λ (t u : Thing). t ≡ u) cs ds → Sets m u cs f xs → Sets m u ds f ys
        → Along Placed_same xs ys
    sets_same w skip skip = along.none
    sets_same w (assign f d) (assign g e) =
        along.one_and (one_placed (leads_same f.leads g.leads) w (means_same m different d e)) along.none
    sets_same w (tie {d = d} {e = e} f g p q) (tie {d = d'} {e = e'} f' g' p' q') =
        let left = leads_same f.leads f'.leads in
        let right = leads_same g.leads g'.leads in
        along.one_and (one_placed left w (named_same e e' q q' right))
        (along.one_and (one_placed right w (named_same d d' p p' left)) along.none)
    sets_same w (conditional e d x y) (conditional e' d' x' y') =
        let test = means_same m different d d' in
        along_append (sets_same (more_conditions e e' true w test) x x')
        (else_same (more_conditions e e' false w test) y y')
    sets_same w (all x) (all y) = sets_all_same w x y

    else_same : {u : UnitPath} {cs ds : Conditions} {o : Option (Box Instr Global)} {xs ys : List Placed}
        → Conditions_rename (λ (t u : Thing). t ≡ u) cs ds → Sets_else m u cs o xs → Sets_else m u ds o ys
        → Along Placed_same xs ys
    else_same w no_branch no_branch = along.none
    else_same w (branch x) (branch y) = sets_same w x y

    sets_all_same : {u : UnitPath} {cs ds : Conditions} {is : List Instr} {xs ys : List Placed}
        → Conditions_rename (λ (t u : Thing). t ≡ u) cs ds → Sets_all m u cs is xs → Sets_all m u ds is ys
        → Along Placed_same xs ys
    sets_all_same w a.none a.none = along.none
    sets_all_same w (a.one_and x xs) (a.one_and y ys) = along_append (sets_same w x y) (sets_all_same w xs ys)

  pub asserted_same : {is : List (In Instr)} {xs ys : List Placed} → AreAsserted m is xs → AreAsserted m is ys
      → Along Placed_same xs ys
  asserted_same b.none b.none = along.none
  asserted_same (b.one_and x xs) (b.one_and y ys) = along_append (sets_same i.none x y) (asserted_same xs ys)

  -- Variables

  pub variable_same : {units : List UnitPath} → AreDifferent units → (t : Thing) (x y : s.Variable Thing)
      → IsVariable m units t x → IsVariable m units t y
      → Variable_renames (λ (t u : Thing). t ≡ u) x y
  variable_same d t x y p q =
      let what : Variable p.type p.settings ≡ Variable q.type q.settings = one_item p.is q.is in
      let type : p.type ≡ q.type = cc what in
      let domain = subst (λ z. HasDomain m.declared z q.domain) (sym type) q.has_domain in
      let settings : p.settings ≡ q.settings = cc what in
      record {
        key = p.key ∙ sym q.key;
        unit = d.one x.unit y.unit t.unit p.unit q.unit;
        domain = p.values ∙ (values_same different p.has_domain domain ∙ sym q.values);
        is_state = p.state ∙ (ap is_state settings ∙ sym q.state);
        value = value_same m different p.value q.value;
      }

  pub observer_same : (t : Thing) (e f : Expr Thing) → IsObserver m t e → IsObserver m t f
      → Expr_renames (λ (t u : Thing). t ≡ u) e f
  observer_same t e f p q =
      let what : Observer p.type p.written ≡ Observer q.type q.written = one_item p.is q.is in
      let written : p.written ≡ q.written = cc what in
      record {
        renames = means_same m different p.means
            (subst (λ w. Means m t.unit (level_of w) (out-Expr Thing f)) (sym written) q.means);
      }

  -- Events

  part_same : (u : UnitPath) (part : Part) (p q : Bool × Thing) → IsPart m u part p → IsPart m u part q
      → Part_renames (λ (t u : Thing). t ≡ u) p q
  part_same u part p q k h = record { must = sym k.must ∙ h.must; key = leads_same k.event.leads h.event.leads }

  member_same : (u : UnitPath) (f : MemberForm) (y z : Member (s.Transition Thing) Thing) → IsMember m u f y
      → IsMember m u f z
      → Member_renames (λ (t u : Thing). t ≡ u) (λ (t u : Thing). t ≡ u) y z
  member_same u f y z (b.local d k) (b.local e h) =
      transitions (record {
        guard = means_same m different d e;
        action = along_map (λ (p : Placed). p.assign) (λ (p : Placed). p.assign) (λ p q g. g.assign)
            (sets_same i.none k h);
      })
  member_same u f y z (b.sync k) (b.sync h) = synchronise (along_both (part_same u) k h)

  pub event_same : {units : List UnitPath} → AreDifferent units → (t : Thing) (d e : EventDeclaration (s.Transition Thing)
      Thing) → IsEvent m units t d → IsEvent m units t e
      → Declared_renames (λ (t u : Thing). t ≡ u) (λ (t u : Thing). t ≡ u) d e
  event_same {units = units} k t d e p q = record {
    key = p.key ∙ sym q.key;
    unit = k.one d.unit e.unit t.unit p.unit q.unit;
    hidden = same_answer (IsHidden m units t) d.hidden e.hidden p.hidden q.hidden;
    members = along_both (member_same t.unit) p.members q.members;
  }

  keyed : {units : List UnitPath} {ds : List (EventDeclaration (s.Transition Thing) Thing)} → AreDifferent (events m
      units) → Along (IsEvent m units) (events m units) ds → AreKeyedEvents ds
  keyed {units = units} different_events a = record {
    one = λ j n d e p q k.
        let back = along_turned
        {S = λ (d : EventDeclaration (s.Transition Thing) Thing) (t : Thing). IsEvent m units t d}
        (λ t d h. h) a in
        let x = partner back j d p in
        let y = partner back n e q in
        let same : x.item ≡ y.item = sym x.related.key ∙ (k ∙ y.related.key) in
        different_events.one j n x.item x.stands (subst (λ t. Stands (events m units) n t) (sym same) y.stands);
  }

  pub system_same : {units : List UnitPath} {x y : s.System Thing} → AreDifferent units → AreDifferent (events m units)
      → IsSystemOfUnits m units x → IsSystemOfUnits m units y
      → images.IsImage (λ (t u : Thing). t ≡ u) x y
  system_same {units = units} {x = x} {y = y} du de p q =
      let a = p.are in
      let e = q.are in
      let declared = along_both (event_same du) a.events e.events in
      let placed = asserted_same a.asserted e.asserted in
      let asserted = along_map (λ (z : Placed). z.assign) (λ (z : Placed). z.assign) (λ z w k. k.assign) placed in
      let from_right = subst (λ zs. Along (Assign_renames (λ (t u : Thing). t ≡ u)) (assigns_of a.placed) zs)
      (sym e.assertions) asserted in
      let assertions = subst (λ zs. Along (Assign_renames (λ (t u : Thing). t ≡ u)) zs q.declarations.net.assertions)
      (sym a.assertions) from_right in
      let net : images.IsNetImage (λ (t u : Thing). t ≡ u) p.declarations.net q.declarations.net = record {
        variables = along_both (variable_same du) a.variables e.variables;
        assertions = assertions;
        one = λ t u v g h. sym g ∙ h;
        one_back = λ t u v g h. g ∙ sym h;
      } in
      let left = subst (λ n. images.IsNetImage (λ (t u : Thing). t ≡ u) n q.declarations.net) (sym p.has.net) net in
      let there = events_along (λ (t u : Thing). t ≡ u) (λ (t u : Thing). t ≡ u) p.declarations.events
      q.declarations.events declared
      (λ t u v g h. sym g ∙ h) declared p.has.events in
      let observed = along_both observer_same a.observers e.observers in
      let observed_right = subst (λ os. Along (Expr_renames (λ (t u : Thing). t ≡ u)) p.declarations.observers os)
      (sym q.has.observers) observed in
      record {
        net = subst (λ n. images.IsNetImage (λ (t u : Thing). t ≡ u) x.net n) (sym q.has.net) left;
        events = subst (λ ws. Along (i.Event_renames (λ (t u : Thing). t ≡ u)) x.events ws)
            (events_same q.declarations.events (keyed de e.events) there.1 q.has.events) there.2;
        observers = subst (λ os. Along (Expr_renames (λ (t u : Thing). t ≡ u)) os y.observers) (sym p.has.observers)
            observed_right;
      }

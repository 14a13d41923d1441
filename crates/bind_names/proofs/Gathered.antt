-- Events that are given their ways member by member.
use Rattle.std.proofs.Common.{◌≡◌, ℕ, zero, suc, ◌+◌, ◌<◌, ◌≤◌, ◌==◌, ◌⊎◌, inl, inr, true, false, List, [], ◌∷◌, ◌++◌, filter, length, set, refl, sym, ◌∙◌, ap, subst, arith, length-set, append_assoc}
use Rattle.std.proofs.lemmas.List.Elements.{filter-append}
use Rattle.std.proofs.lemmas.List.{append-nil}
use Rattle.ar_base.specs.Lists.{Stands, Along, AreDifferent, none, one_and}
use Rattle.ar_base.proofs.Standing.{stands_one, stands_within, along_on, along_length}
use Rattle.ar_base.proofs.Comparing.{side}
use Rattle.ar_base.proofs.Items.{stands_set, along_by}
use Rattle.ar_syntax.specs.declared.paths.PathStart.TheVariants.{Here}
use Rattle.gts_core.specs.declared.bound.DeclaredEvent.{DeclaredEvent}
use Rattle.gts_core.specs.declared.bound.DeclaredWay.{DeclaredWay}
use Rattle.class_table.specs.Declaring.{MemberForm}
use Rattle.class_table.proofs.Laid.{along_append}
use Rattle.hierarchy.specs.Models.{RootedModel}
use Rattle.hierarchy.specs.Units.{UnitPath, Thing}
use Rattle.hierarchy.specs.Walks.{IsThingAt, LeadsTo, thing, is_event}
use Rattle.hierarchy.specs.Listing.{events, forms_at, is_way_of, things_in}
use Rattle.hierarchy.specs.Tie.{IsTreeOf}
use Rattle.hierarchy.specs.declared.tree.Tree.{Tree}
use Rattle.hierarchy.proofs.Apart.{units_different}
use Rattle.hierarchy.proofs.Finding.{same_or_not}
use Rattle.hierarchy.proofs.Things.{flat_origin, listed_has}
use Rattle.source_meaning.proofs.Different.{things_different}
use Rattle.bind_scopes.proofs.NamedPaths.{name_leads, name_only}
use Rattle.bind_names.specs.Bound.{IsBoundEvent}
use Rattle.bind_names.specs.Ways.{IsBoundWay}
use Rattle.bind_names.specs.Gathering.{IsHead, HasWays, HasWaysAt, PutsWay, PutsWayIn, there, nowhere, AddsMembers}
use Rattle.bind_names.proofs.Whole.{bound_event}

-- a thing by its unit and name
both : (v w : UnitPath) (x y : ℕ) → v ≡ w → x ≡ y
    → ◌≡◌ {A = Thing} (record { unit = v; name = x }) (record { unit = w; name = y })
both v w x y e i = cc

-- Lists

stands_set_else : {A : Type 0} (xs : List A) (i : ℕ) (v : A) (k : ℕ) (a : A) → (k ≡ i → ⊥) → Stands xs k a
    → Stands (set xs i v) k a
stands_set_else [] i v k a d s = s
stands_set_else (x ∷ xs) zero v zero a d s = absurd (d refl)
stands_set_else (x ∷ xs) zero v (suc k) a d s = s
stands_set_else (x ∷ xs) (suc i) v zero a d s = s
stands_set_else (x ∷ xs) (suc i) v (suc k) a d s = stands_set_else xs i v k a (λ e. d (ap (λ (z : ℕ). suc z) e)) s

module _ (m : RootedModel) (units : List UnitPath) (tree : Tree) where
  -- the ways stay where the members that are added are no ways of the event
  more : (list : List DeclaredEvent) (n : ℕ) (t : Thing) (before forms : List MemberForm)
      → filter (is_way_of t.name) forms ≡ [] → HasWaysAt m units tree list n t before
      → HasWaysAt m units tree list n t (before ++ forms)
  more list n t before forms e h = record {
    event = h.event;
    stands = h.stands;
    has = record {
      head = h.has.head;
      few = h.has.few;
      ways = subst (λ (fs : List MemberForm). Along (IsBoundWay m units tree t.unit) fs h.event.ways.items)
          (sym (filter-append (is_way_of t.name) before forms
          ∙ (ap (λ (fs : List MemberForm). filter (is_way_of t.name) before ++ fs) e
          ∙ append-nil (filter (is_way_of t.name) before)))) h.has.ways;
    };
  }

  -- members that are no ways of events of the unit
  pub members_idle : (u : UnitPath) (forms : List MemberForm) (list : List DeclaredEvent)
      → ((n : ℕ) (t : Thing) → Stands (events m units) n t → t.unit ≡ u → filter (is_way_of t.name) forms ≡ [])
      → AddsMembers m units tree u forms list list
  members_idle u forms list e = record {
    same = refl;
    added = λ n t before st q h. more list n t before forms (e n t st q) h;
    kept = λ n t before st q h. h;
  }

  pub no_way : (x : ℕ) (f : MemberForm) → is_way_of x f ≡ false → filter (is_way_of x) (f ∷ []) ≡ []
  no_way x f e = rw e refl

  one_way : (x : ℕ) (f : MemberForm) → is_way_of x f ≡ true → filter (is_way_of x) (f ∷ []) ≡ f ∷ []
  one_way x f e = rw e refl

  -- some members after others
  pub members_join : (u : UnitPath) (fs gs hs : List MemberForm) (old mid new : List DeclaredEvent) → hs ≡ fs ++ gs
      → AddsMembers m units tree u fs old mid → AddsMembers m units tree u gs mid new
      → AddsMembers m units tree u hs old new
  members_join u fs gs hs old mid new e h k = record {
    same = k.same ∙ h.same;
    added = λ n t before st q w. subst (λ (zs : List MemberForm). HasWaysAt m units tree new n t zs)
        (append_assoc before fs gs ∙ ap (λ (zs : List MemberForm). before ++ zs) (sym e))
        (k.added n t (before ++ fs) st q (h.added n t before st q w));
    kept = λ n t before st q w. k.kept n t before st q (h.kept n t before st q w);
  }

  -- a member that is a way of the event x of the unit
  module _ (u : UnitPath) (f : MemberForm) (x : ℕ) (w : DeclaredWay) (k : ℕ) (old new : List DeclaredEvent)
      (different : AreDifferent (events m units)) (at : Stands (events m units) k (thing u x))
      (names : (y : ℕ) → is_way_of y f ≡ (x == y)) (bound : IsBoundWay m units tree u f w)
      (p : PutsWay k w old new) where
    -- its event
    abbrev pub this : DeclaredEvent
    this = record p.event { ways = p.ways }

    stays : (n : ℕ) (t : Thing) (before : List MemberForm) → (n ≡ k → ⊥) → HasWaysAt m units tree old n t before
        → HasWaysAt m units tree new n t before
    stays n t before d h = record {
      event = h.event;
      stands = subst (λ (zs : List DeclaredEvent). Stands zs n h.event) (sym p.new_is)
          (stands_set_else old k this n h.event d h.stands);
      has = h.has;
    }

    grows : (t : Thing) (before : List MemberForm) → t ≡ thing u x → HasWaysAt m units tree old k t before
        → HasWaysAt m units tree new k t (before ++ f ∷ [])
    grows t before q h =
        let e : h.event ≡ p.event = stands_one old k h.event p.event h.stands p.stands in
        let unit : t.unit ≡ u = ap (λ (z : Thing). z.unit) q in
        let name : t.name ≡ x = ap (λ (z : Thing). z.name) q in
        let is : is_way_of t.name f ≡ true = names t.name ∙ itself t.name (sym name) in
        let forms : filter (is_way_of t.name) (before ++ f ∷ []) ≡ filter (is_way_of t.name) before ++ f ∷ [] =
        filter-append (is_way_of t.name) before (f ∷ [])
        ∙ ap (λ (fs : List MemberForm). filter (is_way_of t.name) before ++ fs) (one_way t.name f is) in
        let head : IsHead m units t p.event = subst (λ (z : DeclaredEvent). IsHead m units t z) e h.has.head in
        let ways : Along (IsBoundWay m units tree t.unit) (filter (is_way_of t.name) before) p.event.ways.items =
        subst (λ (z : DeclaredEvent). Along (IsBoundWay m units tree t.unit) (filter (is_way_of t.name) before)
        z.ways.items) e h.has.ways in
        let here : IsBoundWay m units tree t.unit f w =
        subst (λ (v : UnitPath). IsBoundWay m units tree v f w) (sym unit) bound in
        let all : Along (IsBoundWay m units tree t.unit) (filter (is_way_of t.name) before ++ f ∷ [])
        (p.event.ways.items ++ w ∷ []) =
        along_append (filter (is_way_of t.name) before) p.event.ways.items (f ∷ []) (w ∷ []) ways (one_and here none) in
        record {
          event = this;
          stands = subst (λ (zs : List DeclaredEvent). Stands zs k this) (sym p.new_is)
              (stands_set old k this (stands_within old k p.event p.stands));
          has = record {
            head = record { path = head.path; unit = head.unit; hidden = head.hidden };
            few = p.few;
            ways = subst (λ (ws : List DeclaredWay). Along (IsBoundWay m units tree t.unit)
                (filter (is_way_of t.name) (before ++ f ∷ [])) ws) (sym p.is)
                (subst (λ (fs : List MemberForm). Along (IsBoundWay m units tree t.unit) fs
                (p.event.ways.items ++ w ∷ [])) (sym forms) all);
          };
        }
      where
        itself : (y : ℕ) → x ≡ y → (x == y) ≡ true
        itself y e = elim (same_or_not x y) [ inl a ↦ a.0 | inr b ↦ absurd (b.1 e) ]

    -- the event of this name
    is_it : (t : Thing) → t.unit ≡ u → t.name ≡ x → t ≡ thing u x
    is_it t a b = both t.unit u t.name x a b

    elsewhere : (n : ℕ) (t : Thing) → Stands (events m units) n t → (n ≡ k → ⊥) → t.unit ≡ u
        → is_way_of t.name f ≡ false
    elsewhere n t st d q = elim (same_or_not x t.name) [
      | inl a ↦ absurd (d (different.one n k t st
          (subst (λ (z : Thing). Stands (events m units) k z) (sym (is_it t q (sym a.1))) at)))
      | inr b ↦ names t.name ∙ b.0
    ]

    members_one : AddsMembers m units tree u (f ∷ []) old new
    members_one = record {
      same = ap (λ (zs : List DeclaredEvent). length zs) p.new_is ∙ length-set old k this;
      added = added;
      kept = λ n t before st q h. stays n t before
          (λ (e : n ≡ k). q (ap (λ (z : Thing). z.unit)
          (stands_one (events m units) k t (thing u x) (subst (λ (z : ℕ). Stands (events m units) z t) e st) at)))
          h;
    }
      where
        added : (n : ℕ) (t : Thing) (before : List MemberForm) → Stands (events m units) n t → t.unit ≡ u
            → HasWaysAt m units tree old n t before → HasWaysAt m units tree new n t (before ++ f ∷ [])
        added n t before st q h = elim (same_or_not n k) [
          | inl a ↦
              let e : k ≡ n = sym a.1 in
              let s = subst (λ (z : ℕ). Stands (events m units) z t) a.1 st in
              subst (λ (z : ℕ). HasWaysAt m units tree new z t (before ++ f ∷ [])) e
              (grows t before (stands_one (events m units) k t (thing u x) s at)
              (subst (λ (z : ℕ). HasWaysAt m units tree old z t before) a.1 h))
          | inr b ↦ more new n t before (f ∷ []) (no_way t.name f (elsewhere n t st b.1 q)) (stays n t before b.1 h)
        ]

  -- a member that is a way of no event of the unit
  pub members_unnamed : IsTreeOf m units tree → (u : UnitPath) (f : MemberForm) (x : ℕ) (list : List DeclaredEvent)
      → ((t : Thing) → IsThingAt m is_event u Here (x ∷ []) t → ⊥)
      → ((y : ℕ) → is_way_of y f ≡ (x == y)) → AddsMembers m units tree u (f ∷ []) list list
  members_unnamed is u f x list nothing names =
      members_idle u (f ∷ []) list (λ n t st q. no_way t.name f (names t.name ∙ apart n t st q))
    where
      is_it : (t : Thing) → t.unit ≡ u → t.name ≡ x → t ≡ thing u x
      is_it t a b = both t.unit u t.name x a b

      apart : (n : ℕ) (t : Thing) → Stands (events m units) n t → t.unit ≡ u → (x == t.name) ≡ false
      apart n t st q = elim (same_or_not x t.name) [
        | inl a ↦
            let o = flat_origin (things_in is_event m) units n t st in
            let leads = subst (λ (z : Thing). LeadsTo m u Here (x ∷ []) z) (sym (is_it t q (sym a.1)))
            (name_leads x refl refl) in
            absurd (nothing t (record { leads = leads; has = listed_has m is_event is.table.kept o.item t o.is_one }))
        | inr b ↦ b.0
      ]

  -- a member that is a way of an event that was found
  pub members_named : IsTreeOf m units tree
      → (u : UnitPath) (f : MemberForm) (x : ℕ) (w : DeclaredWay) (k : ℕ) (old new : List DeclaredEvent) (t : Thing)
      → Stands (events m units) k t
      → IsThingAt m is_event u Here (x ∷ []) t → ((y : ℕ) → is_way_of y f ≡ (x == y)) → IsBoundWay m units tree u f w
      → PutsWayIn k w old new → AddsMembers m units tree u (f ∷ []) old new
  members_named is u f x w k old new t st h names bound p = by p
    where
      at : Stands (events m units) k (thing u x)
      at = subst (λ (z : Thing). Stands (events m units) k z) (name_only x refl refl t h.leads) st

      -- without the event nothing is told of it
      lost : length old ≤ k → AddsMembers m units tree u (f ∷ []) old old
      lost l = record {
        same = refl;
        added = λ n s before i q g. elim (same_or_not n k) [
          | inl a ↦ let w = stands_within old n g.event g.stands in let e = a.1 in absurd (omega (arith, l, w, e))
          | inr b ↦ more old n s before (f ∷ []) (no_way s.name f (elsewhere_of n s i b.1 q)) g
        ];
        kept = λ n s before i q g. g;
      }
        where
          elsewhere_of : (n : ℕ) (s : Thing) → Stands (events m units) n s → (n ≡ k → ⊥) → s.unit ≡ u
              → is_way_of s.name f ≡ false
          elsewhere_of n s i d q = elim (same_or_not x s.name) [
            | inl a ↦ absurd (d ((things_different m is_event units is.table.kept is.are_units).one n k s i
                (subst (λ (z : Thing). Stands (events m units) k z) (sym (both s.unit u s.name x q (sym a.1))) at)))
            | inr b ↦ names s.name ∙ b.0
          ]

      by : PutsWayIn k w old new → AddsMembers m units tree u (f ∷ []) old new
      by (there q) = members_one u f x w k old new (things_different m is_event units is.table.kept is.are_units) at
          names bound q
      by (nowhere l same) = subst (λ (z : List DeclaredEvent). AddsMembers m units tree u (f ∷ []) old z) (sym same) (lost l)

-- Units

-- the events of the first i units have their ways, and the others have none yet
pub record AreFilled (m : RootedModel) (units : List UnitPath) (tree : Tree) (i : ℕ) (list : List DeclaredEvent) : Type
    0 where
  pub same : length list ≡ length (events m units)
  pub done : (n : ℕ) (t : Thing) (k : ℕ) → Stands (events m units) n t → Stands units k t.unit → k < i
      → HasWaysAt m units tree list n t (forms_at m t.unit)
  pub left : (n : ℕ) (t : Thing) (k : ℕ) → Stands (events m units) n t → Stands units k t.unit → i ≤ k
      → HasWaysAt m units tree list n t []

module _ (m : RootedModel) (units : List UnitPath) (tree : Tree) (is : IsTreeOf m units tree) where
  pub filled_none : (list : List DeclaredEvent) → Along (HasWays m units tree []) (events m units) list
      → AreFilled m units tree 0 list
  filled_none list a = record {
    same = sym (along_length (events m units) list a);
    done = λ n t k st at l. absurd (omega (arith, l));
    left = λ n t k st at l. let w = along_on (events m units) list a n t st in record { event = w.0; stands = w.1; has = w.2 };
  }

  pub filled_more : (i : ℕ) (u : UnitPath) (old new : List DeclaredEvent) → Stands units i u
      → AreFilled m units tree i old → AddsMembers m units tree u (forms_at m u) old new
      → AreFilled m units tree (i + 1) new
  filled_more i u old new at h a = record {
    same = a.same ∙ h.same;
    done = λ n t k st s l. before n t k st s l (side i k);
    left = λ n t k st s l. a.kept n t [] st (λ (e : t.unit ≡ u). let j = place k t s e in omega (arith, j, l)) (h.left n t k st s (omega (arith, l)));
  }
    where
      -- the unit stands at one place
      place : (k : ℕ) (t : Thing) → Stands units k t.unit → t.unit ≡ u → k ≡ i
      place k t s e = (units_different is.table.kept is.are_units).one k i t.unit s
          (subst (λ (v : UnitPath). Stands units i v) (sym e) at)

      before : (n : ℕ) (t : Thing) (k : ℕ) → Stands (events m units) n t → Stands units k t.unit → k < i + 1
          → (i ≤ k) ⊎ (k < i) → HasWaysAt m units tree new n t (forms_at m t.unit)
      before n t k st s l (inl g) =
          let j : k ≡ i = omega (arith, l, g) in
          let e : t.unit ≡ u = stands_one units i t.unit u (subst (λ (z : ℕ). Stands units z t.unit) j s) at in
          subst (λ (v : UnitPath). HasWaysAt m units tree new n t (forms_at m v)) (sym e)
          (a.added n t [] st e (h.left n t k st s g))
      before n t k st s l (inr g) = a.kept n t (forms_at m t.unit) st (λ (e : t.unit ≡ u). let j = place k t s e in omega (arith, j, g)) (h.done n t k st s g)

  pub filled_all : (i : ℕ) (list : List DeclaredEvent) → length units ≤ i → AreFilled m units tree i list
      → Along (IsBoundEvent m units tree) (events m units) list
  filled_all i list l h = along_by (IsBoundEvent m units tree) (events m units) list (sym h.same) whole
    where
      whole : (n : ℕ) (t : Thing) (e : DeclaredEvent) → Stands (events m units) n t → Stands list n e
          → IsBoundEvent m units tree t e
      whole n t e st s =
          let d = along_on (events m units) tree.events.items is.events_are n t st in
          let unit = d.2.node.unit in
          let w = h.done n t d.0.unit.n st unit (let r = stands_within units d.0.unit.n t.unit unit in omega (arith, r, l)) in
          let q : w.event ≡ e = stands_one list n w.event e w.stands s in
          subst (λ (z : DeclaredEvent). IsBoundEvent m units tree t z) q
          (bound_event m units tree t w.event is w.has.head.unit w.has.head.path w.has.head.hidden w.has.ways
          w.has.few)

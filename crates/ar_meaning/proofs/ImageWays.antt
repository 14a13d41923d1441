-- Declared events that differ in what stands for transitions and events have ways that differ in what stands for
-- transitions.
use Rattle.std.proofs.Common.{◌≡◌, ℕ, zero, suc, Bool, List, [], ◌∷◌, ◌++◌, map, slice_get, inl, inr, refl, sym, ◌∙◌, subst}
use Rattle.ar_base.specs.Lists.{Stands, IsOneOf, Along}
use Rattle.ar_base.specs.Lists as l
use Rattle.ar_base.proofs.Items.{along_append}
use Rattle.ar_base.proofs.Standing.{along_length}
use Rattle.ar_meaning.specs.Systems.{Transition, Tree, Branches, Leaf, Joint, Empty, Branch, Event}
use Rattle.ar_meaning.specs.Expand.{EventDeclaration, Member, Synchronises, Ways, event, Members_give, no_member, one, synchronises, Parts_give, no_part, choice, choices, HasPart, ReachesPart, part_of, further, LeadsBack, IsExpanded}
use Rattle.ar_meaning.specs.ExpandInside.{AreKeyedEvents}
use Rattle.ar_meaning.specs.ExpandImage.{Part_renames, Member_along, transitions, synchronise, Declared_along, Declared_renames}
use Rattle.ar_meaning.specs.Image.{Trees_along, leaves, joints, Branches_along, no_branch, branch, Transition_renames, Event_renames}
use Rattle.ar_meaning.specs.TraceText.{ways_of}
use Rattle.typed_expr.specs.PairsInside.{turned_pairs}
use Rattle.ar_meaning.proofs.ImageTurned.{along_turned, transition_turned, event_turned}
use Rattle.ar_meaning.proofs.ImageFlows.{partner}

pub along_map : {A B C D : Type 0} {R : A → B → Type 0} {S : C → D → Type 0} (f : A → C) (g : B → D)
    → ((a : A) (b : B) → R a b → S (f a) (g b))
    → {xs : List A} {ys : List B} → Along R xs ys → Along S (map f xs) (map g ys)
along_map f g k l.none = l.none
along_map f g k (l.one_and {a = a} {b = b} r rs) = l.one_and (k a b r) (along_map f g k rs)

-- related choices
module _ {L M : Type 0} (same : L → M → Type 0) where
  pub choices_along : (must : Bool) {ts : List (Tree L)} {us : List (Tree M)} {bss : List (Branches L)}
      {css : List (Branches M)}
      → Along (Trees_along same) ts us
      → Along (Branches_along same) bss css → Along (Branches_along same) (choices must ts bss) (choices must us css)
  choices_along m l.none d = l.none
  choices_along m (l.one_and {a = t} {b = u} r rs) d =
      along_append (along_map (λ bs. Branch m t bs) (λ cs. Branch m u cs) (λ bs cs q. branch r q) d)
      (choices_along m rs d)

-- the ways here give ways there
module _ {L M E F : Type 0} (same : L → M → Type 0) (event_same : E → F → Type 0) (ds : List (EventDeclaration L E))
    (es : List (EventDeclaration M F))
    (related : Along (Declared_along same event_same) ds es)
    (single : (x : E) (y z : F) → event_same x y → event_same x z → y ≡ z) where
  mutual
    pub ways_along : {e : E} {f : F} {ts : List (Tree L)} → event_same e f → Ways ds e ts
        → (us : List (Tree M)) × Ways es f us × Along (Trees_along same) ts us
    ways_along {e = e} {f = f} s (event {d = d} n at k m) =
        let p = partner related n d at in
        let a : p.item.key ≡ f = single e p.item.key f (subst (λ z. event_same z p.item.key) k p.related.key) s in
        let r = members_along p.related.members m in
        (r.0, event n p.stands a r.1, r.2)

    pub members_along : {ms : List (Member L E)} {ns : List (Member M F)} {ts : List (Tree L)}
        → Along (Member_along same event_same) ms ns → Members_give ds ms ts
        → (us : List (Tree M)) × Members_give es ns us × Along (Trees_along same) ts us
    members_along l.none no_member = ([], no_member, l.none)
    members_along (l.one_and (transitions {e = m} q) rs) (one d) =
        let r = members_along rs d in
        (Leaf m ∷ r.0, one r.1, l.one_and (leaves q) r.2)
    members_along (l.one_and (synchronise q) rs) (synchronises p d) =
        let o = parts_along q p in
        let r = members_along rs d in
        (map Joint o.0 ++ r.0, synchronises o.1 r.1, along_append (along_map Joint Joint (λ bs cs k. joints k) o.2) r.2)

    pub parts_along : {ps : List (Bool × E)} {qs : List (Bool × F)} {bss : List (Branches L)}
        → Along (Part_renames event_same) ps qs → Parts_give ds ps bss
        → (css : List (Branches M)) × Parts_give es qs css × Along (Branches_along same) bss css
    parts_along l.none no_part = (Empty ∷ [], no_part, l.one_and no_branch l.none)
    parts_along (l.one_and {b = (k, f)} r rs) (choice {must = m} {ts = ts} {bss = bss} w p) =
        let v = ways_along r.key w in
        let o = parts_along rs p in (
          choices k v.0 o.0,
          choice v.1 o.1,
          subst
              (λ z. Along (Branches_along same) (choices m ts bss) (choices z v.0 o.0)) r.must
              (choices_along same m v.2 o.2),
        )

  -- a part there for a part here
  pub record Part_there (d : F) (e : E) : Type 0 where
    pub part : F
    pub alike : event_same e part
    pub has : HasPart es d part

  parts_of : {ps : List (Bool × E)} {n : Member M F} → Member_along same event_same (Synchronises ps) n
      → (qs : List (Bool × F)) × (n ≡ Synchronises qs) × Along (Part_renames event_same) ps qs
  parts_of (synchronise {qs = qs} r) = (qs, refl, r)

  one_part : (qs : List (Bool × F)) (n : ℕ) (q : Bool × F) → Stands qs n q → IsOneOf qs (q.0, q.1)
  one_part qs n (m, f) s = record { place = n; stands = s }

  pub part_there : {d e : E} {d' : F} → event_same d d' → HasPart ds d e → Part_there d' e
  part_there {d = d} {e = e} {d' = d'} s h =
      let p = partner related h.place h.declared h.stands in
      let m = partner p.related.members h.is_member.place (Synchronises h.parts) h.is_member.stands in
      let k : p.item.key ≡ d' =
      single d p.item.key d' (subst (λ z. event_same z p.item.key) h.is_key p.related.key) s in
      let qs = parts_of m.related in
      let q = partner qs.2 h.is_part.place (h.must, e) h.is_part.stands in
      record {
        part = q.item.1;
        alike = q.related.key;
        has = record {
          place = h.place;
          declared = p.item;
          stands = p.stands;
          is_key = k;
          parts = qs.0;
          is_member =
              record {
                place = h.is_member.place;
                stands = subst (λ z. Stands p.item.members h.is_member.place z) qs.1 m.stands;
              };
          must = q.item.0;
          is_part = one_part qs.0 h.is_part.place q.item q.stands;
        };
      }

  pub reaches_there : {d e : E} {d' e' : F} → event_same d d' → event_same e e' → ReachesPart ds d e
      → ReachesPart es d' e'
  reaches_there {d' = d'} {e' = e'} s r (part_of {e = e} h) =
      let p = part_there s h in part_of (subst (λ z. HasPart es d' z) (single e p.part e' p.alike r) p.has)
  reaches_there s r (further h d) = let p = part_there s h in further p.has (reaches_there p.alike r d)

  pub leads_there : {e : E} {f : F} {k : ℕ} → event_same e f → LeadsBack ds e k → LeadsBack es f k
  leads_there {e = e} {f = f} {k = k} s h =
      let p = partner related h.place h.declared h.stands in
      let m = partner p.related.members k (Synchronises h.parts) h.is_member in
      let i : p.item.key ≡ f = single e p.item.key f (subst (λ z. event_same z p.item.key) h.is_key p.related.key) s in
      let qs = parts_of m.related in
      let q = partner qs.2 h.is_part.place (h.must, h.part) h.is_part.stands in
      record {
        place = h.place;
        declared = p.item;
        stands = p.stands;
        is_key = i;
        parts = qs.0;
        is_member = subst (λ z. Stands p.item.members k z) qs.1 m.stands;
        must = q.item.0;
        part = q.item.1;
        is_part = one_part qs.0 h.is_part.place q.item q.stands;
        back = elim h.back [
          | inl j ↦ inl (single e q.item.1 f (subst (λ z. event_same z q.item.1) j q.related.key) s)
          | inr r ↦ inr (reaches_there q.related.key s r)
        ];
      }

  -- where no two events there have one key, no two here have
  pub keyed_back : AreKeyedEvents es → AreKeyedEvents ds
  keyed_back k = record {
    one = λ m n d e s r i.
        let p = partner related m d s in
        let q = partner related n e r in
        k.one m n p.item q.item p.stands q.stands
        (single d.key p.item.key q.item.key p.related.key (subst (λ z. event_same z q.item.key) (sym i) q.related.key));
  }

-- turned round
module _ {L M E F : Type 0} (same : L → M → Type 0) (event_same : E → F → Type 0) where
  part_turned : (p : Bool × E) (q : Bool × F) → Part_renames event_same p q → Part_renames (turned_pairs event_same) q p
  part_turned p q r = record { must = sym r.must; key = r.key }

  member_turned : (m : Member L E) (n : Member M F) → Member_along same event_same m n
      → Member_along (turned_pairs same) (turned_pairs event_same) n m
  member_turned m n (transitions q) = transitions q
  member_turned m n (synchronise q) = synchronise (along_turned part_turned q)

  pub declared_turned : (d : EventDeclaration L E) (e : EventDeclaration M F) → Declared_along same event_same d e
      → Declared_along (turned_pairs same) (turned_pairs event_same) e d
  declared_turned d e r = record {
    key = r.key;
    unit = sym r.unit;
    hidden = sym r.hidden;
    members = along_turned member_turned r.members;
  }

  mutual
    pub trees_turned : {t : Tree L} {u : Tree M} → Trees_along (turned_pairs same) u t → Trees_along same t u
    trees_turned (leaves q) = leaves q
    trees_turned (joints q) = joints (branches_turned q)

    pub branches_turned : {bs : Branches L} {cs : Branches M} → Branches_along (turned_pairs same) cs bs
        → Branches_along same bs cs
    branches_turned no_branch = no_branch
    branches_turned (branch q qs) = branch (trees_turned q) (branches_turned qs)

  -- the ways there are given by ways here
  pub ways_back : (ds : List (EventDeclaration L E)) (es : List (EventDeclaration M F)) → Along (Declared_along same
      event_same) ds es → ((x y : E) (z : F) → event_same x z → event_same y z → x ≡ y)
      → {e : E} {f : F} {us : List (Tree M)} → event_same e f → Ways es f us
      → (ts : List (Tree L)) × Ways ds e ts × Along (Trees_along same) ts us
  ways_back ds es related single s w =
      let r =
      ways_along (turned_pairs same) (turned_pairs event_same) es ds (along_turned declared_turned related)
      (λ z x y p q. single x y z p q) s w in
      (r.0, r.1, along_turned (λ u t q. trees_turned q) r.2)

  pub leads_back : (ds : List (EventDeclaration L E)) (es : List (EventDeclaration M F)) → Along (Declared_along same
      event_same) ds es → ((x y : E) (z : F) → event_same x z → event_same y z → x ≡ y)
      → {e : E} {f : F} {k : ℕ} → event_same e f → LeadsBack es f k → LeadsBack ds e k
  leads_back ds es related single s h =
      leads_there (turned_pairs same) (turned_pairs event_same) es ds (along_turned declared_turned related)
      (λ z x y p q. single x y z p q) s h

-- events of systems, here and there
module _ {V W E F : Type 0} (same : V → W → Type 0) (event_same : E → F → Type 0)
    (ds : List (EventDeclaration (Transition V) E)) (es : List (EventDeclaration (Transition W) F))
    (related : Along (Declared_renames same event_same) ds es)
    (single : (x : E) (y z : F) → event_same x y → event_same x z → y ≡ z) where
  pub events_along : {ds' : List (EventDeclaration (Transition V) E)} {es' : List (EventDeclaration (Transition W) F)}
      {vs : List (Event V)}
      → Along (Declared_renames same event_same) ds' es' → Along (IsExpanded ds) ds' vs
      → (ws : List (Event W)) × Along (IsExpanded es) es' ws × Along (Event_renames same) vs ws
  events_along l.none l.none = ([], l.none, l.none)
  events_along (l.one_and {b = e} r rs) (l.one_and {b = v} x xs) =
      let w = ways_along (Transition_renames same) event_same ds es related single r.key x.ways in
      let o = events_along rs xs in (
        record { unit = e.unit; hidden = e.hidden; ways = w.0 } ∷ o.0,
        l.one_and (record { unit = refl; hidden = refl; ways = w.1 }) o.1,
        l.one_and (record { unit = sym x.unit ∙ r.unit; hidden = sym x.hidden ∙ r.hidden; ways = w.2 }) o.2,
      )

-- the events there are given by events here
pub events_back : {V W E F : Type 0} (same : V → W → Type 0) (event_same : E → F → Type 0)
    (ds : List (EventDeclaration (Transition V) E)) (es : List (EventDeclaration (Transition W) F))
    → Along (Declared_renames same event_same) ds es → ((x y : E) (z : F) → event_same x z → event_same y z → x ≡ y)
    → {ws : List (Event W)} → Along (IsExpanded es) es ws
    → (vs : List (Event V)) × Along (IsExpanded ds) ds vs × Along (Event_renames same) vs ws
events_back {V = V} {W = W} {E = E} {F = F} same event_same ds es related single x =
    let behind : Along (Declared_renames (turned_pairs same) (turned_pairs event_same)) es ds = along_turned back related in
    let r = events_along (turned_pairs same) (turned_pairs event_same) es ds behind (λ z x y p q. single x y z p q) behind x in
    (r.0, r.1, along_turned (event_turned (turned_pairs same)) r.2)
  where
    member_back : (m : Member (Transition V) E) (n : Member (Transition W) F)
        → Member_along (Transition_renames same) event_same m n
        → Member_along (Transition_renames (turned_pairs same)) (turned_pairs event_same) n m
    member_back m n (transitions {d = d} {e = e} q) = transitions (transition_turned same d e q)
    member_back m n (synchronise q) = synchronise (along_turned (λ p q r. record { must = sym r.must; key = r.key }) q)

    back : (d : EventDeclaration (Transition V) E) (e : EventDeclaration (Transition W) F) → Declared_renames same
        event_same d e → Declared_renames (turned_pairs same) (turned_pairs event_same) e d
    back d e r = record {
      key = r.key;
      unit = sym r.unit;
      hidden = sym r.hidden;
      members = along_turned member_back r.members;
    }

-- events that rename each other have as many ways
pub ways_count : {V W : Type 0} (same : V → W → Type 0) {es : List (Event V)} {fs : List (Event W)}
    → Along (Event_renames same) es fs → (n : ℕ) → ways_of (slice_get es n) ≡ ways_of (slice_get fs n)
ways_count same l.none zero = refl
ways_count same l.none (suc n) = refl
ways_count same (l.one_and r rs) zero = along_length _ _ r.ways
ways_count same (l.one_and r rs) (suc n) = ways_count same rs n

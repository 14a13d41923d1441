-- The live edges in a row are those of the system, and what they share breaks the fifth and the eighth rule.
use Rattle.std.proofs.Common.{◌≡◌, ◌<◌, ◌≤◌, ℕ, ◌⊎◌, inl, inr, List, length, map, sym, ap, ◌∙◌, subst, arith}
use Rattle.std.proofs.lemmas.Bool.{cases_order, cases_eq}
use Rattle.std.proofs.lemmas.List.{length-map}
use Rattle.ar_base.specs.Lists.{Stands}
use Rattle.ar_base.specs.NumbersInside.{EventId}
use Rattle.ar_base.proofs.Standing.{stands_one, stands_within, stands_map, stands_map_back, first_or_none}
use Rattle.domains.specs.declared.Value.{Value}
use Rattle.typed_expr.proofs.Listing.{value_told}
use Rattle.ar_meaning.specs.Systems.{System}
use Rattle.ar_meaning.specs.Runs.{Label}
use Rattle.ar_firing.specs.Fragment.{IsLive}
use Rattle.ar_firing.specs.Rules.{KeepsS1, KeepsS2, AreTwoEdges, ways, variables, modes, HasLive, BreaksS5, KeepsS8, BreaksS8, Spot, S5, BreaksStaticRule, s5}
use Rattle.gts_core.specs.declared.system.GtsParts.{GtsParts}
use Rattle.mode_search.specs.declared.kept.KeptWay.{KeptWay}
use Rattle.mode_trees.specs.Views.{number_in}
use Rattle.mode_trees.specs.declared.forests.Edge.{Edge}
use Rattle.mode_search.specs.declared.searching.Reach.{Reach}
use Rattle.mode_search.specs.declared.listing.Live.{Live}
use Rattle.mode_search.specs.declared.sharing.Sharing.{Sharing}
use Rattle.mode_search.specs.Sharing.{IsFirstOf, IsShared, IsSharing}
use Rattle.static_fragment.specs.Setting.{AreLiveEdges, label_in}
use Rattle.static_fragment.proofs.Leading.{label_of, live_there, live_back, way_of_label}

-- two things that are one in all three are not two
pub not_two : (k l : Label) (m n : ℕ) (u v : Value) → k ≡ l → m ≡ n → u ≡ v → AreTwoEdges k l m n u v → ⊥
not_two k l m n u v e f g (ways h) = h (ap (λ (z : Label). z.way) e)
not_two k l m n u v e f g (variables h) = h f
not_two k l m n u v e f g (modes h) = h g

-- edges of one event and one number of a way have one label
pub label_same : (p : GtsParts) (e f : Edge) → e.event.n ≡ f.event.n → number_in p e.way.n ≡ number_in p f.way.n
    → label_in p e ≡ label_in p f
label_same p e f i j = ap (λ (x : ℕ). label_of x (number_in p e.way.n)) i ∙ ap (λ (y : ℕ). label_of f.event.n y) j

module _ {p : GtsParts} {system : System ℕ} {dropped : List ℕ} {kept : List KeptWay} {reaches : List Reach}
    {live : List Live} (d : AreLiveEdges p system dropped kept reaches live) where
  pub entry : (x : ℕ) (l : Live) → Stands live x l → IsLive system dropped (label_in p l.edge) l.variable.n l.edge.from
      l.edge.to
  entry x l st = let h = d.are.sound x l st in live_there d.reached l.variable.n h.reach h.stands l.edge h.is_one

  abbrev has_live : (x : ℕ) (l : Live) → Stands live x l → (e : ℕ) → l.edge.event.n ≡ e
      → HasLive system dropped e l.variable.n
  has_live x l st e i = record {
    label = label_in p l.edge;
    is_event = i;
    from = l.edge.from;
    to = l.edge.to;
    is_live =
        entry x l st;
  }

  -- different places of one event have different edges
  two_of : (x y : ℕ) (l m : Live) → Stands live x l → Stands live y m → (x ≡ y → ⊥) → l.edge.event.n ≡ m.edge.event.n
      → AreTwoEdges (label_in p l.edge) (label_in p m.edge) l.variable.n m.variable.n l.edge.from m.edge.from
  two_of x y l m sl sm apart e =
      by (cases_eq (number_in p l.edge.way.n) (number_in p m.edge.way.n)) (cases_eq l.variable.n m.variable.n)
      (value_told l.edge.from m.edge.from)
    where
      by : (number_in p l.edge.way.n ≡ number_in p m.edge.way.n) ⊎
          (number_in p l.edge.way.n ≡ number_in p m.edge.way.n → ⊥)
          → (l.variable.n ≡ m.variable.n) ⊎ (l.variable.n ≡ m.variable.n → ⊥)
          → (l.edge.from ≡ m.edge.from) ⊎ (l.edge.from ≡ m.edge.from → ⊥)
          → AreTwoEdges (label_in p l.edge) (label_in p m.edge) l.variable.n m.variable.n l.edge.from m.edge.from
      by (inr n) v u = ways n
      by (inl w) (inr n) u = variables n
      by (inl w) (inl v) (inr n) = modes n
      by (inl w) (inl v) (inl u) =
          let h = d.are.sound x l sl in
          let k = d.are.sound y m sm in
          let i = way_of_label d.reached l.variable.n m.variable.n h.reach k.reach h.stands k.stands l.edge m.edge
          h.is_one k.is_one (label_same p l.edge m.edge e w) in
          absurd (apart (d.are.once x y l m sl sm v u i))

  -- the first place of an event
  abbrev IsOf : ℕ → Live → Type 0
  IsOf e l = l.edge.event.n ≡ e

  first_of : (e x : ℕ) (l : Live) → Stands live x l → IsOf e l → (f : ℕ) × IsFirstOf live e f
  first_of e x l st i = elim (first_or_none (IsOf e) (λ k. cases_eq k.edge.event.n e) live) [
    | inl h ↦ (h.0, record { live_edge = h.1.item; stands = h.1.stands; is_event = h.1.has; before = h.1.before })
    | inr n ↦ absurd (n.has_not x l st i)
  ]

  not_after : (e x : ℕ) (l : Live) → Stands live x l → IsOf e l → (f : ℕ) → IsFirstOf live e f → (f < x) ⊎ (f ≡ x)
  not_after e x l st i f h = elim (cases_order f x) [
    | inl j ↦ inr j
    | inr k ↦ elim k [ inl b ↦ inl b | inr b ↦ absurd (h.before x l b st i) ]
  ]

  module _ (k1 : KeepsS1 system) (k2 : KeepsS2 system dropped) where
    -- a live edge of the system stands in the list
    record InList (l : Label) (n : ℕ) (from to : Value) : Type 0 where
      pub place : ℕ
      pub one : Live
      pub stands : Stands live place one
      pub variable : one.variable.n ≡ n
      pub is_from : one.edge.from ≡ from
      pub label : label_in p one.edge ≡ l

    in_list : (l : Label) (n : ℕ) (from to : Value) → IsLive system dropped l n from to → InList l n from to
    in_list l n from to h =
        let b = live_back d.reached k1 k2 l n from to h in
        let w = d.are.whole n b.reach b.edge (stands_within reaches n b.reach b.stands) b.stands b.is_one in
        record {
          place = w.0;
          one = w.1;
          stands = w.2;
          variable = w.3;
          is_from = ap (λ (z : Edge). z.from) w.4 ∙ b.is_from;
          label = ap (label_in p) w.4 ∙ b.label;
        }

    listed : (e n : ℕ) (h : HasLive system dropped e n) → InList h.label n h.from h.to
    listed e n h = in_list h.label n h.from h.to h.is_live

    is_event : (e n : ℕ) (h : HasLive system dropped e n) → IsOf e (listed e n h).one
    is_event e n h = ap (λ (z : Label). z.event) (listed e n h).label ∙ h.is_event

    -- the first place of an event is of its least variable
    first_least : (e f : ℕ) (h : IsFirstOf live e f) (n : ℕ) → HasLive system dropped e n → h.live_edge.variable.n ≤ n
    first_least e f h n k =
        let i = listed e n k in elim (not_after e i.place i.one i.stands (is_event e n k) f h) [
          | inl b ↦ (let o = d.are.ascend f i.place h.live_edge i.one b h.stands i.stands in omega
              (arith, o, i.variable))
          | inr j ↦ (let o = stands_one live i.place h.live_edge i.one
              (subst (λ (z : ℕ). Stands live z h.live_edge) j h.stands) i.stands in
              let u : h.live_edge.variable.n ≡ i.one.variable.n = ap (λ (z : Live). z.variable.n) o in omega
              (arith, u, i.variable))
        ]

    pub shared_breaks : (n : ℕ) → IsShared live (length live) n → BreaksS5 system dropped n
    shared_breaks n h = subst (BreaksS5 system dropped) h.first.number (record {
      event = h.event;
      first_variable = h.first.first.live_edge.variable.n;
      second_variable = h.second.variable.n;
      first = has_live h.first.place h.first.first.live_edge h.first.first.stands h.event h.first.first.is_event;
      second = has_live h.place h.second h.stands h.event h.is_event;
      two = two_of h.first.place h.place h.first.first.live_edge h.second h.first.first.stands h.stands
          (λ e. omega (arith, e, h.after)) (h.first.first.is_event ∙ sym h.is_event);
      has = has_live h.first.place h.first.first.live_edge h.first.first.stands h.event h.first.first.is_event;
      least = first_least h.event h.first.place h.first.first;
    })

    -- two live edges of an event stand at two places
    two_places : (e m n : ℕ) (h : HasLive system dropped e m) (k : HasLive system dropped e n)
        → AreTwoEdges h.label k.label m n h.from k.from
        → (listed e m h).place ≡ (listed e n k).place → ⊥
    two_places e m n h k t i =
        let a = listed e m h in
        let b = listed e n k in
        let o = stands_one live b.place a.one b.one (subst (λ (z : ℕ). Stands live z a.one) i a.stands) b.stands in
        not_two h.label k.label m n h.from k.from (sym a.label ∙ (ap (λ (z : Live). label_in p z.edge) o ∙ b.label))
        (sym a.variable ∙ (ap (λ (z : Live). z.variable.n) o ∙ b.variable))
        (sym a.is_from ∙ (ap (λ (z : Live). z.edge.from) o ∙ b.is_from)) t

    -- one of two places of an event is after its first
    record Second (e f : ℕ) : Type 0 where
      pub place : ℕ
      pub one : Live
      pub stands : Stands live place one
      pub is_event : IsOf e one
      pub after : f < place

    second_of : (e x y : ℕ) (l m : Live) → Stands live x l → Stands live y m → IsOf e l → IsOf e m → (x ≡ y → ⊥)
        → (f : ℕ) → IsFirstOf live e f → Second e f
    second_of e x y l m sl sm il im apart f h = by (not_after e x l sl il f h) (not_after e y m sm im f h)
      where
        by : (f < x) ⊎ (f ≡ x) → (f < y) ⊎ (f ≡ y) → Second e f
        by (inl b) k = record { place = x; one = l; stands = sl; is_event = il; after = b }
        by (inr i) (inl b) = record { place = y; one = m; stands = sm; is_event = im; after = b }
        by (inr i) (inr j) = absurd (apart (sym i ∙ j))

    pub breaks_shared : (n : ℕ) → BreaksS5 system dropped n → IsShared live (length live) n
    breaks_shared n b =
        let x = listed b.event b.first_variable b.first in
        let y = listed b.event b.second_variable b.second in
        let ix = is_event b.event b.first_variable b.first in
        let iy = is_event b.event b.second_variable b.second in
        let f = first_of b.event x.place x.one x.stands ix in
        let two = second_of b.event x.place y.place x.one y.one x.stands y.stands ix iy
        (two_places b.event b.first_variable b.second_variable b.first b.second b.two) f.0 f.1 in
        let low = first_least b.event f.0 f.1 n b.has in
        let high = b.least f.1.live_edge.variable.n (has_live f.0 f.1.live_edge f.1.stands b.event f.1.is_event) in
        record {
          event = b.event;
          first = record {
            place = f.0;
            below = stands_within live f.0 f.1.live_edge f.1.stands;
            first = f.1;
            number =
                omega (arith, low, high);
          };
          place = two.place;
          below = stands_within live two.place two.one two.stands;
          after = two.after;
          second = two.one;
          stands = two.stands;
          is_event = two.is_event;
        }

    pub unbroken_s5 : ((n : ℕ) → IsShared live (length live) n → ⊥) → (spot : Spot)
        → BreaksStaticRule system dropped S5 spot → ⊥
    unbroken_s5 none spot (s5 {n = n} h) = none n (breaks_shared n h)

    pub few_keep : (count : ℕ) (s : Sharing) → IsSharing count live (length live) s → length s.events.items ≤ 2048
        → KeepsS8 system dropped
    few_keep count s h few = record {
      events = map (λ (e : EventId). e.n) s.events.items;
      whole = λ e k.
          let i = listed e k.number k.live in
          let w = h.whole i.place i.one (stands_within live i.place i.one i.stands) i.stands in
          record {
            place = w.0;
            stands = subst (λ (z : ℕ). Stands (map (λ (x : EventId). x.n) s.events.items) w.0 z)
                (w.3 ∙ is_event e k.number k.live)
                (stands_map (λ (x : EventId). x.n) s.events.items w.0 w.1 w.2);
          };
      few = let l = length-map s.events.items (λ (e : EventId). e.n) in omega (arith, l);
    }

  pub many_break : (count : ℕ) (s : Sharing) → IsSharing count live (length live) s → 2048 < length s.events.items
      → BreaksS8 system dropped
  many_break count s h many = record {
    events = map (λ (e : EventId). e.n) s.events.items;
    differ = record {
      one = λ j k e u v.
          let a = stands_map_back (λ (x : EventId). x.n) s.events.items j e u in
          let b = stands_map_back (λ (x : EventId). x.n) s.events.items k e v in
          h.different j k a.0 b.0 a.1 b.1 (a.2 ∙ sym b.2);
    };
    live = λ k e u.
        let a = stands_map_back (λ (x : EventId). x.n) s.events.items k e u in
        let i = h.sound k a.0 a.1 in
        record {
          number = i.live_edge.variable.n;
          live = has_live i.place i.live_edge i.stands e
              (ap (λ (x : EventId). x.n) i.is_event ∙ a.2);
        };
    many = let l = length-map s.events.items (λ (e : EventId). e.n) in omega (arith, l);
  }

-- A system and its image keep and break the same rules, by the same numbers.
use Rattle.std.proofs.Common.{◌≡◌, ℕ, List, Option, Contains, refl, sym, ◌∙◌, subst}
use Rattle.ar_base.specs.Lists.{Stands}
use Rattle.domains.specs.declared.Value.{Value}
use Rattle.typed_expr.specs.PairsInside.{turned_pairs}
use Rattle.typed_expr.specs.Yields.{Level}
use Rattle.typed_expr.specs.Renames.{Renames}
use Rattle.typed_expr.specs.Possible.{IsWide}
use Rattle.ar_meaning.specs.Facts.{Allows}
use Rattle.ar_meaning.specs.Systems.{Assign, Variable, Transition, Way, Joint, Branches, System}
use Rattle.ar_meaning.specs.Runs.{Label, IsWay}
use Rattle.ar_meaning.specs.Image.{Assign_renames, Variable_renames, Way_renames, leaves, joints}
use Rattle.ar_meaning.specs.ImageInside.{IsImage}
use Rattle.ar_meaning.proofs.OneRun.{way_same}
use Rattle.ar_meaning.proofs.ImageTurned.{image_turned, way_turned}
use Rattle.ar_meaning.proofs.ImageFlows.{allows_there, partner}
use Rattle.ar_firing.specs.Fragment.{IsKept, IsModeOf, IsLive}
use Rattle.ar_firing.specs.Rules.{IsTransition, transition, KeepsS1, BreaksS1, KeepsS2, BreaksS2, HasModeVariable, KeepsS3, BreaksS3, IsLiveAt, GivesOther, nothing, two, outside, KeepsS4, BreaksS4, names, gives, KeepsS5, HasLive, BreaksS5, KeepsS6, BreaksS6, stays, by_events, by_edges, initial, AssignIsWide, by_value, by_condition, KeepsS7, BreaksS7, ObserverBreaksS7, KeepsS8, BreaksS8, Spot, Rule, S1, S2, S3, S4, S5, S6, S7, S8, BreaksStaticRule, s1, s2, s3, s4, s5, s6, s7, s7_observer, s8, KeepsStaticRule, IsFirstBroken, KeepsUpTo}
use Rattle.ar_firing.specs.RulesInside.{KeepsAll}
use Rattle.ar_firing.proofs.Widths.{wide_there}
use Rattle.ar_firing.proofs.ImageModes.{condition_there, guard_there, action_there, kept_there, transitions_there, is_mode_there, can_at_there, effects_at_there, effects_at_back, reached_there, live_there}

transition_there : {V W : Type 0} {same : V → W → Type 0} {v : Way V} {w : Way W} → Way_renames same v w
    → IsTransition v → IsTransition w
transition_there (leaves q) transition = transition
transition_there (joints q) h = elim h [ ]

module _ {V W : Type 0} (same : V → W → Type 0) (here : System V) (there : System W)
    (image : IsImage same here there) where
  way_back : {l : Label} {w : Way W} → IsWay there l w → (v : Way V) × IsWay here l v × Way_renames same v w
  way_back {l = l} {w = w} i =
      let behind = image_turned same image in
      let e = partner behind.events l.event i.event i.is_event in
      let v = partner e.related.ways l.way w i.is_way in
      (v.item, record { event = e.item; is_event = e.stands; is_way = v.stands }, way_turned (turned_pairs same) v.related)

  pub keeps_s1_there : KeepsS1 here → KeepsS1 there
  keeps_s1_there k = record { each = λ l w i. let v = way_back i in transition_there v.2 (k.each l v.0 v.1) }

  pub breaks_s1_there : (e : ℕ) → BreaksS1 here e → BreaksS1 there e
  breaks_s1_there e b =
      let p = partner image.events e b.event b.stands in
      let w = partner p.related.ways b.has.place (Joint b.parts) b.has.stands in
      let j = joint_of b.parts w.item w.related in
      record {
        event = p.item;
        stands = p.stands;
        parts = j.0;
        has = record { place = b.has.place; stands = subst (λ z. Stands p.item.ways b.has.place z) j.1 w.stands };
      }
    where
      joint_of : (bs : Branches (Transition V)) (w : Way W) → Way_renames same (Joint bs) w
          → (cs : Branches (Transition W)) × (w ≡ Joint cs)
      joint_of bs w (joints {cs = cs} q) = (cs, refl)

  module _ (dropped : List ℕ) where
    pub keeps_s2_there : KeepsS2 here dropped → KeepsS2 there dropped
    keeps_s2_there k = record {
      each = λ unit h.
          let s = k.each unit (transitions_there (turned_pairs same) there here (image_turned same image) dropped unit h) in
          let p = partner image.net.variables s.number s.variable s.stands in
          record {
            number = s.number;
            variable = p.item;
            stands = p.stands;
            is_state = record {
              is_state = sym p.related.is_state ∙ s.is_state.is_state;
              is_unit = sym p.related.unit
                  ∙ s.is_state.is_unit;
            };
          };
    }

    pub breaks_s2_there : (unit : ℕ) → BreaksS2 here dropped unit → BreaksS2 there dropped unit
    breaks_s2_there unit b = record {
      moves = transitions_there same here there image dropped unit b.moves;
      has_none = record {
        has_not = λ k y s h.
            let behind = image_turned same image in
            let p = partner behind.net.variables k y s in
            b.has_none.has_not k p.item p.stands
            (record { is_state = sym p.related.is_state ∙ h.is_state; is_unit = sym p.related.unit ∙ h.is_unit });
      };
    }

    -- the way and variable of the image
    pub record ModeThere (l : Label) (v : Way V) (n : ℕ) (x : Variable V) : Type 0 where
      pub way : Way W
      pub variable : Variable W
      pub mode : HasModeVariable there dropped l way n variable
      pub way_related : Way_renames same v way
      pub variable_related : Variable_renames same x variable

    pub mode_there : {l : Label} {v : Way V} {n : ℕ} {x : Variable V} → HasModeVariable here dropped l v n x
        → ModeThere l v n x
    mode_there {v = v} {n = n} {x = x} h =
        let k = kept_there same here there image dropped h.is_kept in
        let p = partner image.net.variables n x h.stands in
        record {
          way = k.way;
          variable = p.item;
          way_related = k.related;
          variable_related = p.related;
          mode =
              record {
                is_kept = k.is_kept;
                stands = p.stands;
                is_mode = is_mode_there same here there image dropped k.is_kept.is_way.event.unit k.related
                    (subst (λ z. IsModeOf here z v n) (sym k.is_unit) h.is_mode);
              };
        }

    pub breaks_s3_there : (n : ℕ) → BreaksS3 here dropped n → BreaksS3 there dropped n
    breaks_s3_there n b =
        let m = mode_there b.mode in
        let g = guard_there same b.other m.way_related b.named in
        record {
          label = b.label;
          way = m.way;
          variable = m.variable;
          mode = m.mode;
          other = g.other;
          named = g.stands;
          differs = λ e.
              b.differs
              (image.net.one_back b.other b.variable.key m.variable.key (subst (λ z. same b.other z) e g.related)
              m.variable_related.key);
        }

    -- the way and variable of the image, at the same mode
    pub record LiveThere (l : Label) (v : Way V) (n : ℕ) (x : Variable V) (m : Value) : Type 0 where
      pub way : Way W
      pub variable : Variable W
      pub is_live : IsLiveAt there dropped l way n variable m
      pub way_related : Way_renames same v way
      pub variable_related : Variable_renames same x variable

    pub live_at_there : {l : Label} {v : Way V} {n : ℕ} {x : Variable V} {m : Value} → IsLiveAt here dropped l v n x m
        → LiveThere l v n x m
    live_at_there {l = l} {v = v} {n = n} {x = x} {m = m} h =
        let k = h.is_open.is_kept in
        let e = partner image.events l.event k.is_way.event k.is_way.is_event in
        let w = partner e.related.ways l.way v k.is_way.is_way in
        let p = partner image.net.variables n x h.stands in
        record {
          way = w.item;
          variable = p.item;
          way_related = w.related;
          variable_related = p.related;
          is_live = record {
            is_open =
                record {
                  is_kept = record {
                    is_way = record { event = e.item; is_event = e.stands; is_way = w.stands };
                    stays = k.stays;
                  };
                  visible = sym e.related.hidden ∙ h.is_open.visible;
                };
            is_mode =
                is_mode_there same here there image dropped e.item.unit w.related
                (subst (λ z. IsModeOf here z v n) e.related.unit h.is_mode);
            stands = p.stands;
            reached = reached_there same here there image dropped h.reached;
            can = can_at_there same here there image dropped x.key p.item.key m w.related p.related.key h.can;
          };
        }

    gives_other_there : {P Q : Value → Type 0} {d e : List Value} → ((v : Value) → P v → Q v)
        → ((v : Value) → Q v → P v) → d ≡ e → GivesOther P d → GivesOther Q e
    gives_other_there on off i (nothing h) = nothing (λ v q. h v (off v q))
    gives_other_there on off i (two v w p q n) = two v w (on v p) (on w q) n
    gives_other_there on off i (outside v p n) = outside v (on v p) (λ c. n (subst (λ z. Contains z v) (sym i) c))

    pub breaks_s4_there : (n : ℕ) → BreaksS4 here dropped n → BreaksS4 there dropped n
    breaks_s4_there n (names l v x h y a d) =
        let m = mode_there h in
        let g = action_there same y m.way_related a in
        names l m.way m.variable m.mode g.other g.stands
        (λ e. d (image.net.one_back y x.key m.variable.key (subst (λ z. same y z) e g.related) m.variable_related.key))
    breaks_s4_there n (gives l v x m h o) =
        let k = live_at_there h in
        gives l k.way k.variable m k.is_live
        (gives_other_there (λ d e. effects_at_there same here there image dropped x.key k.variable.key m d k.way_related
        k.variable_related.key e)
        (λ d e. effects_at_back same here there image dropped x.key k.variable.key m d k.way_related
        k.variable_related.key e) k.variable_related.domain o)

    pub has_live_there : (e n : ℕ) → HasLive here dropped e n → HasLive there dropped e n
    has_live_there e n h = record {
      label = h.label;
      is_event = h.is_event;
      from = h.from;
      to = h.to;
      is_live = live_there same here there image dropped h.is_live;
    }

    pub breaks_s6_there : (n : ℕ) → BreaksS6 here dropped n → BreaksS6 there dropped n
    breaks_s6_there n (stays l u v h e) = stays l u v (live_there same here there image dropped h) e
    breaks_s6_there n (by_events k l u v x h i d) =
        by_events k l u v x (live_there same here there image dropped h) (live_there same here there image dropped i) d
    breaks_s6_there n (by_edges k l u v x h i e d) =
        by_edges k l u v x (live_there same here there image dropped h) (live_there same here there image dropped i) e d
    breaks_s6_there n (initial l u x s h) =
        let p = partner image.net.variables n x s in
        initial l u p.item p.stands
        (subst (λ z. IsLive there dropped l n u z) p.related.value (live_there same here there image dropped h))

    pub breaks_s8_there : BreaksS8 here dropped → BreaksS8 there dropped
    breaks_s8_there b = record {
      events = b.events;
      differ = b.differ;
      many = b.many;
      live = λ k e s. let h = b.live k e s in record { number = h.number; live = has_live_there e h.number h.live };
    }

-- the possible values
module _ {V W : Type 0} (same : V → W → Type 0) (here : System V) (there : System W)
    (image : IsImage same here there) where
  wide : {e : Level V} {f : Level W} → Renames same e f → IsWide (Allows here.net) 64 e → IsWide (Allows there.net) 64 f
  wide q h =
      wide_there same (Allows here.net) (Allows there.net)
      (λ x y v s a. allows_there same here.net there.net image.net x y v s a) q h

  assign_wide : {a : Assign V} {b : Assign W} → Assign_renames same a b → AssignIsWide here.net a
      → AssignIsWide there.net b
  assign_wide q (by_value h) = by_value (wide q.value h)
  assign_wide q (by_condition {e = e} {b = b} o h) =
      let c =
      condition_there q.conditions o.place e b o.stands in by_condition
      (record { place = o.place; stands = c.stands }) (wide c.renames h)

  pub breaks_s7_there : (n : ℕ) → BreaksS7 here n → BreaksS7 there n
  breaks_s7_there n b =
      let p = partner image.net.variables n b.variable b.stands in
      let a = partner image.net.assertions b.is_one.place b.assign b.is_one.stands in
      record {
        variable = p.item;
        stands = p.stands;
        assign = a.item;
        is_one = record { place = b.is_one.place; stands = a.stands };
        is_target =
            image.net.one b.variable.key a.item.target p.item.key
            (subst (λ z. same z a.item.target) b.is_target a.related.target) p.related.key;
        wide = assign_wide a.related b.wide;
      }

  pub observer_breaks_s7_there : (n : ℕ) → ObserverBreaksS7 here n → ObserverBreaksS7 there n
  observer_breaks_s7_there n b =
      let p = partner image.observers n b.observer b.stands in
      record { observer = p.item; stands = p.stands; wide = wide p.related.renames b.wide }

module _ {V W : Type 0} (same : V → W → Type 0) (here : System V) (there : System W)
    (image : IsImage same here there) where
  pub keeps_s7_there : KeepsS7 here → KeepsS7 there
  keeps_s7_there k =
      let behind = image_turned same image in
      record {
        assignments = λ j b s h.
            let a =
            partner behind.net.assertions j b s in k.assignments j a.item a.stands
            (assign_wide (turned_pairs same) there here behind a.related h);
        observers = λ j f s h.
            let e =
            partner behind.observers j f s in k.observers j e.item e.stands
            (wide (turned_pairs same) there here behind e.related.renames h);
      }

-- both ways
module _ {V W : Type 0} (same : V → W → Type 0) (here : System V) (there : System W) (image : IsImage same here there)
    (dropped : List ℕ) where
  live_back : {l : Label} {n : ℕ} {from to : Value} → IsLive there dropped l n from to → IsLive here dropped l n from to
  live_back h = live_there (turned_pairs same) there here (image_turned same image) dropped h

  one_way : {l : Label} {v w : Way W} → IsKept there dropped l v → IsKept there dropped l w → v ≡ w
  one_way a b = way_same there a.is_way b.is_way

  pub keeps_s3_there : KeepsS3 here dropped → KeepsS3 there dropped
  keeps_s3_there k = record {
    each = λ l w o.
        let behind = image_turned same image in
        let v = kept_there (turned_pairs same) there here behind dropped o in
        let h = k.each l v.way v.is_kept in
        let m = mode_there same here there image dropped h.mode in
        let e : m.way ≡ w = one_way m.mode.is_kept o in
        record {
          number = h.number;
          variable = m.variable;
          mode = subst (λ z. HasModeVariable there dropped l z h.number m.variable) e m.mode;
          alone = λ y g.
              let n = guard_there (turned_pairs same) y v.related g in
              let i : n.other ≡ h.variable.key = h.alone n.other n.stands in
              image.net.one h.variable.key y m.variable.key (subst (λ z. same z y) i n.related) m.variable_related.key;
        };
  }

  pub keeps_s4_there : KeepsS4 here dropped → KeepsS4 there dropped
  keeps_s4_there k =
      let behind = image_turned same image in
      record {
        alone = λ l w n y h z a.
            let m = mode_there (turned_pairs same) there here behind dropped h in
            let g = action_there (turned_pairs same) z m.way_related a in
            let i : g.other ≡ m.variable.key = k.alone l m.way n m.variable m.mode g.other g.stands in
            image.net.one m.variable.key z y.key (subst (λ x. same x z) i g.related) m.variable_related.key;
        gives = λ l w n y m h.
            let v = live_at_there (turned_pairs same) there here behind dropped h in
            let g = k.gives l v.way n v.variable m v.is_live in
            record {
              value = g.value;
              gives =
                  effects_at_back
                  (turned_pairs same) there here behind dropped y.key v.variable.key m g.value v.way_related
                  v.variable_related.key g.gives;
              one = λ d e.
                  g.one d
                  (effects_at_there (turned_pairs same) there here behind dropped y.key v.variable.key m d v.way_related
                  v.variable_related.key e);
              in_domain = subst (λ z. Contains z g.value) (sym v.variable_related.domain) g.in_domain;
            };
      }

  pub keeps_s5_there : KeepsS5 here dropped → KeepsS5 there dropped
  keeps_s5_there k = record { one = λ a b m n u v x y p q e. k.one a b m n u v x y (live_back p) (live_back q) e }

  pub breaks_s5_there : (n : ℕ) → BreaksS5 here dropped n → BreaksS5 there dropped n
  unfolding has_live_there
  breaks_s5_there n b = record {
    event = b.event;
    first_variable = b.first_variable;
    second_variable = b.second_variable;
    first = has_live_there same here there image dropped b.event b.first_variable b.first;
    second = has_live_there same here there image dropped b.event b.second_variable b.second;
    two = b.two;
    has = has_live_there same here there image dropped b.event n b.has;
    least = λ k h. b.least k (has_live_there (turned_pairs same) there here (image_turned same image) dropped b.event k h);
  }

  pub keeps_s6_there : KeepsS6 here dropped → KeepsS6 there dropped
  keeps_s6_there k = record {
    moves = λ l n u v h e. k.moves l n u v (live_back h) e;
    enters = λ a b n u v x p q. k.enters a b n u v x (live_back p) (live_back q);
    begins = λ l n u y s h.
        let p = partner (image_turned same image).net.variables n y s in
        k.begins l n u p.item p.stands (subst (λ z. IsLive here dropped l n u z) p.related.value (live_back h));
  }

  pub keeps_s8_there : KeepsS8 here dropped → KeepsS8 there dropped
  keeps_s8_there k = record {
    events = k.events;
    few = k.few;
    whole = λ e h.
        k.whole e
        (record {
          number = h.number;
          live = has_live_there (turned_pairs same) there here (image_turned same image) dropped e
              h.number h.live;
        });
  }

  pub breaks_there : {rule : Rule} {spot : Spot} → BreaksStaticRule here dropped rule spot
      → BreaksStaticRule there dropped rule spot
  breaks_there (s1 {n = n} b) = s1 (breaks_s1_there same here there image n b)
  breaks_there (s2 {n = n} b) = s2 (breaks_s2_there same here there image dropped n b)
  breaks_there (s3 {n = n} b) = s3 (breaks_s3_there same here there image dropped n b)
  breaks_there (s4 {n = n} b) = s4 (breaks_s4_there same here there image dropped n b)
  breaks_there (s5 {n = n} b) = s5 (breaks_s5_there n b)
  breaks_there (s6 {n = n} b) = s6 (breaks_s6_there same here there image dropped n b)
  breaks_there (s7 {n = n} b) = s7 (breaks_s7_there same here there image n b)
  breaks_there (s7_observer {n = n} b) = s7_observer (observer_breaks_s7_there same here there image n b)
  breaks_there (s8 b) = s8 (breaks_s8_there same here there image dropped b)

  pub keeps_there : (rule : Rule) → KeepsStaticRule here dropped rule → KeepsStaticRule there dropped rule
  keeps_there S1 k = keeps_s1_there same here there image k
  keeps_there S2 k = keeps_s2_there same here there image dropped k
  keeps_there S3 k = keeps_s3_there k
  keeps_there S4 k = keeps_s4_there k
  keeps_there S5 k = keeps_s5_there k
  keeps_there S6 k = keeps_s6_there k
  keeps_there S7 k = keeps_s7_there same here there image k
  keeps_there S8 k = keeps_s8_there k

module _ {V W : Type 0} (same : V → W → Type 0) (here : System V) (there : System W) (image : IsImage same here there)
    (dropped : List ℕ) where
  pub first_broken_there : {rule : Rule} {spot : Spot} → IsFirstBroken here dropped rule spot
      → IsFirstBroken there dropped rule spot
  first_broken_there h = record {
    breaks = breaks_there same here there image dropped h.breaks;
    lesser_kept = λ r l. keeps_there same here there image dropped r (h.lesser_kept r l);
    is_first = λ o l b. h.is_first o l (breaks_there (turned_pairs same) there here (image_turned same image) dropped b);
  }

  pub keeps_all_there : KeepsAll here dropped → KeepsAll there dropped
  keeps_all_there k = record { each = λ r. keeps_there same here there image dropped r (k.each r) }

  pub keeps_asked_there : {order : Option ℕ} → KeepsUpTo order here dropped → KeepsUpTo order there dropped
  keeps_asked_there k = record { each = λ r asked. keeps_there same here there image dropped r (k.each r asked) }

-- Where no rule is broken each is kept, the last one of them by refutation alone.
use Rattle.std.proofs.Common.{◌≡◌, ◌<◌, ◌≤◌, ◌⊎◌, inl, inr, ⊎_elim, ℕ, zero, suc, ◌+◌, Bool, true, List, [], ◌∷◌, ◌++◌, length, length-append, Contains, refl, sym, subst, arith}
use Rattle.std.proofs.lemmas.Bool.{cases_eq}
use Rattle.ar_base.specs.Lists.{Stands, IsOneOf, IsFirst, HasNo, AreDifferent}
use Rattle.ar_base.proofs.Standing.{stands_none, one_here, one_none, one_cases, one_split, first_or_none, different_more}
use Rattle.ar_base.proofs.Sets.{member_told}
use Rattle.domains.proofs.Members.{nothing-in, contains-head, contains-cases}
use Rattle.domains.specs.declared.Value.{Value}
use Rattle.typed_expr.specs.Mentions.{Mentions}
use Rattle.typed_expr.specs.declared.expr.Expr.{Expr, out-Expr}
use Rattle.typed_expr.proofs.Listing.{Told, Listed, value_told, contains_told}
use Rattle.typed_expr.proofs.Mentioning.{mentions_told}
use Rattle.ar_meaning.specs.Systems.{Assign, Variable, Way, Leaf, Joint, System}
use Rattle.ar_meaning.specs.Dependence.{Tests, in_this, in_later}
use Rattle.ar_meaning.specs.Ways.{Effects}
use Rattle.ar_meaning.specs.Runs.{Label, IsWay}
use Rattle.ar_meaning.specs.FoundInside.{AreTold}
use Rattle.ar_meaning.proofs.Outcomes.{both_told, bool_told, one_told}
use Rattle.ar_meaning.proofs.Answering.{effects_known}
use Rattle.ar_firing.specs.Fragment.{Involves, as_target, as_source, GuardNames, guard, ActionNames, action, WayNames, in_guard, in_action, IsStateOf, IsNamedStateOf, IsModeOf, named, first, At, IsLive}
use Rattle.ar_firing.specs.Static.{IsStatic}
use Rattle.ar_firing.specs.Rules.{IsTransition, transition, KeepsS1, KeepsS2, HasState, HasModeVariable, KeepsS3, IsLiveAt, GivesOne, GivesOther, nothing, two, outside, KeepsS4, names, gives, AreTwoEdges, ways, variables, modes, HasLive, KeepsS5, KeepsS6, stays, by_events, by_edges, initial, KeepsS7, IsLiveEvent, KeepsS8, Spot, AtEvent, AtUnit, AtVariable, AtObserver, AtWhole, Rule, S1, S2, S3, S4, S5, S6, S7, S8, BreaksStaticRule, s1, s2, s3, s4, s5, s6, s7, s7_observer, s8}
use Rattle.ar_firing.specs.RulesInside.{HasTargets}
use Rattle.ar_firing.proofs.RulesHold.{static}

-- what a way names
module _ {V : Type 0} (key_told : AreTold V) (x : V) where
  tests_told : (cs : List (Expr V × Bool)) → Told (Tests x cs)
  tests_told [] = inr (λ t. elim t [ ])
  tests_told ((e, b) ∷ cs) = go (mentions_told key_told x e) (tests_told cs)
    where
      go : Told (Mentions x (out-Expr V e)) → Told (Tests x cs) → Told (Tests x ((e, b) ∷ cs))
      go (inl h) t = inl (in_this h)
      go (inr n) (inl t) = inl (in_later t)
      go (inr n) (inr m) = inr (λ t. elim t [ in_this h ↦ n h | in_later k ↦ m k ])

  involves_told : (a : Assign V) → Told (Involves x a)
  involves_told a = go (key_told a.target x) (mentions_told key_told x a.value) (tests_told a.conditions)
    where
      go : Told (a.target ≡ x) → Told (Mentions x (out-Expr V a.value)) → Told (Tests x a.conditions)
          → Told (Involves x a)
      go (inl e) h t = inl (as_target e)
      go (inr n) (inl h) t = inl (as_source (inl h))
      go (inr n) (inr m) (inl t) = inl (as_source (inr t))
      go (inr n) (inr m) (inr k) = inr (λ i. elim i [ as_target e ↦ n e | as_source s ↦ ⊎_elim m k s ])

  guard_told : (w : Way V) → Told (GuardNames x w)
  guard_told (Leaf d) =
      elim (mentions_told key_told x d.guard) [ inl h ↦ inl (guard h) | inr n ↦ inr (λ g. elim g [ guard h ↦ n h ]) ]
  guard_told (Joint bs) = inr (λ g. elim g [ ])

  action_told : (w : Way V) → Told (ActionNames x w)
  action_told (Leaf d) = elim (one_told (λ (a : Assign V). Involves x a) d.action (λ a o. involves_told a)) [
    | inl h ↦ inl (action h.0 h.1 h.2)
    | inr n ↦ inr (λ g. elim g [ action a o i ↦ n (a, o, i) ])
  ]
  action_told (Joint bs) = inr (λ g. elim g [ ])

  way_told : (w : Way V) → Told (WayNames x w)
  way_told w = go (guard_told w) (action_told w)
    where
      go : Told (GuardNames x w) → Told (ActionNames x w) → Told (WayNames x w)
      go (inl g) t = inl (in_guard g)
      go (inr n) (inl a) = inl (in_action a)
      go (inr n) (inr m) = inr (λ h. elim h [ in_guard g ↦ n g | in_action a ↦ m a ])

-- the value at one mode
at_known : {V : Type 0} → AreTold V → (x : V) (m : Value) (y : V) → Listed (At x m y)
at_known key_told x m y = elim (key_told y x) [
  | inl e ↦ record {
    items = m ∷ [];
    sound = λ v c.
        elim (contains-cases m v [] c) [ inl i ↦ record { key = e; value = sym i } | inr n ↦ absurd (nothing-in v n) ];
    whole = λ v a. subst (λ (z : Value). Contains (m ∷ []) z) (sym a.value) (contains-head m []);
  }
  | inr n ↦ record { items = []; sound = λ v c. absurd (nothing-in v c); whole = λ v a. absurd (n a.key) }
]

-- it is refuted that a number has P and that none that has it is the least
least_refuted : (P : ℕ → Type 0) → ((n : ℕ) → P n → ((k : ℕ) → P k → n ≤ k) → ⊥) → (most n : ℕ) → n < most → P n → ⊥
least_refuted P never zero n l p = absurd (omega (arith, l))
least_refuted P never (suc most) n l p =
    never n p (λ k q. not_less k n (λ h. least_refuted P never most k (omega (arith, l, h)) q))
  where
    not_less : (k n : ℕ) → (k < n → ⊥) → n ≤ k
    not_less k n h = omega arith

-- the rule is broken nowhere
abbrev pub Unbroken : {V : Type 0} → System V → List ℕ → Rule → Type 0
Unbroken sys dropped rule = (spot : Spot) → BreaksStaticRule sys dropped rule spot → ⊥

module _ {V : Type 0} (key_told : AreTold V) (sys : System V) (dropped : List ℕ) where
  pub keeps_s1 : Unbroken sys dropped S1 → KeepsS1 sys
  keeps_s1 none = record { each = λ l w i. go l w i }
    where
      go : (l : Label) (w : Way V) → IsWay sys l w → IsTransition w
      go l (Leaf d) i = transition
      go l (Joint bs) i =
          absurd
          (none (AtEvent l.event) (s1 (record {
            event = i.event;
            stands = i.is_event;
            parts = bs;
            has = one_here i.event.ways l.way (Joint bs) i.is_way;
          })))

  state_told : (unit : ℕ) (x : Variable V) → Told (IsStateOf unit x)
  state_told unit x = elim (both_told (bool_told x.is_state true) (cases_eq x.unit unit)) [
    | inl h ↦ inl (record { is_state = h.0; is_unit = h.1 })
    | inr n ↦ inr (λ h. n (h.is_state, h.is_unit))
  ]

  pub keeps_s2 : Unbroken sys dropped S2 → KeepsS2 sys dropped
  keeps_s2 none = record {
    each = λ unit h. elim (first_or_none (IsStateOf unit) (state_told unit) sys.net.variables) [
      | inl f ↦ record { number = f.0; variable = f.1.item; stands = f.1.stands; is_state = f.1.has }
      | inr m ↦ absurd (none (AtUnit unit) (s2 (record { moves = h; has_none = m })))
    ];
  }

  named_told : (unit : ℕ) (w : Way V) (x : Variable V) → Told (IsNamedStateOf unit w x)
  named_told unit w x = elim (both_told (state_told unit x) (way_told key_told x.key w)) [
    | inl h ↦ inl (record { is_state = h.0.is_state; is_unit = h.0.is_unit; named = h.1 })
    | inr n ↦ inr (λ h. n (record { is_state = h.is_state; is_unit = h.is_unit }, h.named))
  ]

  -- the mode variable of a way of a unit that has a state variable
  record HasMode (unit : ℕ) (w : Way V) : Type 0 where
    pub number : ℕ
    pub variable : Variable V
    pub stands : Stands sys.net.variables number variable
    pub is_mode : IsModeOf sys unit w number

  mode_of : (unit : ℕ) (w : Way V) → HasState sys unit → HasMode unit w
  mode_of unit w h =
      go (first_or_none (IsNamedStateOf unit w) (named_told unit w) sys.net.variables)
      (first_or_none (IsStateOf unit) (state_told unit) sys.net.variables)
    where
      go : ((n : ℕ) × IsFirst sys.net.variables (IsNamedStateOf unit w) n)
          ⊎ HasNo sys.net.variables (IsNamedStateOf unit w)
          → ((n : ℕ) × IsFirst sys.net.variables (IsStateOf unit) n) ⊎ HasNo sys.net.variables (IsStateOf unit)
          → HasMode unit w
      go (inl f) q = record { number = f.0; variable = f.1.item; stands = f.1.stands; is_mode = named f.1 }
      go (inr m) (inl f) = record { number = f.0; variable = f.1.item; stands = f.1.stands; is_mode = first m f.1 }
      go (inr m) (inr k) = absurd (k.has_not h.number h.variable h.stands h.is_state)

  pub keeps_s3 : KeepsS2 sys dropped → Unbroken sys dropped S3 → KeepsS3 sys dropped
  keeps_s3 k2 none = record {
    each = λ l w k.
        let unit = k.is_way.event.unit in
        let h = mode_of unit w (k2.each unit (record { label = l; way = w; is_kept = k; is_unit = refl })) in
        let m : HasModeVariable sys dropped l w h.number h.variable =
        record { is_kept = k; is_mode = h.is_mode; stands = h.stands } in
        record {
          number = h.number;
          variable = h.variable;
          mode = m;
          alone = λ y g.
              ⊎_elim (λ e. e)
              (λ n. absurd (none (AtVariable h.number)
              (s3 (record {
                label = l;
                way = w;
                variable = h.variable;
                mode = m;
                other = y;
                named = g;
                differs = n;
              }))))
              (key_told y h.variable.key);
        };
  }

  pub keeps_s4 : Unbroken sys dropped S4 → KeepsS4 sys dropped
  keeps_s4 none = record {
    alone = λ l w n x m y a.
        ⊎_elim (λ e. e) (λ d. absurd (none (AtVariable n) (s4 (names l w x m y a d)))) (key_told y x.key);
    gives =
        λ l w n x m h. one_given l w n x m h (effects_known (At x.key m) (at_known key_told x.key m) key_told x.key w);
  }
    where
      one_given : (l : Label) (w : Way V) (n : ℕ) (x : Variable V) (m : Value) → IsLiveAt sys dropped l w n x m
          → Listed (Effects (At x.key m) w x.key) → GivesOne (Effects (At x.key m) w x.key) x.domain
      one_given l w n x m h k = go k.items refl
        where
          broken : GivesOther (Effects (At x.key m) w x.key) x.domain → ⊥
          broken o = none (AtVariable n) (s4 (gives l w x m h o))

          go : (vs : List Value) → k.items ≡ vs → GivesOne (Effects (At x.key m) w x.key) x.domain
          go [] e = absurd (broken (nothing (λ v d. nothing-in v (subst (λ z. Contains z v) e (k.whole v d)))))
          go (v ∷ vs) e =
              let d = k.sound v (subst (λ z. Contains z v) (sym e) (contains-head v vs)) in
              record {
                value = v;
                gives = d;
                one = λ u f. ⊎_elim (λ i. i) (λ n. absurd (broken (two u v f d n))) (value_told u v);
                in_domain = ⊎_elim (λ i. i) (λ n. absurd (broken (outside v d n))) (contains_told x.domain v);
              }

  -- an event with two live edges breaks the fifth rule
  two_edges : Unbroken sys dropped S5 → (k l : Label) (m n : ℕ) (u v x y : Value) → IsLive sys dropped k m u x
      → IsLive sys dropped l n v y → k.event ≡ l.event → AreTwoEdges k l m n u v → ⊥
  two_edges none k l m n u v x y a b e t =
      let here : HasLive sys dropped k.event m = record { label = k; is_event = refl; from = u; to = x; is_live = a } in
      let there : HasLive sys dropped k.event n =
      record { label = l; is_event = sym e; from = v; to = y; is_live = b } in
      least_refuted (HasLive sys dropped k.event)
      (λ i h least. none (AtVariable i) (s5
      (record {
        event = k.event;
        first_variable = m;
        second_variable = n;
        first = here;
        second = there;
        two = t;
        has = h;
        least = least;
      })))
      (suc m) m (omega arith) here

  pub keeps_s5 : Unbroken sys dropped S5 → KeepsS5 sys dropped
  keeps_s5 none = record {
    one = λ k l m n u v x y a b e.
        let broken = two_edges none k l m n u v x y a b e in (
          ⊎_elim (λ i. i) (λ d. absurd (broken (ways d))) (cases_eq k.way l.way),
          ⊎_elim (λ i. i) (λ d. absurd (broken (variables d))) (cases_eq m n),
          ⊎_elim (λ i. i) (λ d. absurd (broken (modes d))) (value_told u v),
        );
  }

  pub keeps_s6 : Unbroken sys dropped S6 → KeepsS6 sys dropped
  keeps_s6 none = record {
    moves = λ l n u v h e. none (AtVariable n) (s6 (stays l u v h e));
    enters = λ k l n u v x h i.
        let e : k.event ≡ l.event =
        ⊎_elim (λ i. i) (λ d. absurd (none (AtVariable n) (s6 (by_events k l u v x h i d))))
        (cases_eq k.event l.event) in
        let broken : AreTwoEdges k l n n u v → ⊥ = λ t. none (AtVariable n) (s6 (by_edges k l u v x h i e t)) in (
          e,
          ⊎_elim (λ i. i) (λ d. absurd (broken (ways d))) (cases_eq k.way l.way),
          ⊎_elim (λ i. i)
              (λ d. absurd (broken (modes d))) (value_told u v),
        );
    begins = λ l n u x s h. none (AtVariable n) (s6 (initial l u x s h));
  }

  pub keeps_s7 : HasTargets sys → Unbroken sys dropped S7 → KeepsS7 sys
  keeps_s7 targets none = record {
    assignments = λ k a s w.
        let t = targets.each k a s in
        none (AtVariable t.0)
        (s7 (record {
          variable = t.1;
          stands = t.2;
          assign = a;
          is_one = one_here sys.net.assertions k a s;
          is_target = t.3;
          wide = w;
        }));
    observers = λ k e s w. none (AtObserver k) (s7_observer (record { observer = e; stands = s; wide = w }));
  }

  -- it is refuted that the last rule is neither kept nor broken
  pub keeps_s8 : Unbroken sys dropped S8 → (KeepsS8 sys dropped → ⊥) → ⊥
  keeps_s8 none kept =
      grow 2049 [] (record { one = λ m n a p q. absurd (stands_none m a p) }) (λ e o. absurd (one_none e o)) refl
    where
      grow : (more : ℕ) (events : List ℕ) → AreDifferent events
          → ((e : ℕ) → IsOneOf events e → IsLiveEvent sys dropped e) → more + length events ≡ 2049 → ⊥
      grow zero events d live long =
          none AtWhole
          (s8 (record {
            events = events;
            differ = d;
            live = λ k e s. live e (one_here events k e s);
            many = omega (arith, long);
          }))
      grow (suc more) events d live long = kept (record {
        events = events;
        few = omega (arith, long);
        whole = λ e h. ⊎_elim (λ o. o) (λ lacks. absurd (grow more (events ++ e ∷ [])
            (different_more events e d (record
            { has_not = λ k a s i. lacks (subst (λ (z : ℕ). IsOneOf events z) i (one_here events k a s)) }))
            (λ f o. ⊎_elim (λ p. live f p) (λ p. ⊎_elim (λ i. subst (λ (z : ℕ). IsLiveEvent sys dropped z) i h)
            (λ q. absurd (one_none f q)) (one_cases e [] f p)) (one_split events (e ∷ []) f o))
            (longer more events e long))) (member_told events e);
      })
        where
          longer : (more : ℕ) (events : List ℕ) (e : ℕ) → suc more + length events ≡ 2049
              → more + length (events ++ e ∷ []) ≡ 2049
          longer more events e h = let k = length-append events (e ∷ []) in omega (arith, h, k)

  -- a system that breaks no rule is static
  pub unbroken_static : ((rule : Rule) → Unbroken sys dropped rule) → IsStatic sys dropped
  unbroken_static none =
      static sys dropped (keeps_s1 (none S1)) (keeps_s3 (keeps_s2 (none S2)) (none S3)) (keeps_s4 (none S4))
      (keeps_s5 (none S5)) (keeps_s6 (none S6))

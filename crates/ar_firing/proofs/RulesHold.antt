-- A rule that is kept is not broken, and the rules make a system static.
use Rattle.std.proofs.Common.{◌≡◌, ◌<◌, ℕ, zero, suc, true, List, Option, Some, None, refl, sym, ◌∙◌, ap, subst, arith, Contains, inl, inr}
use Rattle.ar_base.specs.Lists.{Stands}
use Rattle.ar_base.proofs.Standing.{stands_one}
use Rattle.domains.specs.declared.Value.{Value}
use Rattle.ar_meaning.specs.Systems.{Variable, Way, Joint, System}
use Rattle.ar_meaning.specs.Runs.{Label}
use Rattle.ar_meaning.proofs.OneAnswer.{first_same, no_first}
use Rattle.ar_meaning.proofs.Dependence.{tests_at}
use Rattle.ar_firing.specs.Fragment.{GuardNames, guard, ActionNames, action, as_target, as_source, IsModeOf, named, first}
use Rattle.ar_firing.specs.Static.{ReadsItselfAlone, HasMode, LeadsByWay, IsStatic}
use Rattle.ar_firing.specs.Static as g
use Rattle.ar_firing.specs.Rules.{IsTransition, transition, KeepsS1, BreaksS1, KeepsS2, BreaksS2, HasModeVariable, KeepsS3, BreaksS3, GivesOne, GivesOther, nothing, two, outside, KeepsS4, BreaksS4, names, gives, AreTwoEdges, ways, variables, modes, KeepsS5, BreaksS5, KeepsS6, BreaksS6, stays, by_events, by_edges, initial, KeepsS7, BreaksS7, ObserverBreaksS7, KeepsS8, BreaksS8, Spot, AtEvent, AtUnit, AtVariable, AtObserver, AtWhole, IsShownBefore, events, units, observers, variable_first, Rule, S1, S2, S3, S4, S5, S6, S7, S8, BreaksStaticRule, s1, s2, s3, s4, s5, s6, s7, s7_observer, s8, KeepsStaticRule, rule_number, IsFirstBroken, IsAskedUpTo, KeepsUpTo}
use Rattle.ar_firing.specs.RulesInside.{KeepsAll}
use Rattle.ar_firing.specs.Rules as rules
use Rattle.ar_firing.proofs.Without.{no_more}

-- the rule of a number
pub rule_of : ℕ → Rule
rule_of zero = S1
rule_of (suc zero) = S1
rule_of (suc (suc zero)) = S2
rule_of (suc (suc (suc zero))) = S3
rule_of (suc (suc (suc (suc zero)))) = S4
rule_of (suc (suc (suc (suc (suc zero))))) = S5
rule_of (suc (suc (suc (suc (suc (suc zero)))))) = S6
rule_of (suc (suc (suc (suc (suc (suc (suc zero))))))) = S7
rule_of (suc (suc (suc (suc (suc (suc (suc (suc n)))))))) = S8

pub numbered : (r : Rule) → rule_of (rule_number r) ≡ r
unfolding rule_of
numbered S1 = refl
numbered S2 = refl
numbered S3 = refl
numbered S4 = refl
numbered S5 = refl
numbered S6 = refl
numbered S7 = refl
numbered S8 = refl

module _ {V : Type 0} (sys : System V) where
  pub mode_same : {unit : ℕ} {w : Way V} {m n : ℕ} → IsModeOf sys unit w m → IsModeOf sys unit w n → m ≡ n
  mode_same (named a) (named b) = first_same a b
  mode_same (named a) (first h b) = absurd (no_first h a)
  mode_same (first h a) (named b) = absurd (no_first h b)
  mode_same (first h a) (first k b) = first_same a b

  mode_state : {unit : ℕ} {w : Way V} {n : ℕ} → IsModeOf sys unit w n → (x : Variable V) → Stands sys.net.variables n x
      → x.is_state ≡ true
  mode_state {n = n} (named a) x s =
      let e : a.item ≡ x = stands_one sys.net.variables n a.item x a.stands s in
      sym (ap (λ z. z.is_state) e) ∙ a.has.is_state
  mode_state {n = n} (first h a) x s =
      let e : a.item ≡ x = stands_one sys.net.variables n a.item x a.stands s in
      sym (ap (λ z. z.is_state) e) ∙ a.has.is_state

  pub s1_excludes : (e : ℕ) → KeepsS1 sys → BreaksS1 sys e → ⊥
  s1_excludes e k b =
      go
      (k.each (record { event = e; way = b.has.place }) (Joint b.parts)
      (record { event = b.event; is_event = b.stands; is_way = b.has.stands }))
    where
      go : IsTransition (Joint b.parts) → ⊥
      go h = elim h [ ]

  module _ (dropped : List ℕ) where
    pub s2_excludes : (unit : ℕ) → KeepsS2 sys dropped → BreaksS2 sys dropped unit → ⊥
    s2_excludes unit k b = let h = k.each unit b.moves in b.has_none.has_not h.number h.variable h.stands h.is_state

    -- a way has one mode variable
    one_mode : {l : Label} {w : Way V} {m n : ℕ} {x y : Variable V} → HasModeVariable sys dropped l w m x
        → HasModeVariable sys dropped l w n y → (m ≡ n) × (x ≡ y)
    one_mode {l = l} {w = w} {m = m} {n = n} {x = x} {y = y} a b =
        let e =
        stands_one sys.events l.event a.is_kept.is_way.event b.is_kept.is_way.event a.is_kept.is_way.is_event
        b.is_kept.is_way.is_event in
        let i : m ≡ n = mode_same (subst (λ z. IsModeOf sys z.unit w m) e a.is_mode) b.is_mode in
        (i, stands_one sys.net.variables n x y (subst (λ z. Stands sys.net.variables z x) i a.stands) b.stands)

    pub s3_excludes : (n : ℕ) → KeepsS3 sys dropped → BreaksS3 sys dropped n → ⊥
    s3_excludes n k b =
        let h = k.each b.label b.way b.mode.is_kept in
        let e = one_mode h.mode b.mode in
        b.differs (h.alone b.other b.named ∙ ap (λ z. z.key) e.1)

    not_other : {effects : Value → Type 0} {domain : List Value} → GivesOne effects domain → GivesOther effects domain
        → ⊥
    not_other o (nothing h) = h o.value o.gives
    not_other o (two v w e f h) = h (o.one v e ∙ sym (o.one w f))
    not_other {domain = domain} o (outside v e h) = h (subst (λ z. Contains domain z) (sym (o.one v e)) o.in_domain)

    pub s4_excludes : (n : ℕ) → KeepsS4 sys dropped → BreaksS4 sys dropped n → ⊥
    s4_excludes n k (names l w x h y a d) = d (k.alone l w n x h y a)
    s4_excludes n k (gives l w x m h o) = not_other (k.gives l w n x m h) o

    not_two : {k l : Label} {m n : ℕ} {u v : Value} → k.way ≡ l.way → m ≡ n → u ≡ v → AreTwoEdges k l m n u v → ⊥
    not_two e f g (ways h) = h e
    not_two e f g (variables h) = h f
    not_two e f g (modes h) = h g

    pub s5_excludes : (n : ℕ) → KeepsS5 sys dropped → BreaksS5 sys dropped n → ⊥
    s5_excludes n k b =
        let e =
        k.one b.first.label b.second.label b.first_variable b.second_variable b.first.from b.second.from b.first.to
        b.second.to b.first.is_live b.second.is_live
        (b.first.is_event ∙ sym b.second.is_event) in
        not_two e.0 e.1 e.2 b.two

    pub s6_excludes : (n : ℕ) → KeepsS6 sys dropped → BreaksS6 sys dropped n → ⊥
    s6_excludes n k (stays l u v h e) = k.moves l n u v h e
    s6_excludes n k (by_events a l u v x h i d) = let e = k.enters a l n u v x h i in d e.0
    s6_excludes n k (by_edges a l u v x h i q d) = let e = k.enters a l n u v x h i in not_two e.1 refl e.2 d
    s6_excludes n k (initial l u x s h) = k.begins l n u x s h

    pub s7_excludes : (n : ℕ) → KeepsS7 sys → BreaksS7 sys n → ⊥
    s7_excludes n k b = k.assignments b.is_one.place b.assign b.is_one.stands b.wide

    pub s7_observer_excludes : (n : ℕ) → KeepsS7 sys → ObserverBreaksS7 sys n → ⊥
    s7_observer_excludes n k b = k.observers n b.observer b.stands b.wide

    pub s8_excludes : KeepsS8 sys dropped → BreaksS8 sys dropped → ⊥
    s8_excludes k b =
        let h = no_more b.events k.events b.differ (λ j e s. k.whole e (b.live j e s)) in
        omega (arith, h, k.few, b.many)

    -- the rules make a system static
    pub static : KeepsS1 sys → KeepsS3 sys dropped → KeepsS4 sys dropped → KeepsS5 sys dropped → KeepsS6 sys dropped
        → IsStatic sys dropped
    static k1 k3 k4 k5 k6 = record {
      modes = λ l w o.
          let k = k3.each l w o.is_kept in
          let e =
          stands_one sys.events l.event k.mode.is_kept.is_way.event o.is_kept.is_way.event
          k.mode.is_kept.is_way.is_event o.is_kept.is_way.is_event in
          let m = subst (λ z. IsModeOf sys z.unit w k.number) e k.mode.is_mode in
          record {
            number = k.number;
            variable = k.variable;
            stands = k.mode.stands;
            is_state = mode_state m k.variable k.mode.stands;
            is_mode = m;
            alone =
                alone k.variable.key w k.alone (k4.alone l w k.number k.variable k.mode) (k1.each l w o.is_kept.is_way);
          };
      leads = λ l w n x m a.
          let h = k4.gives l w n x m a in
          record {
            to = h.value;
            edge = record {
              way = w;
              is_open = a.is_open;
              variable = x;
              is_variable = a.stands;
              is_mode = a.is_mode;
              can = a.can;
              gives = h.gives;
              one = h.one;
              in_domain = h.in_domain;
            };
          };
      one_edge = k5;
      enters_once = k6;
    }
      where
        alone : (x : V) (w : Way V) → ((y : V) → GuardNames y w → y ≡ x) → ((y : V) → ActionNames y w → y ≡ x)
            → IsTransition w → ReadsItselfAlone x w
        alone x w h k (transition {d = d}) = g.transition (record { only = λ y m. h y (guard m) })
            (λ n a s. record {
              target = k a.target (action a (record { place = n; stands = s }) (as_target refl));
              conditions = λ j e b t.
                  record {
                    only = λ y m. k y (action a (record { place = n; stands = s })
                        (as_source (inr (tests_at y a.conditions j e b t m))));
                  };
              value = record { only = λ y m. k y (action a (record { place = n; stands = s }) (as_source (inl m))) };
            })

    -- a rule that is kept is broken nowhere
    pub excludes : (rule : Rule) (spot : Spot) → KeepsStaticRule sys dropped rule
        → BreaksStaticRule sys dropped rule spot → ⊥
    excludes S1 spot k (s1 {n = n} b) = s1_excludes n k b
    excludes S2 spot k (s2 {n = n} b) = s2_excludes n k b
    excludes S3 spot k (s3 {n = n} b) = s3_excludes n k b
    excludes S4 spot k (s4 {n = n} b) = s4_excludes n k b
    excludes S5 spot k (s5 {n = n} b) = s5_excludes n k b
    excludes S6 spot k (s6 {n = n} b) = s6_excludes n k b
    excludes S7 spot k (s7 {n = n} b) = s7_excludes n k b
    excludes S7 spot k (s7_observer {n = n} b) = s7_observer_excludes n k b
    excludes S8 spot k (s8 b) = s8_excludes k b

    same_number : (m n : ℕ) → (m < n → ⊥) → (n < m → ⊥) → m ≡ n
    same_number m n h k = omega arith

    -- two spots of one rule are one where none is shown before the other
    same_spot : {rule : Rule} {a b : Spot} → BreaksStaticRule sys dropped rule a → BreaksStaticRule sys dropped rule b
        → (IsShownBefore a b → ⊥) → (IsShownBefore b a → ⊥) → a ≡ b
    same_spot (s1 {n = m} x) (s1 {n = n} y) h k = ap AtEvent (same_number m n (λ l. h (events l)) (λ l. k (events l)))
    same_spot (s2 {n = m} x) (s2 {n = n} y) h k = ap AtUnit (same_number m n (λ l. h (units l)) (λ l. k (units l)))
    same_spot (s3 {n = m} x) (s3 {n = n} y) h k =
        ap AtVariable (same_number m n (λ l. h (rules.variables l)) (λ l. k (rules.variables l)))
    same_spot (s4 {n = m} x) (s4 {n = n} y) h k =
        ap AtVariable (same_number m n (λ l. h (rules.variables l)) (λ l. k (rules.variables l)))
    same_spot (s5 {n = m} x) (s5 {n = n} y) h k =
        ap AtVariable (same_number m n (λ l. h (rules.variables l)) (λ l. k (rules.variables l)))
    same_spot (s6 {n = m} x) (s6 {n = n} y) h k =
        ap AtVariable (same_number m n (λ l. h (rules.variables l)) (λ l. k (rules.variables l)))
    same_spot (s7 {n = m} x) (s7 {n = n} y) h k =
        ap AtVariable (same_number m n (λ l. h (rules.variables l)) (λ l. k (rules.variables l)))
    same_spot (s7 x) (s7_observer y) h k = absurd (h variable_first)
    same_spot (s7_observer x) (s7 y) h k = absurd (k variable_first)
    same_spot (s7_observer {n = m} x) (s7_observer {n = n} y) h k =
        ap AtObserver (same_number m n (λ l. h (observers l)) (λ l. k (observers l)))
    same_spot (s8 x) (s8 y) h k = refl

    -- one rule is broken first, at one spot
    pub first_broken_same : {r q : Rule} {a b : Spot} → IsFirstBroken sys dropped r a → IsFirstBroken sys dropped q b
        → (r ≡ q) × (a ≡ b)
    first_broken_same {r = r} {q = q} {a = a} {b = b} x y =
        let h : rule_number r < rule_number q → ⊥ = λ l. excludes r a (y.lesser_kept r l) x.breaks in
        let k : rule_number q < rule_number r → ⊥ = λ l. excludes q b (x.lesser_kept q l) y.breaks in
        let n : rule_number r ≡ rule_number q = same_number (rule_number r) (rule_number q) h k in
        let e : r ≡ q = sym (numbered r) ∙ (ap rule_of n ∙ numbered q) in
        let z : BreaksStaticRule sys dropped q a = subst (λ z. BreaksStaticRule sys dropped z a) e x.breaks in (
          e,
          same_spot z y.breaks (λ l. y.is_first a l z)
              (λ l. x.is_first b l (subst (λ z. BreaksStaticRule sys dropped z b) (sym e) y.breaks)),
        )

    pub kept_or_broken : {r : Rule} {a : Spot} → KeepsAll sys dropped → BreaksStaticRule sys dropped r a → ⊥
    kept_or_broken {r = r} {a = a} k b = excludes r a (k.each r) b

    pub all_static : KeepsAll sys dropped → IsStatic sys dropped
    all_static k = static (k.each S1) (k.each S3) (k.each S4) (k.each S5) (k.each S6)

-- a rule below the last is asked, whatever the number of events
pub asked_below : (order : Option ℕ) (rule : Rule) → rule_number rule < 8 → IsAskedUpTo order rule
asked_below None rule l = tt
asked_below (Some k) rule l = l

pub asked_static : {V : Type 0} (order : Option ℕ) (sys : System V) (dropped : List ℕ) → KeepsUpTo order sys dropped
    → IsStatic sys dropped
asked_static order sys dropped k =
    let of : (rule : Rule) → rule_number rule < 8 → KeepsStaticRule sys dropped rule
    = λ rule l. k.each rule (asked_below order rule l) in
    static sys dropped (of S1 (omega arith)) (of S3 (omega arith)) (of S4 (omega arith)) (of S5 (omega arith)) (of S6 (omega arith))

-- Each step has an answer.
use Rattle.std.proofs.Common.{◌≡◌, ◌⊎◌, inl, inr, ℕ, Bool, true, false, true≢false, List, [], ◌∷◌, length, Contains, refl, sym, ◌∙◌, subst, arith}
use Rattle.ar_base.specs.Lists.{IsOneOf, IsFirst, HasNo}
use Rattle.ar_base.proofs.Standing.{one_none, one_cases, one_first, one_rest}
use Rattle.domains.proofs.Members.{contains-head, nothing-in}
use Rattle.domains.specs.declared.Value.{Value}
use Rattle.domains.specs.declared.Value.TheVariants.{Truth}
use Rattle.typed_expr.specs.Yields.{Yields}
use Rattle.typed_expr.specs.declared.expr.Expr.{out-Expr}
use Rattle.typed_expr.proofs.Listing.{Told, Listed, listed_as, listed_or, listed_where, value_told, contains_told, yields_listed, yields_told}
use Rattle.ar_meaning.specs.Systems.{Assign, Variable, Transition, Way, Leaf, Joint, Branches, Empty, Branch, Net}
use Rattle.ar_meaning.specs.Facts.{PassesConditions, HasValue}
use Rattle.ar_meaning.specs.Flows.{Flows, Outcome, Fails, Total}
use Rattle.ar_meaning.specs.Ways.{has_must, Can, guard_holds, all_musts, some_may, Musts_can, no_part, must, may, Some_can, this, later, Effects, acts, by_part, Part_effects, by_must, by_may, by_later}
use Rattle.ar_meaning.specs.Steps.{Clashes, LeavesDomain, Receives, changed, kept, Answer, Refused, Next, NotEnabled, Clash, Range, Flow, Step, not_enabled, clash, range, flow, moves}
use Rattle.ar_meaning.specs.Steps as s
use Rattle.ar_meaning.proofs.Lengths.{received_long}
use Rattle.ar_meaning.proofs.Outcomes.{not_told, both_told, some_told, first_or_none, passes_told, values_known, has_outcome}

module _ {V : Type 0} (facts : V → Value → Type 0) (known : (x : V) → Listed (facts x)) where
  leaf_told : (d : Transition V) → Told (Can facts (Leaf d))
  leaf_told d =
      elim
      (yields_told facts known d.guard (Truth true))
      [ inl h ↦ inl (guard_holds h) | inr n ↦ inr (λ c. elim c [ guard_holds h ↦ n h ]) ]

  joint_told : (bs : Branches (Transition V)) (b : Bool) → has_must bs ≡ b → Told (Musts_can facts bs)
      → Told (Some_can facts bs) → Told (Can facts (Joint bs))
  joint_told bs true e (inl m) s = inl (all_musts e m)
  joint_told bs true e (inr n) s = inr (λ c. elim c [ all_musts f m ↦ n m | some_may f k ↦ true≢false (sym e ∙ f) ])
  joint_told bs false e m (inl k) = inl (some_may e k)
  joint_told bs false e m (inr n) = inr (λ c. elim c [ all_musts f k ↦ true≢false (sym f ∙ e) | some_may f k ↦ n k ])

  musts_more : (b : Bool) (w : Way V) (bs : Branches (Transition V)) → Told (Can facts w) → Told (Musts_can facts bs)
      → Told (Musts_can facts (Branch b w bs))
  musts_more true w bs (inl c) (inl m) = inl (must c m)
  musts_more true w bs (inl c) (inr n) = inr (λ h. elim h [ must a b ↦ n b ])
  musts_more true w bs (inr n) t = inr (λ h. elim h [ must a b ↦ n a ])
  musts_more false w bs t (inl m) = inl (may m)
  musts_more false w bs t (inr n) = inr (λ h. elim h [ may b ↦ n b ])

  some_more : (b : Bool) (w : Way V) (bs : Branches (Transition V)) → Told (Can facts w) → Told (Some_can facts bs)
      → Told (Some_can facts (Branch b w bs))
  some_more m w bs (inl c) t = inl (this c)
  some_more m w bs (inr n) (inl k) = inl (later k)
  some_more m w bs (inr n) (inr k) = inr (λ h. elim h [ this a ↦ n a | later b ↦ k b ])

  mutual
    -- whether a way can fire
    pub can_told : (w : Way V) → Told (Can facts w)
    can_told (Leaf d) = leaf_told d
    can_told (Joint bs) = joint_told bs (has_must bs) refl (musts_told bs) (some_can_told bs)

    musts_told : (bs : Branches (Transition V)) → Told (Musts_can facts bs)
    musts_told Empty = inl no_part
    musts_told (Branch b w bs) = musts_more b w bs (can_told w) (musts_told bs)

    some_can_told : (bs : Branches (Transition V)) → Told (Some_can facts bs)
    some_can_told Empty = inr (λ h. elim h [ ])
    some_can_told (Branch b w bs) = some_more b w bs (can_told w) (some_can_told bs)

  module _ (key_told : (x y : V) → Told (x ≡ y)) (x : V) where
    -- one of the assignments gives the variable the value
    record Acts (xs : List (Assign V)) (v : Value) : Type 0 where
      pub assign : Assign V
      pub is_one : IsOneOf xs assign
      pub is_target : assign.target ≡ x
      pub passes : PassesConditions facts assign.conditions
      pub yields : Yields facts (out-Expr V assign.value) v

    acts_listed : (xs : List (Assign V)) → Listed (Acts xs)
    acts_listed [] = record {
      items = [];
      sound = λ v m. absurd (nothing-in v m);
      whole = λ v h. absurd (one_none h.assign h.is_one);
    }
    acts_listed (a ∷ xs) =
        listed_as
        (listed_or (listed_where (both_told (key_told a.target x) (passes_told facts known a.conditions))
        (yields_listed facts known a.value)) (acts_listed xs)) on back
      where
        on : (v : Value)
            → (((a.target ≡ x) × PassesConditions facts a.conditions) × Yields facts (out-Expr V a.value) v) ⊎ Acts xs v
            → Acts (a ∷ xs) v
        on v (inl h) = record { assign = a; is_one = one_first a xs; is_target = h.0.0; passes = h.0.1; yields = h.1 }
        on v (inr h) = record {
          assign = h.assign;
          is_one = one_rest a xs h.assign h.is_one;
          is_target = h.is_target;
          passes = h.passes;
          yields = h.yields;
        }

        at : (v : Value) (b : Assign V) → a ≡ b → b.target ≡ x → PassesConditions facts b.conditions
            → Yields facts (out-Expr V b.value) v
            → ((a.target ≡ x) × PassesConditions facts a.conditions) × Yields facts (out-Expr V a.value) v
        at v b e i p y =
            subst (λ (z : Assign V). ((z.target ≡ x) × PassesConditions facts z.conditions) × Yields facts
            (out-Expr V z.value) v)
            (sym e) ((i, p), y)

        back : (v : Value) → Acts (a ∷ xs) v
            → (((a.target ≡ x) × PassesConditions facts a.conditions) × Yields facts (out-Expr V a.value) v) ⊎ Acts xs v
        back v h = elim (one_cases a xs h.assign h.is_one) [
          | inl e ↦ inl (at v h.assign e h.is_target h.passes h.yields)
          | inr o ↦
              inr
              (record { assign = h.assign; is_one = o; is_target = h.is_target; passes = h.passes; yields = h.yields })
        ]

    leaf_acts : {d : Transition V} {y : V} {v : Value} → y ≡ x → Effects facts (Leaf d) y v → Acts d.action v
    leaf_acts e (acts a i p y) = record { assign = a; is_one = i; is_target = e; passes = p; yields = y }

    mutual
      -- the values that a way gives the variable
      pub effects_known : (w : Way V) → Listed (Effects facts w x)
      effects_known (Leaf d) =
          listed_as (acts_listed d.action)
          (λ v h. subst (λ (z : V). Effects facts (Leaf d) z v) h.is_target (acts h.assign h.is_one h.passes h.yields))
          (λ v e. leaf_acts refl e)
      effects_known (Joint bs) = listed_as (parts_known bs) (λ v h. by_part h) (λ v e. elim e [ by_part h ↦ h ])

      parts_known : (bs : Branches (Transition V)) → Listed (Part_effects facts bs x)
      parts_known Empty = record { items = []; sound = λ v m. absurd (nothing-in v m); whole = λ v h. elim h [ ] }
      parts_known (Branch true w bs) =
          listed_as (listed_or (effects_known w) (parts_known bs))
          (λ v h. elim h [ inl e ↦ by_must e | inr r ↦ by_later r ])
          (λ v h. elim h [ by_must e ↦ inl e | by_later r ↦ inr r ])
      parts_known (Branch false w bs) =
          listed_as (listed_or (listed_where (can_told w) (effects_known w)) (parts_known bs))
          (λ v h. elim h [ inl e ↦ by_may e.0 e.1 | inr r ↦ by_later r ])
          (λ v h. elim h [ by_may c e ↦ inl (c, e) | by_later r ↦ inr r ])

-- each variable's value after the effects, where those of each are listed
received : {V : Type 0} (effects : V → Value → Type 0) → ((x : V) → Listed (effects x))
    → (xs : List (Variable V)) (ts : List Value) → length ts ≡ length xs → (us : List Value) × Receives effects xs ts us
received effects known [] [] l = ([], s.none)
received effects known [] (v ∷ ts) l = absurd (omega (arith, l))
received effects known (x ∷ xs) [] l = absurd (omega (arith, l))
received effects known (x ∷ xs) (v ∷ ts) l =
    go (known x.key).items refl (received effects known xs ts (omega (arith, l)))
  where
    go : (ws : List Value) → (known x.key).items ≡ ws → (us : List Value) × Receives effects xs ts us
        → (us : List Value) × Receives effects (x ∷ xs) (v ∷ ts) us
    go [] j r = (v ∷ r.0, kept (λ u h. nothing-in u (subst (λ z. Contains z u) j ((known x.key).whole u h))) r.1)
    go (u ∷ ws) j r =
        (u ∷ r.0, changed ((known x.key).sound u (subst (λ z. Contains z u) (sym j) (contains-head u ws))) r.1)

module _ {V : Type 0} (key_told : (x y : V) → Told (x ≡ y)) (net : Net V) (t : List Value) (w : Way V) where
  abbrev effects : V → Value → Type 0
  effects = Effects (HasValue net t) w

  given : (x : V) → Listed (effects x)
  given x = effects_known (HasValue net t) (values_known key_told net t) key_told x w

  clash_told : (x : Variable V) → Told (Clashes effects x)
  clash_told x =
      let l = given x.key in
      elim
      (some_told (λ v. (u : Value) × Contains l.items u × (v ≡ u → ⊥)) l.items
      (λ v m. some_told (λ u. v ≡ u → ⊥) l.items (λ u n. not_told (value_told v u)))) [
        | inl r ↦
            inl
            (record {
              first = r.0;
              second = r.2.0;
              is_first = l.sound r.0 r.1;
              is_second = l.sound r.2.0 r.2.1;
              differ = r.2.2;
            })
        | inr n ↦ inr (λ h. n (h.first, l.whole h.first h.is_first, (h.second, l.whole h.second h.is_second, h.differ)))
      ]

  leaves_told : (x : Variable V) → Told (LeavesDomain effects x)
  leaves_told x =
      let l = given x.key in
      elim (some_told (λ v. Contains x.domain v → ⊥) l.items (λ v m. not_told (contains_told x.domain v))) [
        | inl r ↦ inl (record { value = r.0; received = l.sound r.0 r.1; outside = r.2 })
        | inr n ↦ inr (λ h. n (h.value, l.whole h.value h.received, h.outside))
      ]

  -- an answer
  pub has_answer : length t ≡ length net.variables → (a : Answer) × Step net t w a
  has_answer long =
      go (can_told (HasValue net t) (values_known key_told net t) w)
      (first_or_none (Clashes effects) net.variables (λ x o. clash_told x))
      (first_or_none (LeavesDomain effects) net.variables (λ x o. leaves_told x))
    where
      last : Can (HasValue net t) w → HasNo net.variables (Clashes effects) → HasNo net.variables (LeavesDomain effects)
          → (state : List Value) → Receives effects net.variables t state
          → (o : Outcome) → Flows net state o → (a : Answer) × Step net t w a
      last c n m state r (Fails f) h = (Refused (Flow f), flow state c n m r h)
      last c n m state r (Total next) h = (Next next, moves state c n m r h)

      go : Told (Can (HasValue net t) w)
          → ((n : ℕ) × IsFirst net.variables (Clashes effects) n) ⊎ HasNo net.variables (Clashes effects)
          → ((n : ℕ) × IsFirst net.variables (LeavesDomain effects) n) ⊎ HasNo net.variables (LeavesDomain effects)
          → (a : Answer) × Step net t w a
      go (inr n) p q = (Refused NotEnabled, not_enabled n)
      go (inl c) (inl r) q = (Refused (Clash r.0), clash c r.1)
      go (inl c) (inr n) (inl r) = (Refused (Range r.0), range c n r.1)
      go (inl c) (inr n) (inr m) =
          let r = received effects given net.variables t long in
          let o = has_outcome key_told net r.0 (received_long r.1) in
          last c n m r.0 r.1 o.0 o.1

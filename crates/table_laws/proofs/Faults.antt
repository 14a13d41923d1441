-- The three conflicts are seen exactly where the flows of the state are a fault.
use Rattle.std.proofs.Common.{◌≡◌, ◌↔◌, inl, inr, Bool, true, List, sym, ◌∙◌, subst}
use Rattle.ar_base.specs.Lists.{Stands, HasNo}
use Rattle.ar_base.proofs.Standing.{stands_one}
use Rattle.domains.specs.declared.Value.{Value}
use Rattle.typed_expr.proofs.Facts.{yields_more}
use Rattle.ar_meaning.specs.Systems.{Net}
use Rattle.ar_meaning.specs.Facts.{Allows, HasStateValue, HasValue, FactOf}
use Rattle.ar_meaning.specs.FactsInside.{AreKeyed}
use Rattle.ar_meaning.specs.Flows.{HasTwo, IsOutside, Completes, Outcome, Fails, Total, Flows, broken, all_hold}
use Rattle.ar_meaning.specs.Flows as w
use Rattle.ar_meaning.proofs.Least.{passes_more, closed}
use Rattle.ar_meaning.proofs.OneAnswer.{same_value}
use Rattle.ar_meaning.proofs.Completing.{Stays, as_state, as_known, as_reset, stays_at}
use Rattle.ar_firing.specs.Operands.{HasFault}
use Rattle.table_laws.specs.Known.{ReadingHolds, IsKnownInTheEnd, HasBroken, Totals, is_known, is_reset, IsConflict, seen_two, seen_outside, seen_broken, IsSomeFlow, AreOfFlows}
use Rattle.table_laws.proofs.Rounds.{facts_known, known_sound, HaveOne}

-- what is at odds with some facts is at odds with more
broken_more : {V : Type 0} (net : Net V) (P Q : V → Value → Type 0) → ((x : V) (v : Value) → P x v → Q x v)
    → HasBroken net P → HasBroken net Q
broken_more {V = V} net P Q h o = record {
  assign = o.assign;
  is_one = o.is_one;
  passes = passes_more V P Q h o.passes;
  value = o.value;
  yields = yields_more V P Q h o.yields;
  other = o.other;
  is_other = h o.assign.target o.other o.is_other;
  differ = o.differ;
}

module _ {V : Type 0} (net : Net V) (keyed : AreKeyed net) (t : List Value) (blocks : List (List V))
    (known : V → Value → Bool) (k : IsKnownInTheEnd net t blocks known) (flows : AreOfFlows net blocks) where
  -- no variable is a state and a flow
  state_or_flow : (x : V) (v : Value) → HasStateValue net t x v → IsSomeFlow net x → ⊥
  state_or_flow x v g f =
      let i = keyed.one g.place f.1.place g.variable f.1.variable g.stands f.1.stands (g.is_key ∙ sym f.1.is_key) in
      let e : g.variable ≡ f.1.variable = stands_one net.variables f.1.place g.variable f.1.variable
      (subst (λ n. Stands net.variables n g.variable) i g.stands) f.1.stands in
      let a = g.is_state in let b = f.1.is_flow in cc

  module _ (one : HaveOne net t blocks known k) (full : (x : V) (v : Value) → FactOf net t x v → known x v ≡ true)
      (values : List Value) (c : Completes (FactOf net t) net.variables t values) where
    -- what the valuation gives is total
    to_total : (x : V) (v : Value) → HasValue net values x v → Totals net known x v
    to_total x v h = go (stays_at c h.place h.variable h.stands)
      where
        go : Stays (FactOf net t) t values h.place h.variable → Totals net known x v
        go (as_state i u a b) =
            let e : u ≡ v = stands_one values h.place u v b h.value in
            is_known (k.given x v (record {
              place = h.place;
              variable = h.variable;
              stands = h.stands;
              is_key =
                  h.is_key;
              is_state = i;
              value = subst (λ z. Stands t h.place z) e a;
            }))
        go (as_known i u f b) =
            let e : u ≡ v = stands_one values h.place u v b h.value in
            is_known (full x v
            (subst (λ z. FactOf net t z v) h.is_key (subst (λ z. FactOf net t h.variable.key z) e f)))
        go (as_reset i f b) =
            is_reset h.place h.variable h.stands i h.is_key (stands_one values h.place h.variable.value v b h.value)
            (λ u e. f u (subst (λ z. FactOf net t z u) (sym h.is_key) (known_sound net t blocks known k x u e)))

    value_of_flow : (x : V) → IsSomeFlow net x → (v : Value) × HasValue net values x v
    value_of_flow x f = go (stays_at c f.1.place f.1.variable f.1.stands)
      where
        at : (v : Value) → Stands values f.1.place v → HasValue net values x v
        at v s = record {
          place = f.1.place;
          variable = f.1.variable;
          stands = f.1.stands;
          is_key = f.1.is_key;
          value = s;
        }

        go : Stays (FactOf net t) t values f.1.place f.1.variable → (v : Value) × HasValue net values x v
        go (as_state i u a b) = (u, at u b)
        go (as_known i u d b) = (u, at u b)
        go (as_reset i d b) = (f.1.variable.value, at f.1.variable.value b)

    -- what is total the valuation gives
    from_total : (x : V) (v : Value) → Totals net known x v → HasValue net values x v
    from_total x v (is_known e) = elim (k.only x v e) [
      | inl g ↦ given g (stays_at c g.place g.variable g.stands)
      | inr b ↦ flow (flows.members b.0 b.1 b.2 x b.3) (λ w d. one b.0 b.1 b.2 x w v b.3 d e)
    ]
      where
        given : (g : HasStateValue net t x v) → Stays (FactOf net t) t values g.place g.variable
            → HasValue net values x v
        given g (as_state i u a b) =
            let s : u ≡ v = stands_one t g.place u v a g.value in
            record {
              place = g.place;
              variable = g.variable;
              stands = g.stands;
              is_key = g.is_key;
              value = subst
                  (λ z. Stands values g.place z) s b;
            }
        given g (as_known i u f b) = let s = g.is_state in absurd cc
        given g (as_reset i f b) = let s = g.is_state in absurd cc

        flow : (f : IsSomeFlow net x) → ((w : Value) → known x w ≡ true → w ≡ v) → HasValue net values x v
        flow f same = go (stays_at c f.1.place f.1.variable f.1.stands)
          where
            at : (u : Value) → Stands values f.1.place u → known x u ≡ true → HasValue net values x v
            at u s d = record {
              place = f.1.place;
              variable = f.1.variable;
              stands = f.1.stands;
              is_key =
                  f.1.is_key;
              value = subst (λ z. Stands values f.1.place z) (same u d) s;
            }

            go : Stays (FactOf net t) t values f.1.place f.1.variable → HasValue net values x v
            go (as_state i u a b) = let s = f.1.is_flow in absurd cc
            go (as_known i u d b) = at u b (full x u (subst (λ z. FactOf net t z u) f.1.is_key d))
            go (as_reset i d b) = absurd
                (d v (subst (λ z. FactOf net t z v) (sym f.1.is_key) (known_sound net t blocks known k x v e)))
    from_total x v (is_reset n y s i key r lacks) = go (stays_at c n y s)
      where
        at : (u : Value) → Stands values n u → u ≡ v → HasValue net values x v
        at u b e = record
            { place = n; variable = y; stands = s; is_key = key; value = subst (λ z. Stands values n z) e b }

        go : Stays (FactOf net t) t values n y → HasValue net values x v
        go (as_state j u a b) = absurd cc
        go (as_known j u d b) = absurd (lacks u (full x u (subst (λ z. FactOf net t z u) key d)))
        go (as_reset j d b) = at y.value b r

  -- where no flow has two facts and no assignment that the facts reach leaves a domain, each fact is known
  all_known : HasNo net.variables (HasTwo net t) → HasNo net.variables (IsOutside net t)
      → HaveOne net t blocks known k × ((x : V) (v : Value) → FactOf net t x v → known x v ≡ true)
  all_known no_two no_out = (one, facts_known net t blocks known k one even)
    where
      same : (x : V) (v u : Value) → IsSomeFlow net x → FactOf net t x v → FactOf net t x u → (v ≡ u → ⊥) → ⊥
      same x v u f d e n = no_two.has_not f.1.place f.1.variable f.1.stands (record {
        is_flow = f.1.is_flow;
        first = v;
        second = u;
        is_first = subst (λ z. FactOf net t z v) (sym f.1.is_key) d;
        is_second = subst (λ z. FactOf net t z u) (sym f.1.is_key) e;
        differ = n;
      })

      one : HaveOne net t blocks known k
      one n block s x v u o d e = same_value v u (λ i. same x v u (flows.members n block s x o)
          (known_sound net t blocks known k x v d) (known_sound net t blocks known k x u e) i)

      even : HasBroken net (ReadingHolds known) → ⊥
      even o =
          let up = known_sound net t blocks known k in
          let f = flows.targets o.assign o.is_one in
          let p = passes_more V (ReadingHolds known) (FactOf net t) up o.passes in
          let y = yields_more V (ReadingHolds known) (FactOf net t) up o.yields in
          no_out.has_not f.1.place f.1.variable f.1.stands (record {
            is_flow = f.1.is_flow;
            assign = o.assign;
            value = o.value;
            is_one = o.is_one;
            is_target = sym f.1.is_key;
            passes = p;
            yields = y;
            outside = λ c. same o.assign.target o.value o.other f
                (closed net.assertions (Allows net) (HasStateValue net t) o.assign o.value o.is_one p y (record {
                  place =
                      f.1.place;
                  variable = f.1.variable;
                  stands = f.1.stands;
                  is_key = f.1.is_key;
                  has = c;
                }))
                (up o.assign.target o.other o.is_other) o.differ;
          })

  -- a conflict is a fault
  pub conflict_faults : (o : Outcome) → Flows net t o → IsConflict net known → HasFault net t
  conflict_faults (Fails f) d c = record { fault = f; flows = d }
  conflict_faults (Total values) (all_hold no_two no_out c no_broken) s = absurd (none_seen s)
    where
      a : HaveOne net t blocks known k × ((x : V) (v : Value) → FactOf net t x v → known x v ≡ true)
      a = all_known no_two no_out

      up : (x : V) (v : Value) → known x v ≡ true → FactOf net t x v
      up = known_sound net t blocks known k

      none_seen : IsConflict net known → ⊥
      none_seen (seen_two h) = no_two.has_not h.place h.variable h.stands (record {
        is_flow = h.is_flow;
        first = h.first;
        second = h.second;
        is_first = up h.variable.key h.first h.is_first;
        is_second = up h.variable.key h.second h.is_second;
        differ = h.differ;
      })
      none_seen (seen_outside h) = no_out.has_not h.place h.variable h.stands (record {
        is_flow = h.is_flow;
        assign = h.assign;
        value = h.value;
        is_one = h.is_one;
        is_target = h.is_target;
        passes = passes_more V (ReadingHolds known) (FactOf net t) up h.passes;
        yields = yields_more V (ReadingHolds known) (FactOf net t) up h.yields;
        outside = h.outside;
      })
      none_seen (seen_broken h) =
          let down = from_total a.0 a.1 values c in
          no_broken.has_not h.is_one.place h.assign h.is_one.stands (record {
            passes = passes_more V (Totals net known) (HasValue net values) down h.passes;
            value = h.value;
            yields = yields_more V (Totals net known) (HasValue net values) down h.yields;
            differs = λ v. h.differ
                (one_value h.assign.target h.value h.other v (down h.assign.target h.other h.is_other));
          })
        where
          one_value : (x : V) (v u : Value) → HasValue net values x v → HasValue net values x u → v ≡ u
          one_value x v u h g =
              let i = keyed.one h.place g.place h.variable g.variable h.stands g.stands (h.is_key ∙ sym g.is_key) in
              stands_one values g.place v u (subst (λ n. Stands values n v) i h.value) g.value

  -- where there is no conflict the state has flows, and they are the total valuation
  pub no_conflict_flows : (o : Outcome) → Flows net t o → (IsConflict net known → ⊥) → (values : List Value) × Flows
      net t (Total values) × ((x : V) (v : Value) → HasValue net values x v ↔ Totals net known x v)
  no_conflict_flows o d free = go o d
    where
      one : HaveOne net t blocks known k
      one n block s x v u m e g = same_value v u (λ i.
          let f = flows.members n block s x m in
          free (seen_two (record {
            place = f.1.place;
            variable = f.1.variable;
            stands = f.1.stands;
            is_flow = f.1.is_flow;
            first = v;
            second = u;
            is_first = subst (λ z. known z v ≡ true) (sym f.1.is_key) e;
            is_second = subst (λ z. known z u ≡ true) (sym f.1.is_key) g;
            differ = i;
          })))

      full : (x : V) (v : Value) → FactOf net t x v → known x v ≡ true
      full = facts_known net t blocks known k one (λ h. free
          (seen_broken (broken_more net (ReadingHolds known) (Totals net known) (λ x v e. is_known e) h)))

      go : (o : Outcome) → Flows net t o → (values : List Value) × Flows net t (Total values)
          × ((x : V) (v : Value) → HasValue net values x v ↔ Totals net known x v)
      go (Total values) (all_hold a b c e) = (
        values,
        all_hold a b c e,
        λ x v.
            (to_total one full values c x v, from_total one full values c x v),
      )
      go (Fails f) (w.two h) = absurd (free (seen_two (record {
        place = _;
        variable = h.item;
        stands = h.stands;
        is_flow = h.has.is_flow;
        first = h.has.first;
        second = h.has.second;
        is_first = full h.item.key h.has.first h.has.is_first;
        is_second = full h.item.key h.has.second h.has.is_second;
        differ = h.has.differ;
      })))
      go (Fails f) (w.outside a h) = absurd (free (seen_outside (record {
        place = _;
        variable = h.item;
        stands = h.stands;
        is_flow = h.has.is_flow;
        assign = h.has.assign;
        is_one = h.has.is_one;
        is_target = h.has.is_target;
        passes = passes_more V (FactOf net t) (ReadingHolds known) full h.has.passes;
        value = h.has.value;
        yields = yields_more V (FactOf net t) (ReadingHolds known) full h.has.yields;
        outside = h.has.outside;
      })))
      go (Fails f) (w.broken values a b c h) =
          let up = to_total one full values c in
          let v = value_of_flow one full values c h.item.target
          (flows.targets h.item (record { place = _; stands = h.stands })) in
          absurd (free (seen_broken (record {
            assign = h.item;
            is_one = record { place = _; stands = h.stands };
            passes = passes_more V (HasValue net values) (Totals net known) up h.has.passes;
            value = h.has.value;
            yields = yields_more V (HasValue net values) (Totals net known) up h.has.yields;
            other = v.0;
            is_other = up h.item.target v.0 v.1;
            differ = λ e. h.has.differs (subst (λ z. HasValue net values h.item.target z) (sym e) v.1);
          })))

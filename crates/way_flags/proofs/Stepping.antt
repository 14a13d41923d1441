-- What firing a way gives, before its flows.
use Rattle.std.proofs.Common.{◌≡◌, ◌<◌, ◌+◌, ◌⊎◌, ℕ, Bool, true, List, map, Some, None, sym, ◌∙◌, subst, inl, inr, arith}
use Rattle.std.specs.List.Sorted.{IsPermutation}
use Rattle.ar_base.specs.Lists.{Stands, IsOneOf, HasNo}
use Rattle.ar_base.specs.Numbers.{VarId, WayId}
use Rattle.ar_base.proofs.Standing.{stands_map_back}
use Rattle.domains.proofs.Domains.{listed, held}
use Rattle.domains.specs.declared.Value.{Value}
use Rattle.ar_meaning.specs.Systems as s
use Rattle.ar_meaning.specs.Facts.{HasValue}
use Rattle.ar_meaning.specs.Numbered.{Means_way}
use Rattle.ar_meaning.specs.Steps.{Clashes, LeavesDomain}
use Rattle.ar_meaning.specs.Steps as steps
use Rattle.ar_meaning.specs.Ways.{Can, Effects}
use Rattle.gts_core.specs.View.{net_of, way_bodies, variable_of}
use Rattle.gts_core.specs.Sound.{IsSound}
use Rattle.gts_core.specs.declared.system.GtsParts.{GtsParts}
use Rattle.gts_core.specs.Readings.{IsTotal}
use Rattle.gts_core.proofs.Tests.{answer_true}
use Rattle.gts_core.proofs.Viewing.{variable_there, variable_back}
use Rattle.flow_propagate.specs.NewValues.{AreNewValues, IsNewValue, written}
use Rattle.flow_propagate.proofs.Written.{written_long}
use Rattle.way_flags.specs.Parts.{flag_at}
use Rattle.way_flags.specs.Ways.{AreFlags}
use Rattle.way_flags.specs.Taking.{AreTakers}
use Rattle.way_flags.specs.Effects.{taken_effects, EffectGives}
use Rattle.way_flags.specs.Receiving.{AreToState, ReceivesOne, IsLeastClash, KeepsDomain, IsLeastLeaving, AreOneEach}
use Rattle.way_flags.specs.Ready.{IsReadyWay, AreReceived}
use Rattle.way_flags.specs.declared.effects.Effect.{Effect}
use Rattle.way_flags.proofs.Acting.{given_effect, effect_given, to_state}
use Rattle.way_flags.proofs.Neighbours.{gives_moved, gives_back}
use Rattle.way_flags.proofs.Writing.{Writes, IsUnwritten, written_at, receives_each}

-- the effects on state variables alone, in any order
pub moved_to_state : (p : GtsParts) (sound : IsSound p) (t : List Value) (ids : List WayId) (all sorted : List Effect)
    → all ≡ taken_effects t p.ways.items ids → IsPermutation all sorted → AreToState p sorted
moved_to_state p sound t ids all sorted is perm n v g =
    to_state p sound t ids n v (subst (λ (z : List Effect). EffectGives z n v) is (gives_back all sorted perm n v g))

-- the pairs of effects that keep their domains
pub new_values : (p : GtsParts) (effects : List Effect) (new : List (VarId × Value)) → AreToState p effects
    → ((n : ℕ) → KeepsDomain p effects n) → AreOneEach effects new → AreNewValues p new
new_values p effects new states keeps each = record { ascend = record { ascends = rise }; each = one }
  where
    rise : (j k a b : ℕ) → j < k → Stands (map (λ (r : VarId × Value). r.0.n) new) j a
        → Stands (map (λ (r : VarId × Value). r.0.n) new) k b → a < b
    rise j k a b l u v =
        let r = stands_map_back (λ (r : VarId × Value). r.0.n) new j a u in
        let q = stands_map_back (λ (r : VarId × Value). r.0.n) new k b v in
        let h = each.ascend j k r.0 q.0 l r.1 q.1 in
        let e = r.2 in
        let f = q.2 in
        omega (arith, h, e, f)

    one : (r : VarId × Value) → IsOneOf new r → IsNewValue p r
    one r o =
        let g = each.given r o in
        let x = states r.0.n r.1 g in
        record {
          variable = x.variable;
          stands = x.stands;
          is_state = x.is_state;
          in_domain = keeps r.0.n x.variable r.1 x.stands g;
        }

module _ (p : GtsParts) (sound : IsSound p) (t : List Value) (total : IsTotal p t) (flags : List Bool)
    (right : AreFlags p t flags) (top : ℕ) (can : flag_at flags top ≡ true)
    (ids : List WayId) (takers : AreTakers p flags top ids) (all sorted : List Effect)
    (is : all ≡ taken_effects t p.ways.items ids) (perm : IsPermutation all sorted) (w : s.Way ℕ)
    (m : Means_way (way_bodies p) top w) where
  can_fire : Can (HasValue (net_of p) t) w
  can_fire = answer_true (flag_at flags top) (Can (HasValue (net_of p) t) w) can (right.flag top w m)

  abbrev pub E : ℕ → Value → Type 0
  E = Effects (HasValue (net_of p) t) w

  on : (n : ℕ) (v : Value) → EffectGives sorted n v → E n v
  on n v g = given_effect p sound t total flags right top w m ids takers n v
      (subst (λ (z : List Effect). EffectGives z n v) is (gives_back all sorted perm n v g))

  off : (n : ℕ) (v : Value) → E n v → EffectGives sorted n v
  off n v e = gives_moved all sorted perm n v
      (subst (λ (z : List Effect). EffectGives z n v) (sym is)
      (effect_given p sound t total flags right top w m ids takers n v e))

  -- a variable all of whose values are the same does not clash
  no_clash_at : (n : ℕ) (y : s.Variable ℕ) → Stands (net_of p).variables n y → ReceivesOne sorted n → Clashes E y → ⊥
  no_clash_at n y st one c =
      let x = variable_back p n y st in
      let d = subst (λ (z : s.Variable ℕ). Clashes E z) (sym x.2) c in
      d.differ (one d.first d.second (off n d.first d.is_first) (off n d.second d.is_second))

  none_clash : IsLeastClash sorted None → HasNo (net_of p).variables (Clashes E)
  none_clash one = record { has_not = λ k y st c. no_clash_at k y st (one k) c }

  pub clash_step : AreToState p sorted → (x : VarId) → IsLeastClash sorted (Some x)
      → steps.Step (net_of p) t w (steps.Refused (steps.Clash x.n))
  clash_step states x f =
      let two = f.0 in
      let y = states x.n two.first two.is_first in
      steps.clash can_fire (record {
        item = variable_of x.n y.variable;
        stands = variable_there p x.n y.variable y.stands;
        has = record {
          first = two.first;
          second = two.second;
          is_first = on x.n two.first two.is_first;
          is_second = on x.n two.second two.is_second;
          differ = two.differ;
        };
        before = λ k a below st c. no_clash_at k a st (f.1 k below) c;
      })

  -- a variable all of whose values are in its domain does not leave it
  no_leave_at : (n : ℕ) (y : s.Variable ℕ) → Stands (net_of p).variables n y → KeepsDomain p sorted n → LeavesDomain E y → ⊥
  no_leave_at n y st keeps l =
      let x = variable_back p n y st in
      let d = subst (λ (z : s.Variable ℕ). LeavesDomain E z) (sym x.2) l in
      d.outside (listed x.0.domain d.value (keeps x.0 d.value x.1 (off n d.value d.received)))

  pub range_step : (x : VarId) → IsLeastClash sorted None → IsLeastLeaving p sorted (Some x)
      → steps.Step (net_of p) t w (steps.Refused (steps.Range x.n))
  range_step x one f =
      let l = f.0 in
      steps.range can_fire (none_clash one) (record {
        item = variable_of x.n l.variable;
        stands = variable_there p x.n l.variable l.stands;
        has = record {
          value = l.value;
          received = on x.n l.value l.gives;
          outside = λ c. l.outside (held l.variable.domain l.value (sound.variables x.n l.variable l.stands).domain c);
        };
        before = λ k a below st h. no_leave_at k a st (f.1 k below) h;
      })

  -- the pairs are what is received
  pub exactly : IsLeastClash sorted None → (new : List (VarId × Value)) → AreOneEach sorted new
      → AreReceived (net_of p) t w new
  exactly one new each = record {
    only = λ q o. on q.0.n q.1 (each.given q o);
    all = λ n v e.
        let g = off n v e in
        let r = each.all n v g in
        let h : EffectGives sorted n r.pair.1 =
        subst (λ (z : ℕ). EffectGives sorted z r.pair.1) r.is (each.given r.pair r.is_one) in
        (r.pair, r.is_one, r.is, one n r.pair.1 v h g);
  }

  pub ready : IsLeastClash sorted None → IsLeastLeaving p sorted None → (new : List (VarId × Value))
      → AreOneEach sorted new → IsReadyWay (net_of p) t w (written t new)
  ready one keeps new each = record {
    can = can_fire;
    no_clash = none_clash one;
    no_range = record { has_not = λ k y st l. no_leave_at k y st (keeps k) l };
    receives = receives_each E 0 p.variables.items t (written t new) total.long (written_long t new ∙ total.long)
        received_at;
  }
    where
      received_at : (n k : ℕ) (v : Value) → k ≡ 0 + n → Stands (written t new) n v
          → E k v ⊎ (Stands t n v × ((u : Value) → E k u → ⊥))
      received_at n k v e st = go (let h : n ≡ k = omega (arith, e) in h) (written_at t new n v st)
        where
          go : n ≡ k → Writes new n v ⊎ (Stands t n v × IsUnwritten new n)
              → E k v ⊎ (Stands t n v × ((u : Value) → E k u → ⊥))
          go h (inl a) =
              let g = on a.pair.0.n a.pair.1 (each.given a.pair a.is_one) in
              inl (subst (λ (z : ℕ). E z v) (a.number ∙ h) (subst (λ (z : Value). E a.pair.0.n z) a.value g))
          go h (inr a) = inr (
            a.0,
            λ u f.
                let o = each.all k u (off k u f) in
                a.1 o.pair o.is_one (o.is ∙ sym h),
          )

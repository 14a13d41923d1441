-- The table's two operands at a set: a conflict is seen exactly where there is one, and the observer's value is that
-- under the total reading.
use Rattle.std.proofs.Common.{◌≡◌, ◌↔◌, ℕ, zero, suc, ◌+◌, ◌⊎◌, inl, inr, Bool, true, false, List, [], ◌∷◌, map, Contains, refl, sym, ap, ◌∙◌, subst, arith}
use Rattle.ar_base.specs.Lists.{Stands, Along}
use Rattle.ar_base.specs.Lists as l
use Rattle.ar_base.proofs.Standing.{stands_one, stands_map, stands_map_back, one_here}
use Rattle.domains.specs.declared.Value.{Value}
use Rattle.typed_expr.specs.Yields.{Yields}
use Rattle.typed_expr.proofs.Facts.{yields_more}
use Rattle.typed_expr.specs.Kinds.{kind_of, HasKind}
use Rattle.typed_expr.specs.declared.expr.ValueKind.{ValueKind}
use Rattle.typed_expr.specs.declared.expr.Expr.{Expr, out-Expr}
use Rattle.ar_meaning.specs.Systems.{Assign, Variable, Net}
use Rattle.ar_meaning.specs.Facts.{PassesConditions, Allows, HasStateValue}
use Rattle.ar_firing.specs.Forest.{ModeTree}
use Rattle.gts_core.specs.Lawful.{IsTypedAssign, IsLawful}
use Rattle.eq_core.specs.Gates.{Operand, Gate, Made, Table}
use Rattle.eq_core.specs.ValuesInside.{IsTrueWhere, GainsGates}
use Rattle.eq_core.proofs.Telling.{grows_on, tells_kept, tells_as}
use Rattle.eq_build.specs.Entries.{Entry, operand_for}
use Rattle.eq_build.specs.Tells.{AreEntries}
use Rattle.eq_build.proofs.EntriesTell.{entries_kept, entries_as, entry_tells}
use Rattle.eq_build.proofs.BuildsTell.{builds_tell}
use Rattle.table_laws.specs.Known.{ReadingHolds, IsSomeFlow, AreOfFlows, IsKnownInTheEnd, Totals, is_known, is_reset, IsConflict, seen_two, seen_outside, seen_broken}
use Rattle.eq_build.specs.Steps.{Reading, Threads, updated, Sees_two, sees_two, Sees_outside, sees_outside, Sees_broken, sees_broken, MayLeave, Totals_of, total, flows_from, first_reading}
use Rattle.eq_build.specs.Steps as w
use Rattle.eq_build.specs.Table.{IsTable, flow_numbers}
use Rattle.table_laws.proofs.OperandsTell.{TellSome, some_kept, some_or, any_of_some, SomeIs, some_along, threads_tell}
use Rattle.table_laws.proofs.Growing.{threads_more, two_more, outside_more, broken_more, totals_more, joint_is, up_seen, up_conflict, up_totals, up_outs, up_twos, up_rounds, rounds_to_seen}
use Rattle.table_laws.proofs.AssignsTell.{assign_tells}
use Rattle.table_laws.proofs.RoundsHold.{held, IsSound, IsUpdated, in_block, outside, is_updated}
use Rattle.table_laws.proofs.KnownInEnd.{AreInOrder, all_hold, all_known}
use Rattle.table_laws.proofs.ConflictsTell.{IsApart, broken_tells, HasBoth, two_tells, LeavesBy, outside_tells}
use Rattle.table_laws.proofs.TotalsTell.{IsTotal, known, unknown, total_built}
use Rattle.table_laws.proofs.FlowsListed.{flow_in, in_flow, looked_at, looks_at}

-- what the steps before the rounds tell at a set: the first reading has the values of the state's variables
pub record HasBegun (set : List ℕ) (t : List Value) {net : Net ℕ} {kinds : ℕ → ValueKind}
    (lawful : IsLawful net kinds) {trees : List ModeTree} {observer : Expr ℕ} {wanted : Value} {table : Table}
    (steps : IsTable net trees observer wanted table) : Type 0 where
  pub order : AreInOrder net steps.blocks
  pub of_flows : AreOfFlows net steps.blocks
  pub sound : IsSound set kinds net lawful steps.seen.gates steps.after_modes
      (first_reading trees steps.modes 0 net.variables)
  pub given : (x : ℕ) (d : Value)
      → (held set steps.seen.gates (first_reading trees steps.modes 0 net.variables) x d ≡ true) ↔ HasStateValue net t x
      d
  pub states : (x : ℕ) (d : Value) → HasStateValue net t x d → IsSomeFlow net x → ⊥

module _ (net : Net ℕ) (trees : List ModeTree) (observer : Expr ℕ) (wanted : Value) (table : Table)
    (steps : IsTable net trees observer wanted table) (kinds : ℕ → ValueKind) (lawful : IsLawful net kinds)
    (set : List ℕ) (t : List Value) (begun : HasBegun set t lawful steps) where
  abbrev flows : List (ℕ × Variable ℕ)
  flows = flows_from 0 net.variables

  abbrev numbers : List ℕ
  numbers = flow_numbers net

  abbrev pub known_at : ℕ → Value → Bool
  known_at = held set steps.seen.gates steps.known

  abbrev total_read : Reading
  total_read = updated steps.known numbers steps.totals

  abbrev total_facts : ℕ → Value → Type 0
  total_facts = Totals net known_at

  key_is : (n : ℕ) (x : Variable ℕ) → Stands net.variables n x → x.key ≡ n
  key_is n x s = let keys = lawful.numbered in keys.key n x s

  resets : (n : ℕ) (x : Variable ℕ) → Stands net.variables n x → Contains x.domain x.value
  resets n x s = lawful.begins x (one_here net.variables n x s)

  pub is_known_at : IsKnownInTheEnd net t steps.blocks known_at
  is_known_at = all_known set kinds net lawful steps.seen.gates t steps.has_rounds begun.sound (rounds_to_seen steps)
      begun.order begun.of_flows begun.given begun.states

  sound_known : IsSound set kinds net lawful steps.seen.gates steps.after_rounds steps.known
  sound_known =
      let r = all_hold set kinds net lawful steps.seen.gates steps.has_rounds begun.sound (rounds_to_seen steps) in
      r.is_sound

  record KnownTold (g : List Gate) : Type 0 where
    pub each : (x : ℕ) → AreEntries set g (steps.known x) (ReadingHolds known_at x)

  known_kept : (g h : List Gate) → GainsGates g h → KnownTold g → KnownTold h
  known_kept g h s k = record { each = λ x. entries_kept s (k.each x) }

  known_kinds : (x : ℕ) (d : Value) → ReadingHolds known_at x d → kind_of d ≡ kinds x
  known_kinds x d e = lawful.of_kind x d (let s = sound_known in s.allowed x d e)

  after_rounds_told : KnownTold steps.after_rounds
  after_rounds_told = record { each = λ x. let s = sound_known in s.each x }

  after_twos_told : KnownTold steps.after_twos
  after_twos_told = known_kept steps.after_rounds steps.after_twos (up_rounds steps) after_rounds_told

  after_outs_told : KnownTold steps.after_outs
  after_outs_told = known_kept steps.after_twos steps.after_outs (up_twos steps) after_twos_told

  -- two values
  abbrev Two : ℕ → Type 0
  Two n = HasBoth (ReadingHolds known_at n)

  twos_told : TellSome set steps.after_twos steps.twos (SomeIs Two numbers)
  twos_told = some_along Two (threads_tell set (Sees_two steps.known) (two_more steps.known) KnownTold known_kept
      (λ n. Unit {0}) Two (λ g h n o ok k c. at g n h o k c) steps.sees_twos (λ n x s. tt) after_rounds_told)
    where
      at : (g : List Gate) (n : ℕ) (h : List Gate) (o : Operand) → KnownTold g → Sees_two steps.known g n o h
          → IsTrueWhere set h o (Two n)
      at g n h o k sees_two = two_tells set g (k.each n)

  -- values outside
  abbrev Leaves : Variable ℕ × Assign ℕ → Type 0
  Leaves y =
      LeavesBy (PassesConditions (ReadingHolds known_at) y.1.conditions) (Yields (ReadingHolds known_at) (out-Expr ℕ y.1.value))
      y.0.domain

  outs_told : TellSome set steps.after_outs steps.outs (SomeIs Leaves steps.leaving)
  outs_told = some_along Leaves (threads_tell set (Sees_outside steps.known) (outside_more steps.known) KnownTold
      known_kept (λ y. IsTypedAssign kinds y.1) Leaves at steps.sees_outs
      (λ n y s.
      let r = looked_at net 0 steps.all_leave y (record { place = n; stands = s }) in lawful.typed y.1 r.is_one)
      after_twos_told)
    where
      at : (g h : List Gate) (y : Variable ℕ × Assign ℕ) (o : Operand) → IsTypedAssign kinds y.1 → KnownTold g
          → Sees_outside steps.known g y o h → IsTrueWhere set h o (Leaves y)
      at g h y o q k (sees_outside {x = x} {r = r} c) =
          let a = assign_tells set kinds (ReadingHolds known_at) known_kinds steps.known c q (record { each = k.each }) in
          outside_tells set r.gates x.domain a.conditions a.entries

  -- the total reading
  record TotalsTold (g : List Gate) : Type 0 where
    pub each : (x : ℕ) → AreEntries set g (steps.total x) (total_facts x)

  of_total : (n : ℕ) (x : Variable ℕ) → Stands net.variables n x → x.is_state ≡ false → (d : Value)
      → IsTotal (ReadingHolds known_at n) x.value d → total_facts n d
  of_total n x s f d (known e) = is_known e
  of_total n x s f d (unknown i lacks) = is_reset n x s f (key_is n x s) (sym i) lacks

  to_total : (n : ℕ) (x : Variable ℕ) → Stands net.variables n x → (d : Value) → total_facts n d
      → IsTotal (ReadingHolds known_at n) x.value d
  to_total n x s d (is_known e) = known e
  to_total n x s d (is_reset m y st f key r lacks) =
      let i : m ≡ n = sym (key_is m y st) ∙ key in
      let e : y ≡ x = stands_one net.variables n y x (subst (λ z. Stands net.variables z y) i st) s in
      unknown (sym (ap (λ (z : Variable ℕ). z.value) (sym e) ∙ r)) lacks

  abbrev TotalEntries : List Gate → ℕ → List Entry → Type 0
  TotalEntries g n es = AreEntries set g es (total_facts n)

  abbrev IsListed : ℕ × Variable ℕ → Type 0
  IsListed p = Stands net.variables p.0 p.1 × (p.1.is_state ≡ false)

  totals_along : (ps : List (ℕ × Variable ℕ)) {g h : List Gate} {ess : List (List Entry)}
      → Threads (Totals_of steps.known) g ps ess h → KnownTold g
      → ((k : ℕ) (p : ℕ × Variable ℕ) → Stands ps k p → IsListed p)
      → Along (TotalEntries h) (map (λ (p : ℕ × Variable ℕ). p.0) ps) ess
  totals_along [] w.none k ok = l.none
  totals_along (p ∷ ps) (w.one_and {g = g} {h = h} {b = es} c d) k ok =
      let s = totals_more steps.known g h p es c in
      l.one_and
      (entries_kept (threads_more (Totals_of steps.known) (totals_more steps.known) d)
      (at g h p es c k (ok zero p refl)))
      (totals_along ps d (known_kept g h s k) (λ j q st. ok (suc j) q st))
    where
      at : (g h : List Gate) (p : ℕ × Variable ℕ) (es : List Entry) → Totals_of steps.known g p es h → KnownTold g
          → IsListed p → TotalEntries h p.0 es
      at g h p es (total {n = n} {x = x}) k ok =
          let r = total_built set (ReadingHolds known_at n) (steps.known n) x.value g (k.each n) in
          entries_as (of_total n x ok.0 ok.1) (to_total n x ok.0) r.entries

  all_listed : (k : ℕ) (p : ℕ × Variable ℕ) → Stands flows k p → IsListed p
  all_listed k p s =
      let r = in_flow net.variables 0 p (record { place = k; stands = s }) in
      let i = r.is in
      let j : r.place ≡ p.0 = omega (arith, i) in
      (subst (λ (z : ℕ). Stands net.variables z p.1) j r.stands, r.is_flow)

  after_totals_told : TotalsTold steps.after_totals
  after_totals_told =
      let along = totals_along flows steps.has_totals after_outs_told all_listed in
      record {
        each = λ x. subst (λ (z : Reading). AreEntries set steps.after_totals (z x) (total_facts x))
            (sym steps.is_total) (each x (is_updated (TotalEntries steps.after_totals) steps.known along x));
      }
    where
      each : (x : ℕ) → IsUpdated (TotalEntries steps.after_totals) steps.known numbers steps.totals x
          → TotalEntries steps.after_totals x (total_read x)
      each x (in_block o a) = a
      each x (outside o i) =
          let k = known_kept steps.after_outs steps.after_totals (up_outs steps) after_outs_told in
          subst (λ z. AreEntries set steps.after_totals z (total_facts x)) (sym i)
          (entries_as (λ d e. is_known e) (λ d h. back d h) (k.each x))
        where
          back : (d : Value) → total_facts x d → ReadingHolds known_at x d
          back d (is_known e) = e
          back d (is_reset n y s f key r lacks) =
              let j : n ≡ x = sym (key_is n y s) ∙ key in
              let p = flow_in net.variables 0 n x y (omega (arith, j)) s f in
              absurd (o (record {
                place = p.place;
                stands = stands_map (λ (q : ℕ × Variable ℕ). q.0) flows p.place (x, y) p.stands;
              }))

  total_kinds : (x : ℕ) (d : Value) → total_facts x d → kind_of d ≡ kinds x
  total_kinds x d (is_known e) = known_kinds x d e
  total_kinds x d (is_reset n y s f key r lacks) = lawful.of_kind x d (record {
    place = n;
    variable = y;
    stands = s;
    is_key = key;
    has = subst (λ z. Contains y.domain z) r (resets n y s);
  })

  totals_kept : (g h : List Gate) → GainsGates g h → TotalsTold g → TotalsTold h
  totals_kept g h s k = record { each = λ x. entries_kept s (k.each x) }

  -- assignments that do not hold
  abbrev Breaks : Assign ℕ → Type 0
  Breaks a =
      IsApart (PassesConditions total_facts a.conditions) (Yields total_facts (out-Expr ℕ a.value))
      (total_facts a.target)

  broken_told : TellSome set steps.after_broken steps.broken (SomeIs Breaks net.assertions)
  broken_told = some_along Breaks (threads_tell set (Sees_broken steps.total) (broken_more steps.total) TotalsTold
      totals_kept (IsTypedAssign kinds) Breaks (λ g h a o q k c. at g a h o q k c) steps.sees_broken
      (λ n a s. lawful.typed a (record { place = n; stands = s })) after_totals_told)
    where
      at : (g : List Gate) (a : Assign ℕ) (h : List Gate) (o : Operand) → IsTypedAssign kinds a → TotalsTold g
          → Sees_broken steps.total g a o h → IsTrueWhere set h o (Breaks a)
      at g a h o q k (sees_broken {r = r} c) =
          let m = assign_tells set kinds total_facts total_kinds steps.total c q (record { each = k.each }) in
          broken_tells set r.gates m.conditions m.entries (entries_kept m.grown (k.each a.target))

  -- all three
  abbrev Seen : Type 0
  Seen = SomeIs Two numbers ⊎ (SomeIs Leaves steps.leaving ⊎ SomeIs Breaks net.assertions)

  to_conflict : Seen → IsConflict net known_at
  to_conflict (inl h) =
      let o = h.is_one in at h (stands_map_back (λ (q : ℕ × Variable ℕ). q.0) flows o.place h.item o.stands)
    where
      at : (h : SomeIs Two numbers)
          → (p : ℕ × Variable ℕ) × Stands flows (let o = h.is_one in o.place) p × (p.0 ≡ h.item)
          → IsConflict net known_at
      at h z =
          let r = in_flow net.variables 0 z.0 (record { place = _; stands = z.1 }) in
          let x = z.0.1 in
          let i = r.is in
          let j : r.place ≡ z.0.0 = omega (arith, i) in
          let k : x.key ≡ h.item = key_is r.place x r.stands ∙ j ∙ z.2 in
          let b = h.has in
          seen_two (record {
            place = r.place;
            variable = x;
            stands = r.stands;
            is_flow = r.is_flow;
            first = b.first;
            second = b.second;
            is_first = subst (λ m. known_at m b.first ≡ true) (sym k) b.is_first;
            is_second = subst (λ m. known_at m b.second ≡ true) (sym k) b.is_second;
            differ = b.differ;
          })
  to_conflict (inr (inl h)) =
      let r = looked_at net 0 steps.all_leave h.item h.is_one in
      let b = h.has in
      let i = r.is_target in
      let j : h.item.1.target ≡ r.place = omega (arith, i) in
      seen_outside (record {
        place = r.place;
        variable = h.item.0;
        stands = r.stands;
        is_flow = r.is_flow;
        assign = h.item.1;
        is_one = r.is_one;
        is_target = j ∙ sym (key_is r.place h.item.0 r.stands);
        passes = b.passes;
        value = b.value;
        yields = b.has;
        outside = b.outside;
      })
  to_conflict (inr (inr h)) = let b = h.has in seen_broken (record {
    assign = h.item;
    is_one = h.is_one;
    passes = b.passes;
    value = b.value;
    yields = b.has;
    other = b.other;
    is_other = b.is_other;
    differ = b.differ;
  })

  from_conflict : IsConflict net known_at → Seen
  from_conflict (seen_two h) =
      let k = key_is h.place h.variable h.stands in
      let p = flow_in net.variables 0 h.place h.place h.variable (omega arith) h.stands h.is_flow in
      inl (record {
        item = h.place;
        is_one = record {
          place = p.place;
          stands = stands_map (λ (q : ℕ × Variable ℕ). q.0) flows p.place (h.place, h.variable) p.stands;
        };
        has = record {
          first = h.first;
          second = h.second;
          is_first = subst (λ m. known_at m h.first ≡ true) k h.is_first;
          is_second = subst (λ m. known_at m h.second ≡ true) k h.is_second;
          differ = h.differ;
        };
      })
  from_conflict (seen_outside h) =
      let k = key_is h.place h.variable h.stands in
      let may : MayLeave net h.assign h.variable = record {
        value = h.value;
        may = yields_more ℕ (ReadingHolds known_at) (Allows net) (λ x d e. let s = sound_known in s.allowed x d e) h.yields;
        outside = h.outside;
      } in
      let j : h.assign.target ≡ 0 + h.place = h.is_target ∙ k ∙ omega arith in
      inr (inl (record {
        item = (h.variable, h.assign);
        is_one = looks_at net 0 steps.all_leave h.place h.variable h.assign h.stands h.is_flow h.is_one j may;
        has = record { passes = h.passes; value = h.value; has = h.yields; outside = h.outside };
      }))
  from_conflict (seen_broken h) = inr (inr (record {
    item = h.assign;
    is_one = h.is_one;
    has = record {
      passes = h.passes;
      value = h.value;
      has = h.yields;
      other = h.other;
      is_other = h.is_other;
      differ = h.differ;
    };
  }))

  -- the conflict operand
  pub conflict_told : IsTrueWhere set steps.seen.gates table.conflict (IsConflict net known_at)
  conflict_told =
      let outs_on = grows_on (up_outs steps) (up_totals steps) in
      let all = some_or (some_kept (grows_on (up_twos steps) outs_on) twos_told)
      (some_or (some_kept outs_on outs_told) broken_told) in
      tells_kept (up_seen steps)
      (subst (λ (z : Made). IsTrueWhere set z.gates z.operand (IsConflict net known_at)) (joint_is steps)
      (tells_as to_conflict from_conflict (any_of_some all)))

  -- the top operand
  pub top_told : {kind : ValueKind} → HasKind kinds (out-Expr ℕ observer) kind
      → IsTrueWhere set steps.seen.gates (operand_for steps.seen.entries wanted)
      (Yields total_facts (out-Expr ℕ observer) wanted)
  top_told k =
      let i = totals_kept steps.after_totals steps.after_conflict (grows_on (up_totals steps) (up_conflict steps))
      after_totals_told in
      let r = builds_tell total_facts set kinds total_kinds steps.total steps.observed k (record { each = i.each }) in
      entry_tells r.entries wanted

-- A lawful net has a table for typed observers.
use Rattle.std.proofs.Common.{◌≡◌, ◌⊎◌, inl, inr, ℕ, zero, suc, ◌+◌, Bool, true, false, List, [], ◌∷◌, ◌++◌, length, Contains, refl, sym, ap, ◌∙◌, subst}
use Rattle.std.specs.Prelude.{nat_eq, if◌then◌else◌}
use Rattle.ar_base.specs.Lists.{Stands, IsOneOf}
use Rattle.ar_base.proofs.Standing.{one_first, one_rest, one_none, one_cases, one_split, stands_none}
use Rattle.domains.specs.declared.Value.{Value}
use Rattle.domains.specs.declared.Value.TheVariants.{Truth}
use Rattle.domains.proofs.Members.{nothing-in, contains-head, contains-cons, contains-cases}
use Rattle.typed_expr.specs.Kinds.{HasKind}
use Rattle.typed_expr.specs.declared.expr.ValueKind.{ValueKind}
use Rattle.typed_expr.specs.declared.expr.ValueKind.TheVariants as kind
use Rattle.typed_expr.specs.declared.expr.Expr.{Expr, out-Expr}
use Rattle.typed_expr.proofs.Listing.{Told, Listed, contains_told, yields_listed}
use Rattle.ar_meaning.specs.Systems.{Assign, Variable, Net}
use Rattle.ar_meaning.specs.Facts.{Allows}
use Rattle.ar_meaning.specs.Dependence.{IsFlow}
use Rattle.ar_firing.specs.Forest.{ModeTree}
use Rattle.gts_core.specs.Lawful.{IsLawful, IsTypedAssign}
use Rattle.eq_core.specs.Gates.{Operand, Gate, any_of}
use Rattle.eq_build.specs.Entries.{operand_for}
use Rattle.eq_build.proofs.Existing.{some_built}
use Rattle.eq_build.specs.Steps as s
use Rattle.eq_build.specs.Steps.{Reading, Threads, BuiltAssign, Builds_conditions, Builds_assign, Gives_target, RoundOf, Rounds, All_rounds, Sees_two, MayLeave, MayLeaveOf, AllMayLeave, Sees_outside, Totals_of, Sees_broken, Has_modes, first_reading, updated, flows_from, assigns_to}
use Rattle.eq_build.specs.Table.{flow_numbers}
use Rattle.eq_build.specs.TableLaws.{HasTable}
use Rattle.eq_build.proofs.Uses.{some_blocks, block_flow}

-- a step has a result
record SomeStep {A B : Type 0} (R : List Gate → A → B → List Gate → Type 0) (g : List Gate) (a : A) : Type 0 where
  item : B
  gates : List Gate
  step : R g a item gates

-- and so has a list of steps
record SomeThreads {A B : Type 0} (R : List Gate → A → B → List Gate → Type 0) (g : List Gate) (xs : List A)
    : Type 0 where
  items : List B
  gates : List Gate
  steps : Threads R g xs items gates

some_threads : {A B : Type 0} {R : List Gate → A → B → List Gate → Type 0} (xs : List A)
    → ((g : List Gate) (a : A) → IsOneOf xs a → SomeStep R g a) → (g : List Gate) → SomeThreads R g xs
some_threads [] each g = record { items = []; gates = g; steps = s.none }
some_threads (x ∷ xs) each g =
    let r = each g x (one_first x xs) in
    let q = some_threads xs (λ h a m. each h a (one_rest x xs a m)) r.gates in
    record { items = r.item ∷ q.items; gates = q.gates; steps = s.one_and r.step q.steps }

-- an assignment to a variable is one of all
to_one : (x : ℕ) (as_ : List (Assign ℕ)) (a : Assign ℕ) → IsOneOf (assigns_to x as_) a → IsOneOf as_ a
to_one x [] a m = absurd (one_none a m)
to_one x (b ∷ bs) a m = go (λ n. to_one x bs a n) (nat_eq b.target x) refl
  where
    go : (IsOneOf (assigns_to x bs) a → IsOneOf bs a) → (c : Bool) → nat_eq b.target x ≡ c → IsOneOf (b ∷ bs) a
    go rest true e = elim (one_cases b (assigns_to x bs) a
        (subst (λ c. IsOneOf (if c then b ∷ assigns_to x bs else assigns_to x bs) a) e m)) [
          | inl i ↦ subst (λ z. IsOneOf (b ∷ bs) z) i (one_first b bs)
          | inr k ↦ one_rest b bs a (rest k)
        ]
    go rest false e = one_rest b bs a (rest
        (subst (λ c. IsOneOf (if c then b ∷ assigns_to x bs else assigns_to x bs) a) e m))

module _ (kinds : ℕ → ValueKind) (read : Reading) where
  record SomeConditions (g : List Gate) (cs : List (Expr ℕ × Bool)) : Type 0 where
    operands : List Operand
    gates : List Gate
    builds : Builds_conditions read g cs operands gates

  some_conditions : (cs : List (Expr ℕ × Bool))
      → ((c : Expr ℕ × Bool) → IsOneOf cs c → HasKind kinds (out-Expr ℕ c.0) kind.Truth) → (g : List Gate)
      → SomeConditions g cs
  some_conditions [] typed g = record { operands = []; gates = g; builds = s.no_condition }
  some_conditions ((e, b) ∷ cs) typed g =
      let r = some_built kinds read (typed (e, b) (one_first (e, b) cs)) g in
      let q = some_conditions cs (λ c m. typed c (one_rest (e, b) cs c m)) r.built.gates in
      record {
        operands = operand_for r.built.entries (Truth b) ∷ q.operands;
        gates = q.gates;
        builds = s.condition_and r.builds q.builds;
      }

  record SomeAssign (g : List Gate) (a : Assign ℕ) : Type 0 where
    built : BuiltAssign
    builds : Builds_assign read g a built

  some_assign : (a : Assign ℕ) → IsTypedAssign kinds a → (g : List Gate) → SomeAssign g a
  some_assign a typed g =
      let c = some_conditions a.conditions typed.conditions g in
      let r = some_built kinds read typed.value c.gates in
      record {
        built = record { conditions = c.operands; entries = r.built.entries; gates = r.built.gates };
        builds = s.builds c.builds r.builds;
      }

module _ (net : Net ℕ) (kinds : ℕ → ValueKind) (lawful : IsLawful net kinds) where
  some_round : (read : Reading) (g : List Gate) (n : ℕ) → ((k : ℕ) × IsFlow net k n) → SomeStep (RoundOf net read) g n
  some_round read g n f =
      let keys = lawful.numbered in
      let flow = f.1 in
      let at : flow.place ≡ n = sym (keys.key flow.place flow.variable flow.stands) ∙ flow.is_key in
      let stands : Stands net.variables n flow.variable
      = subst (λ k. Stands net.variables k flow.variable) at flow.stands in
      let r = some_threads {R = Gives_target read flow.variable.domain} (assigns_to n net.assertions) (λ h a m.
      let q = some_assign kinds read a (lawful.typed a (to_one n net.assertions a m)) h in
      record { item = _; gates = _; step = s.gives q.builds }) g in
      record { item = _; gates = _; step = s.round_of stands r.steps }

  record SomeRounds (block : List ℕ) (k : ℕ) (g : List Gate) (read : Reading) : Type 0 where
    last : Reading
    gates : List Gate
    rounds : Rounds net block k g read last gates

  some_rounds : (block : List ℕ) → ((n : ℕ) → IsOneOf block n → (k : ℕ) × IsFlow net k n) → (k : ℕ) (g : List Gate)
      (read : Reading) → SomeRounds block k g read
  some_rounds block flows zero g read = record { last = read; gates = g; rounds = s.no_round }
  some_rounds block flows (suc k) g read =
      let r = some_threads {R = RoundOf net read} block (λ h n m. some_round read h n (flows n m)) g in
      let q = some_rounds block flows k r.gates (updated read block r.items) in
      record { last = q.last; gates = q.gates; rounds = s.round_and r.steps q.rounds }

  record SomeAllRounds (blocks : List (List ℕ)) (g : List Gate) (read : Reading) : Type 0 where
    last : Reading
    gates : List Gate
    rounds : All_rounds net blocks g read last gates

  some_all_rounds : (blocks : List (List ℕ))
      → ((block : List ℕ) → IsOneOf blocks block → (n : ℕ) → IsOneOf block n → (k : ℕ) × IsFlow net k n)
      → (g : List Gate) (read : Reading) → SomeAllRounds blocks g read
  some_all_rounds [] flows g read = record { last = read; gates = g; rounds = s.no_block }
  some_all_rounds (block ∷ blocks) flows g read =
      let r = some_rounds block (flows block (one_first block blocks)) (length block) g read in
      let q = some_all_rounds blocks (λ b m. flows b (one_rest block blocks b m)) r.gates r.last in
      record { last = q.last; gates = q.gates; rounds = s.block_and r.rounds q.rounds }

  -- the domain of each variable, as facts
  allows_listed : (x : ℕ) → Listed (Allows net x)
  allows_listed x = from net.variables refl
    where
      domain_at : List (Variable ℕ) → ℕ → List Value
      domain_at [] n = []
      domain_at (y ∷ ys) zero = y.domain
      domain_at (y ∷ ys) (suc n) = domain_at ys n

      at : (xs : List (Variable ℕ)) (n : ℕ) (y : Variable ℕ) → Stands xs n y → domain_at xs n ≡ y.domain
      at [] n y p = absurd (stands_none n y p)
      at (z ∷ zs) zero y p = let e : z ≡ y = cc in ap (λ (v : Variable ℕ). v.domain) e
      at (z ∷ zs) (suc n) y p = at zs n y p

      there : (xs : List (Variable ℕ)) (n : ℕ) (v : Value) → Contains (domain_at xs n) v
          → (y : Variable ℕ) × Stands xs n y × Contains y.domain v
      there [] n v m = absurd (nothing-in v m)
      there (z ∷ zs) zero v m = (z, refl, m)
      there (z ∷ zs) (suc n) v m = there zs n v m

      from : (xs : List (Variable ℕ)) → net.variables ≡ xs → Listed (Allows net x)
      from xs e = record {
        items = domain_at net.variables x;
        sound = λ v m.
            let r = there net.variables x v m in
            let keys = lawful.numbered in
            record { place = x; variable = r.0; stands = r.1; is_key = keys.key x r.0 r.1; has = r.2 };
        whole = λ v a.
            let keys = lawful.numbered in
            let i : a.place ≡ x = sym (keys.key a.place a.variable a.stands) ∙ a.is_key in
            let p : Stands net.variables x a.variable = subst (λ n. Stands net.variables n a.variable) i a.stands in
            subst (λ z. Contains z v) (sym (at net.variables x a.variable p)) a.has;
      }

  outside_told : (ds vs : List Value)
      → ((v : Value) × Contains vs v × (Contains ds v → ⊥)) ⊎ ((v : Value) → Contains vs v → Contains ds v)
  outside_told ds [] = inr (λ v m. absurd (nothing-in v m))
  outside_told ds (v ∷ vs) = go (contains_told ds v) (outside_told ds vs)
    where
      go : Told (Contains ds v)
          → ((w : Value) × Contains vs w × (Contains ds w → ⊥)) ⊎ ((w : Value) → Contains vs w → Contains ds w)
          → ((w : Value) × Contains (v ∷ vs) w × (Contains ds w → ⊥))
          ⊎ ((w : Value) → Contains (v ∷ vs) w → Contains ds w)
      go (inr n) t = inl (v, contains-head v vs, n)
      go (inl m) (inl r) = inl (r.0, contains-cons v r.0 vs r.1, r.2)
      go (inl m) (inr k) = inr (λ w h. elim (contains-cases v w vs h) [
        | inl e ↦ subst (λ z. Contains ds z) e m
        | inr l ↦ k w l
      ])

  may_told : (a : Assign ℕ) (x : Variable ℕ) → Told (MayLeave net a x)
  may_told a x =
      let all = yields_listed (Allows net) allows_listed a.value in
      elim (outside_told x.domain all.items) [
        | inl r ↦ inl (record { value = r.0; may = all.sound r.0 r.1; outside = r.2 })
        | inr k ↦ inr (λ m. m.outside (k m.value (all.whole m.value m.may)))
      ]

  some_leave : (x : Variable ℕ) (as_ : List (Assign ℕ)) → (ys : List (Variable ℕ × Assign ℕ)) × MayLeaveOf net x as_ ys
  some_leave x [] = ([], s.no_assign)
  some_leave x (a ∷ rest) =
      let r = some_leave x rest in
      elim (may_told a x) [ inl m ↦ ((x, a) ∷ r.0, s.may m r.1) | inr n ↦ (r.0, s.may_not n r.1) ]

  some_all_leave : (n : ℕ) (xs : List (Variable ℕ)) → (ys : List (Variable ℕ × Assign ℕ)) × AllMayLeave net n xs ys
  some_all_leave n [] = ([], s.no_variable)
  some_all_leave n (x ∷ xs) = go (some_all_leave (n + 1) xs) x.is_state refl
    where
      go : ((ys : List (Variable ℕ × Assign ℕ)) × AllMayLeave net (n + 1) xs ys) → (b : Bool) → x.is_state ≡ b
          → (ys : List (Variable ℕ × Assign ℕ)) × AllMayLeave net n (x ∷ xs) ys
      go r true e = (r.0, s.state_and e r.1)
      go r false e =
          let q = some_leave x (assigns_to n net.assertions) in
          (q.0 ++ r.0, s.flow_and e q.1 r.1)

  -- what may leave is of an assignment to a flow, and so of one of all
  leave_one : {x : Variable ℕ} {as_ : List (Assign ℕ)} {ys : List (Variable ℕ × Assign ℕ)} → MayLeaveOf net x as_ ys
      → (p : Variable ℕ × Assign ℕ) → IsOneOf ys p → IsOneOf as_ p.1
  leave_one s.no_assign p m = absurd (one_none p m)
  leave_one {x = x} (s.may {a = a} {xs = rest} {ys = ys} k d) p m = elim (one_cases (x, a) ys p m) [
    | inl e ↦ subst (λ (z : Variable ℕ × Assign ℕ). IsOneOf (a ∷ rest) z.1) e (one_first a rest)
    | inr h ↦ one_rest a rest p.1 (leave_one d p h)
  ]
  leave_one (s.may_not {a = a} {xs = rest} k d) p m = one_rest a rest p.1 (leave_one d p m)

  all_leave_one : {n : ℕ} {xs : List (Variable ℕ)} {ys : List (Variable ℕ × Assign ℕ)} → AllMayLeave net n xs ys
      → (p : Variable ℕ × Assign ℕ) → IsOneOf ys p → IsOneOf net.assertions p.1
  all_leave_one s.no_variable p m = absurd (one_none p m)
  all_leave_one (s.state_and e d) p m = all_leave_one d p m
  all_leave_one {n = n} (s.flow_and {ys = ys} {zs = zs} e k d) p m = elim (one_split ys zs p m) [
    | inl h ↦ to_one n net.assertions p.1 (leave_one k p h)
    | inr h ↦ all_leave_one d p h
  ]

  -- the table
  pub some_table : (trees : List ModeTree) (observer : Expr ℕ) (kd : ValueKind) (wanted : Value)
      → HasKind kinds (out-Expr ℕ observer) kd → HasTable net trees observer wanted
  some_table trees observer kd wanted typed =
      let modes = some_threads {R = Has_modes} trees (λ g t m. record { item = _; gates = _; step = s.modes }) [] in
      let blocks = some_blocks net in
      let are = blocks.1 in
      let known = some_all_rounds blocks.0 (λ b m n i. block_flow are.are b m n i) modes.gates
      (first_reading trees modes.items 0 net.variables) in
      let twos = some_threads {R = Sees_two known.last} (flow_numbers net)
      (λ g n m. record { item = _; gates = _; step = s.sees_two }) known.gates in
      let leaving = some_all_leave 0 net.variables in
      let outs = some_threads {R = Sees_outside known.last} leaving.0 (λ g p m. sees_out known.last g p.0 p.1
      (lawful.typed p.1 (all_leave_one leaving.1 p m))) twos.gates in
      let totals = some_threads {R = Totals_of known.last} (flows_from 0 net.variables)
      (λ g p m. total_for known.last g p.0 p.1) outs.gates in
      let total = updated known.last (flow_numbers net) totals.items in
      let broken = some_threads {R = Sees_broken total} net.assertions
      (λ g a m. sees_broken_in total g a (lawful.typed a m)) totals.gates in
      let conflict = any_of broken.gates (twos.items ++ (outs.items ++ broken.items)) in
      let seen = some_built kinds total typed conflict.gates in
      record {
        table = record {
          gates = seen.built.gates;
          conflict = conflict.operand;
          top = operand_for seen.built.entries wanted;
        };
        is = record {
          modes = modes.items;
          after_modes = modes.gates;
          has_modes = modes.steps;
          blocks = blocks.0;
          are_blocks = are;
          known = known.last;
          after_rounds = known.gates;
          has_rounds = known.rounds;
          twos = twos.items;
          after_twos = twos.gates;
          sees_twos = twos.steps;
          leaving = leaving.0;
          all_leave = leaving.1;
          outs = outs.items;
          after_outs = outs.gates;
          sees_outs = outs.steps;
          totals = totals.items;
          after_totals = totals.gates;
          has_totals = totals.steps;
          total = total;
          is_total = refl;
          broken = broken.items;
          after_broken = broken.gates;
          sees_broken = broken.steps;
          after_conflict = conflict.gates;
          conflict = refl;
          seen = seen.built;
          observed = seen.builds;
          top = refl;
          gates = refl;
        };
      }
    where
      sees_out : (read : Reading) (g : List Gate) (x : Variable ℕ) (a : Assign ℕ) → IsTypedAssign kinds a
          → SomeStep (Sees_outside read) g (x, a)
      sees_out read g x a t =
          let q = some_assign kinds read a t g in record { item = _; gates = _; step = s.sees_outside q.builds }

      total_for : (read : Reading) (g : List Gate) (n : ℕ) (x : Variable ℕ) → SomeStep (Totals_of read) g (n, x)
      total_for read g n x = record { item = _; gates = _; step = s.total }

      sees_broken_in : (read : Reading) (g : List Gate) (a : Assign ℕ) → IsTypedAssign kinds a
          → SomeStep (Sees_broken read) g a
      sees_broken_in read g a t =
          let q = some_assign kinds read a t g in record { item = _; gates = _; step = s.sees_broken q.builds }

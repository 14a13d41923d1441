-- Nets that agree item by item, over the same numbers, have the same tables.
use Rattle.std.proofs.Common.{◌≡◌, inl, inr, ℕ, Bool, true, false, if◌then◌else◌, nat_eq, List, [], ◌∷◌, ◌++◌, map, take, refl, sym, ◌∙◌, ap, subst}
use Rattle.ar_base.specs.Lists.{Stands, Along}
use Rattle.ar_base.specs.Lists as l
use Rattle.ar_base.proofs.Standing.{along_on, one_here}
use Rattle.ar_base.proofs.Items.{along_append}
use Rattle.domains.specs.declared.Value.{Value}
use Rattle.typed_expr.specs.PairsInside.{turned_pairs}
use Rattle.typed_expr.specs.Mentions.{Mentions}
use Rattle.typed_expr.specs.Renames.{Renames}
use Rattle.typed_expr.specs.declared.expr.Expr.{Expr, out-Expr}
use Rattle.typed_expr.proofs.Renaming.{carries, mentions_carry}
use Rattle.ar_meaning.specs.Systems.{Assign, Variable, Net}
use Rattle.ar_meaning.specs.Facts.{Allows}
use Rattle.ar_meaning.specs.Dependence.{Names, Tests, IsFlow, DependsOn, flow_count}
use Rattle.ar_meaning.specs.Image.{Conditions_rename, Assign_renames, Variable_renames}
use Rattle.ar_meaning.specs.Image as i
use Rattle.ar_meaning.proofs.Dependence.{tests_there}
use Rattle.ar_meaning.proofs.ImageTurned.{along_turned, assign_turned}
use Rattle.ar_firing.specs.Forest.{ModeTree}
use Rattle.flow_blocks.specs.Blocks.{Follow}
use Rattle.eq_core.specs.Gates.{Operand, Gate, Table}
use Rattle.eq_build.specs.Entries.{Entry, one_of_alls}
use Rattle.eq_build.proofs.Renaming.{builds_renamed}
use Rattle.eq_build.specs.Steps as s
use Rattle.eq_build.specs.Steps.{Reading, Threads, BuiltAssign, Builds_conditions, Builds_assign, Gives_target, RoundOf, Rounds, All_rounds, MayLeave, MayLeaveOf, AllMayLeave, Sees_two, Sees_outside, Totals_of, Sees_broken, AreBlocks, first_reading, updated, flows_from, assigns_to, broken_terms}
use Rattle.eq_build.specs.Table.{IsTable, flow_numbers}

-- the same number
abbrev pub Same : ℕ → ℕ → Type 0
Same m n = m ≡ n

-- Variables

abbrev variable_of : ℕ → ℕ → List Value → Bool → Value → Variable ℕ
variable_of k u d b v = record { key = k; unit = u; domain = d; is_state = b; value = v }

variable_same : (x y : Variable ℕ) → Variable_renames Same x y → x ≡ y
variable_same x y h =
    ap (λ (z : ℕ). variable_of z x.unit x.domain x.is_state x.value) h.key
    ∙ (ap (λ (z : ℕ). variable_of y.key z x.domain x.is_state x.value) h.unit
    ∙ (ap (λ (z : List Value). variable_of y.key y.unit z x.is_state x.value) h.domain
    ∙ (ap (λ (z : Bool). variable_of y.key y.unit y.domain z x.value) h.is_state
    ∙ ap (λ (z : Value). variable_of y.key y.unit y.domain y.is_state z) h.value)))

pub variables_same : {xs ys : List (Variable ℕ)} → Along (Variable_renames Same) xs ys → xs ≡ ys
variables_same l.none = refl
variables_same (l.one_and {a = x} {b = y} {xs = xs} r d) =
    ap (λ (z : Variable ℕ). z ∷ xs) (variable_same x y r) ∙ ap (λ (z : List (Variable ℕ)). y ∷ z) (variables_same d)

-- Lists

along_each : {A B : Type 0} {P Q : A → B → Type 0} → ((a : A) (b : B) → P a b → Q a b) → {xs : List A} {ys : List B}
    → Along P xs ys → Along Q xs ys
along_each f l.none = l.none
along_each f (l.one_and {a = a} {b = b} p d) = l.one_and (f a b p) (along_each f d)

-- the same steps over lists that agree
threads_there : {A B C : Type 0} {P : A → C → Type 0} {R : List Gate → A → B → List Gate → Type 0}
    {S : List Gate → C → B → List Gate → Type 0}
    → ((a : A) (c : C) → P a c → (g h : List Gate) (b : B) → R g a b h → S g c b h)
    → {g h : List Gate} {xs : List A} {zs : List C} {ys : List B} → Along P xs zs → Threads R g xs ys h
    → Threads S g zs ys h
threads_there f l.none s.none = s.none
threads_there f (l.one_and {a = a} {b = c} p ps) (s.one_and d ds) = s.one_and (f a c p _ _ _ d) (threads_there f ps ds)

threads_on : {A B : Type 0} {R S : List Gate → A → B → List Gate → Type 0}
    → ((a : A) (g h : List Gate) (b : B) → R g a b h → S g a b h)
    → {g h : List Gate} {xs : List A} {ys : List B} → Threads R g xs ys h → Threads S g xs ys h
threads_on f s.none = s.none
threads_on f (s.one_and {a = a} d ds) = s.one_and (f a _ _ _ d) (threads_on f ds)

-- Assignments

module _ (read : Reading) where
  agree : (m n : ℕ) → Same m n → read m ≡ read n
  agree m n e = ap read e

  conditions_there : {cs ds : List (Expr ℕ × Bool)} → Conditions_rename Same cs ds → {g h : List Gate}
      {os : List Operand} → Builds_conditions read g cs os h → Builds_conditions read g ds os h
  conditions_there i.none s.no_condition = s.no_condition
  conditions_there (i.one_and p ps) (s.condition_and d ds) =
      s.condition_and (builds_renamed Same read read agree p d) (conditions_there ps ds)

  assign_there : (a b : Assign ℕ) → Assign_renames Same a b → {g : List Gate} {r : BuiltAssign}
      → Builds_assign read g a r
      → Builds_assign read g b r
  assign_there a b p (s.builds d e) =
      s.builds (conditions_there p.conditions d) (builds_renamed Same read read agree p.value e)

  gives_there : (ds : List Value) (a b : Assign ℕ) → Assign_renames Same a b → {g h : List Gate} {x : List Entry}
      → Gives_target read ds g a x h → Gives_target read ds g b x h
  gives_there ds a b p (s.gives d) = s.gives (assign_there a b p d)

  outside_at : (x : Variable ℕ) (a b : Assign ℕ) → Assign_renames Same a b → {g h : List Gate} {o : Operand}
      → Sees_outside read g (x, a) o h → Sees_outside read g (x, b) o h
  outside_at x a b p (s.sees_outside d) = s.sees_outside (assign_there a b p d)

  broken_there : (a b : Assign ℕ) → Assign_renames Same a b → {g h : List Gate} {o : Operand}
      → Sees_broken read g a o h → Sees_broken read g b o h
  broken_there a b p (s.sees_broken {g = g} {r = r} d) =
      subst (λ (z : ℕ). Sees_broken read g b
      (one_of_alls r.gates (broken_terms r.conditions r.entries (read z))).operand
      (one_of_alls r.gates (broken_terms r.conditions r.entries (read z))).gates)
      (sym p.target) (s.sees_broken (assign_there a b p d))

pick : (c : Bool) {a b : Assign ℕ} {xs ys : List (Assign ℕ)} → Assign_renames Same a b
    → Along (Assign_renames Same) xs ys
    → Along (Assign_renames Same) (if c then a ∷ xs else xs) (if c then b ∷ ys else ys)
pick true p ps = l.one_and p ps
pick false p ps = ps

assigns_there : (n : ℕ) {xs ys : List (Assign ℕ)} → Along (Assign_renames Same) xs ys
    → Along (Assign_renames Same) (assigns_to n xs) (assigns_to n ys)
assigns_there n l.none = l.none
assigns_there n (l.one_and {a = a} {b = b} {xs = xs} {ys = ys} p ps) =
    subst (λ (t : ℕ). Along (Assign_renames Same)
    (if nat_eq a.target n then a ∷ assigns_to n xs else assigns_to n xs)
    (if nat_eq t n then b ∷ assigns_to n ys else assigns_to n ys))
    p.target (pick (nat_eq a.target n) p (assigns_there n ps))

-- an assignment with the variable that it is looked at for
abbrev pub Looks : Variable ℕ × Assign ℕ → Variable ℕ × Assign ℕ → Type 0
Looks p q = (p.0 ≡ q.0) × Assign_renames Same p.1 q.1

outside_there : (read : Reading) (p q : Variable ℕ × Assign ℕ) → Looks p q → {g h : List Gate} {o : Operand}
    → Sees_outside read g p o h → Sees_outside read g q o h
outside_there read p q e {g} {h} {o} d =
    subst (λ (z : Variable ℕ). Sees_outside read g (z, q.1) o h) e.0 (outside_at read p.0 p.1 q.1 e.1 d)

-- Dependence

module _ (a b : Net ℕ) (vars : a.variables ≡ b.variables) where
  flow_there : (k n : ℕ) → IsFlow a k n → IsFlow b k n
  flow_there k n f = record {
    place = f.place;
    variable = f.variable;
    stands = subst (λ (z : List (Variable ℕ)). Stands z f.place f.variable) vars f.stands;
    is_key = f.is_key;
    is_flow = f.is_flow;
    before = ap (λ (z : List (Variable ℕ)). flow_count (take f.place z)) (sym vars) ∙ f.before;
  }

  module _ (same : ℕ → ℕ → Type 0) (one : (m n : ℕ) → same m n → m ≡ n)
      (along : Along (Assign_renames same) a.assertions b.assertions) where
    names_there : (u v : Assign ℕ) → Assign_renames same u v → (n : ℕ) → Names u n → Names v n
    names_there u v p n (inl m) =
        let k = mentions_carry same n m p.value in
        inl (subst (λ (z : ℕ). Mentions z (out-Expr ℕ v.value)) (sym (one n k.other k.related)) k.stands)
    names_there u v p n (inr t) =
        let k = tests_there p.conditions t in
        inr (subst (λ (z : ℕ). Tests z v.conditions) (sym (one n k.other k.related)) k.stands)

    depends_there : (m n : ℕ) → DependsOn a m n → DependsOn b m n
    depends_there m n d =
        let o = along_on a.assertions b.assertions along d.is_one.place d.assign d.is_one.stands in
        record {
          assign = o.0;
          is_one = one_here b.assertions d.is_one.place o.0 o.1;
          to = flow_there m o.0.target
              (subst (λ (z : ℕ). IsFlow a m z) (one d.assign.target o.0.target o.2.target) d.to);
          named = d.named;
          names = names_there d.assign o.0 o.2 d.named d.names;
          other = flow_there n d.named d.other;
        }

    leave_there : (u v : Assign ℕ) → Assign_renames same u v → (x : Variable ℕ) → MayLeave a u x → MayLeave b v x
    leave_there u v p x k = record {
      value = k.value;
      may = carries ℕ ℕ (Allows a) (Allows b) same allows_there k.may p.value;
      outside = k.outside;
    }
      where
        allows_there : (m n : ℕ) (d : Value) → same m n → Allows a m d → Allows b n d
        allows_there m n d e o = record {
          place = o.place;
          variable = o.variable;
          stands = subst (λ (z : List (Variable ℕ)). Stands z o.place o.variable) vars o.stands;
          is_key = o.is_key ∙ one m n e;
          has = o.has;
        }

-- Tables

module _ (a b : Net ℕ) (vars : a.variables ≡ b.variables)
    (along : Along (Assign_renames Same) a.assertions b.assertions) where
  back : Along (Assign_renames (turned_pairs Same)) b.assertions a.assertions
  back = along_turned (λ u v p. assign_turned Same u v p) along

  blocks_there : (blocks : List (List ℕ)) → AreBlocks a blocks → AreBlocks b blocks
  blocks_there blocks h = record {
    uses = h.uses;
    are_uses = record {
      only = λ m n o. depends_there a b vars Same (λ x y e. e) along m n (h.are_uses.only m n o);
      all = λ m n d. h.are_uses.all m n (depends_there b a (sym vars) (turned_pairs Same) (λ x y e. sym e) back m n d);
    };
    classes = h.classes;
    follow = subst (λ (z : List (Variable ℕ)). Follow (flow_count z) h.uses [] h.classes) vars h.follow;
    are = along_each (λ ks ns d. along_each (λ k n f. flow_there a b vars k n f) d) h.are;
  }

  round_there : (read : Reading) (n : ℕ) {g h : List Gate} {row : List Entry} → RoundOf a read g n row h
      → RoundOf b read g n row h
  round_there read n (s.round_of {x = x} p d) =
      s.round_of (subst (λ (z : List (Variable ℕ)). Stands z n x) vars p)
      (threads_there (λ u v q g h row d. gives_there read x.domain u v q d) (assigns_there n along) d)

  rounds_there : {block : List ℕ} {k : ℕ} {g h : List Gate} {read last : Reading} → Rounds a block k g read last h
      → Rounds b block k g read last h
  rounds_there s.no_round = s.no_round
  rounds_there (s.round_and {read = read} d ds) =
      s.round_and (threads_on (λ n g h row d. round_there read n d) d) (rounds_there ds)

  all_rounds_there : {blocks : List (List ℕ)} {g h : List Gate} {read last : Reading}
      → All_rounds a blocks g read last h
      → All_rounds b blocks g read last h
  all_rounds_there s.no_block = s.no_block
  all_rounds_there (s.block_and d ds) = s.block_and (rounds_there d) (all_rounds_there ds)

  leaves_there : (x : Variable ℕ) {us vs : List (Assign ℕ)} {ys : List (Variable ℕ × Assign ℕ)}
      → Along (Assign_renames Same) us vs → MayLeaveOf a x us ys
      → (zs : List (Variable ℕ × Assign ℕ)) × MayLeaveOf b x vs zs × Along Looks ys zs
  leaves_there x l.none s.no_assign = ([], s.no_assign, l.none)
  leaves_there x (l.one_and {a = u} {b = v} p ps) (s.may m d) =
      let r = leaves_there x ps d in
      ((x, v) ∷ r.0, s.may (leave_there a b vars Same (λ x y e. e) along u v p x m) r.1, l.one_and (refl, p) r.2)
  leaves_there x (l.one_and {a = u} {b = v} p ps) (s.may_not m d) =
      let r = leaves_there x ps d in
      let never : MayLeave b v x → ⊥ = λ k. m
      (leave_there b a (sym vars) (turned_pairs Same) (λ x y e. sym e) back v u (assign_turned Same u v p) x k) in
      (r.0, s.may_not never r.1, r.2)

  all_leave_there : {n : ℕ} {xs : List (Variable ℕ)} {ys : List (Variable ℕ × Assign ℕ)} → AllMayLeave a n xs ys
      → (zs : List (Variable ℕ × Assign ℕ)) × AllMayLeave b n xs zs × Along Looks ys zs
  all_leave_there s.no_variable = ([], s.no_variable, l.none)
  all_leave_there (s.state_and e d) = let r = all_leave_there d in (r.0, s.state_and e r.1, r.2)
  all_leave_there {n = n} (s.flow_and {x = x} e d ds) =
      let r = leaves_there x (assigns_there n along) d in
      let q = all_leave_there ds in
      (r.0 ++ q.0, s.flow_and e r.1 q.1, along_append r.2 q.2)

  pub table_there : (trees : List ModeTree) (o p : Expr ℕ) → Renames Same (out-Expr ℕ o) (out-Expr ℕ p)
      → (wanted : Value)
      (t : Table) → IsTable a trees o wanted t → IsTable b trees p wanted t
  table_there trees o p same wanted t h =
      let leaving = all_leave_there h.all_leave in
      let numbers : flow_numbers a ≡ flow_numbers b
      = ap (λ (z : List (Variable ℕ)). map (λ (p : ℕ × Variable ℕ). p.0) (flows_from 0 z)) vars in
      record {
        modes = h.modes;
        after_modes = h.after_modes;
        has_modes = h.has_modes;
        blocks = h.blocks;
        are_blocks = blocks_there h.blocks h.are_blocks;
        known = h.known;
        after_rounds = h.after_rounds;
        has_rounds = subst (λ (z : List (Variable ℕ)).
            All_rounds b h.blocks h.after_modes (first_reading trees h.modes 0 z) h.known h.after_rounds) vars
            (all_rounds_there h.has_rounds);
        twos = h.twos;
        after_twos = h.after_twos;
        sees_twos = subst (λ (z : List ℕ). Threads (Sees_two h.known) h.after_rounds z h.twos h.after_twos) numbers
            h.sees_twos;
        leaving = leaving.0;
        all_leave = subst (λ (z : List (Variable ℕ)). AllMayLeave b 0 z leaving.0) vars leaving.1;
        outs = h.outs;
        after_outs = h.after_outs;
        sees_outs = threads_there (λ u v q g k o d. outside_there h.known u v q d) leaving.2 h.sees_outs;
        totals = h.totals;
        after_totals = h.after_totals;
        has_totals = subst (λ (z : List (Variable ℕ)).
            Threads (Totals_of h.known) h.after_outs (flows_from 0 z) h.totals h.after_totals) vars h.has_totals;
        total = h.total;
        is_total = h.is_total ∙ ap (λ (z : List ℕ). updated h.known z h.totals) numbers;
        broken = h.broken;
        after_broken = h.after_broken;
        sees_broken = threads_there (λ u v q g k o d. broken_there h.total u v q d) along h.sees_broken;
        after_conflict = h.after_conflict;
        conflict = h.conflict;
        seen = h.seen;
        observed = builds_renamed Same h.total h.total (λ x y e. ap h.total e) same h.observed;
        top = h.top;
        gates = h.gates;
      }

-- Assignments and rounds, step by step.
use Rattle.std.proofs.Common.{◌≡◌, inl, inr, ℕ, suc, zero, ◌+◌, ◌<◌, ◌≤◌, Bool, true, false, true≢false, if◌then◌else◌, nat_eq, List, [], ◌∷◌, length, drop, map, refl, sym, ap, ◌∙◌, subst, arith, Vec, Global}
use Rattle.ar_base.specs.Lists.{Stands}
use Rattle.ar_base.proofs.Standing.{stands_one}
use Rattle.domains.specs.Domains.{values_of}
use Rattle.domains.specs.declared.Value.{Value}
use Rattle.typed_expr.specs.declared.expr.Expr.{out-Expr}
use Rattle.ar_meaning.specs.Systems as s
use Rattle.ar_meaning.specs.Systems.{Net}
use Rattle.std.proofs.Common.{◌++◌, append-nil, length-append}
use Rattle.std.proofs.lemmas.Bool.{cases_lt}
use Rattle.std.proofs.lemmas.List.{nil_from_length}
use Rattle.eq_core.specs.Gates.{Operand, Gate}
use Rattle.eq_core.specs.ValuesInside.{GainsGates}
use Rattle.eq_build.specs.Entries.{Entry, entries_for}
use Rattle.eq_build.specs.Builds.{Builds}
use Rattle.eq_build.specs.BuildsInside.{most_gates}
use Rattle.eq_build.proofs.Growing.{longer_on, builds_more, terms_more}
use Rattle.gts_core.specs.View.{net_of, variable_of, assign_of}
use Rattle.gts_core.proofs.Viewing.{variable_there}
use Rattle.gts_core.specs.declared.system.Variable.{Variable}
use Rattle.gts_core.specs.declared.system.Assign.{Assign}
use Rattle.gts_core.specs.declared.system.GtsParts.{GtsParts}
use Rattle.eq_build.specs.Steps.{Reading, Threads, BuiltAssign, Builds_conditions, Builds_assign, Gives_target, RoundOf, Rounds, All_rounds, given_terms, together, assigns_to, updated}
use Rattle.eq_build.specs.Steps as t
use Rattle.tree_equations.specs.Answers.{TooMany, itself}
use Rattle.tree_equations.specs.Index.{to_target}
use Rattle.tree_equations.specs.Blocks.{blocks_in}
use Rattle.tree_equations.proofs.Determined.{conditions_one, threads_one, round_one, rounds_one}
use Rattle.tree_equations.proofs.Rising.{threads_more, round_more, rounds_more, all_rounds_more}
use Rattle.tree_equations.proofs.Giving.{assign_parts}

-- an assignment, without its gates
abbrev pub Assigned : Reading → List Gate → s.Assign ℕ → List Operand × List Entry → List Gate → Type 0
Assigned read g a r h = Builds_assign read g a (record { conditions = r.0; entries = r.1; gates = h })

module _ (read : Reading) (g : List Gate) (a : s.Assign ℕ) where
  pub assign_first : TooMany (λ os h. Builds_conditions read g a.conditions os h) → TooMany (Assigned read g a)
  assign_first n r k d =
      let p = assign_parts read g a _ d in
      subst (λ (z : List Gate). most_gates < length z) (sym (ap (λ (z : BuiltAssign). z.gates) p.is))
      (longer_on (builds_more p.value) (n p.operands p.gates p.conditions))

  pub assign_second : (os : List Operand) (h : List Gate) → Builds_conditions read g a.conditions os h
      → TooMany (λ es k. Builds read h (out-Expr ℕ a.value) (record { entries = es; gates = k }))
      → TooMany (Assigned read g a)
  assign_second os h e n r k d =
      let p = assign_parts read g a _ d in
      let same = (conditions_one read e p.conditions).1 in
      subst (λ (z : List Gate). most_gates < length z) (sym (ap (λ (z : BuiltAssign). z.gates) p.is))
      (n p.built.entries p.built.gates
      (subst (λ (z : List Gate). Builds read z (out-Expr ℕ a.value) p.built) (sym same) p.value))

  pub given_stops : (domain : List Value) → TooMany (Assigned read g a)
      → TooMany (λ es h. Gives_target read domain g a es h)
  given_stops domain n y k (t.gives {r = r} d) =
      longer_on (terms_more r.gates (given_terms domain r.conditions r.entries)) (n (r.conditions, r.entries) r.gates d)

-- the assignments to a variable, as the definitions see them
pub targets_seen : (n : ℕ) (xs : List Assign) → map assign_of (to_target n xs) ≡ assigns_to n (map assign_of xs)
targets_seen n [] = refl
targets_seen n (a ∷ xs) = by (nat_eq a.target.n n) _ _ (targets_seen n xs)
  where
    by : (b : Bool) (v : List Assign) (w : List (s.Assign ℕ)) → map assign_of v ≡ w
        → map assign_of (if b then a ∷ v else v) ≡ (if b then assign_of a ∷ w else w)
    by true v w h = ap (λ z. assign_of a ∷ z) h
    by false v w h = h

module _ (p : GtsParts) (read : Reading) (g : List Gate) (n : ℕ) (x : Variable)
    (st : Stands p.variables.items n x) where
  abbrev Given : List Gate → s.Assign ℕ → List Entry → List Gate → Type 0
  Given = Gives_target read (values_of x.domain)

  pub round_given : (ess : List (List Entry)) (h : List Gate)
      → Threads Given g (map assign_of (to_target n p.assigns.items)) ess h
      → RoundOf (net_of p) read g n (entries_for h (together ess)).entries (entries_for h (together ess)).gates
  round_given ess h d =
      t.round_of {x = variable_of n x} (variable_there p n x st)
      (subst (λ (z : List (s.Assign ℕ)). Threads Given g z ess h) (targets_seen n p.assigns.items) d)

  pub round_stops : TooMany (λ ess h. Threads Given g (map assign_of (to_target n p.assigns.items)) ess h)
      → TooMany (λ es h. RoundOf (net_of p) read g n es h)
  round_stops many y k (t.round_of {h = i} {x = w} {ess = ess} su e) =
      let same = stands_one (net_of p).variables n w (variable_of n x) su (variable_there p n x st) in
      let seen = subst (λ (v : s.Variable ℕ). Threads (Gives_target read v.domain) g
      (assigns_to n (net_of p).assertions) ess i) same e in
      longer_on (terms_more i (together ess))
      (many ess i (subst (λ (z : List (s.Assign ℕ)). Threads Given g z ess i) (sym (targets_seen n p.assigns.items))
      seen))

-- the first round, and the rest
record RoundsParts (net : Net ℕ) (block : List ℕ) (k : ℕ) (g : List Gate) (read last : Reading) (i : List Gate)
    : Type 0 where
  pub rows : List (List Entry)
  pub gates : List Gate
  pub round : Threads (RoundOf net read) g block rows gates
  pub rest : Rounds net block k gates (updated read block rows) last i

rounds_parts : (net : Net ℕ) (block : List ℕ) (k : ℕ) (g : List Gate) (read last : Reading) (i : List Gate)
    → Rounds net block (suc k) g read last i → RoundsParts net block k g read last i
rounds_parts net block k g read last i (t.round_and {h = h} {rows = rows} d ds) =
    record { rows = rows; gates = h; round = d; rest = ds }

-- so many of the rounds are made
pub record RoundsSoFar (net : Net ℕ) (block : List ℕ) (n : ℕ) (g : List Gate) (first : Reading) (i : ℕ) (h : List Gate)
    (read : Reading) : Type 0 where
  pub on : (k : ℕ) (last : Reading) (e : List Gate) → k + i ≡ n → Rounds net block k h read last e
      → Rounds net block n g first last e
  pub by : (k : ℕ) (last : Reading) (e : List Gate) → k + i ≡ n → Rounds net block n g first last e
      → Rounds net block k h read last e

module _ (net : Net ℕ) (block : List ℕ) (n : ℕ) (g : List Gate) (first : Reading) where
  pub rounds_start : RoundsSoFar net block n g first 0 g first
  rounds_start = record {
    on = λ k last e i d. subst (λ (z : ℕ). Rounds net block z g first last e) (same k i) d;
    by = λ k last e i d. subst (λ (z : ℕ). Rounds net block z g first last e) (sym (same k i)) d;
  }
    where
      same : (k : ℕ) → k + 0 ≡ n → k ≡ n
      same k i = omega (arith, i)

  pub rounds_next : (i : ℕ) (h k : List Gate) (read next : Reading) (rows : List (List Entry))
      → Threads (RoundOf net read) h block rows k → next ≡ updated read block rows
      → RoundsSoFar net block n g first i h read → RoundsSoFar net block n g first (i + 1) k next
  rounds_next i h k read next rows d is f = record {
    on = λ m last e j ds. f.on (suc m) last e (more m j)
        (t.round_and d (subst (λ (z : Reading). Rounds net block m k z last e) is ds));
    by = λ m last e j ds. back m last e (rounds_parts net block m h read last e (f.by (suc m) last e (more m j) ds));
  }
    where
      more : (m : ℕ) → m + (i + 1) ≡ n → suc m + i ≡ n
      more m j = omega (arith, j)

      back : (m : ℕ) (last : Reading) (e : List Gate) → RoundsParts net block m h read last e
          → Rounds net block m k next last e
      back m last e p =
          let same = threads_one (RoundOf net read) (round_one read net) d p.round in
          subst (λ (z : Reading). Rounds net block m k z last e) (sym is)
          (subst (λ (z : List (List Entry)). Rounds net block m k (updated read block z) last e) (sym same.0)
          (subst (λ (z : List Gate). Rounds net block m z (updated read block p.rows) last e) (sym same.1) p.rest))

  pub rounds_stop : (i : ℕ) (h : List Gate) (read : Reading) → i < n → RoundsSoFar net block n g first i h read
      → TooMany (λ rows k. Threads (RoundOf net read) h block rows k)
      → TooMany (λ last e. Rounds net block n g first last e)
  rounds_stop i h read l f many last e d =
      let m = left n i l in
      let p = rounds_parts net block m.0 h read last e (f.by (suc m.0) last e m.1 d) in
      longer_on (rounds_more net block p.rest) (many p.rows p.gates p.round)
    where
      left : (n i : ℕ) → i < n → (k : ℕ) × (suc k + i ≡ n)
      left zero i l = absurd (omega (arith, l))
      left (suc n) zero l = (n, omega arith)
      left (suc n) (suc i) l = let r = left n i (omega (arith, l)) in (r.0, let e = r.1 in omega (arith, e))

  pub rounds_end : (i : ℕ) (h : List Gate) (read : Reading) → i ≡ n → RoundsSoFar net block n g first i h read
      → Rounds net block n g first read h
  rounds_end i h read e f = f.on 0 read h (omega (arith, e)) t.no_round

  -- no round more is needed
  pub rounds_over : (i : ℕ) (h : List Gate) (read : Reading) (still needs : Bool) → needs ≡ false
      → ((i < n) × (still ≡ false) → needs ≡ true) → i ≤ n → RoundsSoFar net block n g first i h read
      → (still ≡ true → Rounds net block n g first read h) → Rounds net block n g first read h
  rounds_over i h read true needs not_so so within f over = over refl
  rounds_over i h read false needs not_so so within f over = elim (cases_lt i n) [
    | inl l ↦ absurd (true≢false (sym (so (l, refl)) ∙ not_so))
    | inr l ↦ rounds_end i h read (omega (arith, l, within)) f
  ]

-- lists of gates of one length, of which one has only more gates, are one
same_gates : (h k : List Gate) → GainsGates h k → length k ≡ length h → k ≡ h
same_gates h k w l =
    let e = ap length w.is ∙ length-append h w.more in
    let none : length w.more ≡ 0 = omega (arith, e, l) in
    w.is ∙ ap (λ z. h ++ z) (nil_from_length w.more none) ∙ append-nil h

-- a round that makes no gate and changes no row is followed by others like it
module _ (net : Net ℕ) (block : List ℕ) (n : ℕ) (g : List Gate) (first : Reading) (i : ℕ) (h k : List Gate)
    (read : Reading)
    (rows : List (List Entry)) where
  pub rounds_still : Threads (RoundOf net read) h block rows k → length k ≡ length h → read ≡ updated read block rows
      → i < n → RoundsSoFar net block n g first i h read → Rounds net block n g first read k
  rounds_still d l is under f =
      let same = same_gates h k (threads_more (RoundOf net read) (round_more read net) d) l in
      let again = subst (λ (z : List Gate). Threads (RoundOf net read) h block rows z) same d in
      let m = rest n i under in
      subst (λ (z : List Gate). Rounds net block n g first read z) (sym same) (f.on m.0 read h m.1 (stay again is m.0))
    where
      rest : (n i : ℕ) → i < n → (m : ℕ) × (m + i ≡ n)
      rest n zero l = (n, omega arith)
      rest zero (suc i) l = absurd (omega (arith, l))
      rest (suc n) (suc i) l = let r = rest n i (omega (arith, l)) in (r.0, let e = r.1 in omega (arith, e))

      stay : Threads (RoundOf net read) h block rows h → read ≡ updated read block rows → (m : ℕ)
          → Rounds net block m h read read h
      stay d is zero = t.no_round
      stay d is (suc m) =
          t.round_and d (subst (λ (z : Reading). Rounds net block m h z read h) is (stay d is m))

-- the first block, and the rest
record BlocksParts (net : Net ℕ) (block : List ℕ) (blocks : List (List ℕ)) (g : List Gate) (read last : Reading)
    (i : List Gate) : Type 0 where
  pub mid : Reading
  pub gates : List Gate
  pub rounds : Rounds net block (length block) g read mid gates
  pub rest : All_rounds net blocks gates mid last i

blocks_parts : (net : Net ℕ) (block : List ℕ) (blocks : List (List ℕ)) (g : List Gate) (read last : Reading)
    (i : List Gate) → All_rounds net (block ∷ blocks) g read last i → BlocksParts net block blocks g read last i
blocks_parts net block blocks g read last i (t.block_and {h = h} {mid = mid} d ds) =
    record { mid = mid; gates = h; rounds = d; rest = ds }

-- so many of the blocks have had their rounds
pub record BlocksSoFar (net : Net ℕ) (blocks : List (Vec ℕ Global)) (g : List Gate) (first : Reading) (i : ℕ)
    (h : List Gate) (read : Reading) : Type 0 where
  pub on : (last : Reading) (e : List Gate) → All_rounds net (blocks_in (drop i blocks)) h read last e
      → All_rounds net (blocks_in blocks) g first last e
  pub by : (last : Reading) (e : List Gate) → All_rounds net (blocks_in blocks) g first last e
      → All_rounds net (blocks_in (drop i blocks)) h read last e

module _ (net : Net ℕ) (blocks : List (Vec ℕ Global)) (g : List Gate) (first : Reading) where
  pub blocks_start : BlocksSoFar net blocks g first 0 g first
  blocks_start = record { on = λ last e d. d; by = λ last e d. d }

  pub blocks_next : (i : ℕ) (h k : List Gate) (read next : Reading) (b : Vec ℕ Global)
      → drop i blocks ≡ b ∷ drop (suc i) blocks → Rounds net b.items (length b.items) h read next k
      → BlocksSoFar net blocks g first i h read → BlocksSoFar net blocks g first (suc i) k next
  blocks_next i h k read next b at d f = record {
    on = λ last e ds. f.on last e (subst (λ (z : List (Vec ℕ Global)). All_rounds net (blocks_in z) h read last e)
        (sym at) (t.block_and d ds));
    by = λ last e ds. back last e (blocks_parts net b.items (blocks_in (drop (suc i) blocks)) h read last e
        (subst (λ (z : List (Vec ℕ Global)). All_rounds net (blocks_in z) h read last e) at (f.by last e ds)));
  }
    where
      back : (last : Reading) (e : List Gate)
          → BlocksParts net b.items (blocks_in (drop (suc i) blocks)) h read last e
          → All_rounds net (blocks_in (drop (suc i) blocks)) k next last e
      back last e p =
          let rest = blocks_in (drop (suc i) blocks) in
          let same = rounds_one net b.items d p.rounds in
          subst (λ (z : Reading). All_rounds net rest k z last e) (sym same.0)
          (subst (λ (z : List Gate). All_rounds net rest z p.mid last e) (sym same.1) p.rest)

  pub blocks_stop : (i : ℕ) (h : List Gate) (read : Reading) (b : Vec ℕ Global)
      → drop i blocks ≡ b ∷ drop (suc i) blocks → BlocksSoFar net blocks g first i h read
      → TooMany (λ last k. Rounds net b.items (length b.items) h read last k)
      → TooMany (λ last e. All_rounds net (blocks_in blocks) g first last e)
  blocks_stop i h read b at f many last e d =
      let p = blocks_parts net b.items (blocks_in (drop (suc i) blocks)) h read last e
      (subst (λ (z : List (Vec ℕ Global)). All_rounds net (blocks_in z) h read last e) at (f.by last e d)) in
      longer_on (all_rounds_more net p.rest) (many p.mid p.gates p.rounds)

  pub blocks_end : (i : ℕ) (h : List Gate) (read : Reading) → drop i blocks ≡ []
      → BlocksSoFar net blocks g first i h read → All_rounds net (blocks_in blocks) g first read h
  blocks_end i h read e f =
      f.on read h (subst (λ (z : List (Vec ℕ Global)). All_rounds net (blocks_in z) h read read h) (sym e) t.no_block)

-- as many come out as there are
pub threads_long : {A B : Type 0} {R : List Gate → A → B → List Gate → Type 0} {g h : List Gate} {xs : List A}
    {ys : List B} → Threads R g xs ys h → length ys ≡ length xs
threads_long t.none = refl
threads_long (t.one_and d ds) = let e = threads_long ds in omega (arith, e)

-- numbers stand for themselves
pub itself_all : (ns : List ℕ) → map itself ns ≡ ns
itself_all [] = refl
itself_all (n ∷ ns) = ap (λ z. n ∷ z) (itself_all ns)

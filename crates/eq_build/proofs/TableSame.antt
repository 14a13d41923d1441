-- A net has one table. Each lemma takes the gates before as two lists that are equal, so that the recursion stays on
-- the derivations.
use Rattle.std.proofs.Common.{◌≡◌, ℕ, Bool, List, [], ◌∷◌, ◌++◌, refl, sym, ap, ◌∙◌, subst}
use Rattle.ar_base.proofs.Standing.{stands_one}
use Rattle.domains.specs.declared.Value.{Value}
use Rattle.domains.specs.declared.Value.TheVariants.{Truth}
use Rattle.typed_expr.specs.declared.expr.Expr.{Expr, out-Expr}
use Rattle.ar_meaning.specs.Systems.{Assign, Variable, Net}
use Rattle.ar_firing.specs.Forest.{ModeTree}
use Rattle.eq_core.specs.Gates.{Operand, Gate, Made, Table, any_of}
use Rattle.eq_build.specs.Entries.{Entry, Built, operand_for, one_of_alls, entries_for}
use Rattle.eq_build.specs.Builds.{Builds}
use Rattle.eq_build.proofs.Same.{With, builds_same}
use Rattle.eq_build.specs.Steps as s
use Rattle.eq_build.specs.Steps.{Reading, Threads, BuiltAssign, Builds_conditions, Builds_assign, Gives_target, RoundOf, Rounds, All_rounds, Sees_two, MayLeaveOf, AllMayLeave, Sees_outside, Totals_of, Sees_broken, Has_modes, first_reading, updated, flows_from, given_terms, together, outside_terms, broken_terms, pairs_in, total_of, modes_of, assigns_to}
use Rattle.eq_build.specs.Table.{IsTable, flow_numbers}
use Rattle.eq_build.proofs.Blocks.{blocks_same}

-- one item and the gates after it
pub record Step (B : Type 0) : Type 0 where
  pub item : B
  pub gates : List Gate

-- a reading and the gates after it
pub record Read : Type 0 where
  pub read : Reading
  pub gates : List Gate

-- a step that has one result gives one list of results
module _ {A B : Type 0} {R : List Gate → A → B → List Gate → Type 0}
    (one : (g h : List Gate) (a : A) (x y : B) (k l : List Gate) → g ≡ h → R g a x k → R h a y l
    → ◌≡◌ {A = Step B} (record { item = x; gates = k }) (record { item = y; gates = l })) where
  threads_same : {g h : List Gate} {xs : List A} {ys zs : List B} {k l : List Gate} → g ≡ h → Threads R g xs ys k
      → Threads R h xs zs l → ◌≡◌ {A = With B} (record { items = ys; gates = k }) (record { items = zs; gates = l })
  threads_same i s.none s.none = ap (λ (z : List Gate). record { items = []; gates = z }) i
  threads_same {g = g} {h = h} i (s.one_and {h = m} {a = a} {b = x} d ds)
      (s.one_and {h = n} {i = l} {b = y} {ys = zs} e es) =
      let j = one g h a x y m n i d e in
      let k = threads_same (ap (λ (z : Step B). z.gates) j) ds es in
      ap (λ (z : With B). record { items = x ∷ z.items; gates = z.gates }) k
      ∙ ap (λ (z : Step B). record { items = z.item ∷ zs; gates = l }) j

modes_same : {g h : List Gate} {t : ModeTree} {x y : List Entry} {k l : List Gate} → g ≡ h → Has_modes g t x k
    → Has_modes h t y l
    → ◌≡◌ {A = Step (List Entry)} (record { item = x; gates = k }) (record { item = y; gates = l })
modes_same i (s.modes {t = t}) s.modes =
    ap (λ (z : List Gate). record { item = (modes_of t z).entries; gates = (modes_of t z).gates }) i

module _ (read : Reading) where
  conditions_same : {g h : List Gate} {cs : List (Expr ℕ × Bool)} {os ps : List Operand} {k l : List Gate} → g ≡ h
      → Builds_conditions read g cs os k → Builds_conditions read h cs ps l
      → ◌≡◌ {A = With Operand} (record { items = os; gates = k }) (record { items = ps; gates = l })
  conditions_same i s.no_condition s.no_condition = ap (λ (z : List Gate). record { items = []; gates = z }) i
  conditions_same i (s.condition_and {b = b} {r = r} d ds) (s.condition_and {h = l} {os = ps} e es) =
      let j = builds_same read i d e in
      let k = conditions_same (ap (λ (z : Built). z.gates) j) ds es in
      ap (λ (z : With Operand). record { items = operand_for r.entries (Truth b) ∷ z.items; gates = z.gates }) k
      ∙ ap (λ (z : Built). record { items = operand_for z.entries (Truth b) ∷ ps; gates = l }) j

  assign_same : {g h : List Gate} {a : Assign ℕ} {x y : BuiltAssign} → g ≡ h → Builds_assign read g a x
      → Builds_assign read h a y → x ≡ y
  assign_same i (s.builds {os = os} {r = r} d e) (s.builds {r = q} c f) =
      let j = conditions_same i d c in
      let k = builds_same read (ap (λ (z : With Operand). z.gates) j) e f in
      ap (λ (z : Built). record { conditions = os; entries = z.entries; gates = z.gates }) k
      ∙ ap (λ (z : With Operand). record { conditions = z.items; entries = q.entries; gates = q.gates }) j

  gives_same : (ds : List Value) {g h : List Gate} {a : Assign ℕ} {x y : List Entry} {k l : List Gate} → g ≡ h
      → Gives_target read ds g a x k → Gives_target read ds h a y l
      → ◌≡◌ {A = Step (List Entry)} (record { item = x; gates = k }) (record { item = y; gates = l })
  gives_same ds i (s.gives d) (s.gives e) =
      ap (λ (z : BuiltAssign). record {
        item = (entries_for z.gates (given_terms ds z.conditions z.entries)).entries;
        gates = (entries_for z.gates (given_terms ds z.conditions z.entries)).gates;
      }) (assign_same i d e)

  round_same : (net : Net ℕ) {g h : List Gate} {n : ℕ} {x y : List Entry} {k l : List Gate} → g ≡ h
      → RoundOf net read g n x k → RoundOf net read h n y l
      → ◌≡◌ {A = Step (List Entry)} (record { item = x; gates = k }) (record { item = y; gates = l })
  round_same net {h = h} {n = n} i (s.round_of {x = x} {ess = ess} p d)
      (s.round_of {h = m} {x = y} {ess = others} q e) =
      let same_item : x ≡ y = stands_one net.variables n x y p q in
      let f : Threads (Gives_target read x.domain) h (assigns_to n net.assertions) others m
      = subst (λ (z : Variable ℕ). Threads (Gives_target read z.domain) h (assigns_to n net.assertions) others m)
      (sym same_item) e in
      ap (λ (z : With (List Entry)). record {
        item = (entries_for z.gates (together z.items)).entries;
        gates = (entries_for z.gates (together z.items)).gates;
      }) (threads_same (λ _ _ _ _ _ _ _ i d e. gives_same x.domain i d e) i d f)

  two_same : {g h : List Gate} {n : ℕ} {x y : Operand} {k l : List Gate} → g ≡ h → Sees_two read g n x k
      → Sees_two read h n y l
      → ◌≡◌ {A = Step Operand} (record { item = x; gates = k }) (record { item = y; gates = l })
  two_same i (s.sees_two {n = n}) s.sees_two =
      ap (λ (z : List Gate). record {
        item = (one_of_alls z (pairs_in (read n))).operand;
        gates = (one_of_alls z (pairs_in (read n))).gates;
      }) i

  outside_same : {g h : List Gate} {a : Variable ℕ × Assign ℕ} {x y : Operand} {k l : List Gate} → g ≡ h
      → Sees_outside read g a x k
      → Sees_outside read h a y l
      → ◌≡◌ {A = Step Operand} (record { item = x; gates = k }) (record { item = y; gates = l })
  outside_same i (s.sees_outside {x = x} d) (s.sees_outside e) =
      ap (λ (z : BuiltAssign). record {
        item = (one_of_alls z.gates (outside_terms x.domain z.conditions z.entries)).operand;
        gates = (one_of_alls z.gates (outside_terms x.domain z.conditions z.entries)).gates;
      }) (assign_same i d e)

  total_same : {g h : List Gate} {a : ℕ × Variable ℕ} {x y : List Entry} {k l : List Gate} → g ≡ h
      → Totals_of read g a x k
      → Totals_of read h a y l
      → ◌≡◌ {A = Step (List Entry)} (record { item = x; gates = k }) (record { item = y; gates = l })
  total_same i (s.total {n = n} {x = x}) s.total =
      ap (λ (z : List Gate). record {
        item = (total_of z (read n) x.value).entries;
        gates = (total_of z (read n) x.value).gates;
      }) i

  broken_same : {g h : List Gate} {a : Assign ℕ} {x y : Operand} {k l : List Gate} → g ≡ h → Sees_broken read g a x k
      → Sees_broken read h a y l
      → ◌≡◌ {A = Step Operand} (record { item = x; gates = k }) (record { item = y; gates = l })
  broken_same i (s.sees_broken {a = a} d) (s.sees_broken e) =
      ap (λ (z : BuiltAssign). record {
        item = (one_of_alls z.gates (broken_terms z.conditions z.entries (read a.target))).operand;
        gates = (one_of_alls z.gates (broken_terms z.conditions z.entries (read a.target))).gates;
      }) (assign_same i d e)

module _ (net : Net ℕ) where
  rounds_same : {block : List ℕ} {k : ℕ} {g h m n : List Gate} {read other last end : Reading} → g ≡ h → read ≡ other
      → Rounds net block k g read last m → Rounds net block k h other end n
      → ◌≡◌ {A = Read} (record { read = last; gates = m }) (record { read = end; gates = n })
  rounds_same {h = h} {read = read} i e s.no_round s.no_round =
      ap (λ (z : List Gate). record { read = read; gates = z }) i
      ∙ ap (λ (z : Reading). record { read = z; gates = h }) e
  rounds_same {block = block} {h = h} {read = read} {other = other} i e (s.round_and {rows = rows} d ds)
      (s.round_and {h = m} {rows = others} f fs) =
      let at : Threads (RoundOf net read) h block others m
      = subst (λ (z : Reading). Threads (RoundOf net z) h block others m) (sym e) f in
      let j = threads_same (λ _ _ _ _ _ _ _ i d e. round_same read net i d e) i d at in
      rounds_same (ap (λ (z : With (List Entry)). z.gates) j)
      (ap (λ (z : With (List Entry)). updated read block z.items) j
      ∙ ap (λ (z : Reading). updated z block others) e) ds fs

  all_rounds_same : {blocks : List (List ℕ)} {g h m n : List Gate} {read other last end : Reading} → g ≡ h
      → read ≡ other → All_rounds net blocks g read last m → All_rounds net blocks h other end n
      → ◌≡◌ {A = Read} (record { read = last; gates = m }) (record { read = end; gates = n })
  all_rounds_same {h = h} {read = read} i e s.no_block s.no_block =
      ap (λ (z : List Gate). record { read = read; gates = z }) i
      ∙ ap (λ (z : Reading). record { read = z; gates = h }) e
  all_rounds_same i e (s.block_and d ds) (s.block_and f fs) =
      let j = rounds_same i e d f in
      all_rounds_same (ap (λ (z : Read). z.gates) j) (ap (λ (z : Read). z.read) j) ds fs

  leave_same : {x : Variable ℕ} {xs : List (Assign ℕ)} {ys zs : List (Variable ℕ × Assign ℕ)} → MayLeaveOf net x xs ys
      → MayLeaveOf net x xs zs → ys ≡ zs
  leave_same s.no_assign s.no_assign = refl
  leave_same {x = x} (s.may {a = a} m d) (s.may n e) = ap (λ z. (x, a) ∷ z) (leave_same d e)
  leave_same (s.may m d) (s.may_not n e) = absurd (n m)
  leave_same (s.may_not m d) (s.may n e) = absurd (m n)
  leave_same (s.may_not m d) (s.may_not n e) = leave_same d e

  all_leave_same : {n : ℕ} {xs : List (Variable ℕ)} {ys zs : List (Variable ℕ × Assign ℕ)} → AllMayLeave net n xs ys
      → AllMayLeave net n xs zs → ys ≡ zs
  all_leave_same s.no_variable s.no_variable = refl
  all_leave_same (s.state_and p d) (s.state_and q e) = all_leave_same d e
  all_leave_same (s.state_and p d) (s.flow_and q m e) = cc
  all_leave_same (s.flow_and p m d) (s.state_and q e) = cc
  all_leave_same (s.flow_and {ys = ys} {zs = zs} p m d) (s.flow_and {ys = us} {zs = vs} q n e) =
      ap (λ z. z ++ zs) (leave_same m n) ∙ ap (λ z. us ++ z) (all_leave_same d e)

  -- what two tables of the same net, trees, observer and value have is the same, step by step
  module _ (trees : List ModeTree) (observer : Expr ℕ) (wanted : Value) (one other : Table)
      (t : IsTable net trees observer wanted one) (u : IsTable net trees observer wanted other) where
    same_modes : ◌≡◌ {A = With (List Entry)} (record { items = t.modes; gates = t.after_modes })
        (record { items = u.modes; gates = u.after_modes })
    same_modes = threads_same (λ _ _ _ _ _ _ _ i d e. modes_same i d e) refl t.has_modes u.has_modes

    same_known : ◌≡◌ {A = Read} (record { read = t.known; gates = t.after_rounds })
        (record { read = u.known; gates = u.after_rounds })
    same_known =
        let start : first_reading trees t.modes 0 net.variables ≡ first_reading trees u.modes 0 net.variables
        = ap (λ (z : With (List Entry)). first_reading trees z.items 0 net.variables) same_modes in
        let all : All_rounds net t.blocks u.after_modes (first_reading trees u.modes 0 net.variables) u.known
        u.after_rounds
        = subst (λ (z : List (List ℕ)). All_rounds net z u.after_modes
        (first_reading trees u.modes 0 net.variables) u.known u.after_rounds)
        (sym (blocks_same net t.blocks u.blocks t.are_blocks u.are_blocks)) u.has_rounds in
        all_rounds_same (ap (λ (z : With (List Entry)). z.gates) same_modes) start t.has_rounds all

    reads : t.known ≡ u.known
    reads = ap (λ (z : Read). z.read) same_known

    same_twos : ◌≡◌ {A = With Operand} (record { items = t.twos; gates = t.after_twos })
        (record { items = u.twos; gates = u.after_twos })
    same_twos = threads_same (λ _ _ _ _ _ _ _ i d e. two_same t.known i d e) (ap (λ (z : Read). z.gates) same_known)
        t.sees_twos
        (subst (λ (z : Reading). Threads (Sees_two z) u.after_rounds (flow_numbers net) u.twos u.after_twos)
        (sym reads) u.sees_twos)

    same_outs : ◌≡◌ {A = With Operand} (record { items = t.outs; gates = t.after_outs })
        (record { items = u.outs; gates = u.after_outs })
    same_outs =
        let at : Threads (Sees_outside t.known) u.after_twos u.leaving u.outs u.after_outs
        = subst (λ (z : Reading). Threads (Sees_outside z) u.after_twos u.leaving u.outs u.after_outs)
        (sym reads) u.sees_outs in
        let there : Threads (Sees_outside t.known) u.after_twos t.leaving u.outs u.after_outs
        = subst (λ (z : List (Variable ℕ × Assign ℕ)). Threads (Sees_outside t.known) u.after_twos z u.outs
        u.after_outs)
        (sym (all_leave_same t.all_leave u.all_leave)) at in
        threads_same (λ _ _ _ _ _ _ _ i d e. outside_same t.known i d e) (ap (λ (z : With Operand). z.gates) same_twos)
        t.sees_outs there

    same_totals : ◌≡◌ {A = With (List Entry)} (record { items = t.totals; gates = t.after_totals })
        (record { items = u.totals; gates = u.after_totals })
    same_totals = threads_same (λ _ _ _ _ _ _ _ i d e. total_same t.known i d e)
        (ap (λ (z : With Operand). z.gates) same_outs) t.has_totals
        (subst (λ (z : Reading). Threads (Totals_of z) u.after_outs (flows_from 0 net.variables) u.totals
        u.after_totals)
        (sym reads) u.has_totals)

    total_reads : t.total ≡ u.total
    total_reads = t.is_total
        ∙ ap (λ (z : Reading). updated z (flow_numbers net) t.totals) reads
        ∙ ap (λ (z : With (List Entry)). updated u.known (flow_numbers net) z.items) same_totals
        ∙ sym u.is_total

    same_broken : ◌≡◌ {A = With Operand} (record { items = t.broken; gates = t.after_broken })
        (record { items = u.broken; gates = u.after_broken })
    same_broken = threads_same (λ _ _ _ _ _ _ _ i d e. broken_same t.total i d e)
        (ap (λ (z : With (List Entry)). z.gates) same_totals) t.sees_broken
        (subst (λ (z : Reading). Threads (Sees_broken z) u.after_totals net.assertions u.broken u.after_broken)
        (sym total_reads) u.sees_broken)

    same_conflict : ◌≡◌ {A = Made} (record { operand = one.conflict; gates = t.after_conflict })
        (record { operand = other.conflict; gates = u.after_conflict })
    same_conflict = sym t.conflict
        ∙ ap (λ (z : With Operand). any_of z.gates (t.twos ++ (t.outs ++ z.items))) same_broken
        ∙ ap (λ (z : With Operand). any_of u.after_broken (t.twos ++ (z.items ++ u.broken))) same_outs
        ∙ ap (λ (z : With Operand). any_of u.after_broken (z.items ++ (u.outs ++ u.broken))) same_twos
        ∙ u.conflict

    same_seen : t.seen ≡ u.seen
    same_seen = builds_same t.total (ap (λ (z : Made). z.gates) same_conflict) t.observed
        (subst (λ (z : Reading). Builds z u.after_conflict (out-Expr ℕ observer) u.seen) (sym total_reads) u.observed)

    pub same_table : one ≡ other
    same_table =
        let tops : one.top ≡ other.top
        = t.top ∙ ap (λ (z : Built). operand_for z.entries wanted) same_seen ∙ sym u.top in
        let all : one.gates ≡ other.gates = t.gates ∙ ap (λ (z : Built). z.gates) same_seen ∙ sym u.gates in
        ap (λ (z : List Gate). record { gates = z; conflict = one.conflict; top = one.top }) all
        ∙ ap (λ (z : Made). record { gates = other.gates; conflict = z.operand; top = one.top }) same_conflict
        ∙ ap (λ (z : Operand). record { gates = other.gates; conflict = other.conflict; top = z }) tops

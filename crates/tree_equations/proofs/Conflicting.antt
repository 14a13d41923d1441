-- The steps from known values to the table.
use Rattle.std.proofs.Common.{◌≡◌, ℕ, ◌<◌, List, [], ◌++◌, length, refl, sym, ap, ◌∙◌, subst}
use Rattle.domains.specs.declared.Value.{Value}
use Rattle.typed_expr.specs.declared.expr.Expr.{Expr, out-Expr}
use Rattle.ar_meaning.specs.Systems as s
use Rattle.ar_firing.specs.Forest as firing
use Rattle.eq_core.specs.Gates.{Operand, Gate, Made, Table, any_of}
use Rattle.eq_core.specs.ValuesInside.{GainsGates}
use Rattle.eq_core.proofs.Telling.{grows_on, any_more}
use Rattle.eq_build.specs.Entries.{Entry, operand_for}
use Rattle.eq_build.specs.Builds.{Builds}
use Rattle.eq_build.specs.BuildsInside.{most_gates}
use Rattle.eq_build.proofs.Growing.{longer_on, builds_more}
use Rattle.eq_build.specs.Steps.{Reading, Threads, Has_modes, first_reading, All_rounds, AreBlocks, Sees_two, AllMayLeave, Sees_outside, Totals_of, Sees_broken, updated, flows_from}
use Rattle.eq_build.specs.Table.{IsTable, flow_numbers}
use Rattle.eq_build.proofs.Blocks.{blocks_same}
use Rattle.tree_equations.specs.Answers.{TooMany}
use Rattle.tree_equations.specs.Seen.{GivesConflicts, Conflicting}
use Rattle.tree_equations.proofs.Determined.{threads_one, modes_one, two_one, out_one, total_one, broken_one, all_rounds_one, leaving_one}
use Rattle.tree_equations.proofs.Rising.{threads_more, out_more, total_more, broken_more, two_more, all_rounds_more}

-- the same list of things and the same gates before them
module _ {A B : Type 0} (R : List Gate → A → B → List Gate → Type 0) where
  pub thread_as : (xs ys : List A) (g h : List Gate) (os : List B) (k : List Gate) → xs ≡ ys → g ≡ h
      → Threads R g xs os k → Threads R h ys os k
  thread_as xs ys g h os k e f d =
      subst (λ (z : List A). Threads R h z os k) e (subst (λ (z : List Gate). Threads R z xs os k) f d)

module _ (net : s.Net ℕ) (known : Reading) (g : List Gate) where
  module _ (total : Reading) (conflict : Operand) (h : List Gate) (c : GivesConflicts net known g total conflict h) where
    from_broken : GainsGates c.after_broken h
    from_broken = subst (λ (z : Made). GainsGates c.after_broken z.gates) c.is_conflict
        (any_more c.after_broken (c.twos ++ (c.outs ++ c.broken)))

    from_totals : GainsGates c.after_totals h
    from_totals = grows_on (threads_more (Sees_broken total) (broken_more total) c.sees_broken) from_broken

    from_outs : GainsGates c.after_outs h
    from_outs = grows_on (threads_more (Totals_of known) (total_more known) c.has_totals) from_totals

    from_twos : GainsGates c.after_twos h
    from_twos = grows_on (threads_more (Sees_outside known) (out_more known) c.sees_outs) from_outs

    pub conflict_grows : GainsGates g h
    conflict_grows = grows_on (threads_more (Sees_two known) (two_more known) c.sees_twos) from_twos

  pub conflict_first : TooMany (λ os h. Threads (Sees_two known) g (flow_numbers net) os h)
      → TooMany (Conflicting net known g)
  conflict_first n r h c = longer_on (from_twos r.0 r.1 h c) (n c.twos c.after_twos c.sees_twos)

  module _ (twos : List Operand) (g2 : List Gate) (d2 : Threads (Sees_two known) g (flow_numbers net) twos g2)
      (leaving : List (s.Variable ℕ × s.Assign ℕ)) (all : AllMayLeave net 0 net.variables leaving) where
    outs_there : (r : Reading × Operand) (h : List Gate) (c : GivesConflicts net known g r.0 r.1 h)
        → Threads (Sees_outside known) g2 leaving c.outs c.after_outs
    outs_there r h c =
        thread_as (Sees_outside known) c.leaving leaving c.after_twos g2 c.outs c.after_outs
        (leaving_one net c.all_leave all) (threads_one (Sees_two known) (two_one known) c.sees_twos d2).1 c.sees_outs

    pub conflict_second : TooMany (λ os h. Threads (Sees_outside known) g2 leaving os h)
        → TooMany (Conflicting net known g)
    conflict_second n r h c = longer_on (from_outs r.0 r.1 h c) (n c.outs c.after_outs (outs_there r h c))

    module _ (outs : List Operand) (g3 : List Gate) (d3 : Threads (Sees_outside known) g2 leaving outs g3) where
      totals_there : (r : Reading × Operand) (h : List Gate) (c : GivesConflicts net known g r.0 r.1 h)
          → Threads (Totals_of known) g3 (flows_from 0 net.variables) c.totals c.after_totals
      totals_there r h c =
          thread_as (Totals_of known) (flows_from 0 net.variables) (flows_from 0 net.variables) c.after_outs g3 c.totals
          c.after_totals refl (threads_one (Sees_outside known) (out_one known) (outs_there r h c) d3).1 c.has_totals

      pub conflict_third : TooMany (λ ess h. Threads (Totals_of known) g3 (flows_from 0 net.variables) ess h)
          → TooMany (Conflicting net known g)
      conflict_third n r h c = longer_on (from_totals r.0 r.1 h c) (n c.totals c.after_totals (totals_there r h c))

      module _ (totals : List (List Entry)) (g4 : List Gate)
          (d4 : Threads (Totals_of known) g3 (flows_from 0 net.variables) totals g4) (total : Reading)
          (is : total ≡ updated known (flow_numbers net) totals) where
        broken_there : (r : Reading × Operand) (h : List Gate) (c : GivesConflicts net known g r.0 r.1 h)
            → Threads (Sees_broken total) g4 net.assertions c.broken c.after_broken
        broken_there r h c =
            let same = threads_one (Totals_of known) (total_one known) (totals_there r h c) d4 in
            let read = c.is_total ∙ ap (λ z. updated known (flow_numbers net) z) same.0 ∙ sym is in
            subst (λ (z : Reading). Threads (Sees_broken z) g4 net.assertions c.broken c.after_broken) read
            (subst (λ (z : List Gate). Threads (Sees_broken r.0) z net.assertions c.broken c.after_broken) same.1
            c.sees_broken)

        pub conflict_fourth : TooMany (λ os h. Threads (Sees_broken total) g4 net.assertions os h)
            → TooMany (Conflicting net known g)
        conflict_fourth n r h c = longer_on (from_broken r.0 r.1 h c) (n c.broken c.after_broken (broken_there r h c))

        module _ (broken : List Operand) (g5 : List Gate) (d5 : Threads (Sees_broken total) g4 net.assertions broken g5)
          where
            abbrev made : Made
            made = any_of g5 (twos ++ (outs ++ broken))

            pub conflict_last : Conflicting net known g (total, made.operand) made.gates
            conflict_last = record {
              twos = twos;
              after_twos = g2;
              sees_twos = d2;
              leaving = leaving;
              all_leave = all;
              outs = outs;
              after_outs = g3;
              sees_outs = d3;
              totals = totals;
              after_totals = g4;
              has_totals = d4;
              is_total = is;
              broken = broken;
              after_broken = g5;
              sees_broken = d5;
              is_conflict = refl;
            }

            pub conflict_one : (r : Reading × Operand) (h : List Gate) → Conflicting net known g r h → made.gates ≡ h
            conflict_one r h c =
                let two = threads_one (Sees_two known) (two_one known) d2 c.sees_twos in
                let out = threads_one (Sees_outside known) (out_one known) d3 (outs_there r h c) in
                let last = threads_one (Sees_broken total) (broken_one total) d5 (broken_there r h c) in
                ap (λ z. (any_of z (twos ++ (outs ++ broken))).gates) last.1
                ∙ ap (λ z. (any_of c.after_broken (z ++ (outs ++ broken))).gates) two.0
                ∙ ap (λ z. (any_of c.after_broken (c.twos ++ (z ++ broken))).gates) out.0
                ∙ ap (λ z. (any_of c.after_broken (c.twos ++ (c.outs ++ z))).gates) last.0
                ∙ ap (λ (z : Made). z.gates) c.is_conflict

            pub conflict_one_total : (r : Reading × Operand) (h : List Gate) → Conflicting net known g r h
                → total ≡ r.0
            conflict_one_total r h c =
                let same = threads_one (Totals_of known) (total_one known) d4 (totals_there r h c) in
                is ∙ ap (λ z. updated known (flow_numbers net) z) same.0 ∙ sym c.is_total

-- conflicts have one outcome
pub conflicts_one : (net : s.Net ℕ) (known : Reading) (g : List Gate) (r q : Reading × Operand) (h k : List Gate)
    → Conflicting net known g r h → Conflicting net known g q k → (r.0 ≡ q.0) × (h ≡ k)
conflicts_one net known g r q h k c e =
    let total = conflict_one_total net known g c.twos c.after_twos c.sees_twos c.leaving c.all_leave c.outs c.after_outs
    c.sees_outs c.totals c.after_totals c.has_totals r.0 c.is_total c.broken c.after_broken c.sees_broken q k e in
    let gates = conflict_one net known g c.twos c.after_twos c.sees_twos c.leaving c.all_leave c.outs c.after_outs
    c.sees_outs c.totals c.after_totals c.has_totals r.0 c.is_total c.broken c.after_broken c.sees_broken q k e in
    (total, sym (ap (λ (z : Made). z.gates) c.is_conflict) ∙ gates)

-- the table's parts
module _ (net : s.Net ℕ) (trees : List firing.ModeTree) (observer : Expr ℕ) (wanted : Value) where
  abbrev pub Needs : Type 0
  Needs = (table : Table) → IsTable net trees observer wanted table → most_gates < length table.gates

  module _ (table : Table) (w : IsTable net trees observer wanted table) where
    conflicts_of : Conflicting net w.known w.after_rounds (w.total, table.conflict) w.after_conflict
    conflicts_of = record {
      twos = w.twos;
      after_twos = w.after_twos;
      sees_twos = w.sees_twos;
      leaving = w.leaving;
      all_leave = w.all_leave;
      outs = w.outs;
      after_outs = w.after_outs;
      sees_outs = w.sees_outs;
      totals = w.totals;
      after_totals = w.after_totals;
      has_totals = w.has_totals;
      is_total = w.is_total;
      broken = w.broken;
      after_broken = w.after_broken;
      sees_broken = w.sees_broken;
      is_conflict = w.conflict;
    }

    to_end : {h : List Gate} → GainsGates h w.seen.gates → most_gates < length h → most_gates < length table.gates
    to_end f l = subst (λ (z : List Gate). most_gates < length z) (sym w.gates) (longer_on f l)

    after_conflict : GainsGates w.after_conflict w.seen.gates
    after_conflict = builds_more w.observed

    after_rounds : GainsGates w.after_rounds w.seen.gates
    after_rounds = grows_on (conflict_grows net w.known w.after_rounds w.total table.conflict w.after_conflict
        conflicts_of)
        after_conflict

    after_modes : GainsGates w.after_modes w.seen.gates
    after_modes = grows_on (all_rounds_more net w.has_rounds) after_rounds

  pub table_first : TooMany (λ ess h. Threads Has_modes [] trees ess h) → Needs
  table_first n table w = to_end table w (after_modes table w) (n w.modes w.after_modes w.has_modes)

  module _ (modes : List (List Entry)) (g1 : List Gate) (d1 : Threads Has_modes [] trees modes g1)
      (blocks : List (List ℕ)) (are : AreBlocks net blocks) (first : Reading)
      (is : first ≡ first_reading trees modes 0 net.variables) where
    rounds_there : (table : Table) (w : IsTable net trees observer wanted table)
        → All_rounds net blocks g1 first w.known w.after_rounds
    rounds_there table w =
        let same = threads_one Has_modes modes_one w.has_modes d1 in
        let read = ap (λ z. first_reading trees z 0 net.variables) same.0 ∙ sym is in
        subst (λ (z : Reading). All_rounds net blocks g1 z w.known w.after_rounds) read
        (subst (λ (z : List Gate). All_rounds net blocks z (first_reading trees w.modes 0 net.variables) w.known
        w.after_rounds) same.1
        (subst (λ (z : List (List ℕ)). All_rounds net z w.after_modes (first_reading trees w.modes 0 net.variables)
        w.known w.after_rounds) (blocks_same net w.blocks blocks w.are_blocks are) w.has_rounds))

    pub table_second : TooMany (λ last h. All_rounds net blocks g1 first last h) → Needs
    table_second n table w = to_end table w (after_rounds table w) (n w.known w.after_rounds (rounds_there table w))

    module _ (known : Reading) (g2 : List Gate) (d2 : All_rounds net blocks g1 first known g2) where
      conflicts_there : (table : Table) (w : IsTable net trees observer wanted table)
          → Conflicting net known g2 (w.total, table.conflict) w.after_conflict
      conflicts_there table w =
          let same = all_rounds_one net (rounds_there table w) d2 in
          subst (λ (z : Reading). Conflicting net z g2 (w.total, table.conflict) w.after_conflict) same.0
          (subst (λ (z : List Gate). Conflicting net w.known z (w.total, table.conflict) w.after_conflict) same.1
          (conflicts_of table w))

      pub table_third : TooMany (Conflicting net known g2) → Needs
      table_third n table w =
          to_end table w (after_conflict table w)
          (n (w.total, table.conflict) w.after_conflict (conflicts_there table w))

      module _ (r : Reading × Operand) (g3 : List Gate) (d3 : Conflicting net known g2 r g3) where
        pub table_fourth : TooMany (λ es h. Builds r.0 g3 (out-Expr ℕ observer) (record { entries = es; gates = h }))
            → Needs
        table_fourth n table w =
            let same = conflicts_one net known g2 (w.total, table.conflict) r w.after_conflict g3
            (conflicts_there table w) d3 in
            subst (λ (z : List Gate). most_gates < length z) (sym w.gates)
            (n w.seen.entries w.seen.gates
            (subst (λ (z : Reading). Builds z g3 (out-Expr ℕ observer) w.seen) same.0
            (subst (λ (z : List Gate). Builds w.total z (out-Expr ℕ observer) w.seen) same.1 w.observed)))

        pub table_made : (es : List Entry) (h : List Gate)
            → Builds r.0 g3 (out-Expr ℕ observer) (record { entries = es; gates = h })
            → IsTable net trees observer wanted
            (record { gates = h; conflict = r.1; top = operand_for es wanted })
        table_made es h d = record {
          modes = modes;
          after_modes = g1;
          has_modes = d1;
          blocks = blocks;
          are_blocks = are;
          known = known;
          after_rounds = g2;
          has_rounds = subst (λ (z : Reading). All_rounds net blocks g1 z known g2) is d2;
          twos = d3.twos;
          after_twos = d3.after_twos;
          sees_twos = d3.sees_twos;
          leaving = d3.leaving;
          all_leave = d3.all_leave;
          outs = d3.outs;
          after_outs = d3.after_outs;
          sees_outs = d3.sees_outs;
          totals = d3.totals;
          after_totals = d3.after_totals;
          has_totals = d3.has_totals;
          total = r.0;
          is_total = d3.is_total;
          broken = d3.broken;
          after_broken = d3.after_broken;
          sees_broken = d3.sees_broken;
          after_conflict = g3;
          conflict = d3.is_conflict;
          seen = record { entries = es; gates = h };
          observed = d;
          top = refl;
          gates = refl;
        }

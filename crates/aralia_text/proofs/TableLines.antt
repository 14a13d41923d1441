-- The lines of gates, one behind the other.
use Rattle.std.proofs.Common.{◌≡◌, ℕ, zero, suc, ◌+◌, ◌≤◌, ◌⊎◌, inl, inr, true, true≢false, List, [], ◌∷◌, ◌++◌, length, refl, sym, ap, ◌∙◌, subst, append_assoc, append-nil, arith}
use Rattle.std.proofs.lemmas.List.{length-append}
use Rattle.ar_base.specs.Lists.{Stands, IsOneOf}
use Rattle.ar_base.proofs.Standing.{stands_split, stands_next, stands_none, one_first}
use Rattle.eq_core.specs.Gates.{Operand, Always, Gate, Table}
use Rattle.eq_core.specs.Ordered.{IsInPlace, AreOrdered}
use Rattle.eq_core.specs.ValuesInside.{IsBelow}
use Rattle.aralia_text.specs.Texts.{gate_line, gate_lines, last_lines, equations_text}
use Rattle.aralia_text.specs.Readings.{HaveEventTexts}
use Rattle.aralia_text.specs.Fronts.{IsAny, IsEnd, BeginAlike, begins_with, IsRead, AreBegun, part, IsStuck, HasOperand, IsGateAt, Last, last_of, AreLast, last_text, HasTableText, TableGoesOn, AreRead, HasNoGate, IsOnlyTable, IsNoTable}
use Rattle.aralia_text.proofs.Stuck.{alike_first, alike_behind, stuck_behind, stuck_at_once}

module _ (events : List (List ℕ)) where
  lines_append : (n : ℕ) (gates : List Gate) (gate : Gate)
      → gate_lines events n (gates ++ gate ∷ []) ≡ gate_lines events n gates ++ gate_line events (n + length gates) gate
  lines_append n [] gate =
      let same : n + 0 ≡ n = omega arith in
      append-nil (gate_line events n gate) ∙ ap (λ (z : ℕ). gate_line events z gate) (sym same)
  lines_append n (x ∷ gates) gate =
      let same : (n + 1) + length gates ≡ n + suc (length gates) = omega arith in
      ap (λ (z : List ℕ). gate_line events n x ++ z)
      (lines_append (n + 1) gates gate
      ∙ ap (λ (z : ℕ). gate_lines events (n + 1) gates ++ gate_line events z gate) same)
      ∙ sym (append_assoc (gate_line events n x) (gate_lines events (n + 1) gates)
      (gate_line events (n + suc (length gates)) gate))

  -- before any gate is read
  pub none_read : (text : List ℕ) → AreRead events text [] text
  none_read text = record {
    ordered = record { each = λ n gate s. absurd (stands_none n gate s) };
    named = λ n gate s. absurd (stands_none n gate s);
    joined = refl;
    few = omega arith;
    only = λ table other is alike e. record { more = table.gates; gates_is = refl; left_is = e };
  }

  module _ (text : List ℕ) (gates : List Gate) (left : List ℕ) (far : AreRead events text gates left) where
    -- a gate that stands in a table
    gate_there : (table : Table) → HasTableText events table → (gate : Gate) (more : List Gate)
        → table.gates ≡ gates ++ (gate ∷ more) → IsGateAt (length gates) events gate
    gate_there table is gate more e =
        let there : Stands table.gates (length gates) gate =
        subst (λ (z : List Gate). Stands z (length gates) gate) (sym e) (stands_next gates gate more) in
        let place = is.ordered.gates.each (length gates) gate there in
        record {
          two = place.two;
          each = λ o one. record {
            earlier = place.earlier o one;
            named = (is.gates (length gates) gate there).each o one;
          };
        }

    -- The gates with one more behind them

    module _ (gate : Gate) (at : IsGateAt (length gates) events gate) where
      one_item : (k : ℕ) (g : Gate) → Stands (gate ∷ []) k g → (k ≡ 0) × (gate ≡ g)
      one_item zero g s = (refl, cc)
      one_item (suc k) g s = absurd (stands_none k g s)

      ordered_at : (n : ℕ) (g : Gate) → Stands gates n g ⊎ ((k : ℕ) × (n ≡ length gates + k) × Stands (gate ∷ []) k g)
          → IsInPlace n g
      ordered_at n g (inl s) = far.ordered.each n g s
      ordered_at n g (inr s) =
          let one = one_item s.0 g s.2 in
          let e = s.1 in
          let z = one.0 in
          let place : length gates ≡ n = omega (arith, e, z) in
          subst (λ (m : ℕ). IsInPlace m g) place
          (subst (λ (x : Gate). IsInPlace (length gates) x) one.1
          (record { two = at.two; earlier = λ o is. (at.each o is).earlier }))

      more_ordered : AreOrdered (gates ++ gate ∷ [])
      more_ordered = record { each = λ n g s. ordered_at n g (stands_split gates (gate ∷ []) n g s) }

      named_at : (n : ℕ) (g : Gate) → Stands gates n g ⊎ ((k : ℕ) × (n ≡ length gates + k) × Stands (gate ∷ []) k g)
          → HaveEventTexts events g
      named_at n g (inl s) = far.named n g s
      named_at n g (inr s) = subst (λ (x : Gate). HaveEventTexts events x) (one_item s.0 g s.2).1
          (record { each = λ o is. (at.each o is).named })

      more_named : (n : ℕ) (g : Gate) → Stands (gates ++ gate ∷ []) n g → HaveEventTexts events g
      more_named n g s = named_at n g (stands_split gates (gate ∷ []) n g s)

      more_text : gate_lines events 0 (gates ++ gate ∷ [])
          ≡ gate_lines events 0 gates ++ gate_line events (length gates) gate
      more_text =
          let same : 0 + length gates ≡ length gates = omega arith in
          lines_append 0 gates gate ∙ ap (λ (z : ℕ). gate_lines events 0 gates ++ gate_line events z gate) same

      behind_one : (other : List ℕ) → gate_lines events 0 gates ++ (gate_line events (length gates) gate ++ other)
          ≡ gate_lines events 0 (gates ++ gate ∷ []) ++ other
      behind_one other = sym (append_assoc (gate_lines events 0 gates) (gate_line events (length gates) gate) other)
          ∙ ap (λ (z : List ℕ). z ++ other) (sym more_text)

      -- a table of these gates
      abbrev with_one : Table
      with_one = record { gates = gates ++ gate ∷ []; conflict = Always; top = Always }

      one_written : HasTableText events with_one
      one_written = record {
        ordered = record { gates = more_ordered; conflict = tt; top = tt };
        gates = more_named;
        conflict = tt;
        top = tt;
        is_text = refl;
      }

      one_text : equations_text events with_one
          ≡ gate_lines events 0 gates ++ (gate_line events (length gates) gate ++ last_lines events Always Always)
      one_text = ap (λ (z : List ℕ). z ++ last_lines events Always Always) more_text
          ∙ append_assoc (gate_lines events 0 gates) (gate_line events (length gates) gate)
          (last_lines events Always Always)

    -- a table of the gates that were read
    abbrev with_last : Last → Table
    with_last last = record { gates = gates; conflict = last.conflict; top = last.top }

    last_written : (last : Last) → AreLast (length gates) events last → HasTableText events (with_last last)
    last_written last at = record {
      ordered = record { gates = far.ordered; conflict = at.conflict.below; top = at.top.below };
      gates = far.named;
      conflict = at.conflict.named;
      top = at.top.named;
      is_text = refl;
    }

    begun_far : AreBegun (HasTableText events) (equations_text events) (gate_lines events 0 gates)
    begun_far =
        part (with_last (last_of Always Always)) (last_lines events Always Always)
        (last_written (last_of Always Always)
        (record { conflict = record { below = tt; named = tt }; top = record { below = tt; named = tt } })) refl

    -- a table's text ends
    at_end : (table : Table) (back other : List ℕ) → IsEnd back
        → gate_lines events 0 gates ++ other ≡ equations_text events table ++ back
        → gate_lines events 0 gates ++ other ≡ equations_text events table
    at_end table back other end e = e ∙ ap (λ (z : List ℕ). equations_text events table ++ z) end
        ∙ append-nil (equations_text events table)

    record Further (other : List ℕ) (table : Table) : Type 0 where
      pub gate : Gate
      pub more : List Gate
      pub gates_is : table.gates ≡ gates ++ (gate ∷ more)
      pub gate_at : IsGateAt (length gates) events gate
      pub left_is : other ≡ gate_line events (length gates)
          gate ++ (gate_lines events (length gates + 1) more ++ last_lines events table.conflict table.top)

    module _ (a_gate : begins_with 103 left ≡ true) where
      further : (table : Table) (other : List ℕ) → HasTableText events table → BeginAlike left other
          → TableGoesOn events gates other table → Further other table
      further table other is alike g = by g.more g.gates_is g.left_is
        where
          by : (more : List Gate) → table.gates ≡ gates ++ more
              → other ≡ gate_lines events (length gates) more ++ last_lines events table.conflict table.top
              → Further other table
          by [] i e = absurd (true≢false (sym (alike_first 103 left other alike ∙ a_gate) ∙ ap (begins_with 103) e))
          by (m ∷ more) i e = record {
            gate = m;
            more = more;
            gates_is = i;
            gate_at = gate_there table is m more i;
            left_is = e ∙ append_assoc (gate_line events (length gates) m) (gate_lines events (length gates + 1) more)
                (last_lines events table.conflict table.top);
          }

      pub gate_stuck : (n : ℕ) → IsStuck (IsGateAt (length gates) events) (gate_line events (length gates)) IsAny left n
          → IsNoTable events text n
      gate_stuck n k =
          stuck_behind (IsGateAt (length gates) events) (gate_line events (length gates)) IsAny (HasTableText events)
          (equations_text events) IsEnd text (gate_lines events 0 gates) left n far.joined begun_far
          (λ g is. record {
            b = with_one g is;
            more = last_lines events Always Always;
            sought = one_written g is;
            is = one_text g is;
          })
          (λ table back other is end alike e.
          let f = further table other is alike (far.only table other is alike (at_end table back other end e)) in
          record {
            a = f.gate;
            back = gate_lines events (length gates + 1) f.more ++ last_lines events table.conflict
                table.top;
            sought = f.gate_at;
            ends = tt;
            is = f.left_is;
          }) k

      -- a gate has an operand
      has_operand : (gate : Gate) → IsGateAt (length gates) events gate → HasOperand (length gates) events
      has_operand gate is = by gate.operands refl
        where
          by : (os : List Operand) → gate.operands ≡ os → HasOperand (length gates) events
          by [] i = let n : length gate.operands ≡ 0 = ap length i in absurd (let t = is.two in omega (arith, n, t))
          by (x ∷ os) i = (x, is.each x (subst (λ (z : List Operand). IsOneOf z x) (sym i) (one_first x os)))

      pub no_operand : (HasOperand (length gates) events → ⊥) → IsNoTable events text (length left)
      no_operand lacks = gate_stuck (length left)
          (stuck_at_once (IsGateAt (length gates) events) (gate_line events (length gates)) IsAny left
          (λ gate is. lacks (has_operand gate is)))

      pub gate_read : (gate : Gate) (behind : List ℕ)
          → IsRead (IsGateAt (length gates) events) (gate_line events (length gates)) IsAny left gate behind
          → AreRead events text (gates ++ gate ∷ []) behind
      gate_read gate behind r = record {
        ordered = more_ordered gate r.sought;
        named = more_named gate r.sought;
        joined =
            far.joined ∙ ap (λ (z : List ℕ). gate_lines events 0 gates ++ z) r.joined
            ∙ sym (append_assoc (gate_lines events 0 gates) (gate_line events (length gates) gate) behind)
            ∙ ap (λ (z : List ℕ). z ++ behind) (sym (more_text gate r.sought));
        few =
            let n : length (gates ++ gate ∷ []) ≡ length gates + 1 = length-append gates (gate ∷ []) in
            let m : length left ≡ length (gate_line events (length gates) gate) + length behind =
            ap length r.joined ∙ length-append (gate_line events (length gates) gate) behind in
            let f = far.few in
            let some : 1 ≤ length (gate_line events (length gates) gate) = line_some gate in
            omega (arith, n, m, f, some);
        only = λ table other is alike e.
            let as_one : BeginAlike left (gate_line events (length gates) gate ++ other) =
            subst (λ (z : List ℕ). BeginAlike z (gate_line events (length gates) gate ++ other)) (sym r.joined)
            (alike_behind (gate_line events (length gates) gate) behind other alike) in
            let f = further table (gate_line events (length gates) gate ++ other) is as_one
            (far.only table (gate_line events (length gates) gate ++ other) is as_one
            (behind_one gate r.sought other ∙ e)) in
            let same = r.only f.gate (gate_lines events (length gates + 1) f.more ++ last_lines events table.conflict
            table.top) other f.gate_at tt alike f.left_is in
            record {
              more = f.more;
              gates_is = f.gates_is ∙ ap (λ (z : Gate). gates ++ (z ∷ f.more)) same.0
                  ∙ sym (append_assoc gates (gate ∷ []) f.more);
              left_is = sym same.1 ∙ ap (λ (z : ℕ). gate_lines events z f.more ++ last_lines events table.conflict
                  table.top) (sym (length-append gates (gate ∷ [])));
            };
      }
        where
          line_some : (g : Gate) → 1 ≤ length (gate_line events (length gates) g)
          line_some g = omega arith

    module _ (no_gate : HasNoGate left) where
      record Ends (other : List ℕ) (table : Table) : Type 0 where
        pub gates_is : table.gates ≡ gates
        pub last_at : AreLast (length gates) events (last_of table.conflict table.top)
        pub left_is : other ≡ last_lines events table.conflict table.top

      ends : (table : Table) (other : List ℕ) → HasTableText events table → BeginAlike left other
          → TableGoesOn events gates other table → Ends other table
      ends table other is alike g = by g.more g.gates_is g.left_is
        where
          by : (more : List Gate) → table.gates ≡ gates ++ more
              → other ≡ gate_lines events (length gates) more ++ last_lines events table.conflict table.top
              → Ends other table
          by [] i e =
              let same : table.gates ≡ gates = i ∙ append-nil gates in
              record {
                gates_is = same;
                last_at = record {
                  conflict = record {
                    below = subst (λ (z : List Gate). IsBelow (length z) table.conflict) same
                        is.ordered.conflict;
                    named = is.conflict;
                  };
                  top = record {
                    below = subst (λ (z : List Gate). IsBelow (length z) table.top) same is.ordered.top;
                    named = is.top;
                  };
                };
                left_is = e;
              }
          by (m ∷ more) i e = absurd (true≢false
              (sym (ap (begins_with 103) e) ∙ alike_first 103 left other alike ∙ no_gate))

      pub last_stuck : (n : ℕ) → IsStuck (AreLast (length gates) events) (last_text events) IsEnd left n
          → IsNoTable events text n
      last_stuck n k =
          stuck_behind (AreLast (length gates) events) (last_text events) IsEnd (HasTableText events)
          (equations_text events) IsEnd text (gate_lines events 0 gates) left n far.joined begun_far
          (λ last is. record {
            b = with_last last;
            more = [];
            sought = last_written last is;
            is = ap (λ (z : List ℕ). gate_lines events 0 gates ++ z) (sym (append-nil (last_text events last)));
          })
          (λ table back other is end alike e.
          let f = ends table other is alike (far.only table other is alike (at_end table back other end e)) in
          record {
            a = last_of table.conflict table.top;
            back = [];
            sought = f.last_at;
            ends = refl;
            is = f.left_is
                ∙ sym (append-nil (last_lines events table.conflict table.top));
          }) k

      pub table_read : (last : Last) → IsRead (AreLast (length gates) events) (last_text events) IsEnd left last []
          → IsOnlyTable events text (with_last last)
      table_read last r = record {
        sought = last_written last r.sought;
        joined = far.joined ∙ ap (λ (z : List ℕ). gate_lines events 0 gates ++ z) r.joined
            ∙ sym (append_assoc (gate_lines events 0 gates) (last_text events last) []);
        only = λ table back other is end alike e. by table back other is end alike e;
      }
        where
          same_table : (table : Table) → table.gates ≡ gates → last_of table.conflict table.top ≡ last
              → table ≡ with_last last
          same_table table i j =
              ap (λ (z : List Gate). record { gates = z; conflict = table.conflict; top = table.top }) i
              ∙ ap (λ (z : Last). record { gates = gates; conflict = z.conflict; top = z.top }) j

          by : (table : Table) (back other : List ℕ) → HasTableText events table → IsEnd back → BeginAlike [] other
              → equations_text events (with_last last) ++ other ≡ equations_text events table ++ back
              → (table ≡ with_last last) × (back ≡ other)
          by table back other is end alike e =
              let as_one : BeginAlike left (last_text events last ++ other) =
              subst (λ (z : List ℕ). BeginAlike z (last_text events last ++ other)) (sym r.joined)
              (alike_behind (last_text events last) [] other alike) in
              let whole : gate_lines events 0 gates ++ (last_text events last ++ other) ≡ equations_text events table =
              at_end table back (last_text events last ++ other) end
              (sym (append_assoc (gate_lines events 0 gates) (last_text events last) other) ∙ e) in
              let f = ends table (last_text events last ++ other) is as_one
              (far.only table (last_text events last ++ other) is as_one whole) in
              let same = r.only (last_of table.conflict table.top) back other f.last_at end alike
              (f.left_is ∙ sym (append-nil (last_lines events table.conflict table.top))
              ∙ ap (λ (z : List ℕ). last_lines events table.conflict table.top ++ z) (sym end)) in
              (same_table table f.gates_is same.0, same.1)

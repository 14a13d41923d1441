-- The gates of a table are in order.
use Rattle.std.proofs.Common.{◌≡◌, ℕ, ◌+◌, inl, inr, Bool, true, false, if◌then◌else◌, List, [], ◌∷◌, ◌++◌, length, sym, subst}
use Rattle.std.specs.Prelude.{nat_eq}
use Rattle.ar_base.specs.Lists.{IsOneOf}
use Rattle.ar_base.proofs.Standing.{one_first, one_rest, one_none, one_split, stands_none}
use Rattle.domains.specs.declared.Value.{Value}
use Rattle.typed_expr.specs.declared.expr.Expr.{Expr}
use Rattle.ar_meaning.specs.Systems.{Variable, Net}
use Rattle.ar_firing.specs.Forest.{ModeTree}
use Rattle.ar_firing.specs.Trees.{IsTree, AreTrees}
use Rattle.eq_core.specs.Gates.{Operand, Gate, Table, Made, any_of}
use Rattle.eq_core.specs.Ordered.{AreBelow, AreOrdered, IsOrderedTable}
use Rattle.eq_core.specs.ValuesInside.{GainsGates, IsBelow}
use Rattle.eq_core.proofs.Ordering.{joined_ordered, none_earlier}
use Rattle.eq_core.proofs.Telling.{grows_self, grows_on, below_kept, any_more}
use Rattle.eq_build.specs.Entries.{Entry}
use Rattle.eq_build.specs.Laws.{EntriesBelow}
use Rattle.eq_build.proofs.BuildsOrdered.{entries_on, read_below, only_below, builds_ordered}
use Rattle.eq_build.proofs.Growing.{builds_more}
use Rattle.eq_build.specs.Steps as s
use Rattle.eq_build.specs.Steps.{Reading, Has_modes, modes_at, first_reading, in_order, RoundOf, Rounds, All_rounds, updated, Sees_two, Sees_outside, Totals_of, Sees_broken}
use Rattle.eq_build.specs.Table.{IsTable, flow_numbers}
use Rattle.table_laws.proofs.OrderOfEntries.{from_order}
use Rattle.table_laws.proofs.StepsOrdered.{Kept, IsRow, modes_kept, threads_kept, IsRead, read_on, round_kept, two_kept, outside_kept, total_kept, broken_kept}

no_entries : (g : List Gate) → EntriesBelow g []
no_entries g = record { each = λ e m. absurd (one_none e m) }

row_on : (g h : List Gate) (es : List Entry) → GainsGates g h → IsRow g es → IsRow h es
row_on g h es w r = record { below = entries_on es w r.below; differ = r.differ }

-- what the variables read before the rounds
modes_below : (g : List Gate) (n : ℕ) (trees : List ModeTree) (rows : List (List Entry)) (init : Value)
    → ((es : List Entry) → IsOneOf rows es → IsRow g es) → EntriesBelow g (modes_at n trees rows init)
modes_below g n [] rows init k = only_below g init
modes_below g n (t ∷ ts) [] init k = only_below g init
modes_below g n (t ∷ ts) (es ∷ ess) init k =
    go (nat_eq t.variable n) (modes_below g n ts ess init (λ fs m. k fs (one_rest es ess fs m)))
  where
    go : (b : Bool) → EntriesBelow g (modes_at n ts ess init)
        → EntriesBelow g (if b then in_order es else modes_at n ts ess init)
    go true r = record {
      each = λ e m.
          let row = k es (one_first es ess) in
          let f = from_order es row.differ e m in
          let l = row.below in
          subst (λ (z : Entry). IsBelow (length g) z.operand) f.2 (l.each f.0 f.1);
    }
    go false r = r

first_below : (g : List Gate) (trees : List ModeTree) (rows : List (List Entry))
    → ((es : List Entry) → IsOneOf rows es → IsRow g es) → (n : ℕ) (xs : List (Variable ℕ)) (x : ℕ)
    → EntriesBelow g (first_reading trees rows n xs x)
first_below g trees rows k n [] x = no_entries g
first_below g trees rows k n (y ∷ ys) x =
    go (nat_eq n x) y.is_state (first_below g trees rows k (n + 1) ys x)
  where
    go : (b c : Bool) → EntriesBelow g (first_reading trees rows (n + 1) ys x)
        → EntriesBelow g (if b then (if c then modes_at n trees rows y.value else [])
        else first_reading trees rows (n + 1) ys x)
    go true true r = modes_below g n trees rows y.value k
    go true false r = no_entries g
    go false c r = r

-- a reading with new rows
updated_below : (g : List Gate) (read : Reading) (ns : List ℕ) (rows : List (List Entry)) → IsRead read g
    → ((es : List Entry) → IsOneOf rows es → EntriesBelow g es) → (x : ℕ) → EntriesBelow g (updated read ns rows x)
updated_below g read [] rows k l x = k.each x
updated_below g read (n ∷ ns) [] k l x = k.each x
updated_below g read (n ∷ ns) (row ∷ rows) k l x =
    go (nat_eq n x) (updated_below g read ns rows k (λ es m. l es (one_rest row rows es m)) x)
  where
    go : (b : Bool) → EntriesBelow g (updated read ns rows x)
        → EntriesBelow g (if b then row else updated read ns rows x)
    go true r = l row (one_first row rows)
    go false r = r

module _ (net : Net ℕ) where
  rounds_kept : {block : List ℕ} {k : ℕ} {g h : List Gate} {read last : Reading} → IsRead read g → AreOrdered g
      → Rounds net block k g read last h → Kept g h (IsRead last h)
  rounds_kept r a (s.no_round {g = g}) = record { grown = grows_self g; ordered = a; fine = r }
  rounds_kept {block = block} r a (s.round_and {g = g} {h = h} {read = read} {rows = rows} d ds) =
      let n = threads_kept {R = RoundOf net read} (IsRead read) (read_on read) (λ i fs. EntriesBelow i fs)
      (λ i j fs w l. entries_on fs w l) (λ b. Unit {0})
      (λ i j b fs u q o e. round_kept read net i b fs j q o e) (λ b o. tt) r a d in
      let next : IsRead (updated read block rows) h = record {
        each = updated_below h read block rows (read_on read g h n.grown r) n.fine;
      } in
      let q = rounds_kept next n.ordered ds in
      record { grown = grows_on n.grown q.grown; ordered = q.ordered; fine = q.fine }

  all_rounds_kept : {blocks : List (List ℕ)} {g h : List Gate} {read last : Reading} → IsRead read g → AreOrdered g
      → All_rounds net blocks g read last h → Kept g h (IsRead last h)
  all_rounds_kept r a (s.no_block {g = g}) = record { grown = grows_self g; ordered = a; fine = r }
  all_rounds_kept r a (s.block_and d ds) =
      let n = rounds_kept r a d in
      let q = all_rounds_kept n.fine n.ordered ds in
      record { grown = grows_on n.grown q.grown; ordered = q.ordered; fine = q.fine }

  module _ (trees : List ModeTree) (are : AreTrees trees) (observer : Expr ℕ) (wanted : Value) (table : Table)
      (t : IsTable net trees observer wanted table) where
    modes_in : Kept [] t.after_modes ((es : List Entry) → IsOneOf t.modes es → IsRow t.after_modes es)
    modes_in = threads_kept {R = Has_modes} (λ g. Unit {0}) (λ g h w u. tt) IsRow row_on IsTree
        (λ g h tree es shape u o d. of_tree g h tree es shape o d)
        (λ tree m. are.each m.place tree m.stands) tt
        (record { each = λ n gate h. absurd (stands_none n gate h) }) t.has_modes
      where
        of_tree : (g h : List Gate) (tree : ModeTree) (es : List Entry) → IsTree tree → AreOrdered g
            → Has_modes g tree es h → Kept g h (IsRow h es)
        of_tree g h tree es shape o s.modes = modes_kept g tree shape o

    known_in : Kept t.after_modes t.after_rounds (IsRead t.known t.after_rounds)
    known_in =
        let m = modes_in in
        all_rounds_kept
        (record { each = λ x. first_below t.after_modes trees t.modes m.fine 0 net.variables x })
        m.ordered t.has_rounds

    operand_on : (g h : List Gate) (o : Operand) → GainsGates g h → IsBelow (length g) o → IsBelow (length h) o
    operand_on g h o w l = below_kept o w l

    twos_in : Kept t.after_rounds t.after_twos ((o : Operand) → IsOneOf t.twos o → IsBelow (length t.after_twos) o)
    twos_in =
        let k = known_in in
        threads_kept {R = Sees_two t.known} (IsRead t.known) (read_on t.known) (λ g o. IsBelow (length g) o) operand_on
        (λ n. Unit {0}) (λ g h n o u r a d. two_kept t.known g n o h r a d) (λ n m. tt) k.fine k.ordered t.sees_twos

    outs_in : Kept t.after_twos t.after_outs ((o : Operand) → IsOneOf t.outs o → IsBelow (length t.after_outs) o)
    outs_in =
        let k = known_in in
        let w = twos_in in
        threads_kept {R = Sees_outside t.known} (IsRead t.known) (read_on t.known) (λ g o. IsBelow (length g) o)
        operand_on (λ p. Unit {0}) (λ g h p o u r a d. outside_kept t.known g p o h r a d) (λ p m. tt)
        (read_on t.known t.after_rounds t.after_twos w.grown k.fine) w.ordered t.sees_outs

    totals_in : Kept t.after_outs t.after_totals
        ((es : List Entry) → IsOneOf t.totals es → EntriesBelow t.after_totals es)
    totals_in =
        let k = known_in in
        let w = twos_in in
        let v = outs_in in
        threads_kept {R = Totals_of t.known} (IsRead t.known) (read_on t.known) (λ g es. EntriesBelow g es)
        (λ i j fs w l. entries_on fs w l) (λ p. Unit {0}) (λ g h p es u r a d. total_kept t.known g p es h r a d)
        (λ p m. tt)
        (read_on t.known t.after_rounds t.after_outs (grows_on w.grown v.grown) k.fine) v.ordered t.has_totals

    total_read : IsRead t.total t.after_totals
    total_read =
        let k = known_in in
        let w = twos_in in
        let v = outs_in in
        let m = totals_in in
        let old = read_on t.known t.after_rounds t.after_totals (grows_on w.grown (grows_on v.grown m.grown)) k.fine in
        subst (λ (z : Reading). IsRead z t.after_totals) (sym t.is_total)
        (record { each = updated_below t.after_totals t.known (flow_numbers net) t.totals old m.fine })

    broken_in : Kept t.after_totals t.after_broken
        ((o : Operand) → IsOneOf t.broken o → IsBelow (length t.after_broken) o)
    broken_in =
        let m = totals_in in
        threads_kept {R = Sees_broken t.total} (IsRead t.total) (read_on t.total) (λ g o. IsBelow (length g) o)
        operand_on (λ a. Unit {0}) (λ g h a o u r b d. broken_kept t.total g a o h r b d) (λ a m. tt) total_read
        m.ordered t.sees_broken

    pub ordered : IsOrderedTable table
    ordered =
        let w = twos_in in
        let v = outs_in in
        let m = totals_in in
        let b = broken_in in
        let all = t.twos ++ (t.outs ++ t.broken) in
        let below : AreBelow (length t.after_broken) all = record {
          each = λ o i. elim (one_split t.twos (t.outs ++ t.broken) o i) [
            | inl h ↦ below_kept o (grows_on v.grown (grows_on m.grown b.grown)) (w.fine o h)
            | inr h ↦ elim (one_split t.outs t.broken o h) [
              | inl j ↦ below_kept o (grows_on m.grown b.grown) (v.fine o j)
              | inr j ↦ b.fine o j
            ]
          ];
        } in
        let c = joined_ordered false t.after_broken [] all b.ordered (none_earlier (length t.after_broken)) below in
        let made : any_of t.after_broken all ≡ record { operand = table.conflict; gates = t.after_conflict } =
        t.conflict in
        let gates : AreOrdered t.after_conflict = subst (λ (z : Made). AreOrdered z.gates) made c.gates in
        let conflict : IsBelow (length t.after_conflict) table.conflict
        = subst (λ (z : Made). IsBelow (length z.gates) z.operand) made c.below in
        let more : GainsGates t.after_broken t.after_conflict
        = subst (λ (z : Made). GainsGates t.after_broken z.gates) made (any_more t.after_broken all) in
        let read = read_on t.total t.after_totals t.after_conflict (grows_on b.grown more) total_read in
        let seen = builds_ordered t.total t.observed gates read in
        let end : GainsGates t.after_conflict t.seen.gates = builds_more t.observed in
        let top : IsBelow (length t.seen.gates) table.top
        = subst (λ z. IsBelow (length t.seen.gates) z) (sym t.top) (read_below t.seen.entries wanted seen.entries) in
        record {
          gates = subst AreOrdered (sym t.gates) seen.gates;
          conflict = subst (λ (z : List Gate). IsBelow (length z) table.conflict) (sym t.gates)
              (below_kept table.conflict end conflict);
          top = subst (λ (z : List Gate). IsBelow (length z) table.top) (sym t.gates) top;
        }

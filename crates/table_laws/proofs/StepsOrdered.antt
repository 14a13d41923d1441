-- Each step of the table keeps gates in order, and what it makes names no later gate.
use Rattle.std.proofs.Common.{◌≡◌, ℕ, inl, inr, Bool, true, false, if◌then◌else◌, List, [], ◌∷◌, ◌++◌, length, sym, ap, ◌∙◌, subst}
use Rattle.ar_base.specs.Lists.{IsOneOf}
use Rattle.ar_base.proofs.Standing.{one_cases, one_first, one_rest, one_none, one_split}
use Rattle.domains.specs.Same.{is_same, has_value}
use Rattle.domains.specs.declared.Value.{Value}
use Rattle.domains.specs.declared.Value.TheVariants.{Truth}
use Rattle.typed_expr.specs.declared.expr.Expr.{Expr, out-Expr}
use Rattle.ar_meaning.specs.Systems.{Assign, Variable, Net}
use Rattle.ar_firing.specs.Forest.{Row, ModeTree}
use Rattle.ar_firing.specs.Trees.{IsTree}
use Rattle.eq_core.specs.Gates.{Operand, EventIs, Gate, opposite, all_of}
use Rattle.eq_core.specs.Ordered.{AreBelow, AreOrdered}
use Rattle.eq_core.specs.ValuesInside.{GainsGates, IsBelow}
use Rattle.eq_core.proofs.Ordering.{joined_ordered, none_earlier}
use Rattle.eq_core.proofs.Telling.{grows_self, grows_on, below_kept, opposite_below, all_more}
use Rattle.eq_build.specs.Entries.{Entry, Built, Term, operand_for, all_of_each, one_of_alls, entries_for}
use Rattle.eq_build.specs.Builds.{Builds}
use Rattle.eq_build.specs.Laws.{EntriesBelow}
use Rattle.eq_build.proofs.BuildsOrdered.{ReadsBelow, entries_on, row_ordered, terms_ordered, TermsBelow, read_below, builds_ordered}
use Rattle.eq_build.proofs.EntriesTell.{AllBelow, entry_cases}
use Rattle.eq_build.proofs.FormsTell.{map_one, one_below, two_below}
use Rattle.eq_build.proofs.Growing.{one_more, terms_more, builds_more}
use Rattle.eq_build.specs.Steps as s
use Rattle.eq_build.specs.Steps.{Reading, Threads, not_left, modes_of, as_terms, BuiltAssign, Builds_conditions, Builds_assign, Gives_target, given_terms, together, RoundOf, Sees_two, pairs_in, others_with, Sees_outside, outside_terms, Totals_of, opposites, Sees_broken, broken_terms}
use Rattle.table_laws.proofs.OrderOfEntries.{Differ, differ_more}
use Rattle.table_laws.proofs.ModesTell.{RowsDiffer, rows_differ}

-- more gates, in order, on which something holds
pub record Kept (g h : List Gate) (Fine : Type 0) : Type 0 where
  pub grown : GainsGates g h
  pub ordered : AreOrdered h
  pub fine : Fine

-- operands that are made
pub made_kept : (g : List Gate) (oss : List (List Operand)) → AreOrdered g → AllBelow g oss
    → Kept g (one_of_alls g oss).gates (IsBelow (length (one_of_alls g oss).gates) (one_of_alls g oss).operand)
made_kept g oss a l =
    let row = row_ordered g oss a l in
    let r = all_of_each g oss in
    let o = joined_ordered false r.gates [] r.operands row.gates (none_earlier (length r.gates)) row.below in
    record { grown = one_more g oss; ordered = o.gates; fine = o.below }

pub terms_kept : (g : List Gate) (ts : List Term) → AreOrdered g → TermsBelow g ts
    → Kept g (entries_for g ts).gates (EntriesBelow (entries_for g ts).gates (entries_for g ts).entries)
terms_kept g ts a l =
    let r = terms_ordered g ts a l in record { grown = terms_more g ts; ordered = r.gates; fine = r.entries }

-- modes: their operands are of events
events_below : (n : ℕ) (m : Value) (rs : List Row) (o : Operand) → IsOneOf (not_left m rs) o → IsBelow n o
events_below n m [] o i = absurd (one_none o i)
events_below n m (r ∷ rs) o i = go (is_same r.from m) (λ k. events_below n m rs o k) i
  where
    go : (b : Bool) → (IsOneOf (not_left m rs) o → IsBelow n o)
        → IsOneOf (if b then EventIs r.label.event false ∷ not_left m rs else not_left m rs) o → IsBelow n o
    go true rest k = elim (one_cases (EventIs r.label.event false) (not_left m rs) o k) [
      | inl e ↦ subst (λ z. IsBelow n z) e tt
      | inr h ↦ rest h
    ]
    go false rest k = rest k

-- entries of edges: in order, of different values, each of a mode that is entered
record AreEntered (g : List Gate) (rs : List Row) (b : Built) : Type 0 where
  pub kept : Kept g b.gates (EntriesBelow b.gates b.entries)
  pub of_row : (e : Entry) → IsOneOf b.entries e → (r : Row) × IsOneOf rs r × (r.to ≡ e.value)
  pub differ : Differ b.entries

entered_kept : (all rs : List Row) (g : List Gate) → AreOrdered g → RowsDiffer rs → AreEntered g rs (s.entered all rs g)
entered_kept all [] g a d = record {
  kept = record { grown = grows_self g; ordered = a; fine = record { each = λ e m. absurd (one_none e m) } };
  of_row = λ e o. absurd (one_none e o);
  differ = tt;
}
entered_kept all (r ∷ rs) g a d =
    let os = EventIs r.label.event true ∷ not_left r.to all in
    let below : AreBelow (length g) os = record {
      each = λ o m. elim (one_cases (EventIs r.label.event true) (not_left r.to all) o m) [
        | inl e ↦ subst (λ z. IsBelow (length g) z) e tt
        | inr h ↦ events_below (length g) r.to all o h
      ];
    } in
    let m = all_of g os in
    let j = joined_ordered true g [] os a (none_earlier (length g)) below in
    let n = entered_kept all rs m.gates j.gates d.1 in
    let k = n.kept in
    let b = s.entered all rs m.gates in
    record {
      kept = record {
        grown = grows_on (all_more g os) k.grown;
        ordered = k.ordered;
        fine = record {
          each = λ e o. elim (entry_cases r.to m.operand b.entries e o) [
            | inl i ↦ subst (λ (z : Entry). IsBelow (length b.gates) z.operand) i
                (below_kept m.operand k.grown j.below)
            | inr p ↦ let f = k.fine in f.each e p
          ];
        };
      };
      of_row = λ e o. elim (entry_cases r.to m.operand b.entries e o) [
        | inl i ↦ (r, one_first r rs, ap (λ (z : Entry). z.value) i)
        | inr p ↦ let x = n.of_row e p in (x.0, one_rest r rs x.0 x.1, x.2)
      ];
      differ = differ_more r.to m.operand b.entries n.differ
          (λ f o e. let x = n.of_row f o in d.0 x.0 x.1 (e ∙ sym x.2));
    }

-- the entries of a tree, of different values
pub record IsRow (g : List Gate) (es : List Entry) : Type 0 where
  pub below : EntriesBelow g es
  pub differ : Differ es

pub modes_kept : (g : List Gate) (tree : ModeTree) → IsTree tree → AreOrdered g
    → Kept g (modes_of tree g).gates (IsRow (modes_of tree g).gates (modes_of tree g).entries)
modes_kept g tree shape a =
    let os = not_left tree.first tree.edges in
    let below : AreBelow (length g) os = record { each = λ o m. events_below (length g) tree.first tree.edges o m } in
    let m = all_of g os in
    let j = joined_ordered true g [] os a (none_earlier (length g)) below in
    let n = entered_kept tree.edges tree.edges m.gates j.gates (rows_differ tree.edges shape.enters) in
    let k = n.kept in
    let b = s.entered tree.edges tree.edges m.gates in
    record {
      grown = grows_on (all_more g os) k.grown;
      ordered = k.ordered;
      fine = record {
        below = record {
          each = λ e o. elim (entry_cases tree.first m.operand b.entries e o) [
            | inl i ↦ subst (λ (z : Entry). IsBelow (length b.gates) z.operand) i
                (below_kept m.operand k.grown j.below)
            | inr p ↦ let f = k.fine in f.each e p
          ];
        };
        differ = differ_more tree.first m.operand b.entries n.differ
            (λ e o i. let z = n.of_row e o in let p = z.1 in shape.begins p.place z.0 p.stands (z.2 ∙ sym i));
      };
    }

-- a list of steps, each of which keeps what is asked of the gates
module _ {A B : Type 0} {R : List Gate → A → B → List Gate → Type 0} (Good : List Gate → Type 0)
    (good_on : (g h : List Gate) → GainsGates g h → Good g → Good h) (Fine : List Gate → B → Type 0)
    (fine_on : (g h : List Gate) (b : B) → GainsGates g h → Fine g b → Fine h b) (Fit : A → Type 0)
    (each : (g h : List Gate) (a : A) (b : B) → Fit a → Good g → AreOrdered g → R g a b h → Kept g h (Fine h b)) where
  pub threads_kept : {g h : List Gate} {xs : List A} {ys : List B} → ((a : A) → IsOneOf xs a → Fit a) → Good g
      → AreOrdered g → Threads R g xs ys h → Kept g h ((b : B) → IsOneOf ys b → Fine h b)
  threads_kept f k a (s.none {g = g}) =
      record { grown = grows_self g; ordered = a; fine = λ b m. absurd (one_none b m) }
  threads_kept f k a (s.one_and {g = g} {h = h} {i = i} {a = x} {b = y} {xs = xs} {ys = ys} d ds) =
      let r = each g h x y (f x (one_first x xs)) k a d in
      let q = threads_kept (λ z m. f z (one_rest x xs z m)) (good_on g h r.grown k) r.ordered ds in
      record {
        grown = grows_on r.grown q.grown;
        ordered = q.ordered;
        fine = λ b m. elim (one_cases y ys b m) [
          | inl e ↦ subst (λ z. Fine i z) e (fine_on h i y q.grown r.fine)
          | inr n ↦ q.fine b n
        ];
      }

-- terms of entries
as_terms_below : (g : List Gate) (es : List Entry) → EntriesBelow g es → TermsBelow g (as_terms es)
as_terms_below g es l = record {
  each = λ t m.
      let f : Entry → Term = λ e. record { value = e.value; operands = e.operand ∷ [] } in
      let r = map_one f es t m in
      subst (λ (z : Term). AreBelow (length g) z.operands) r.2 (one_below (length g) r.0.operand (l.each r.0 r.1));
}

both_below : (g : List Gate) (ts us : List Term) → TermsBelow g ts → TermsBelow g us → TermsBelow g (ts ++ us)
both_below g ts us k l = record { each = λ t m. elim (one_split ts us t m) [ inl n ↦ k.each t n | inr n ↦ l.each t n ] }

no_terms : (g : List Gate) → TermsBelow g []
no_terms g = record { each = λ t m. absurd (one_none t m) }

-- operands behind others
behind_below : (n : ℕ) (cs os : List Operand) → AreBelow n cs → AreBelow n os → AreBelow n (cs ++ os)
behind_below n cs os k l = record {
  each = λ o m. elim (one_split cs os o m)
      [ inl i ↦ k.each o i | inr i ↦ l.each o i ];
}

one_more_list : (g : List Gate) (os : List Operand) (oss : List (List Operand)) → AreBelow (length g) os
    → AllBelow g oss
    → AllBelow g (os ∷ oss)
one_more_list g os oss k l = record {
  each = λ ps m. elim (one_cases os oss ps m) [ inl e ↦ subst (λ z. AreBelow (length g) z) e k | inr n ↦ l.each ps n ];
}

no_lists : (g : List Gate) → AllBelow g []
no_lists g = record { each = λ os m. absurd (one_none os m) }

both_lists : (g : List Gate) (oss pss : List (List Operand)) → AllBelow g oss → AllBelow g pss → AllBelow g (oss ++ pss)
both_lists g oss pss k l = record {
  each = λ os m. elim (one_split oss pss os m)
      [ inl i ↦ k.each os i | inr i ↦ l.each os i ];
}

rest_below : {g : List Gate} {e : Entry} {es : List Entry} → EntriesBelow g (e ∷ es) → EntriesBelow g es
rest_below {e = e} {es = es} l = record { each = λ f m. l.each f (one_rest e es f m) }

others_below : (g : List Gate) (cs : List Operand) (e : Entry) (fs : List Entry) → AreBelow (length g) cs
    → IsBelow (length g) e.operand → EntriesBelow g fs → AllBelow g (others_with cs e fs)
others_below g cs e [] c o l = no_lists g
others_below g cs e (f ∷ fs) c o l = go (is_same e.value f.value) (others_below g cs e fs c o (rest_below l))
  where
    go : (b : Bool) → AllBelow g (others_with cs e fs)
        → AllBelow g (if b then others_with cs e fs else (cs ++ e.operand ∷ f.operand ∷ []) ∷ others_with cs e fs)
    go true r = r
    go false r = one_more_list g (cs ++ e.operand ∷ f.operand ∷ []) (others_with cs e fs)
        (behind_below (length g) cs (e.operand ∷ f.operand ∷ []) c
        (two_below (length g) e.operand f.operand o (l.each f (one_first f fs)))) r

pairs_below : (g : List Gate) (es : List Entry) → EntriesBelow g es → AllBelow g (pairs_in es)
pairs_below g [] l = no_lists g
pairs_below g (e ∷ es) l = both_lists g (others_with [] e es) (pairs_in es)
    (others_below g [] e es (record { each = λ o m. absurd (one_none o m) }) (l.each e (one_first e es)) (rest_below l))
    (pairs_below g es (rest_below l))

given_below : (g : List Gate) (ds : List Value) (cs : List Operand) (es : List Entry) → AreBelow (length g) cs
    → EntriesBelow g es → TermsBelow g (given_terms ds cs es)
given_below g ds cs [] c l = no_terms g
given_below g ds cs (e ∷ es) c l = go (has_value e.value ds) (given_below g ds cs es c (rest_below l))
  where
    here : Term
    here = record { value = e.value; operands = cs ++ e.operand ∷ [] }

    go : (b : Bool) → TermsBelow g (given_terms ds cs es)
        → TermsBelow g (if b then here ∷ given_terms ds cs es else given_terms ds cs es)
    go true r = record {
      each = λ t m. elim (one_cases here (given_terms ds cs es) t m) [
        | inl i ↦ subst (λ (z : Term). AreBelow (length g) z.operands) i
            (behind_below (length g) cs (e.operand ∷ []) c
            (one_below (length g) e.operand (l.each e (one_first e es))))
        | inr n ↦ r.each t n
      ];
    }
    go false r = r

outside_below : (g : List Gate) (ds : List Value) (cs : List Operand) (es : List Entry) → AreBelow (length g) cs
    → EntriesBelow g es → AllBelow g (outside_terms ds cs es)
outside_below g ds cs [] c l = no_lists g
outside_below g ds cs (e ∷ es) c l = go (has_value e.value ds) (outside_below g ds cs es c (rest_below l))
  where
    go : (b : Bool) → AllBelow g (outside_terms ds cs es)
        → AllBelow g (if b then outside_terms ds cs es else (cs ++ e.operand ∷ []) ∷ outside_terms ds cs es)
    go true r = r
    go false r = one_more_list g (cs ++ e.operand ∷ []) (outside_terms ds cs es)
        (behind_below (length g) cs (e.operand ∷ []) c (one_below (length g) e.operand (l.each e (one_first e es)))) r

broken_below : (g : List Gate) (cs : List Operand) (es fs : List Entry) → AreBelow (length g) cs → EntriesBelow g es
    → EntriesBelow g fs → AllBelow g (broken_terms cs es fs)
broken_below g cs [] fs c l k = no_lists g
broken_below g cs (e ∷ es) fs c l k = both_lists g (others_with cs e fs) (broken_terms cs es fs)
    (others_below g cs e fs c (l.each e (one_first e es)) k) (broken_below g cs es fs c (rest_below l) k)

together_below : (g : List Gate) (ess : List (List Entry)) → ((es : List Entry) → IsOneOf ess es → EntriesBelow g es)
    → TermsBelow g (together ess)
together_below g [] l = no_terms g
together_below g (es ∷ ess) l = both_below g (as_terms es) (together ess)
    (as_terms_below g es (l es (one_first es ess)))
    (together_below g ess (λ fs m. l fs (one_rest es ess fs m)))

module _ (read : Reading) where
  -- what the reading has names no later gate
  abbrev pub IsRead : List Gate → Type 0
  IsRead g = ReadsBelow read g

  pub read_on : (g h : List Gate) → GainsGates g h → IsRead g → IsRead h
  read_on g h w r = record { each = λ x. entries_on (read x) w (r.each x) }

  built_kept : (e : Expr ℕ) {g : List Gate} {r : Built} → IsRead g → AreOrdered g → Builds read g (out-Expr ℕ e) r
      → Kept g r.gates (EntriesBelow r.gates r.entries)
  built_kept e k a d =
      let o = builds_ordered read d a k in record { grown = builds_more d; ordered = o.gates; fine = o.entries }

  conditions_kept : {g h : List Gate} {cs : List (Expr ℕ × Bool)} {os : List Operand} → IsRead g → AreOrdered g
      → Builds_conditions read g cs os h → Kept g h (AreBelow (length h) os)
  conditions_kept k a (s.no_condition {g = g}) =
      record { grown = grows_self g; ordered = a; fine = record { each = λ o m. absurd (one_none o m) } }
  conditions_kept k a (s.condition_and {g = g} {h = h} {e = e} {b = b} {r = r} {os = os} d ds) =
      let q = built_kept e k a d in
      let n = conditions_kept (read_on g r.gates q.grown k) q.ordered ds in
      let here = operand_for r.entries (Truth b) in
      record {
        grown = grows_on q.grown n.grown;
        ordered = n.ordered;
        fine = record {
          each = λ o m. elim (one_cases here os o m) [
            | inl e ↦ subst (λ z. IsBelow (length h) z) e
                (below_kept here n.grown (read_below r.entries (Truth b) q.fine))
            | inr i ↦ let f = n.fine in f.each o i
          ];
        };
      }

  -- what an assignment comes to
  pub record IsAssign (r : BuiltAssign) : Type 0 where
    pub conditions : AreBelow (length r.gates) r.conditions
    pub entries : EntriesBelow r.gates r.entries

  pub assign_kept : {g : List Gate} {a : Assign ℕ} {r : BuiltAssign} → IsRead g → AreOrdered g
      → Builds_assign read g a r → Kept g r.gates (IsAssign r)
  assign_kept k a (s.builds {g = g} {h = h} {a = b} {os = os} d e) =
      let n = conditions_kept k a d in
      let q = built_kept b.value (read_on g h n.grown k) n.ordered e in
      record {
        grown = grows_on n.grown q.grown;
        ordered = q.ordered;
        fine = record {
          conditions = record { each = λ o m. let f = n.fine in below_kept o q.grown (f.each o m) };
          entries = q.fine;
        };
      }

  pub gives_kept : (ds : List Value) (g : List Gate) (a : Assign ℕ) (es : List Entry) (h : List Gate) → IsRead g
      → AreOrdered g
      → Gives_target read ds g a es h → Kept g h (EntriesBelow h es)
  gives_kept ds g a es h k o (s.gives {r = r} d) =
      let n = assign_kept k o d in
      let f = n.fine in
      let t = terms_kept r.gates (given_terms ds r.conditions r.entries) n.ordered
      (given_below r.gates ds r.conditions r.entries f.conditions f.entries) in
      record { grown = grows_on n.grown t.grown; ordered = t.ordered; fine = t.fine }

  pub round_kept : (net : Net ℕ) (g : List Gate) (n : ℕ) (es : List Entry) (h : List Gate) → IsRead g → AreOrdered g
      → RoundOf net read g n es h → Kept g h (EntriesBelow h es)
  round_kept net g n es h k a (s.round_of {h = m} {x = x} {ess = ess} p ds) =
      let all = threads_kept {R = Gives_target read x.domain} IsRead read_on (λ i fs. EntriesBelow i fs)
      (λ i j fs w l. entries_on fs w l) (λ b. Unit {0}) (λ i j b fs u r o d. gives_kept x.domain i b fs j r o d)
      (λ b o. tt) k a ds in
      let t = terms_kept m (together ess) all.ordered (together_below m ess all.fine) in
      record { grown = grows_on all.grown t.grown; ordered = t.ordered; fine = t.fine }

  pub two_kept : (g : List Gate) (n : ℕ) (o : Operand) (h : List Gate) → IsRead g → AreOrdered g → Sees_two read g n o h
      → Kept g h (IsBelow (length h) o)
  two_kept g n o h k a s.sees_two = made_kept g (pairs_in (read n)) a (pairs_below g (read n) (k.each n))

  pub outside_kept : (g : List Gate) (p : Variable ℕ × Assign ℕ) (o : Operand) (h : List Gate) → IsRead g → AreOrdered g
      → Sees_outside read g p o h → Kept g h (IsBelow (length h) o)
  outside_kept g p o h k a (s.sees_outside {x = x} {r = r} d) =
      let n = assign_kept k a d in
      let f = n.fine in
      let t = made_kept r.gates (outside_terms x.domain r.conditions r.entries) n.ordered
      (outside_below r.gates x.domain r.conditions r.entries f.conditions f.entries) in
      record { grown = grows_on n.grown t.grown; ordered = t.ordered; fine = t.fine }

  pub broken_kept : (g : List Gate) (b : Assign ℕ) (o : Operand) (h : List Gate) → IsRead g → AreOrdered g
      → Sees_broken read g b o h → Kept g h (IsBelow (length h) o)
  broken_kept g b o h k a (s.sees_broken {r = r} d) =
      let n = assign_kept k a d in
      let f = n.fine in
      let l = read_on g r.gates n.grown k in
      let t = made_kept r.gates (broken_terms r.conditions r.entries (read b.target)) n.ordered
      (broken_below r.gates r.conditions r.entries (read b.target) f.conditions f.entries (l.each b.target)) in
      record { grown = grows_on n.grown t.grown; ordered = t.ordered; fine = t.fine }

  pub total_kept : (g : List Gate) (p : ℕ × Variable ℕ) (es : List Entry) (h : List Gate) → IsRead g → AreOrdered g
      → Totals_of read g p es h → Kept g h (EntriesBelow h es)
  total_kept g p es h k a (s.total {n = n} {x = x}) =
      let row = read n in
      let m = all_of g (opposites row) in
      let turned : AreBelow (length g) (opposites row) = record {
        each = λ o i.
            let f : Entry → Operand = λ e. opposite e.operand in
            let r = map_one f row o i in
            let l = k.each n in
            subst (λ z. IsBelow (length g) z) r.2 (opposite_below (length g) r.0.operand (l.each r.0 r.1));
      } in
      let j = joined_ordered true g [] (opposites row) a (none_earlier (length g)) turned in
      let w = all_more g (opposites row) in
      let last : Term = record { value = x.value; operands = m.operand ∷ [] } in
      let ts = as_terms row ++ last ∷ [] in
      let below : TermsBelow m.gates ts = both_below m.gates (as_terms row) (last ∷ [])
      (as_terms_below m.gates row (entries_on row w (k.each n)))
      (record {
        each = λ t i. elim (one_cases last [] t i) [
          | inl e ↦ subst (λ (z : Term). AreBelow (length m.gates) z.operands) e
              (one_below (length m.gates) m.operand j.below)
          | inr z ↦ absurd (one_none t z)
        ];
      }) in
      let t = terms_kept m.gates ts j.gates below in
      record { grown = grows_on w t.grown; ordered = t.ordered; fine = t.fine }

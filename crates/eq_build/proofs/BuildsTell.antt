-- The entries that are built for a well-typed expression tell of what it yields.
use Rattle.std.proofs.Common.{◌≡◌, ℕ, ℤ, ◌<◌, pos, Bool, List, [], ◌∷◌, fold, length, Box, Vec, Global, refl, sym, ap, ◌∙◌, subst, arith}
use Rattle.domains.specs.declared.Value.{Value}
use Rattle.domains.specs.declared.Value.TheVariants as v
use Rattle.domains.specs.Values.{truth_of, whole_of}
use Rattle.typed_expr.specs.Values.{lesser, greater, multiplied, counted, least_of, greatest_of}
use Rattle.typed_expr.specs.Yields.{Level, Yields, Takes, Picks}
use Rattle.typed_expr.specs.Yields as y
use Rattle.typed_expr.specs.Kinds.{kind_of, HasKind, Each, Each_part, Each_case}
use Rattle.typed_expr.specs.Kinds as k
use Rattle.typed_expr.proofs.KindsYielded.{kind_yielded}
use Rattle.typed_expr.specs.declared.expr.Relation.{Relation}
use Rattle.typed_expr.specs.declared.expr.ValueKind.{ValueKind}
use Rattle.typed_expr.specs.declared.expr.ValueKind.TheVariants.{Truth, Whole}
use Rattle.typed_expr.specs.declared.expr.Expr.{Expr, out-Expr}
use Rattle.typed_expr.specs.declared.expr.Expr.TheOpen.{Constant, Variable, Compare, Sum, Product, Least, Greatest, Count, Choose}
use Rattle.eq_core.specs.Gates.{Gate}
use Rattle.eq_core.specs.ValuesInside.{GainsGates}
use Rattle.eq_core.proofs.Telling.{grows_self, grows_on}
use Rattle.eq_build.specs.Entries.{Entry, Built, led}
use Rattle.eq_build.specs.Builds.{Builds, Builds_each, Builds_parts, Builds_cases}
use Rattle.eq_build.specs.Builds as b
use Rattle.eq_build.specs.Tells.{AreEntries, IsBuilt}
use Rattle.eq_build.specs.declared.steps.Step.{Step}
use Rattle.eq_build.specs.declared.steps.Step.TheVariants.{Times, Lesser, Greater, Counted, Compared}
use Rattle.eq_build.proofs.EntriesTell.{entries_kept, entries_as}
use Rattle.eq_build.proofs.FormsTell.{FromTwo, combined_built, only_tells, EachTells, PartsTell, CasesTell, none, one_and, part_and, case_and, cases_kept, SumsTo, summed_built, IsBy, LeadsTo, led_built, turned_built, all_built, any_built, chosen_built}

is_whole : (d : Value) → kind_of d ≡ Whole → v.Whole (whole_of d) ≡ d
is_whole (v.Truth c) e = cc
is_whole (v.Whole n) e = refl
is_whole (v.Symbol s) e = cc

is_truth : (d : Value) → kind_of d ≡ Truth → v.Truth (truth_of d) ≡ d
is_truth (v.Truth c) e = refl
is_truth (v.Whole n) e = cc
is_truth (v.Symbol s) e = cc

module _ {V : Type 0} (facts : V → Value → Type 0) (set : List ℕ) (kinds : V → ValueKind)
    (kept : (x : V) (d : Value) → facts x d → kind_of d ≡ kinds x) (read : V → List Entry) where
  -- the reading tells of the facts
  pub record IsRead (g : List Gate) : Type 0 where
    pub each : (x : V) → AreEntries set g (read x) (facts x)

  pub read_on : {g h : List Gate} → GainsGates g h → IsRead g → IsRead h
  read_on w r = record { each = λ x. entries_kept w (r.each x) }

  combined_yields : (q : Relation) (a c : Box (Expr V) Global) (d : Value)
      → FromTwo (Compared q) (Yields facts (out-Expr V a.value)) (Yields facts (out-Expr V c.value)) d
      → Yields facts (Compare q a c) d
  combined_yields q a c d h = subst (λ z. Yields facts (Compare q a c) z) h.gives (y.compared h.has_left h.has_right)

  yields_combined : (q : Relation) (a c : Box (Expr V) Global) (d : Value) → Yields facts (Compare q a c) d
      → FromTwo (Compared q) (Yields facts (out-Expr V a.value)) (Yields facts (out-Expr V c.value)) d
  yields_combined q a c d (y.compared {v = u} {w = w} h i) =
      record { left = u; right = w; has_left = h; has_right = i; gives = refl }

  sum_yields : (ps : Vec (Bool × Expr V) Global) (d : Value) → SumsTo facts set (pos 0) ps.items d
      → Yields facts (Sum ps) d
  sum_yields ps d h = subst (λ z. Yields facts (Sum ps) z) h.is (y.sum h.picks)

  yields_sum : (ps : Vec (Bool × Expr V) Global) (d : Value) → Yields facts (Sum ps) d
      → SumsTo facts set (pos 0) ps.items d
  yields_sum ps d (y.sum {vs = vs} h) = record { values = vs; picks = h; is = refl }

  -- a fold from a number on
  record CountsTo (f : ℤ → Value → ℤ) (n : ℤ) (es : List (Expr V)) (d : Value) : Type 0 where
    pub values : List Value
    pub picks : Picks facts es values
    pub is : v.Whole (fold f n values) ≡ d

  counts : (f : ℤ → Value → ℤ) (n : ℤ) (es : List (Expr V)) (d : Value)
      → LeadsTo facts set f (λ z. v.Whole n ≡ z) es d → CountsTo f n es d
  counts f n es d h = record {
    values = h.values;
    picks = h.picks;
    is = ap (λ z. v.Whole (fold f (whole_of z) h.values)) h.has ∙ h.is;
  }

  counted_on : (f : ℤ → Value → ℤ) (n : ℤ) (es : List (Expr V)) (d : Value) → CountsTo f n es d
      → LeadsTo facts set f (λ z. v.Whole n ≡ z) es d
  counted_on f n es d h = record { first = v.Whole n; has = refl; values = h.values; picks = h.picks; is = h.is }

  whole_is : (n : ℤ) (d : Value) → v.Whole n ≡ d → v.Whole (whole_of d) ≡ d
  whole_is n d e = subst (λ z. v.Whole (whole_of z) ≡ z) e refl

  product_yields : (es : Vec (Expr V) Global) (d : Value) → CountsTo multiplied (pos 1) es.items d
      → Yields facts (Product es) d
  product_yields es d h = subst (λ z. Yields facts (Product es) z) h.is (y.product h.picks)

  yields_product : (es : Vec (Expr V) Global) (d : Value) → Yields facts (Product es) d
      → CountsTo multiplied (pos 1) es.items d
  yields_product es d (y.product {vs = vs} h) = record { values = vs; picks = h; is = refl }

  count_yields : (es : Vec (Expr V) Global) (d : Value) → CountsTo counted (pos 0) es.items d
      → Yields facts (Count es) d
  count_yields es d h = subst (λ z. Yields facts (Count es) z) h.is (y.count h.picks)

  yields_count : (es : Vec (Expr V) Global) (d : Value) → Yields facts (Count es) d
      → CountsTo counted (pos 0) es.items d
  yields_count es d (y.count {vs = vs} h) = record { values = vs; picks = h; is = refl }

  pub record EachBuilt (g : List Gate) (es : List (Expr V)) (ess : List (List Entry)) (h : List Gate) : Type 0 where
    pub grown : GainsGates g h
    pub tells : EachTells facts set h es ess

  pub record PartsBuilt (g : List Gate) (ps : List (Bool × Expr V)) (ess : List (Bool × List Entry)) (h : List Gate)
      : Type 0 where
    pub grown : GainsGates g h
    pub tells : PartsTell facts set h ps ess

  pub record CasesBuilt (g : List Gate) (cs : List (Expr V × Expr V)) (ess : List (List Entry × List Entry))
      (h : List Gate) : Type 0 where
    pub grown : GainsGates g h
    pub tells : CasesTell facts set h cs ess

  of_constant : (c d : Value) → Yields facts (Constant c) d → c ≡ d
  of_constant c d y.constant = refl

  of_variable : (x : V) (d : Value) → Yields facts (Variable x) d → facts x d
  of_variable x d (y.variable h) = h

  of_choice : (cs : Vec (Expr V × Expr V) Global) (other : Box (Expr V) Global) (d : Value)
      → Yields facts (Choose cs other) d → Takes facts cs.items (out-Expr V other.value) d
  of_choice cs other d (y.choice h) = h

  -- the fold from the number of the first value on
  abbrev lead : (ℤ → Value → ℤ) → List Value → ℤ
  lead f [] = pos 0
  lead f (w ∷ ws) = fold f (whole_of w) ws

  record LeadsFrom (f : ℤ → Value → ℤ) (es : List (Expr V)) (d : Value) : Type 0 where
    pub values : List Value
    pub picks : Picks facts es values
    pub is : v.Whole (lead f values) ≡ d

  led_by : (f : ℤ → Value → ℤ) (e : Expr V) (es : List (Expr V)) (d : Value)
      → LeadsTo facts set f (Yields facts (out-Expr V e)) es d → LeadsFrom f (e ∷ es) d
  led_by f e es d h = record { values = h.first ∷ h.values; picks = y.operand h.has h.picks; is = h.is }

  by_led : (f : ℤ → Value → ℤ) (e : Expr V) (es : List (Expr V)) (d : Value) → LeadsFrom f (e ∷ es) d
      → LeadsTo facts set f (Yields facts (out-Expr V e)) es d
  by_led f e es d h = go h.values h.picks h.is
    where
      go : (ws : List Value) → Picks facts (e ∷ es) ws → v.Whole (lead f ws) ≡ d
          → LeadsTo facts set f (Yields facts (out-Expr V e)) es d
      go ws (y.operand {v = w} {vs = us} p q) i = record { first = w; has = p; values = us; picks = q; is = i }

  led_tells : (s : Step) (f : ℤ → Value → ℤ) → IsBy facts set s f → (g : List Gate) (es : List (Expr V))
      (ess : List (List Entry)) → 0 < length es → EachTells facts set g es ess → Each kinds es Whole
      → IsBuilt set g (led s g ess) (LeadsFrom f es)
  led_tells s f by g [] ess l t u = absurd (omega (arith, l))
  led_tells s f by g (e ∷ es) [] l t u = elim t [ ]
  led_tells s f by g (e ∷ es) (first ∷ ess) l (one_and a t) (k.one_and c u) =
      let r = led_built facts set s f by (Yields facts (out-Expr V e))
      (λ d h. is_whole d (kind_yielded facts kinds kept c h)) g first a es ess t in
      record { grown = r.grown; entries = entries_as (led_by f e es) (by_led f e es) r.entries }

  least_is : (ws : List Value) → v.Whole (lead lesser ws) ≡ v.Whole (least_of ws)
  least_is [] = refl
  least_is (w ∷ ws) = refl

  greatest_is : (ws : List Value) → v.Whole (lead greater ws) ≡ v.Whole (greatest_of ws)
  greatest_is [] = refl
  greatest_is (w ∷ ws) = refl

  least_yields : (es : Vec (Expr V) Global) (d : Value) → LeadsFrom lesser es.items d → Yields facts (Least es) d
  least_yields es d h = subst (λ z. Yields facts (Least es) z) (sym (least_is h.values) ∙ h.is) (y.least h.picks)

  yields_least : (es : Vec (Expr V) Global) (d : Value) → Yields facts (Least es) d → LeadsFrom lesser es.items d
  yields_least es d (y.least {vs = vs} h) = record { values = vs; picks = h; is = least_is vs }

  greatest_yields : (es : Vec (Expr V) Global) (d : Value) → LeadsFrom greater es.items d
      → Yields facts (Greatest es) d
  greatest_yields es d h =
      subst (λ z. Yields facts (Greatest es) z) (sym (greatest_is h.values) ∙ h.is) (y.greatest h.picks)

  yields_greatest : (es : Vec (Expr V) Global) (d : Value) → Yields facts (Greatest es) d
      → LeadsFrom greater es.items d
  yields_greatest es d (y.greatest {vs = vs} h) = record { values = vs; picks = h; is = greatest_is vs }

  mutual
    pub builds_tell : {g : List Gate} {e : Level V} {r : Built} {kind : ValueKind} → Builds read g e r
        → HasKind kinds e kind → IsRead g → IsBuilt set g r (Yields facts e)
    builds_tell (b.constant {g = g} {v = d}) k.constant i = record {
      grown = grows_self g;
      entries = entries_as (λ z e. subst (λ q. Yields facts (Constant d) q) e y.constant) (λ z h. of_constant d z h)
          (only_tells set g d);
    }
    builds_tell (b.variable {g = g} {x = x}) k.variable i = record {
      grown = grows_self g;
      entries = entries_as (λ z h. y.variable h) (λ z h. of_variable x z h) (i.each x);
    }
    builds_tell (b.opposite {a = a} {b = r} d) (k.opposite t) i =
        let m = builds_tell d t i in
        let w = turned_built facts set r.gates r.entries a (λ z h. is_truth z (kind_yielded facts kinds kept t h))
        m.entries in
        record { grown = grows_on m.grown w.grown; entries = w.entries }
    builds_tell (b.all {h = h} {es = es} {ess = ess} d) (k.all l t) i =
        let m = each_tell d t i in
        let r = all_built facts set h es ess m.tells in
        record { grown = grows_on m.grown r.grown; entries = r.entries }
    builds_tell (b.any {h = h} {es = es} {ess = ess} d) (k.any l t) i =
        let m = each_tell d t i in
        let r = any_built facts set h es ess m.tells in
        record { grown = grows_on m.grown r.grown; entries = r.entries }
    builds_tell (b.compared {r = q} {a = a} {b = c} {x = x} {y = z} d e) (k.compared s t u) i =
        let m = builds_tell d t i in
        let n = builds_tell e u (read_on m.grown i) in
        let r = combined_built set (Compared q) z.gates x.entries z.entries (Yields facts (out-Expr V a.value))
        (Yields facts (out-Expr V c.value)) (entries_kept n.grown m.entries) n.entries in
        record {
          grown = grows_on m.grown (grows_on n.grown r.grown);
          entries = entries_as (combined_yields q a c) (yields_combined q a c) r.entries;
        }
    builds_tell (b.sum {h = h} {ps = ps} d) (k.sum l t) i =
        let m = parts_tell d t i in
        let r = summed_built facts set (pos 0) h m.tells in
        record { grown = grows_on m.grown r.grown; entries = entries_as (sum_yields ps) (yields_sum ps) r.entries }
    builds_tell (b.product {h = h} {es = es} {ess = ess} d) (k.product l t) i =
        let m = each_tell d t i in
        let r = led_built facts set Times multiplied (λ z w. refl) (λ z. v.Whole (pos 1) ≡ z) (whole_is (pos 1)) h _
        (only_tells set h (v.Whole (pos 1))) es.items ess m.tells in
        record {
          grown = grows_on m.grown r.grown;
          entries = entries_as (λ z q. product_yields es z (counts multiplied (pos 1) es.items z q))
              (λ z q. counted_on multiplied (pos 1) es.items z (yields_product es z q)) r.entries;
        }
    builds_tell (b.count {h = h} {es = es} {ess = ess} d) (k.count l t) i =
        let m = each_tell d t i in
        let r = led_built facts set Counted counted (λ z w. refl) (λ z. v.Whole (pos 0) ≡ z) (whole_is (pos 0)) h _
        (only_tells set h (v.Whole (pos 0))) es.items ess m.tells in
        record {
          grown = grows_on m.grown r.grown;
          entries = entries_as (λ z q. count_yields es z (counts counted (pos 0) es.items z q))
              (λ z q. counted_on counted (pos 0) es.items z (yields_count es z q)) r.entries;
        }
    builds_tell (b.least {h = h} {es = es} {ess = ess} d) (k.least l t) i =
        let m = each_tell d t i in
        let r = led_tells Lesser lesser (λ z w. refl) h es.items ess l m.tells t in
        record { grown = grows_on m.grown r.grown; entries = entries_as (least_yields es) (yields_least es) r.entries }
    builds_tell (b.greatest {h = h} {es = es} {ess = ess} d) (k.greatest l t) i =
        let m = each_tell d t i in
        let r = led_tells Greater greater (λ z w. refl) h es.items ess l m.tells t in
        record {
          grown = grows_on m.grown r.grown;
          entries = entries_as (greatest_yields es) (yields_greatest es) r.entries;
        }
    builds_tell (b.choice {cs = cs} {other = other} {b = r} d e) (k.choice l t u) i =
        let m = cases_tell d t i in
        let n = builds_tell e u (read_on m.grown i) in
        let w = chosen_built facts set r.gates (cases_kept facts set n.grown m.tells) n.entries in
        record {
          grown = grows_on m.grown (grows_on n.grown w.grown);
          entries = entries_as (λ z h. y.choice h) (of_choice cs other) w.entries;
        }

    each_tell : {g h : List Gate} {es : List (Expr V)} {ess : List (List Entry)} {kind : ValueKind}
        → Builds_each read g es ess h → Each kinds es kind → IsRead g → EachBuilt g es ess h
    each_tell (b.none {g = g}) k.none i = record { grown = grows_self g; tells = none }
    each_tell (b.one_and d e) (k.one_and t u) i =
        let m = builds_tell d t i in
        let n = each_tell e u (read_on m.grown i) in
        record { grown = grows_on m.grown n.grown; tells = one_and (entries_kept n.grown m.entries) n.tells }

    parts_tell : {g h : List Gate} {ps : List (Bool × Expr V)} {ess : List (Bool × List Entry)}
        → Builds_parts read g ps ess h → Each_part kinds ps → IsRead g → PartsBuilt g ps ess h
    parts_tell (b.no_part {g = g}) k.no_part i = record { grown = grows_self g; tells = none }
    parts_tell (b.part_and d e) (k.part_and t u) i =
        let m = builds_tell d t i in
        let n = parts_tell e u (read_on m.grown i) in
        record { grown = grows_on m.grown n.grown; tells = part_and (entries_kept n.grown m.entries) n.tells }

    cases_tell : {g h : List Gate} {cs : List (Expr V × Expr V)} {ess : List (List Entry × List Entry)}
        {kind : ValueKind} → Builds_cases read g cs ess h → Each_case kinds cs kind → IsRead g → CasesBuilt g cs ess h
    cases_tell (b.no_case {g = g}) k.no_case i = record { grown = grows_self g; tells = none }
    cases_tell (b.case_and d e f) (k.case_and t u w) i =
        let m = builds_tell d t i in
        let n = builds_tell e u (read_on m.grown i) in
        let o = cases_tell f w (read_on n.grown (read_on m.grown i)) in
        record {
          grown = grows_on m.grown (grows_on n.grown o.grown);
          tells = case_and (entries_kept o.grown (entries_kept n.grown m.entries)) (entries_kept o.grown n.entries)
              o.tells;
        }

-- What building the operands of an expression says of the expression.
use Rattle.std.proofs.Common.{◌≡◌, ◌<◌, pos, Bool, true, false, List, length, Box, Vec, Global, Result, Ok, Err, refl, sym, subst}
use Rattle.std.specs.Result.{IsErrAnd}
use Rattle.ar_base.specs.Numbers.{VarId}
use Rattle.domains.specs.declared.Value.TheVariants.{Whole}
use Rattle.typed_expr.specs.Yields.{Level}
use Rattle.typed_expr.specs.declared.expr.Relation.{Relation}
use Rattle.typed_expr.specs.declared.expr.Expr.{Expr, out-Expr}
use Rattle.typed_expr.specs.declared.expr.Expr.TheOpen.{Not, All, Any, Compare, Sum, Product, Least, Greatest, Count, Choose}
use Rattle.eq_core.specs.Gates.{Gate}
use Rattle.eq_core.specs.declared.joints.Gate as flat
use Rattle.eq_core.proofs.Telling.{grows_on}
use Rattle.eq_build.specs.Entries.{Entry, Built, only, opposite_terms, joint_terms, pairs_of, with_step, with_signs}
use Rattle.eq_build.specs.Builds.{Builds, Builds_each, Builds_cases}
use Rattle.eq_build.specs.BuildsInside.{NeedsMore, most_gates}
use Rattle.eq_build.specs.Builds as b
use Rattle.eq_build.specs.Views.{entries_in, lists_in, row_read, StopsBuilding, MakesEntries}
use Rattle.eq_build.specs.Answers.{EntryLists, EachNeedsMore, PartsNeedMore, CasesNeedMore, AnswersEntries}
use Rattle.eq_build.specs.declared.entries.BuildFault.{BuildFault}
use Rattle.eq_build.specs.declared.steps.Step.TheVariants.{Times, Lesser, Greater, Counted, Compared}
use Rattle.eq_build.proofs.Growing.{longer_on, terms_more, folded_more, led_more, chosen_more, builds_more}
use Rattle.eq_build.proofs.Same.{With, builds_same, cases_same}
use Rattle.eq_build.proofs.Stopping.{stops_up, passed_on}

module _ (rows : List EntryLists) (g : List Gate) where
  -- the answer for a level is that for the expression
  pub at_level : (e : Expr VarId) (x : Level VarId) (r : Result EntryLists BuildFault) (gates : List flat.Gate)
      → out-Expr VarId e ≡ x → AnswersEntries rows g x r gates → AnswersEntries rows g (out-Expr VarId e) r gates
  at_level e x r gates i h = subst (λ (z : Level VarId). AnswersEntries rows g z r gates) (sym i) h

  -- an expression is built from what its operands are
  pub finished : (e : Level VarId) (w : Built) (r : Result EntryLists BuildFault) (gates : List flat.Gate)
      → Builds (row_read rows) g e w → MakesEntries w r gates → AnswersEntries rows g e r gates
  finished e w (Ok xs) gates d m = (subst (λ (z : Built). Builds (row_read rows) g e z) m.0 d, m.1)
  finished e w (Err fault) gates d m =
      stops_up fault
      (λ l q c. subst (λ (z : Built). most_gates < length z.gates) (builds_same (row_read rows) refl d c) l) m

  -- a fault of an operand is one of the expression
  pub stopped : (e : Level VarId) (r : Result EntryLists BuildFault) (x : BuildFault) (gates : List flat.Gate)
      → IsErrAnd r (λ z. z ≡ x) → StopsBuilding x (NeedsMore (row_read rows) g e) → AnswersEntries rows g e r gates
  stopped e r x gates i s =
      passed_on (λ (xs : EntryLists) (h : List Gate). Builds (row_read rows) g e
      (record { entries = entries_in xs.items; gates = h }))
      (NeedsMore (row_read rows) g e) r x gates i s

  -- where an operand needs too many gates, so does the expression
  pub fails : (e : Expr VarId) (level : Level VarId) (N : Type 0) (r : Result EntryLists BuildFault) (x : BuildFault)
      (gates : List flat.Gate) → out-Expr VarId e ≡ level → (N → NeedsMore (row_read rows) g level)
      → IsErrAnd r (λ z. z ≡ x) → StopsBuilding x N → AnswersEntries rows g (out-Expr VarId e) r gates
  fails e level N r x gates i up h s = at_level e level r gates i (stopped level r x gates h (stops_up x up s))

  pub each_fails : (e : Expr VarId) (level : Level VarId) (xs ys : List (Expr VarId)) (r : Result EntryLists BuildFault)
      (x : BuildFault) (gates : List flat.Gate) → out-Expr VarId e ≡ level → xs ≡ ys
      → (EachNeedsMore (row_read rows) g ys → NeedsMore (row_read rows) g level) → IsErrAnd r (λ z. z ≡ x)
      → StopsBuilding x (EachNeedsMore (row_read rows) g xs) → AnswersEntries rows g (out-Expr VarId e) r gates
  each_fails e level xs ys r x gates i j up h s =
      fails e level (EachNeedsMore (row_read rows) g xs) r x gates i
      (λ n. up (subst (λ (z : List (Expr VarId)). EachNeedsMore (row_read rows) g z) j n)) h s

  -- an expression is built from the list of what its operands are
  pub each_done : (e : Expr VarId) (level : Level VarId) (xs ys : List (Expr VarId)) (all seen : List EntryLists)
      (mid : List Gate) (w : List (List Entry) → Built) (r : Result EntryLists BuildFault) (gates : List flat.Gate)
      → out-Expr VarId e ≡ level → xs ≡ ys → seen ≡ all
      → (Builds_each (row_read rows) g ys (lists_in all) mid → Builds (row_read rows) g level (w (lists_in all)))
      → Builds_each (row_read rows) g xs (lists_in all) mid → MakesEntries (w (lists_in seen)) r gates
      → AnswersEntries rows g (out-Expr VarId e) r gates
  each_done e level xs ys all seen mid w r gates i j k build d m =
      at_level e level r gates i
      (finished level (w (lists_in all)) r gates
      (build (subst (λ (z : List (Expr VarId)). Builds_each (row_read rows) g z (lists_in all) mid) j d))
      (subst (λ (z : List EntryLists). MakesEntries (w (lists_in z)) r gates) k m))

module _ (read : VarId → List Entry) (g : List Gate) where
  pub up_not : (a : Box (Expr VarId) Global) → NeedsMore read g (out-Expr VarId a.value) → NeedsMore read g (Not a)
  up_not a n w (b.opposite {b = r} d) = longer_on (terms_more r.gates (opposite_terms r.entries)) (n r d)

  pub up_all : (es : Vec (Expr VarId) Global) → EachNeedsMore read g es.items → NeedsMore read g (All es)
  up_all es n w (b.all {h = h} {ess = ess} d) = longer_on (terms_more h (joint_terms true ess)) (n ess h d)

  pub up_any : (es : Vec (Expr VarId) Global) → EachNeedsMore read g es.items → NeedsMore read g (Any es)
  up_any es n w (b.any {h = h} {ess = ess} d) = longer_on (terms_more h (joint_terms false ess)) (n ess h d)

  pub up_left : (q : Relation) (a c : Box (Expr VarId) Global) → NeedsMore read g (out-Expr VarId a.value)
      → NeedsMore read g (Compare q a c)
  up_left q a c n w (b.compared {x = x} {y = y} d e) =
      longer_on (grows_on (builds_more e) (terms_more y.gates (pairs_of (Compared q) x.entries y.entries))) (n x d)

  pub up_right : (q : Relation) (a c : Box (Expr VarId) Global) (left : Built)
      → Builds read g (out-Expr VarId a.value) left
      → NeedsMore read left.gates (out-Expr VarId c.value) → NeedsMore read g (Compare q a c)
  up_right q a c left m n w (b.compared {x = x} {y = y} d e) =
      longer_on (terms_more y.gates (pairs_of (Compared q) x.entries y.entries))
      (subst (λ (z : Built). NeedsMore read z.gates (out-Expr VarId c.value)) (builds_same read refl m d) n y e)

  pub up_sum : (ps : Vec (Bool × Expr VarId) Global) → PartsNeedMore read g ps.items → NeedsMore read g (Sum ps)
  up_sum ps n w (b.sum {h = h} {ess = ess} d) =
      longer_on (folded_more h (only (Whole (pos 0))) (with_signs ess)) (n ess h d)

  pub up_product : (es : Vec (Expr VarId) Global) → EachNeedsMore read g es.items → NeedsMore read g (Product es)
  up_product es n w (b.product {h = h} {ess = ess} d) =
      longer_on (folded_more h (only (Whole (pos 1))) (with_step Times ess)) (n ess h d)

  pub up_least : (es : Vec (Expr VarId) Global) → EachNeedsMore read g es.items → NeedsMore read g (Least es)
  up_least es n w (b.least {h = h} {ess = ess} d) = longer_on (led_more Lesser h ess) (n ess h d)

  pub up_greatest : (es : Vec (Expr VarId) Global) → EachNeedsMore read g es.items → NeedsMore read g (Greatest es)
  up_greatest es n w (b.greatest {h = h} {ess = ess} d) = longer_on (led_more Greater h ess) (n ess h d)

  pub up_count : (es : Vec (Expr VarId) Global) → EachNeedsMore read g es.items → NeedsMore read g (Count es)
  up_count es n w (b.count {h = h} {ess = ess} d) =
      longer_on (folded_more h (only (Whole (pos 0))) (with_step Counted ess)) (n ess h d)

  pub up_cases : (cs : Vec (Expr VarId × Expr VarId) Global) (other : Box (Expr VarId) Global)
      → CasesNeedMore read g cs.items → NeedsMore read g (Choose cs other)
  up_cases cs other n w (b.choice {h = h} {ess = ess} {b = r} d e) =
      longer_on (grows_on (builds_more e) (chosen_more r.gates ess r.entries)) (n ess h d)

  pub up_other : (cs : Vec (Expr VarId × Expr VarId) Global) (other : Box (Expr VarId) Global)
      (ess : List (List Entry × List Entry)) (h : List Gate) → Builds_cases read g cs.items ess h
      → NeedsMore read h (out-Expr VarId other.value) → NeedsMore read g (Choose cs other)
  up_other cs other ess h m n w (b.choice {ess = xs} {b = r} d e) =
      longer_on (chosen_more r.gates xs r.entries)
      (subst (λ (z : With (List Entry × List Entry)). NeedsMore read z.gates (out-Expr VarId other.value))
      (cases_same read refl m d) n r e)

-- The loops of the evaluation of sets: what holds after the first operands, parts and cases.
use Rattle.std.proofs.Common.{◌≡◌, ℕ, ◌+◌, ◌<◌, ◌≤◌, ◌↔◌, ℤ, Bool, true, false, not, IsTrue, List, [], ◌∷◌, length, take, drop, Contains, get_or, is_some, Option, Some, None, Result, Ok, Err, refl, sym, ap, ◌∙◌, subst, ◌⊎◌, inl, inr}
use Rattle.std.proofs.lemmas.List.{take-append-drop}
use Rattle.ar_base.proofs.Items.{take_item}
use Rattle.domains.specs.declared.Value.{Value}
use Rattle.domains.specs.declared.Value.TheVariants.{Truth, Whole}
use Rattle.domains.proofs.Members.{contains-one}
use Rattle.typed_expr.specs.Values.{sum_of}
use Rattle.typed_expr.specs.Folds.{fold_of}
use Rattle.typed_expr.specs.Sets.{HasExactly, AtLimit, KeepsLimit, Gathers}
use Rattle.typed_expr.specs.Sizes.{HasMoreThan}
use Rattle.typed_expr.specs.Yields.{Level, Yields}
use Rattle.typed_expr.specs.Yields as y
use Rattle.typed_expr.specs.Possible.{IsWide}
use Rattle.typed_expr.specs.Evaluating.{ToldTruth, TellsAnswer, Evaluates, IsNextOperand, Steps, SomeWide, Tallied, Tallies, FoldYields, SomeStep, Folds, SumYields, PartWide, Sums, CaseWide, Took, PassesAll, Chosen, Chooses, BranchYields, Joins}
use Rattle.typed_expr.specs.Evaluating as ev
use Rattle.typed_expr.specs.declared.expr.Expr.{Expr, out-Expr}
use Rattle.typed_expr.specs.declared.fold.Step.{Step}
use Rattle.typed_expr.specs.declared.fold.Step.TheVariants.{Part}
use Rattle.typed_expr.specs.declared.value_set.Stop.{Stop}
use Rattle.typed_expr.proofs.Folding.{is_nil}
use Rattle.typed_expr.proofs.Gathering.{more-than, stopped-up}
use Rattle.typed_expr.proofs.Loops.{item-is-in, narrow-more, narrow-start, narrow-end, tallied-start, tallied-more, tallied-end, tallied-stops, fold-start, fold-up, fold-more, first-more, steps-more, steps-start, folds-end, sum-start, sum-up, sum-more, part-narrow-more, part-narrow-start, sums-end, took-left, took-right, chosen-start, chosen-more, chosen-end, chosen-stops, case-narrow-more, case-narrow-start, case-narrow-end}

-- what holds of a tally after the first i operands
pub record TallySoFar {V : Type 0} (facts : V → Value → Type 0) (most : Option ℕ) (b one each : Bool)
    (es : List (Expr V)) (i : ℕ) : Type 0 where
  pub tallied : Tallied facts b one each (take i es)
  pub narrow : AtLimit most (SomeWide facts (take i es)) → ⊥

-- what holds of a fold after the first i operands
pub record FoldSoFar {V : Type 0} (facts : V → Value → Type 0) (most : Option ℕ) (s : Step) (first : Bool)
    (set : List Value) (es : List (Expr V)) (i : ℕ) : Type 0 where
  pub exact : HasExactly set (FoldYields facts s es i)
  pub keeps : KeepsLimit most set
  pub starts : first ≡ is_nil (take i es)
  pub narrow : AtLimit most (SomeWide facts (take i es)) → ⊥
  pub steps : (k : ℕ) → k ≤ i → AtLimit most (λ n. HasMoreThan n (FoldYields facts s es k)) → ⊥

-- what holds of a sum after the first i parts
pub record SumSoFar {V : Type 0} (facts : V → Value → Type 0) (most : Option ℕ) (set : List Value)
    (ps : List (Bool × Expr V)) (i : ℕ) : Type 0 where
  pub exact : HasExactly set (SumYields facts ps i)
  pub keeps : KeepsLimit most set
  pub narrow : AtLimit most (PartWide facts (take i ps)) → ⊥
  pub steps : (k : ℕ) → k ≤ i → AtLimit most (λ n. HasMoreThan n (SumYields facts ps k)) → ⊥

-- what holds of a choice after the first i cases
pub record ChoiceSoFar {V : Type 0} (facts : V → Value → Type 0) (most : Option ℕ) (set : List Value) (passes : Bool)
    (cs : List (Expr V × Expr V)) (i : ℕ) : Type 0 where
  pub chosen : Chosen facts set passes (take i cs)
  pub keeps : KeepsLimit most set
  pub narrow : AtLimit most (CaseWide facts (take i cs)) → ⊥

module _ {V : Type 0} (facts : V → Value → Type 0) (most : Option ℕ) where
  pub tally-begins : (b : Bool) (es : List (Expr V)) → TallySoFar facts most b false true es 0
  tally-begins b es = record { tallied = tallied-start facts b; narrow = narrow-start facts most }

  pub tally-goes-on : (b one each one_more each_more other same : Bool) (es : List (Expr V)) (i : ℕ) (e : Expr V)
      → i < length es → e ≡ get_or es i e
      → TallySoFar facts most b one each es i → TellsAnswer facts most b (Ok (other, same)) (out-Expr V e)
      → IsTrue one_more ↔ (IsTrue one ⊎ IsTrue other) → IsTrue each_more ↔ (IsTrue each × IsTrue same)
      → TallySoFar facts most b one_more each_more es (i + 1)
  tally-goes-on b one each one_more each_more other same es i e h is f q k a = record {
    tallied = tallied-more facts b one each one_more each_more other same es i e h is q.0 k a f.tallied;
    narrow = narrow-more facts most es i e h is f.narrow q.1;
  }

  -- what an operand yields, as its set has it
  pub tell-of-set : (b other same : Bool) (set : List Value) (e : Level V) → Evaluates facts most (Ok set) e
      → IsTrue other ↔ Contains set (Truth (not b)) → IsTrue same ↔ Contains set (Truth b)
      → TellsAnswer facts most b (Ok (other, same)) e
  tell-of-set b other same set e h p q = (
    record {
      opposite = ((λ m. h.0.sound (Truth (not b)) (p.0 m)), (λ d. p.1 (h.0.complete (Truth (not b)) d)));
      same = ((λ m. h.0.sound (Truth b) (q.0 m)), (λ d. q.1 (h.0.complete (Truth b) d)));
    },
    h.2,
  )

  pub tally-ends : (b one each : Bool) (es : List (Expr V)) (i : ℕ) → length es ≤ i
      → TallySoFar facts most b one each es i → Tallies facts most b (Ok (one, each)) es
  tally-ends b one each es i h f =
      (tallied-end facts b one each es i h f.tallied, narrow-end facts most es i h f.narrow)

  pub fold-begins : (s : Step) (es : List (Expr V)) (v : Value) (set : List Value) → v ≡ Whole (fold_of s [])
      → Gathers most (Ok set) (Contains (v ∷ [])) → FoldSoFar facts most s true set es 0
  fold-begins s es v set e g =
      let P : Value → Type 0 = λ z. HasExactly set (Contains (z ∷ [])) in
      let exact = fold-start facts s es (fold_of s []) set refl (subst P e g.0) in
      record {
        exact = exact;
        keeps = g.1;
        starts = refl;
        narrow = narrow-start facts most;
        steps = steps-start facts most (FoldYields facts s es) set exact g.1;
      }

  pub fold-begins-stop : (s : Step) (es : List (Expr V)) (w : Value) (stop : Stop) → w ≡ Whole (fold_of s [])
      → Gathers most (Err stop) (Contains (w ∷ [])) → Folds facts most s (Err stop) es
  fold-begins-stop s es w stop e g =
      stopped-up most (λ k. HasMoreThan k (Contains (w ∷ [])))
      (λ k. SomeWide facts es k ⊎ SomeStep (FoldYields facts s es) k)
      (λ k h. inr (record { place = 0; wide = more-than (λ v m. ([], y.no_operand, sym (contains-one w v m) ∙ e)) h })) stop g

  pub fold-goes-on : (s : Step) (first : Bool) (es : List (Expr V)) (i : ℕ) (e : Expr V) (set values new : List Value)
      → i < length es → e ≡ get_or es i e → FoldSoFar facts most s first set es i
      → Evaluates facts most (Ok values) (out-Expr V e) → Gathers most (Ok new) (IsNextOperand s first set values)
      → FoldSoFar facts most s false new es (i + 1)
  fold-goes-on s first es i e set values new h is f q g =
      let exact : HasExactly new (FoldYields facts s es (i + 1)) =
      fold-more facts s first es i e set values new h is f.starts f.exact q.0 g.0 in
      record {
        exact = exact;
        keeps = g.1;
        starts = first-more facts es i e h is;
        narrow = narrow-more facts most es i e h is f.narrow q.2;
        steps = steps-more facts most (FoldYields facts s es) i new f.steps exact g.1;
      }

  pub fold-operand-stop : (s : Step) (es : List (Expr V)) (i : ℕ) (e : Expr V) (stop : Stop) → i < length es
      → e ≡ get_or es i e → Evaluates facts most (Err stop) (out-Expr V e) → Folds facts most s (Err stop) es
  fold-operand-stop s es i e stop h is q =
      stopped-up most (λ n. IsWide facts n (out-Expr V e))
      (λ n. SomeWide facts es n ⊎ SomeStep (FoldYields facts s es) n)
      (λ n w. inl (record { expr = e; in_list = item-is-in es i e h is; wide = w })) stop q

  pub fold-step-stop : (s : Step) (first : Bool) (es : List (Expr V)) (i : ℕ) (e : Expr V) (set values : List Value) (stop : Stop)
      → i < length es → e ≡ get_or es i e → FoldSoFar facts most s first set es i
      → Evaluates facts most (Ok values) (out-Expr V e) → Gathers most (Err stop) (IsNextOperand s first set values)
      → Folds facts most s (Err stop) es
  fold-step-stop s first es i e set values stop h is f q g =
      stopped-up most (λ n. HasMoreThan n (IsNextOperand s first set values))
      (λ n. SomeWide facts es n ⊎ SomeStep (FoldYields facts s es) n)
      (λ n m. inr (record { place = i + 1; wide = more-than (fold-up facts s first es i e set values h is f.starts f.exact q.0) m })) stop g

  pub fold-steps : (s : Step) (first : Bool) (es : List (Expr V)) (i : ℕ) (e : Expr V) (set new : List Value)
      → i < length es → e ≡ get_or es i e → FoldSoFar facts most s first set es i
      → Steps facts most s first set (Ok new) (out-Expr V e) → FoldSoFar facts most s false new es (i + 1)
  fold-steps s first es i e set new h is f (ev.stepped {values = values} q g) =
      fold-goes-on s first es i e set values new h is f q g
  fold-steps s first es i e set new h is f (ev.operand_stopped q same) = cc

  pub fold-stops : (s : Step) (first : Bool) (es : List (Expr V)) (i : ℕ) (e : Expr V) (set : List Value) (stop : Stop)
      → i < length es → e ≡ get_or es i e → FoldSoFar facts most s first set es i
      → Steps facts most s first set (Err stop) (out-Expr V e) → Folds facts most s (Err stop) es
  fold-stops s first es i e set stop h is f (ev.stepped {values = values} q g) =
      fold-step-stop s first es i e set values stop h is f q g
  fold-stops s first es i e set stop h is f (ev.operand_stopped {stop = first_stop} q same) =
      let P : Result (List Value) Stop → Type 0 = λ r. Folds facts most s r es in
      subst P (sym same) (fold-operand-stop s es i e first_stop h is q)

  pub fold-ends : (s : Step) (first : Bool) (es : List (Expr V)) (i : ℕ) (set : List Value) → length es ≤ i
      → FoldSoFar facts most s first set es i → Folds facts most s (Ok set) es
  fold-ends s first es i set h f = folds-end facts most s es i set h f.exact f.keeps f.narrow f.steps

  pub sum-begins : (ps : List (Bool × Expr V)) (n : ℤ) (set : List Value) → n ≡ sum_of []
      → Gathers most (Ok set) (Contains (Whole n ∷ [])) → SumSoFar facts most set ps 0
  sum-begins ps n set e g = record {
    exact = sum-start facts ps n set e g.0;
    keeps = g.1;
    narrow = part-narrow-start facts most;
    steps = steps-start facts most (SumYields facts ps) set (sum-start facts ps n set e g.0) g.1;
  }

  pub sum-begins-stop : (ps : List (Bool × Expr V)) (n : ℤ) (stop : Stop) → n ≡ sum_of []
      → Gathers most (Err stop) (Contains (Whole n ∷ [])) → Sums facts most (Err stop) ps
  sum-begins-stop ps n stop e g =
      stopped-up most (λ k. HasMoreThan k (Contains (Whole n ∷ [])))
      (λ k. PartWide facts ps k ⊎ SomeStep (SumYields facts ps) k)
      (λ k h. inr (record { place = 0; wide = more-than (λ v m. ([], y.no_part, sym (contains-one (Whole n) v m) ∙ ap Whole e)) h })) stop g

  pub sum-goes-on : (ps : List (Bool × Expr V)) (i : ℕ) (p : Bool × Expr V) (set values new : List Value)
      → i < length ps → p ≡ get_or ps i p → SumSoFar facts most set ps i
      → Evaluates facts most (Ok values) (out-Expr V p.1) → Gathers most (Ok new) (IsNextOperand (Part p.0) false set values)
      → SumSoFar facts most new ps (i + 1)
  sum-goes-on ps i p set values new h is f q g =
      let exact : HasExactly new (SumYields facts ps (i + 1)) =
      sum-more facts ps i p set values new h is f.exact q.0 g.0 in
      record {
        exact = exact;
        keeps = g.1;
        narrow = part-narrow-more facts most ps i p h is f.narrow q.2;
        steps = steps-more facts most (SumYields facts ps) i new f.steps exact g.1;
      }

  pub sum-operand-stop : (ps : List (Bool × Expr V)) (i : ℕ) (p : Bool × Expr V) (stop : Stop) → i < length ps
      → p ≡ get_or ps i p → Evaluates facts most (Err stop) (out-Expr V p.1) → Sums facts most (Err stop) ps
  sum-operand-stop ps i p stop h is q =
      stopped-up most (λ n. IsWide facts n (out-Expr V p.1))
      (λ n. PartWide facts ps n ⊎ SomeStep (SumYields facts ps) n)
      (λ n w. inl (record { part = p; in_list = item-is-in ps i p h is; wide = w })) stop q

  pub sum-step-stop : (ps : List (Bool × Expr V)) (i : ℕ) (p : Bool × Expr V) (set values : List Value) (stop : Stop)
      → i < length ps → p ≡ get_or ps i p → SumSoFar facts most set ps i
      → Evaluates facts most (Ok values) (out-Expr V p.1) → Gathers most (Err stop) (IsNextOperand (Part p.0) false set values)
      → Sums facts most (Err stop) ps
  sum-step-stop ps i p set values stop h is f q g =
      stopped-up most (λ n. HasMoreThan n (IsNextOperand (Part p.0) false set values))
      (λ n. PartWide facts ps n ⊎ SomeStep (SumYields facts ps) n)
      (λ n m. inr (record { place = i + 1; wide = more-than (sum-up facts ps i p set values h is f.exact q.0) m })) stop g

  pub sum-steps : (ps : List (Bool × Expr V)) (i : ℕ) (p : Bool × Expr V) (set new : List Value)
      → i < length ps → p ≡ get_or ps i p → SumSoFar facts most set ps i
      → Steps facts most (Part p.0) false set (Ok new) (out-Expr V p.1) → SumSoFar facts most new ps (i + 1)
  sum-steps ps i p set new h is f (ev.stepped {values = values} q g) = sum-goes-on ps i p set values new h is f q g
  sum-steps ps i p set new h is f (ev.operand_stopped q same) = cc

  pub sum-stops : (ps : List (Bool × Expr V)) (i : ℕ) (p : Bool × Expr V) (set : List Value) (stop : Stop)
      → i < length ps → p ≡ get_or ps i p → SumSoFar facts most set ps i
      → Steps facts most (Part p.0) false set (Err stop) (out-Expr V p.1) → Sums facts most (Err stop) ps
  sum-stops ps i p set stop h is f (ev.stepped {values = values} q g) = sum-step-stop ps i p set values stop h is f q g
  sum-stops ps i p set stop h is f (ev.operand_stopped {stop = first_stop} q same) =
      let P : Result (List Value) Stop → Type 0 = λ r. Sums facts most r ps in
      subst P (sym same) (sum-operand-stop ps i p first_stop h is q)

  pub sum-ends : (ps : List (Bool × Expr V)) (i : ℕ) (set : List Value) → length ps ≤ i → SumSoFar facts most set ps i
      → Sums facts most (Ok set) ps
  sum-ends ps i set h f = sums-end facts most ps i set h f.exact f.keeps f.narrow f.steps

  -- what a case adds: what its value yields, where its test takes it
  case_down : (cs : List (Expr V × Expr V)) (i : ℕ) (c : Expr V × Expr V) (set : List Value)
      (passes takes can_pass can_take : Bool)
      → ChoiceSoFar facts most set passes cs i
      → ToldTruth facts true can_pass can_take (out-Expr V c.0) → (IsTrue takes → IsTrue passes × IsTrue can_take)
      → (v : Value) → BranchYields facts takes set (out-Expr V c.1) v
      → Contains set v ⊎ (PassesAll facts (take i cs) × Took facts (c ∷ []) v)
  case_down cs i c set passes takes can_pass can_take f t p v (inl m) = inl m
  case_down cs i c set passes takes can_pass can_take f t p v (inr m) =
      let q = p m.0 in
      inr (f.chosen.all.0 q.0, inl (t.same.0 q.1, m.1))

  took_one : (c : Expr V × Expr V) (v : Value) → Took facts (c ∷ []) v
      → Yields facts (out-Expr V c.0) (Truth true) × Yields facts (out-Expr V c.1) v
  took_one c v (inl h) = h
  took_one c v (inr h) = absurd h.1

  case_up : (cs : List (Expr V × Expr V)) (i : ℕ) (c : Expr V × Expr V) (set : List Value)
      (passes takes can_pass can_take : Bool)
      → ChoiceSoFar facts most set passes cs i
      → ToldTruth facts true can_pass can_take (out-Expr V c.0) → (IsTrue passes × IsTrue can_take → IsTrue takes)
      → (v : Value) → Contains set v ⊎ (PassesAll facts (take i cs) × Took facts (c ∷ []) v)
      → BranchYields facts takes set (out-Expr V c.1) v
  case_up cs i c set passes takes can_pass can_take f t p v (inl m) = inl m
  case_up cs i c set passes takes can_pass can_take f t p v (inr m) =
      let k = took_one c v m.1 in
      inr (p (f.chosen.all.1 m.0, t.same.1 k.0), k.1)

  pub choice-begins : (cs : List (Expr V × Expr V)) (set : List Value) → set ≡ [] → KeepsLimit most set
      → ChoiceSoFar facts most set true cs 0
  choice-begins cs set e k = record {
    chosen = chosen-start facts set e;
    keeps = k;
    narrow = case-narrow-start facts most;
  }

  pub choice-goes-on : (cs : List (Expr V × Expr V)) (i : ℕ) (c : Expr V × Expr V) (set new : List Value)
      (passes takes can_pass can_take passes_more : Bool)
      → i < length cs → c ≡ get_or cs i c
      → ChoiceSoFar facts most set passes cs i → TellsAnswer facts most true (Ok (can_pass, can_take)) (out-Expr V c.0)
      → Joins facts most (Ok new) takes set (out-Expr V c.1)
      → IsTrue takes ↔ (IsTrue passes × IsTrue can_take)
      → IsTrue passes_more ↔ (IsTrue passes × IsTrue can_pass)
      → ChoiceSoFar facts most new passes_more cs (i + 1)
  choice-goes-on cs i c set new passes takes can_pass can_take passes_more h is f t g p o = record {
    chosen = chosen-more facts cs i c set new passes passes_more can_pass can_take h is t.0 o
        (λ v m. case_down cs i c set passes takes can_pass can_take f t.0 p.0 v (g.0.sound v m))
        (λ v m. g.0.complete v (case_up cs i c set passes takes can_pass can_take f t.0 p.1 v m)) f.chosen;
    keeps = g.1;
    narrow = case-narrow-more facts most cs i c h is f.narrow t.1 g.2;
  }

  pub case-test-stop : (cs : List (Expr V × Expr V)) (i : ℕ) (c : Expr V × Expr V) (stop : Stop) → i < length cs
      → c ≡ get_or cs i c → Evaluates facts most (Err stop) (out-Expr V c.0) → Chooses facts most (Err stop) cs
  case-test-stop cs i c stop h is q =
      stopped-up most (λ n. IsWide facts n (out-Expr V c.0)) (λ n. CaseWide facts cs n ⊎ HasMoreThan n (Took facts cs))
      (λ n w. inl (record { case = c; in_list = item-is-in cs i c h is; wide = inl w })) stop q

  took_within : (cs : List (Expr V × Expr V)) (i : ℕ) (v : Value) → Took facts (take i cs) v → Took facts cs v
  took_within cs i v m =
      let P : List (Expr V × Expr V) → Type 0 = λ l. Took facts l v in
      subst P (take-append-drop i cs) (took-left facts (take i cs) (drop i cs) v m)

  pub case-branch-stop : (cs : List (Expr V × Expr V)) (i : ℕ) (c : Expr V × Expr V) (set : List Value)
      (passes takes can_pass can_take : Bool) (stop : Stop)
      → i < length cs → c ≡ get_or cs i c
      → ChoiceSoFar facts most set passes cs i → TellsAnswer facts most true (Ok (can_pass, can_take)) (out-Expr V c.0)
      → IsTrue takes ↔ (IsTrue passes × IsTrue can_take)
      → Joins facts most (Err stop) takes set (out-Expr V c.1) → Chooses facts most (Err stop) cs
  case-branch-stop cs i c set passes takes can_pass can_take stop h is f t p g =
      stopped-up most
      (λ n. IsWide facts n (out-Expr V c.1) ⊎ HasMoreThan n (BranchYields facts takes set (out-Expr V c.1)))
      (λ n. CaseWide facts cs n ⊎ HasMoreThan n (Took facts cs))
      (λ n w. elim w [
        | inl b ↦ inl (record { case = c; in_list = item-is-in cs i c h is; wide = inr b })
        | inr m ↦ inr (more-than (λ v k. took_within cs (i + 1) v
            (let P : List (Expr V × Expr V) → Type 0 = λ l. Took facts l v in
            subst P (sym (take_item cs i c h is))
            (elim (case_down cs i c set passes takes can_pass can_take f t.0 p.0 v k) [
              | inl b ↦ took-left facts (take i cs) (c ∷ []) v (f.chosen.exact.sound v b)
              | inr b ↦ took-right facts (take i cs) (c ∷ []) v b.0 b.1
            ]))) m)
      ]) stop g

  pub choice-ends : (cs : List (Expr V × Expr V)) (i : ℕ) (set : List Value) (passes : Bool) → length cs ≤ i
      → ChoiceSoFar facts most set passes cs i → Chooses facts most (Ok (set, passes)) cs
  choice-ends cs i set passes h f =
      (chosen-end facts cs i set passes h f.chosen, f.keeps, case-narrow-end facts most cs i h f.narrow)

-- without a limit, the cases after one that does not pass are passed over
pub choice-stops-early : {V : Type 0} (facts : V → Value → Type 0) (most : Option ℕ) (cs : List (Expr V × Expr V)) (i : ℕ) (set : List Value) (passes : Bool)
    → passes ≡ false → is_some most ≡ false
    → ChoiceSoFar facts most set passes cs i → Chooses facts most (Ok (set, false)) cs
choice-stops-early facts None cs i set passes e m f = (chosen-stops facts cs i set passes e f.chosen, f.keeps, λ w. w)
choice-stops-early facts (Some n) cs i set passes e m f = cc

-- without a limit, the operands after one that decides are passed over
pub tally-stops-early : {V : Type 0} (facts : V → Value → Type 0) (most : Option ℕ) (b one each : Bool) (es : List (Expr V)) (i : ℕ)
    → one ≡ true → each ≡ false → is_some most ≡ false
    → TallySoFar facts most b one each es i → Tallies facts most b (Ok (true, false)) es
tally-stops-early facts None b one each es i o a m t = (tallied-stops facts b one each es i o a t.tallied, λ w. w)
tally-stops-early facts (Some n) b one each es i o a m t = cc

pub none-there : (there absent : Bool) → there ≡ not absent → absent ≡ true → there ≡ false
none-there there absent e i = e ∙ ap not i

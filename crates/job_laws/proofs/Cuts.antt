-- The texts of cuts, of a conflict, of a check and of a forest: one each.
use Rattle.std.proofs.Common.{◌≡◌, ◌≤◌, ◌⊎◌, ◌&&◌, ℕ, suc, List, [], ◌∷◌, ◌++◌, Option, length, reverse, refl, sym, ◌∙◌, ap, subst, arith, inl, inr}
use Rattle.std.proofs.lemmas.Bool.{cases_lt, cases_eq}
use Rattle.ar_base.specs.Lists.{Stands, IsOneOf, Along}
use Rattle.ar_base.proofs.Few.{AllDiffer, new, all_differ}
use Rattle.ar_base.proofs.Sets.{within_self}
use Rattle.ar_base.proofs.Standing.{stands_one, one_cases, one_first, one_none, one_rest}
use Rattle.ar_firing.specs.Cuts.{Conflicts, Cut, ConflictSet}
use Rattle.ar_firing.specs.Cuts as c
use Rattle.ar_firing.specs.Forest.{ModeTree, IsLine}
use Rattle.ar_firing.specs.Static.{IsKeyedStatic}
use Rattle.ar_firing.proofs.Lines.{one_line}
use Rattle.ar_firing.proofs.OneForest.{forest_same}
use Rattle.ar_firing.proofs.OneListing.{listed_same}
use Rattle.ar_firing.proofs.RunsTold.{reaches_same}
use Rattle.ar_firing.proofs.SmallSets.{free_within}
use Rattle.ar_meaning.specs.Flows.{FlowFault, Fails, Outcome}
use Rattle.ar_meaning.specs.Runs.{Label}
use Rattle.ar_meaning.specs.Steps.{Answer, Refused, Flow, Step}
use Rattle.ar_meaning.specs.Systems.{System, Way}
use Rattle.ar_meaning.specs.TraceText.{Naming, flow_fault_text}
use Rattle.ar_meaning.proofs.OneAnswer.{flows_same, step_same}
use Rattle.ar_meaning.proofs.OneRun.{way_same}
use Rattle.check_text.specs.Texts.{within_order, lines_in, said_lines, missing_lines, last_line, all_good, is_none, AreSaid, IsCheckText}
use Rattle.cut_check.specs.Verdicts.{Said, Holds, IsSaid, fails, holds, good, HoldsLine, IsMissing}
use Rattle.cut_check.specs.Verdicts as v
use Rattle.cut_text.specs.Texts.{label_lists, labels_text, count_line, fault_line, IsCutText, IsConflictText}
use Rattle.domains.specs.declared.Value.{Value}
use Rattle.firable_families.specs.Firable.{AndUpTo}
use Rattle.cut_text.proofs.UpToOrder.{has_it, is_small}
use Rattle.cut_text.specs.ForestTexts.{AreLiveEvents, IsForestText, tree_lines, events_line}
use Rattle.job_inputs.specs.CutLists.{CutLine}
use Rattle.typed_expr.specs.declared.expr.Expr.{Expr}
use Rattle.job_laws.proofs.Labels.{along_one}

-- Lists of different numbers

-- a list without a number that it has
record Taken (x : ℕ) (ys : List ℕ) : Type 0 where
  rest : List ℕ
  long : length ys ≡ suc (length rest)
  others : (n : ℕ) → IsOneOf ys n → (n ≡ x → ⊥) → IsOneOf rest n

taken : (x : ℕ) (ys : List ℕ) → IsOneOf ys x → Taken x ys
taken x [] o = absurd (one_none x o)
taken x (y ∷ ys) o = go (cases_eq y x) (λ k. taken x ys k)
  where
    go : (y ≡ x) ⊎ (y ≡ x → ⊥) → (IsOneOf ys x → Taken x ys) → Taken x (y ∷ ys)
    go (inl e) more = record {
      rest = ys;
      long = refl;
      others = λ n i d. elim (one_cases y ys n i) [ inl k ↦ absurd (d (sym k ∙ e)) | inr j ↦ j ];
    }
    go (inr d) more =
        let r = more (elim (one_cases y ys x o) [ inl k ↦ absurd (d k) | inr j ↦ j ]) in
        record {
          rest = y ∷ r.rest;
          long = ap suc r.long;
          others =
              λ n i e.
              elim (one_cases y ys n i) [
                | inl k ↦ subst (λ (z : ℕ). IsOneOf (y ∷ r.rest) z) k (one_first y r.rest)
                | inr j ↦ one_rest y r.rest n (r.others n j e)
              ];
        }

-- different numbers, all of which a list has, are not more than it has
not_longer : (xs ys : List ℕ) → AllDiffer xs → ((n : ℕ) → IsOneOf xs n → IsOneOf ys n) → length xs ≤ length ys
not_longer [] ys d h = omega arith
not_longer (x ∷ xs) ys (new f d) h =
    let r = taken x ys (h x (one_first x xs)) in
    let l = not_longer xs r.rest d (λ n o. r.others n (h n (one_rest x xs n o))
    (λ e. f (subst (λ (z : ℕ). IsOneOf xs z) e o))) in
    let m = r.long in
    omega (arith, l, m)

-- Forests

module _ {V : Type 0} (names : Naming) (sys : System V) (dropped : List ℕ) (static : IsKeyedStatic sys dropped) where
  live_long : (xs ys : List ℕ) → AreLiveEvents sys dropped xs → AreLiveEvents sys dropped ys → length xs ≡ length ys
  live_long xs ys a b =
      let l = not_longer xs ys (all_differ xs a.different) (λ n o. b.whole n (a.sound n o)) in
      let k = not_longer ys xs (all_differ ys b.different) (λ n o. a.whole n (b.sound n o)) in
      omega (arith, l, k)

  pub forest_text_one : (s t : List ℕ) → IsForestText names sys dropped s → IsForestText names sys dropped t → s ≡ t
  forest_text_one s t a b =
      let e : a.trees ≡ b.trees = forest_same sys dropped static.keyed static.static a.is_forest b.is_forest in
      let l = live_long a.events b.events a.are_live b.are_live in
      a.is_text
      ∙ ap (λ (z : List ModeTree). tree_lines names sys z ++ events_line (length a.events)) e
      ∙ ap (λ (z : ℕ). tree_lines names sys b.trees ++ events_line z) l
      ∙ sym b.is_text

  -- Cuts

  line_once : (set : List ℕ) (ls ks : List Label) → IsLine sys dropped set ls → IsLine sys dropped set ks → ls ≡ ks
  line_once set ls ks a b = one_line sys dropped static.keyed static.static (within_self set) (within_self set) a b

  lines_once : (sets others : List (List ℕ)) (ls ks : List (List Label)) → sets ≡ others
      → Along (IsLine sys dropped) sets ls
      → Along (IsLine sys dropped) others ks → ls ≡ ks
  lines_once sets others ls ks e a b =
      along_one line_once a (subst (λ (z : List (List ℕ)). Along (IsLine sys dropped) z ks) (sym e) b)

  pub cut_text_one : (order : Option ℕ) (observer : Expr V) (wanted : Value) (s t : List ℕ)
      → IsCutText order names sys dropped observer wanted s
      → IsCutText order names sys dropped observer wanted t → s ≡ t
  cut_text_one order observer wanted s t a b =
      let e : a.sets ≡ b.sets = listed_same a.sets b.sets (AndUpTo order (Cut sys dropped observer wanted)) a.are_listed
      b.are_listed in
      let l : a.lines ≡ b.lines = lines_once a.sets b.sets a.lines b.lines e a.are_lines b.are_lines in
      a.is_text
      ∙ ap (λ (z : List (List Label)). label_lists names sys z ++ count_line order (length a.sets)) l
      ∙ ap (λ (z : List (List ℕ)). label_lists names sys b.lines ++ count_line order (length z)) e
      ∙ sym b.is_text

  -- Conflicts

  same_first : (s u : List ℕ) (ss us : List (List ℕ)) → s ∷ ss ≡ u ∷ us → s ≡ u
  same_first s u ss us e = cc

  -- the labels meet one fault
  conflict_one : (ls : List Label) (f g : FlowFault) → Conflicts sys dropped ls f → Conflicts sys dropped ls g → f ≡ g
  conflict_one ls f g (c.start h) (c.start k) =
      let e : ◌≡◌ {A = Outcome} (Fails f) (Fails g) = flows_same sys.net h k in cc
  conflict_one ls f g (c.fire {t = t} w r o s) (c.fire {t = u} x q p k) =
      let e : t ≡ u = reaches_same sys dropped r q in
      let i : w ≡ x = way_same sys o.is_kept.is_way p.is_kept.is_way in
      let there = subst (λ (z : List Value). Step sys.net z w (Refused (Flow f))) e s in
      let a : ◌≡◌ {A = Answer} (Refused (Flow f)) (Refused (Flow g)) =
      step_same sys.net (subst (λ (z : Way V). Step sys.net u z (Refused (Flow f))) i there) k in cc

  pub conflict_text_one : (order : Option ℕ) (s t : List ℕ) → IsConflictText order names sys dropped s
      → IsConflictText order names sys dropped t → s ≡ t
  conflict_text_one order s t a b =
      let e = listed_same (a.set ∷ a.later) (b.set ∷ b.later) (AndUpTo order (ConflictSet sys dropped)) a.are_listed
      b.are_listed in
      let i : b.set ≡ a.set = sym (same_first a.set b.set a.later b.later e) in
      let l : b.labels ≡ a.labels = line_once a.set b.labels a.labels
      (subst (λ (z : List ℕ). IsLine sys dropped z b.labels) i b.is_line) a.is_line in
      let there = subst (λ (z : List Label). Conflicts sys dropped (reverse z) b.fault) l b.conflicts in
      let f : b.fault ≡ a.fault = conflict_one (reverse a.labels) b.fault a.fault there a.conflicts in
      a.is_text
      ∙ ap (λ (z : List Label). fault_line (labels_text names sys z) (flow_fault_text names a.fault)) (sym l)
      ∙ ap (λ (z : FlowFault). fault_line (labels_text names sys b.labels) (flow_fault_text names z)) (sym f)
      ∙ sym b.is_text

  -- where no set meets a conflict there is no such text
  pub no_conflict : (order : Option ℕ) → c.IsConflictFreeUpTo order sys dropped → (s : List ℕ)
      → IsConflictText order names sys dropped s → ⊥
  no_conflict order free s a =
      let first = a.are_listed.sound 0 a.set refl in
      free_within order sys dropped free a.set (is_small order (ConflictSet sys dropped) a.set first) a.set
      (within_self a.set) (has_it order (ConflictSet sys dropped) a.set first).has

  -- Checks

  module _ (observer : Expr V) (wanted : Value) (lines : List (List Label)) where
    same_line : (n : ℕ) (ls ks : List Label) → Stands lines n ls → Stands lines n ks → ls ≡ ks
    same_line n ls ks a b = stands_one lines n ls ks a b

    held_one : (n j k : ℕ) → HoldsLine lines n j → HoldsLine lines n k → j ≡ k
    held_one n j k a b = elim (cases_lt j k) [
      | inl l ↦ absurd (b.least j l a.may)
      | inr l ↦ elim (cases_lt k j) [ inl m ↦ absurd (a.least k m b.may) | inr m ↦ omega (arith, l, m) ]
    ]

    said_one : (n : ℕ) (p q : Said) → IsSaid sys dropped observer wanted lines n p
        → IsSaid sys dropped observer wanted lines n q → p ≡ q
    said_one n p q (fails i h) (fails j k) = refl
    said_one n p q (fails {ls = ls} i h) (holds {ls = ks} j k m) =
        absurd (h (subst (v.IsTrueLine sys dropped observer wanted) (same_line n ks ls j i) k))
    said_one n p q (fails {ls = ls} i h) (good {ls = ks} j k m) =
        absurd (h (subst (v.IsTrueLine sys dropped observer wanted) (same_line n ks ls j i) k))
    said_one n p q (holds {ls = ks} j k m) (fails {ls = ls} i h) =
        absurd (h (subst (v.IsTrueLine sys dropped observer wanted) (same_line n ks ls j i) k))
    said_one n p q (holds {k = a} i h m) (holds {k = b} j k o) = ap Holds (held_one n a b m o)
    said_one n p q (holds {k = a} i h m) (good j k o) = absurd (o a m.may)
    said_one n p q (good {ls = ks} j k m) (fails {ls = ls} i h) =
        absurd (h (subst (v.IsTrueLine sys dropped observer wanted) (same_line n ks ls j i) k))
    said_one n p q (good j k o) (holds {k = a} i h m) = absurd (o a m.may)
    said_one n p q (good i h m) (good j k o) = refl

  -- lists of one length with one item at each place are one
  by_places : {A : Type 0} (xs ys : List A) → length xs ≡ length ys
      → ((n : ℕ) (a b : A) → Stands xs n a → Stands ys n b → a ≡ b) → xs ≡ ys
  by_places [] [] l h = refl
  by_places [] (y ∷ ys) l h = absurd (omega (arith, l))
  by_places (x ∷ xs) [] l h = absurd (omega (arith, l))
  by_places (x ∷ xs) (y ∷ ys) l h =
      let e : x ≡ y = h 0 x y refl refl in
      let r = by_places xs ys (omega (arith, l)) (λ n a b p q. h (suc n) a b p q) in
      cc

  all_said_one : (observer : Expr V) (wanted : Value) (lines : List (List Label)) (xs ys : List Said)
      → AreSaid sys dropped observer wanted lines xs → AreSaid sys dropped observer wanted lines ys → xs ≡ ys
  all_said_one observer wanted lines xs ys a b =
      by_places xs ys (a.long ∙ sym b.long)
      (λ n p q h k. said_one observer wanted lines n p q (a.each n p h) (b.each n q k))

  abbrev checked : Option ℕ → List CutLine → List Said → List (List Label) → List (List ℕ) → List ℕ
  checked order cuts said lines missing =
      said_lines order (within_order order cuts) cuts said
      ++ (missing_lines names sys lines ++ last_line order (all_good said && is_none missing))

  pub check_text_one : (order : Option ℕ) (observer : Expr V) (wanted : Value) (cuts : List CutLine) (s t : List ℕ)
      → IsCheckText order names sys dropped observer wanted cuts s
      → IsCheckText order names sys dropped observer wanted cuts t → s ≡ t
  check_text_one order observer wanted cuts s t a b =
      let given = lines_in (within_order order cuts) in
      let d : a.said ≡ b.said = all_said_one observer wanted given a.said b.said a.are_said b.are_said in
      let e : a.missing ≡ b.missing = listed_same a.missing b.missing
      (AndUpTo order (IsMissing sys dropped observer wanted given)) a.are_missing b.are_missing in
      let l : a.lines ≡ b.lines = lines_once a.missing b.missing a.lines b.lines e a.are_lines b.are_lines in
      a.is_text
      ∙ ap (λ (z : List Said). checked order cuts z a.lines a.missing) d
      ∙ ap (λ (z : List (List Label)). checked order cuts b.said z a.missing) l
      ∙ ap (λ (z : List (List ℕ)). checked order cuts b.said b.lines z) e
      ∙ sym b.is_text

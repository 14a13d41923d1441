-- The loops that build lists of operands.
use Rattle.std.proofs.Common.{◌≡◌, ℕ, suc, ◌+◌, ◌<◌, ◌≤◌, Bool, List, [], ◌∷◌, ◌++◌, length, get_or, Vec, Global, Result, refl, sym, ap, ◌∙◌, subst, add-one}
use Rattle.std.specs.Result.{IsErrAnd}
use Rattle.std.proofs.lemmas.List.{map-append}
use Rattle.ar_base.specs.Numbers.{VarId}
use Rattle.ar_base.proofs.Items.{none_left}
use Rattle.typed_expr.specs.declared.expr.Expr.{Expr, out-Expr}
use Rattle.eq_core.specs.Gates.{Gate}
use Rattle.eq_core.specs.ValuesInside.{GainsGates}
use Rattle.eq_core.specs.declared.joints.Gate as flat
use Rattle.eq_build.specs.Entries.{Entry, Built}
use Rattle.eq_build.specs.Builds.{Builds, Builds_each, Builds_parts, Builds_cases}
use Rattle.eq_build.specs.BuildsInside.{NeedsMore, most_gates}
use Rattle.eq_build.specs.Builds as b
use Rattle.eq_build.specs.Views.{entries_in, lists_in, signed_parts_in, cases_in, row_read, StopsBuilding}
use Rattle.eq_build.specs.Answers.{EntryLists, EachNeedsMore, PartsNeedMore, CasesNeedMore, AnswersEach, AnswersParts, AnswersCases}
use Rattle.eq_build.specs.declared.entries.BuildFault.{BuildFault}
use Rattle.eq_build.proofs.Growing.{longer_on, builds_more, operands_more, parts_more, cases_more}
use Rattle.eq_build.proofs.Same.{builds_same}
use Rattle.eq_build.proofs.Places.{item_next}
use Rattle.eq_build.proofs.Stopping.{stops_up, passed_on}
use Rattle.eq_build.proofs.Threading.{SoFar, Parted, one_further, operand_stops, all_built}

module _ (rows : List EntryLists) where
  abbrev read : VarId → List Entry
  read = row_read rows

  -- one operand
  abbrev OneBuilds : List Gate → Expr VarId → List Entry → List Gate → Type 0
  OneBuilds g e es h = Builds read g (out-Expr VarId e) (record { entries = es; gates = h })

  one_cons : (g h k : List Gate) (x : Expr VarId) (xs : List (Expr VarId)) (y : List Entry) (ys : List (List Entry))
      → OneBuilds g x y h → Builds_each read h xs ys k → Builds_each read g (x ∷ xs) (y ∷ ys) k
  one_cons g h k x xs y ys d ds = b.one_and d ds

  one_parted : (g k : List Gate) (x : Expr VarId) (xs : List (Expr VarId)) (ys : List (List Entry))
      → Builds_each read g (x ∷ xs) ys k → Parted OneBuilds (Builds_each read) g x xs k
  one_parted g k x xs ys (b.one_and {b = r} {ess = ess} d ds) =
      record { first = r.entries; gates = r.gates; builds = d; rest = ess; builds_rest = ds }

  one_same : (g h k : List Gate) (x : Expr VarId) (y z : List Entry) → OneBuilds g x y h → OneBuilds g x z k → h ≡ k
  one_same g h k x y z d c = ap (λ (w : Built). w.gates) (builds_same read refl d c)

  one_grows : (g k : List Gate) (xs : List (Expr VarId)) (ys : List (List Entry)) → Builds_each read g xs ys k
      → GainsGates g k
  one_grows g k xs ys d = operands_more d

  pub each_next : (g h k : List Gate) (es : List (Expr VarId)) (i : ℕ) (e : Expr VarId) (old new : List EntryLists)
      (v : EntryLists) → i < length es → e ≡ get_or es i e → OneBuilds h e (entries_in v.items) k → new ≡ old ++ v ∷ []
      → SoFar (Builds_each read) g es i (lists_in old) h → SoFar (Builds_each read) g es (i + 1) (lists_in new) k
  each_next g h k es i e old new v l at d is s =
      let S = Builds_each read in
      let next = one_further OneBuilds S one_cons one_parted one_same one_grows g h k es i e (entries_in v.items)
      (lists_in old) (item_next es i e l at) d s in
      let out = ap lists_in is ∙ map-append (λ (r : EntryLists). entries_in r.items) old (v ∷ []) in
      subst (λ (n : ℕ). SoFar S g es n (lists_in new) k) (sym (add-one i))
      (subst (λ (z : List (List Entry)). SoFar S g es (suc i) z k) (sym out) next)

  pub each_stops : (g h : List Gate) (es : List (Expr VarId)) (i : ℕ) (e : Expr VarId) (old : List EntryLists)
      (r : Result (Vec EntryLists Global) BuildFault) (x : BuildFault) (gates : List flat.Gate) → i < length es
      → e ≡ get_or es i e → SoFar (Builds_each read) g es i (lists_in old) h → IsErrAnd r (λ z. z ≡ x)
      → StopsBuilding x (NeedsMore read h (out-Expr VarId e)) → AnswersEach rows g es r gates
  each_stops g h es i e old r x gates l at s w f =
      let S = Builds_each read in
      passed_on (λ (xs : Vec EntryLists Global) (k : List Gate). S g es (lists_in xs.items) k) (EachNeedsMore read g es)
      r x gates w
      (stops_up x
      (λ n. operand_stops OneBuilds S one_cons one_parted one_same one_grows most_gates g h es i e (lists_in old)
      (item_next es i e l at) s (λ y k d. n (record { entries = y; gates = k }) d)) f)

  pub each_ends : (g h : List Gate) (es : List (Expr VarId)) (i : ℕ) (all : List EntryLists) → length es ≤ i
      → SoFar (Builds_each read) g es i (lists_in all) h → Builds_each read g es (lists_in all) h
  each_ends g h es i all l s =
      all_built (Builds_each read) (λ k. b.none) g h es i (lists_in all) (none_left es i l) s

  -- one part of a sum
  abbrev PartBuilds : List Gate → Bool × Expr VarId → Bool × List Entry → List Gate → Type 0
  PartBuilds g p q h = (p.0 ≡ q.0) × Builds read g (out-Expr VarId p.1) (record { entries = q.1; gates = h })

  part_cons : (g h k : List Gate) (x : Bool × Expr VarId) (xs : List (Bool × Expr VarId)) (y : Bool × List Entry)
      (ys : List (Bool × List Entry)) → PartBuilds g x y h → Builds_parts read h xs ys k
      → Builds_parts read g (x ∷ xs) (y ∷ ys) k
  part_cons g h k x xs y ys r ds =
      subst (λ (z : Bool). Builds_parts read g (x ∷ xs) ((z, y.1) ∷ ys) k) r.0 (b.part_and r.1 ds)

  part_parted : (g k : List Gate) (x : Bool × Expr VarId) (xs : List (Bool × Expr VarId))
      (ys : List (Bool × List Entry))
      → Builds_parts read g (x ∷ xs) ys k → Parted PartBuilds (Builds_parts read) g x xs k
  part_parted g k x xs ys (b.part_and {plus = plus} {b = r} {ess = ess} d ds) =
      record { first = (plus, r.entries); gates = r.gates; builds = (refl, d); rest = ess; builds_rest = ds }

  part_same : (g h k : List Gate) (x : Bool × Expr VarId) (y z : Bool × List Entry) → PartBuilds g x y h
      → PartBuilds g x z k → h ≡ k
  part_same g h k x y z d c = ap (λ (w : Built). w.gates) (builds_same read refl d.1 c.1)

  part_grows : (g k : List Gate) (xs : List (Bool × Expr VarId)) (ys : List (Bool × List Entry))
      → Builds_parts read g xs ys k → GainsGates g k
  part_grows g k xs ys d = parts_more d

  pub parts_next : (g h k : List Gate) (ps : List (Bool × Expr VarId)) (i : ℕ) (p : Bool × Expr VarId)
      (old new : List (Bool × EntryLists)) (v : EntryLists) → i < length ps → p ≡ get_or ps i p
      → Builds read h (out-Expr VarId p.1) (record { entries = entries_in v.items; gates = k })
      → new ≡ old ++ (p.0, v) ∷ [] → SoFar (Builds_parts read) g ps i (signed_parts_in old) h
      → SoFar (Builds_parts read) g ps (i + 1) (signed_parts_in new) k
  parts_next g h k ps i p old new v l at d is s =
      let S = Builds_parts read in
      let next = one_further PartBuilds S part_cons part_parted part_same part_grows g h k ps i p
      (p.0, entries_in v.items) (signed_parts_in old) (item_next ps i p l at) (refl, d) s in
      let out = ap signed_parts_in is ∙ map-append (λ (q : Bool × EntryLists). (q.0, entries_in q.1.items)) old ((p.0, v) ∷ []) in
      subst (λ (n : ℕ). SoFar S g ps n (signed_parts_in new) k) (sym (add-one i))
      (subst (λ (z : List (Bool × List Entry)). SoFar S g ps (suc i) z k) (sym out) next)

  pub parts_stop : (g h : List Gate) (ps : List (Bool × Expr VarId)) (i : ℕ) (p : Bool × Expr VarId)
      (old : List (Bool × EntryLists)) (r : Result (Vec (Bool × EntryLists) Global) BuildFault) (x : BuildFault)
      (gates : List flat.Gate) → i < length ps → p ≡ get_or ps i p → SoFar (Builds_parts read) g ps i (signed_parts_in old) h
      → IsErrAnd r (λ z. z ≡ x) → StopsBuilding x (NeedsMore read h (out-Expr VarId p.1)) → AnswersParts rows g ps r gates
  parts_stop g h ps i p old r x gates l at s w f =
      let S = Builds_parts read in
      passed_on (λ (xs : Vec (Bool × EntryLists) Global) (k : List Gate). S g ps (signed_parts_in xs.items) k)
      (PartsNeedMore read g ps) r x gates w
      (stops_up x
      (λ n. operand_stops PartBuilds S part_cons part_parted part_same part_grows most_gates g h ps i p (signed_parts_in old)
      (item_next ps i p l at) s (λ y k d. n (record { entries = y.1; gates = k }) d.1)) f)

  pub parts_end : (g h : List Gate) (ps : List (Bool × Expr VarId)) (i : ℕ) (all : List (Bool × EntryLists))
      → length ps ≤ i
      → SoFar (Builds_parts read) g ps i (signed_parts_in all) h → Builds_parts read g ps (signed_parts_in all) h
  parts_end g h ps i all l s =
      all_built (Builds_parts read) (λ k. b.no_part) g h ps i (signed_parts_in all) (none_left ps i l) s

  -- one case of a choice
  pub record CaseBuilds (g : List Gate) (c : Expr VarId × Expr VarId) (q : List Entry × List Entry) (h : List Gate)
      : Type 0 where
    pub gates : List Gate
    pub test : Builds read g (out-Expr VarId c.0) (record { entries = q.0; gates = gates })
    pub value : Builds read gates (out-Expr VarId c.1) (record { entries = q.1; gates = h })

  case_cons : (g h k : List Gate) (x : Expr VarId × Expr VarId) (xs : List (Expr VarId × Expr VarId))
      (y : List Entry × List Entry) (ys : List (List Entry × List Entry)) → CaseBuilds g x y h
      → Builds_cases read h xs ys k → Builds_cases read g (x ∷ xs) (y ∷ ys) k
  case_cons g h k x xs y ys r ds = b.case_and r.test r.value ds

  case_parted : (g k : List Gate) (x : Expr VarId × Expr VarId) (xs : List (Expr VarId × Expr VarId))
      (ys : List (List Entry × List Entry)) → Builds_cases read g (x ∷ xs) ys k
      → Parted CaseBuilds (Builds_cases read) g x xs k
  case_parted g k x xs ys (b.case_and {x = t} {y = v} {ess = ess} d e ds) = record {
    first = (t.entries, v.entries);
    gates = v.gates;
    builds = record { gates = t.gates; test = d; value = e };
    rest = ess;
    builds_rest = ds;
  }

  case_same : (g h k : List Gate) (x : Expr VarId × Expr VarId) (y z : List Entry × List Entry) → CaseBuilds g x y h
      → CaseBuilds g x z k → h ≡ k
  case_same g h k x y z d c =
      let tests = ap (λ (w : Built). w.gates) (builds_same read refl d.test c.test) in
      ap (λ (w : Built). w.gates) (builds_same read tests d.value c.value)

  case_grows : (g k : List Gate) (xs : List (Expr VarId × Expr VarId)) (ys : List (List Entry × List Entry))
      → Builds_cases read g xs ys k → GainsGates g k
  case_grows g k xs ys d = cases_more d

  pub cases_next : (g h m k : List Gate) (cs : List (Expr VarId × Expr VarId)) (i : ℕ) (c : Expr VarId × Expr VarId)
      (old new : List (EntryLists × EntryLists)) (t v : EntryLists) → i < length cs → c ≡ get_or cs i c
      → Builds read h (out-Expr VarId c.0) (record { entries = entries_in t.items; gates = m })
      → Builds read m (out-Expr VarId c.1) (record { entries = entries_in v.items; gates = k })
      → new ≡ old ++ (t, v) ∷ [] → SoFar (Builds_cases read) g cs i (cases_in old) h
      → SoFar (Builds_cases read) g cs (i + 1) (cases_in new) k
  cases_next g h m k cs i c old new t v l at d e is s =
      let S = Builds_cases read in
      let next = one_further CaseBuilds S case_cons case_parted case_same case_grows g h k cs i c
      (entries_in t.items, entries_in v.items) (cases_in old) (item_next cs i c l at)
      (record { gates = m; test = d; value = e }) s in
      let out = ap cases_in is
      ∙ map-append (λ (q : EntryLists × EntryLists). (entries_in q.0.items, entries_in q.1.items)) old ((t, v) ∷ []) in
      subst (λ (n : ℕ). SoFar S g cs n (cases_in new) k) (sym (add-one i))
      (subst (λ (z : List (List Entry × List Entry)). SoFar S g cs (suc i) z k) (sym out) next)

  case_stops : (g h : List Gate) (cs : List (Expr VarId × Expr VarId)) (i : ℕ) (c : Expr VarId × Expr VarId)
      (old : List (EntryLists × EntryLists)) (r : Result (Vec (EntryLists × EntryLists) Global) BuildFault) (x : BuildFault)
      (gates : List flat.Gate) → i < length cs → c ≡ get_or cs i c → SoFar (Builds_cases read) g cs i (cases_in old) h
      → IsErrAnd r (λ z. z ≡ x)
      → StopsBuilding x ((y : List Entry × List Entry) (k : List Gate) → CaseBuilds h c y k → most_gates < length k)
      → AnswersCases rows g cs r gates
  case_stops g h cs i c old r x gates l at s w f =
      let S = Builds_cases read in
      passed_on (λ (xs : Vec (EntryLists × EntryLists) Global) (k : List Gate). S g cs (cases_in xs.items) k)
      (CasesNeedMore read g cs) r x gates w
      (stops_up x
      (λ n. operand_stops CaseBuilds S case_cons case_parted case_same case_grows most_gates g h cs i c (cases_in old)
      (item_next cs i c l at) s n) f)

  pub test_stops : (g h : List Gate) (cs : List (Expr VarId × Expr VarId)) (i : ℕ) (c : Expr VarId × Expr VarId)
      (old : List (EntryLists × EntryLists)) (r : Result (Vec (EntryLists × EntryLists) Global) BuildFault) (x : BuildFault)
      (gates : List flat.Gate) → i < length cs → c ≡ get_or cs i c → SoFar (Builds_cases read) g cs i (cases_in old) h
      → IsErrAnd r (λ z. z ≡ x) → StopsBuilding x (NeedsMore read h (out-Expr VarId c.0)) → AnswersCases rows g cs r gates
  test_stops g h cs i c old r x gates l at s w f =
      case_stops g h cs i c old r x gates l at s w
      (stops_up x (λ n y k d. longer_on (builds_more d.value) (n (record { entries = y.0; gates = d.gates }) d.test)) f)

  pub value_stops : (g h m : List Gate) (cs : List (Expr VarId × Expr VarId)) (i : ℕ) (c : Expr VarId × Expr VarId)
      (old : List (EntryLists × EntryLists)) (t : EntryLists) (r : Result (Vec (EntryLists × EntryLists) Global) BuildFault)
      (x : BuildFault) (gates : List flat.Gate) → i < length cs → c ≡ get_or cs i c
      → SoFar (Builds_cases read) g cs i (cases_in old) h
      → Builds read h (out-Expr VarId c.0) (record { entries = entries_in t.items; gates = m })
      → IsErrAnd r (λ z. z ≡ x) → StopsBuilding x (NeedsMore read m (out-Expr VarId c.1)) → AnswersCases rows g cs r gates
  value_stops g h m cs i c old t r x gates l at s d w f =
      case_stops g h cs i c old r x gates l at s w
      (stops_up x
      (λ n y k e. subst (λ (z : Built). NeedsMore read z.gates (out-Expr VarId c.1)) (builds_same read refl d e.test) n
      (record { entries = y.1; gates = k }) e.value) f)

  pub cases_end : (g h : List Gate) (cs : List (Expr VarId × Expr VarId)) (i : ℕ) (all : List (EntryLists × EntryLists))
      → length cs ≤ i → SoFar (Builds_cases read) g cs i (cases_in all) h → Builds_cases read g cs (cases_in all) h
  cases_end g h cs i all l s =
      all_built (Builds_cases read) (λ k. b.no_case) g h cs i (cases_in all) (none_left cs i l) s

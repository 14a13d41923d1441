-- Each step has one outcome.
use Rattle.std.proofs.Common.{◌≡◌, ℕ, Bool, true, false, List, ◌∷◌, ◌++◌, refl, sym, ap, ◌∙◌, subst}
use Rattle.ar_base.proofs.Standing.{stands_one}
use Rattle.domains.specs.declared.Value.{Value}
use Rattle.domains.specs.declared.Value.TheVariants.{Truth}
use Rattle.typed_expr.specs.declared.expr.Expr.{Expr}
use Rattle.ar_meaning.specs.Systems.{Assign, Variable, Net}
use Rattle.ar_firing.specs.Forest.{ModeTree}
use Rattle.eq_core.specs.Gates.{Operand, Gate}
use Rattle.eq_build.specs.Entries.{Entry, Built, operand_for, entries_for, one_of_alls}
use Rattle.eq_build.proofs.Same.{builds_same}
use Rattle.eq_build.specs.Steps.{Reading, Threads, BuiltAssign, Builds_conditions, Builds_assign, Gives_target, RoundOf, Rounds, All_rounds, Sees_two, MayLeaveOf, AllMayLeave, Sees_outside, Totals_of, Sees_broken, Has_modes, given_terms, outside_terms, broken_terms, together, assigns_to, updated}
use Rattle.eq_build.specs.Steps as t

-- what comes out is the same, and so are the gates
abbrev pub AreOne : {B : Type 0} → B → B → List Gate → List Gate → Type 0
AreOne y z h k = (y ≡ z) × (h ≡ k)

module _ {A B : Type 0} (R : List Gate → A → B → List Gate → Type 0)
    (one : (g h k : List Gate) (x : A) (y z : B) → R g x y h → R g x z k → AreOne y z h k) where
  pub threads_one : {g h k : List Gate} {xs : List A} {ys zs : List B} → Threads R g xs ys h → Threads R g xs zs k
      → AreOne ys zs h k
  threads_one t.none t.none = (refl, refl)
  threads_one (t.one_and {g = g} {h = h} {a = x} {b = y} {xs = xs} {ys = ys} d ds)
      (t.one_and {h = k} {i = l} {b = z} {ys = zs} e es) =
      let s = one g h k x y z d e in
      let r = threads_one ds (subst (λ (w : List Gate). Threads R w xs zs l) (sym s.1) es) in (
        ap (λ w. w ∷ ys) s.0 ∙ ap (λ w. z ∷ w) r.0,
        r.1,
      )

module _ (read : Reading) where
  pub conditions_one : {g h k : List Gate} {cs : List (Expr ℕ × Bool)} {os ps : List Operand}
      → Builds_conditions read g cs os h → Builds_conditions read g cs ps k → AreOne os ps h k
  conditions_one t.no_condition t.no_condition = (refl, refl)
  conditions_one (t.condition_and {b = b} {cs = cs} {r = r} {os = os} d ds)
      (t.condition_and {h = k} {r = q} {os = ps} e es) =
      let s = builds_same read refl d e in
      let rest = conditions_one ds (subst (λ (w : Built). Builds_conditions read w.gates cs ps k) (sym s) es) in (
        ap (λ (w : Built). operand_for w.entries (Truth b) ∷ os) s
            ∙ ap (λ w. operand_for q.entries (Truth b) ∷ w) rest.0,
        rest.1,
      )

  pub assign_one : {g : List Gate} {a : Assign ℕ} {r q : BuiltAssign} → Builds_assign read g a r
      → Builds_assign read g a q → r ≡ q
  assign_one (t.builds {h = h} {a = a} {os = os} {r = r} d ds) (t.builds {h = k} {os = ps} {r = q} e es) =
      let s = conditions_one d e in
      let b : r ≡ q = builds_same read s.1 ds es in
      ap (λ (w : List Operand). whole w r) s.0 ∙ ap (λ (w : Built). whole ps w) b
    where
      whole : List Operand → Built → BuiltAssign
      whole os r = record { conditions = os; entries = r.entries; gates = r.gates }

  pub given_one : (domain : List Value) (g h k : List Gate) (a : Assign ℕ) (y z : List Entry)
      → Gives_target read domain g a y h → Gives_target read domain g a z k → AreOne y z h k
  given_one domain g h k a y z (t.gives d) (t.gives e) =
      let s = assign_one d e in (
        ap (λ (w : BuiltAssign). (entries_for w.gates (given_terms domain w.conditions w.entries)).entries) s,
        ap (λ (w : BuiltAssign). (entries_for w.gates (given_terms domain w.conditions w.entries)).gates) s,
      )

  pub round_one : (net : Net ℕ) (g h k : List Gate) (n : ℕ) (y z : List Entry) → RoundOf net read g n y h
      → RoundOf net read g n z k → AreOne y z h k
  round_one net g h k n y z (t.round_of {h = i} {x = x} {ess = ess} st d)
      (t.round_of {h = j} {x = w} {ess = fss} su e) =
      let same = stands_one net.variables n x w st su in
      let s = threads_one (Gives_target read x.domain) (given_one x.domain) d
      (subst (λ (v : Variable ℕ). Threads (Gives_target read v.domain) g (assigns_to n net.assertions) fss j)
      (sym same) e) in (
        ap (λ v. (entries_for i (together v)).entries) s.0 ∙ ap (λ v. (entries_for v (together fss)).entries) s.1,
        ap (λ v. (entries_for i (together v)).gates) s.0 ∙ ap (λ v. (entries_for v (together fss)).gates) s.1,
      )

  two_same : {g : List Gate} {n : ℕ} {y z : Operand} {h k : List Gate} → Sees_two read g n y h → Sees_two read g n z k
      → AreOne y z h k
  two_same t.sees_two t.sees_two = (refl, refl)

  pub two_one : (g h k : List Gate) (n : ℕ) (y z : Operand) → Sees_two read g n y h → Sees_two read g n z k
      → AreOne y z h k
  two_one g h k n y z d e = two_same d e

  pub out_one : (g h k : List Gate) (p : Variable ℕ × Assign ℕ) (y z : Operand) → Sees_outside read g p y h
      → Sees_outside read g p z k → AreOne y z h k
  out_one g h k p y z (t.sees_outside {x = x} d) (t.sees_outside e) =
      let s = assign_one d e in (
        ap (λ (w : BuiltAssign). (one_of_alls w.gates (outside_terms x.domain w.conditions w.entries)).operand) s,
        ap (λ (w : BuiltAssign). (one_of_alls w.gates (outside_terms x.domain w.conditions w.entries)).gates) s,
      )

  total_same : {g : List Gate} {p : ℕ × Variable ℕ} {y z : List Entry} {h k : List Gate} → Totals_of read g p y h
      → Totals_of read g p z k → AreOne y z h k
  total_same t.total t.total = (refl, refl)

  pub total_one : (g h k : List Gate) (p : ℕ × Variable ℕ) (y z : List Entry) → Totals_of read g p y h
      → Totals_of read g p z k → AreOne y z h k
  total_one g h k p y z d e = total_same d e

  broken_same : {g : List Gate} {a : Assign ℕ} {y z : Operand} {h k : List Gate} → Sees_broken read g a y h
      → Sees_broken read g a z k → AreOne y z h k
  broken_same (t.sees_broken {a = a} d) (t.sees_broken e) =
      let s = assign_one d e in (
        ap (λ (w : BuiltAssign). (one_of_alls w.gates
            (broken_terms w.conditions w.entries (read a.target))).operand) s,
        ap (λ (w : BuiltAssign). (one_of_alls w.gates (broken_terms w.conditions w.entries (read a.target))).gates) s,
      )

  pub broken_one : (g h k : List Gate) (a : Assign ℕ) (y z : Operand) → Sees_broken read g a y h
      → Sees_broken read g a z k → AreOne y z h k
  broken_one g h k a y z d e = broken_same d e

modes_same : {g : List Gate} {tree : ModeTree} {y z : List Entry} {h k : List Gate} → Has_modes g tree y h
    → Has_modes g tree z k → AreOne y z h k
modes_same t.modes t.modes = (refl, refl)

pub modes_one : (g h k : List Gate) (tree : ModeTree) (y z : List Entry) → Has_modes g tree y h → Has_modes g tree z k
    → AreOne y z h k
modes_one g h k tree y z d e = modes_same d e

module _ (net : Net ℕ) (block : List ℕ) where
  pub rounds_one : {k : ℕ} {g h i : List Gate} {read last end : Reading} → Rounds net block k g read last h
      → Rounds net block k g read end i → AreOne last end h i
  rounds_one t.no_round t.no_round = (refl, refl)
  rounds_one (t.round_and {k = k} {g = g} {h = h} {read = read} {rows = rows} d ds)
      (t.round_and {h = j} {i = i} {last = end} {rows = others} e es) =
      let s = threads_one (RoundOf net read) (round_one read net) d e in
      rounds_one ds (subst (λ (w : List Gate). Rounds net block k w (updated read block rows) end i) (sym s.1)
      (subst (λ (w : List (List Entry)). Rounds net block k j (updated read block w) end i) (sym s.0) es))

pub all_rounds_one : (net : Net ℕ) {blocks : List (List ℕ)} {g h i : List Gate} {read last end : Reading}
    → All_rounds net blocks g read last h → All_rounds net blocks g read end i → AreOne last end h i
all_rounds_one net t.no_block t.no_block = (refl, refl)
all_rounds_one net (t.block_and {block = block} {blocks = blocks} {mid = first} d ds)
    (t.block_and {h = j} {i = i} {mid = mid} {last = end} e es) =
    let s = rounds_one net block d e in
    all_rounds_one net ds (subst (λ (w : List Gate). All_rounds net blocks w first end i) (sym s.1)
    (subst (λ (w : Reading). All_rounds net blocks j w end i) (sym s.0) es))

module _ (net : Net ℕ) where
  of_one : (x : Variable ℕ) {as_ : List (Assign ℕ)} {ys zs : List (Variable ℕ × Assign ℕ)} → MayLeaveOf net x as_ ys
      → MayLeaveOf net x as_ zs → ys ≡ zs
  of_one x t.no_assign t.no_assign = refl
  of_one x (t.may {a = a} d ds) (t.may e es) = ap (λ w. (x, a) ∷ w) (of_one x ds es)
  of_one x (t.may d ds) (t.may_not e es) = absurd (e d)
  of_one x (t.may_not d ds) (t.may e es) = absurd (d e)
  of_one x (t.may_not d ds) (t.may_not e es) = of_one x ds es

  pub leaving_one : {n : ℕ} {xs : List (Variable ℕ)} {ys zs : List (Variable ℕ × Assign ℕ)} → AllMayLeave net n xs ys
      → AllMayLeave net n xs zs → ys ≡ zs
  leaving_one t.no_variable t.no_variable = refl
  leaving_one (t.state_and d ds) (t.state_and e es) = leaving_one ds es
  leaving_one (t.state_and d ds) (t.flow_and e f es) = absurd (differ (sym d ∙ e))
    where
      differ : true ≡ false → ⊥
      differ h = absurd (cc h)
  leaving_one (t.flow_and d f ds) (t.state_and e es) = absurd (differ (sym e ∙ d))
    where
      differ : true ≡ false → ⊥
      differ h = absurd (cc h)
  leaving_one (t.flow_and {x = x} {ys = ys} {zs = zs} d f ds) (t.flow_and {ys = vs} {zs = ws} e k es) =
      ap (λ w. w ++ zs) (of_one x f k) ∙ ap (λ w. vs ++ w) (leaving_one ds es)

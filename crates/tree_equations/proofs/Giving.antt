-- From what is computed to what a step gives.
use Rattle.std.proofs.Common.{◌≡◌, ℕ, suc, zero, ◌<◌, ◌≤◌, Bool, List, ◌∷◌, length, get_or, drop, Result, Ok, Err, IfOk, IfErr, OnOk, refl, sym, ap, ◌∙◌, subst, arith}
use Rattle.std.specs.Result.{IsErrAnd}
use Rattle.ar_base.specs.Lists.{Along}
use Rattle.ar_base.specs.Lists as l
use Rattle.ar_base.specs.Numbers.{VarId}
use Rattle.domains.specs.declared.Value.TheVariants.{Truth}
use Rattle.typed_expr.specs.PairsInside.{turned_pairs}
use Rattle.typed_expr.proofs.Renaming.{renames_turned}
use Rattle.typed_expr.specs.declared.expr.Expr.{Expr, out-Expr}
use Rattle.ar_meaning.specs.Systems.{Assign}
use Rattle.eq_core.specs.Gates.{Operand, Gate, Made}
use Rattle.eq_core.specs.ValuesInside.{GainsGates}
use Rattle.eq_core.specs.Views.{operand_of}
use Rattle.eq_core.specs.declared.joints.Operand as sign
use Rattle.eq_core.specs.declared.joints.Gate as flat
use Rattle.eq_build.specs.Entries.{Entry, Built, operand_for}
use Rattle.eq_build.specs.Builds.{Builds}
use Rattle.eq_build.specs.BuildsInside.{NeedsMore, most_gates}
use Rattle.eq_build.specs.Views.{row_read, row_at, built_of, StopsBuilding, MakesEntries, MakesOperand}
use Rattle.eq_build.specs.declared.entries.BuildFault.{BuildFault}
use Rattle.eq_build.proofs.Growing.{builds_more}
use Rattle.eq_build.proofs.Renaming.{builds_renamed}
use Rattle.eq_build.proofs.Same.{builds_same}
use Rattle.eq_build.proofs.Stopping.{stops_up, passed_on}
use Rattle.gts_core.specs.View.{numbered}
use Rattle.gts_core.proofs.Numbering.{IsNumber, renames_numbered}
use Rattle.eq_build.specs.Steps.{Reading, Threads, BuiltAssign, Builds_conditions, Builds_assign}
use Rattle.eq_build.specs.Steps as t
use Rattle.tree_equations.specs.Answers.{TooMany, Gives, GivesOperand, GivesBuilt, Entries, row_in}
use Rattle.tree_equations.proofs.Determined.{AreOne}

-- entries that are computed, where the step has one outcome
pub entries_give : (b : Built) (S : List Entry → List Gate → Type 0) (r : Result Entries BuildFault)
    (gates : List flat.Gate) → S b.entries b.gates → ((y : List Entry) (k : List Gate) → S y k → b.gates ≡ k)
    → MakesEntries b r gates → Gives row_in S r gates
entries_give b S (Ok xs) gates d one m = (subst (λ (z : Built). S z.entries z.gates) m.0 d, m.1)
entries_give b S (Err f) gates d one m =
    stops_up f (λ l y k s. subst (λ (z : List Gate). most_gates < length z) (one y k s) l) m

-- the same for an operand
pub operand_gives : (m : Made) (S : Operand → List Gate → Type 0) (r : Result sign.Operand BuildFault)
    (gates : List flat.Gate) → S m.operand m.gates → ((y : Operand) (k : List Gate) → S y k → m.gates ≡ k)
    → MakesOperand m r gates → GivesOperand S r gates
operand_gives m S (Ok o) gates d one h = (subst (λ (z : Made). S z.operand z.gates) h.0 d, h.1)
operand_gives m S (Err f) gates d one h =
    stops_up f (λ l y k s. subst (λ (z : List Gate). most_gates < length z) (one y k s) l) h

-- a fault that is passed on
pub gives_on : {A B : Type 0} (view : A → B) (S : B → List Gate → Type 0) (N : Type 0) (r : Result A BuildFault)
    (f : BuildFault) (gates : List flat.Gate) → (N → TooMany S) → IsErrAnd r (λ z. z ≡ f) → StopsBuilding f N
    → Gives view S r gates
gives_on view S N r f gates up w s = passed_on (λ a h. S (view a) h) (TooMany S) r f gates w (stops_up f up s)

-- what is given, in another form
pub gives_as : {A B D : Type 0} (view : A → B) (other : A → D) (S : B → List Gate → Type 0)
    (T : D → List Gate → Type 0) (r : Result A BuildFault) (gates : List flat.Gate)
    → ((a : A) (h : List Gate) → S (view a) h → T (other a) h)
    → ((d : D) (h : List Gate) → T d h → (b : B) × S b h) → Gives view S r gates → Gives other T r gates
gives_as view other S T (Ok a) gates on back m = (on a _ m.0, m.1)
gives_as view other S T (Err f) gates on back m =
    stops_up f (λ n d h s. let p = back d h s in n p.0 h p.1) m

-- what is built over numbers of variables is built over plain numbers
module _ (rows : List Entries) (e : Expr VarId) where
  built_there : (g : List Gate) (b : Built) → Builds (row_read rows) g (out-Expr VarId e) b
      → Builds (row_at rows) g (out-Expr ℕ (numbered e)) b
  built_there g b d =
      builds_renamed IsNumber (row_read rows) (row_at rows) (λ x n i. ap (row_at rows) i) (renames_numbered e) d

  built_back : (g : List Gate) (b : Built) → Builds (row_at rows) g (out-Expr ℕ (numbered e)) b
      → Builds (row_read rows) g (out-Expr VarId e) b
  built_back g b d =
      builds_renamed (turned_pairs IsNumber) (row_at rows) (row_read rows) (λ n x i. sym (ap (row_at rows) i))
      (renames_turned IsNumber (renames_numbered e)) d

  pub built_gives : (g : List Gate) (r : Result Entries BuildFault) (gates : List flat.Gate)
      → IfOk r (λ (xs : Entries). Builds (row_read rows) g (out-Expr VarId e) (built_of xs.items gates))
      → OnOk r (length gates ≤ most_gates)
      → IfErr r (λ f. StopsBuilding f (NeedsMore (row_read rows) g (out-Expr VarId e)))
      → GivesBuilt (row_at rows) g (numbered e) r gates
  built_gives g (Ok xs) gates d few n = (built_there g _ d, few)
  built_gives g (Err f) gates d few n =
      stops_up f (λ m es h s. m (record { entries = es; gates = h }) (built_back g _ s)) n

-- a condition's operand
pub record Tests (read : Reading) (g : List Gate) (c : Expr ℕ × Bool) (o : Operand) (h : List Gate) : Type 0 where
  pub entries : List Entry
  pub builds : Builds read g (out-Expr ℕ c.0) (record { entries = entries; gates = h })
  pub is : operand_for entries (Truth c.1) ≡ o

module _ (read : Reading) where
  pub tests_one : (g h k : List Gate) (c : Expr ℕ × Bool) (y z : Operand) → Tests read g c y h → Tests read g c z k
      → AreOne y z h k
  tests_one g h k c y z d e =
      let s = builds_same read refl d.builds e.builds in (
        sym d.is ∙ ap (λ (w : Built). operand_for w.entries (Truth c.1)) s ∙ e.is,
        ap (λ (w : Built). w.gates) s,
      )

  pub tests_more : (g h : List Gate) (c : Expr ℕ × Bool) (y : Operand) → Tests read g c y h → GainsGates g h
  tests_more g h c y d = builds_more d.builds

  pub tests_on : {g h : List Gate} {cs : List (Expr ℕ × Bool)} {os : List Operand} → Threads (Tests read) g cs os h
      → Builds_conditions read g cs os h
  tests_on t.none = t.no_condition
  tests_on (t.one_and {g = g} {i = i} {a = c} {b = o} {xs = cs} {ys = os} d ds) =
      subst (λ (z : Operand). Builds_conditions read g (c ∷ cs) (z ∷ os) i) d.is
      (t.condition_and {e = c.0} {b = c.1} d.builds (tests_on ds))

  pub tests_back : {g h : List Gate} {cs : List (Expr ℕ × Bool)} {os : List Operand}
      → Builds_conditions read g cs os h → Threads (Tests read) g cs os h
  tests_back t.no_condition = t.none
  tests_back (t.condition_and {r = r} d ds) =
      t.one_and (record { entries = r.entries; builds = d; is = refl }) (tests_back ds)

-- an assignment's conditions and its expression
pub record AssignParts (read : Reading) (g : List Gate) (a : Assign ℕ) (q : BuiltAssign) : Type 0 where
  pub operands : List Operand
  pub gates : List Gate
  pub conditions : Builds_conditions read g a.conditions operands gates
  pub built : Built
  pub value : Builds read gates (out-Expr ℕ a.value) built
  pub is : q ≡ record { conditions = operands; entries = built.entries; gates = built.gates }

pub assign_parts : (read : Reading) (g : List Gate) (a : Assign ℕ) (q : BuiltAssign) → Builds_assign read g a q
    → AssignParts read g a q
assign_parts read g a q (t.builds {h = h} {os = os} {r = r} d ds) =
    record { operands = os; gates = h; conditions = d; built = r; value = ds; is = refl }

-- what stands at a place of the first list has what stands there in the second
pub along_at : {A B : Type 0} {R : A → B → Type 0} {xs : List A} {ys : List B} → Along R xs ys → (i : ℕ) (x : A)
    → i < length xs → x ≡ get_or xs i x → (y : B) × R x y × (drop i ys ≡ y ∷ drop (suc i) ys)
along_at l.none i x h e = absurd (omega (arith, h))
along_at {R = R} (l.one_and {b = b} r a) zero x h e = (b, subst (λ w. R w b) (sym e) r, refl)
along_at (l.one_and r a) (suc i) x h e = along_at a i x (omega (arith, h)) e

-- the second list ends where the first does
pub along_end : {A B : Type 0} {R : A → B → Type 0} {xs : List A} {ys : List B} → Along R xs ys → (i : ℕ)
    → length xs ≤ i → length ys ≤ i
along_end l.none i h = h
along_end (l.one_and r a) zero h = absurd (omega (arith, h))
along_end (l.one_and r a) (suc i) h = let w = along_end a i (omega (arith, h)) in omega (arith, w)

-- an operand that is computed, with what else the step gives
pub both_give : {A : Type 0} (a : A) (m : Made) (S : A × Operand → List Gate → Type 0)
    (r : Result sign.Operand BuildFault) (gates : List flat.Gate) → S (a, m.operand) m.gates
    → ((y : A × Operand) (k : List Gate) → S y k → m.gates ≡ k) → MakesOperand m r gates
    → Gives (λ o. (a, operand_of o)) S r gates
both_give a m S (Ok o) gates d one h = (subst (λ (z : Made). S (a, z.operand) z.gates) h.0 d, h.1)
both_give a m S (Err f) gates d one h =
    stops_up f (λ l y k s. subst (λ (z : List Gate). most_gates < length z) (one y k s) l) h

-- Each step only adds gates.
use Rattle.std.proofs.Common.{◌≡◌, ℕ, ◌<◌, Bool, true, List, [], ◌∷◌, ◌++◌, length, sym, subst}
use Rattle.domains.specs.declared.Value.{Value}
use Rattle.typed_expr.specs.declared.expr.Expr.{Expr}
use Rattle.ar_meaning.specs.Systems.{Assign, Variable, Net}
use Rattle.ar_firing.specs.Forest.{Row, ModeTree}
use Rattle.eq_core.specs.Gates.{Operand, EventIs, Gate, all_of}
use Rattle.eq_core.specs.ValuesInside.{GainsGates}
use Rattle.eq_core.proofs.Telling.{grows_self, grows_on, all_more}
use Rattle.eq_build.specs.Entries.{Entry}
use Rattle.eq_build.proofs.Growing.{longer_on, builds_more, terms_more, one_more}
use Rattle.eq_build.specs.Steps.{Reading, Threads, BuiltAssign, Builds_conditions, Builds_assign, Gives_target, RoundOf, Rounds, All_rounds, Sees_two, Sees_outside, Totals_of, Sees_broken, Has_modes, given_terms, outside_terms, broken_terms, together, pairs_in, opposites, as_terms, entered, not_left}
use Rattle.eq_build.specs.Steps as t

module _ {A B : Type 0} (R : List Gate → A → B → List Gate → Type 0)
    (more : (g h : List Gate) (x : A) (y : B) → R g x y h → GainsGates g h) where
  pub threads_more : {g h : List Gate} {xs : List A} {ys : List B} → Threads R g xs ys h → GainsGates g h
  threads_more (t.none {g = g}) = grows_self g
  threads_more (t.one_and {g = g} {h = h} {a = x} {b = y} d ds) = grows_on (more g h x y d) (threads_more ds)

module _ (read : Reading) where
  pub conditions_more : {g h : List Gate} {cs : List (Expr ℕ × Bool)} {os : List Operand}
      → Builds_conditions read g cs os h → GainsGates g h
  conditions_more (t.no_condition {g = g}) = grows_self g
  conditions_more (t.condition_and d ds) = grows_on (builds_more d) (conditions_more ds)

  pub assign_more : {g : List Gate} {a : Assign ℕ} {r : BuiltAssign} → Builds_assign read g a r → GainsGates g r.gates
  assign_more (t.builds d ds) = grows_on (conditions_more d) (builds_more ds)

  pub given_more : (domain : List Value) (g h : List Gate) (a : Assign ℕ) (y : List Entry)
      → Gives_target read domain g a y h → GainsGates g h
  given_more domain g h a y (t.gives {r = r} d) =
      grows_on (assign_more d) (terms_more r.gates (given_terms domain r.conditions r.entries))

  pub round_more : (net : Net ℕ) (g h : List Gate) (n : ℕ) (y : List Entry) → RoundOf net read g n y h → GainsGates g h
  round_more net g h n y (t.round_of {h = i} {x = x} {ess = ess} st d) =
      grows_on (threads_more (Gives_target read x.domain) (given_more x.domain) d) (terms_more i (together ess))

  two_grows : {g : List Gate} {n : ℕ} {y : Operand} {h : List Gate} → Sees_two read g n y h → GainsGates g h
  two_grows (t.sees_two {g = g} {n = n}) = one_more g (pairs_in (read n))

  pub two_more : (g h : List Gate) (n : ℕ) (y : Operand) → Sees_two read g n y h → GainsGates g h
  two_more g h n y d = two_grows d

  pub out_more : (g h : List Gate) (p : Variable ℕ × Assign ℕ) (y : Operand) → Sees_outside read g p y h → GainsGates g h
  out_more g h p y (t.sees_outside {x = x} {r = r} d) =
      grows_on (assign_more d) (one_more r.gates (outside_terms x.domain r.conditions r.entries))

  total_grows : {g : List Gate} {p : ℕ × Variable ℕ} {y : List Entry} {h : List Gate} → Totals_of read g p y h
      → GainsGates g h
  total_grows (t.total {g = g} {n = n} {x = x}) =
      let m = all_of g (opposites (read n)) in
      grows_on (all_more g (opposites (read n))) (terms_more m.gates
      (as_terms (read n) ++ record { value = x.value; operands = m.operand ∷ [] } ∷ []))

  pub total_more : (g h : List Gate) (p : ℕ × Variable ℕ) (y : List Entry) → Totals_of read g p y h → GainsGates g h
  total_more g h p y d = total_grows d

  broken_grows : {g : List Gate} {a : Assign ℕ} {y : Operand} {h : List Gate} → Sees_broken read g a y h → GainsGates g h
  broken_grows (t.sees_broken {a = a} {r = r} d) =
      grows_on (assign_more d) (one_more r.gates (broken_terms r.conditions r.entries (read a.target)))

  pub broken_more : (g h : List Gate) (a : Assign ℕ) (y : Operand) → Sees_broken read g a y h → GainsGates g h
  broken_more g h a y d = broken_grows d

pub entered_more : (all rest : List Row) (g : List Gate) → GainsGates g (entered all rest g).gates
entered_more all [] g = grows_self g
entered_more all (r ∷ rs) g =
    let os = EventIs r.label.event true ∷ not_left r.to all in
    grows_on (all_more g os) (entered_more all rs (all_of g os).gates)

modes_grow : {g : List Gate} {tree : ModeTree} {y : List Entry} {h : List Gate} → Has_modes g tree y h → GainsGates g h
modes_grow (t.modes {g = g} {t = tree}) =
    let os = not_left tree.first tree.edges in
    grows_on (all_more g os) (entered_more tree.edges tree.edges (all_of g os).gates)

pub modes_more : (g h : List Gate) (tree : ModeTree) (y : List Entry) → Has_modes g tree y h → GainsGates g h
modes_more g h tree y d = modes_grow d

module _ (net : Net ℕ) (block : List ℕ) where
  pub rounds_more : {k : ℕ} {g h : List Gate} {read last : Reading} → Rounds net block k g read last h → GainsGates g h
  rounds_more (t.no_round {g = g}) = grows_self g
  rounds_more (t.round_and {read = read} d ds) =
      grows_on (threads_more (RoundOf net read) (round_more read net) d) (rounds_more ds)

pub all_rounds_more : (net : Net ℕ) {blocks : List (List ℕ)} {g h : List Gate} {read last : Reading}
    → All_rounds net blocks g read last h → GainsGates g h
all_rounds_more net (t.no_block {g = g}) = grows_self g
all_rounds_more net (t.block_and {block = block} d ds) = grows_on (rounds_more net block d) (all_rounds_more net ds)

-- too many gates for the mode that an edge enters are too many for all modes
pub edge_stops : (n : ℕ) (all : List Row) (r : Row) (rest : List Row) (h : List Gate) (gates : List Gate)
    → gates ≡ (entered all (r ∷ rest) h).gates
    → n < length (all_of h (EventIs r.label.event true ∷ not_left r.to all)).gates → n < length gates
edge_stops n all r rest h gates e l =
    let m = all_of h (EventIs r.label.event true ∷ not_left r.to all) in
    subst (λ z. n < length z) (sym e) (longer_on (entered_more all rest m.gates) l)

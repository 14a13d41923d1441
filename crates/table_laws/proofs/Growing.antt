-- Each step of the table only adds gates.
use Rattle.std.proofs.Common.{◌≡◌, ℕ, Bool, List, [], ◌∷◌, ◌++◌, subst}
use Rattle.domains.specs.declared.Value.{Value}
use Rattle.typed_expr.specs.declared.expr.Expr.{Expr}
use Rattle.ar_meaning.specs.Systems.{Assign, Variable, Net}
use Rattle.ar_firing.specs.Forest.{ModeTree}
use Rattle.eq_core.specs.Gates.{Operand, Gate, Made, Table, all_of, any_of}
use Rattle.eq_core.specs.ValuesInside.{GainsGates}
use Rattle.eq_core.proofs.Telling.{grows_self, grows_on, all_more, any_more}
use Rattle.eq_build.specs.Entries.{Entry}
use Rattle.eq_build.proofs.Growing.{one_more, terms_more, builds_more}
use Rattle.eq_build.specs.Steps.{Reading, Threads, as_terms, BuiltAssign, Builds_conditions, Builds_assign, builds, given_terms, Gives_target, gives, together, RoundOf, round_of, Rounds, no_round, round_and, All_rounds, no_block, block_and, pairs_in, Sees_two, sees_two, outside_terms, Sees_outside, sees_outside, opposites, Totals_of, total, broken_terms, Sees_broken, sees_broken}
use Rattle.eq_build.specs.Steps as w
use Rattle.eq_build.specs.Table.{IsTable}

module _ {A B : Type 0} (R : List Gate → A → B → List Gate → Type 0)
    (each : (g h : List Gate) (a : A) (b : B) → R g a b h → GainsGates g h) where
  pub threads_more : {g h : List Gate} {xs : List A} {ys : List B} → Threads R g xs ys h → GainsGates g h
  threads_more (w.none {g = g}) = grows_self g
  threads_more (w.one_and {g = g} {h = h} {a = a} {b = b} c d) = grows_on (each g h a b c) (threads_more d)

module _ {read : Reading} where
  pub conditions_more : {g h : List Gate} {cs : List (Expr ℕ × Bool)} {os : List Operand}
      → Builds_conditions read g cs os h → GainsGates g h
  conditions_more (w.no_condition {g = g}) = grows_self g
  conditions_more (w.condition_and c d) = grows_on (builds_more c) (conditions_more d)

  pub assign_more : {g : List Gate} {a : Assign ℕ} {r : BuiltAssign} → Builds_assign read g a r → GainsGates g r.gates
  assign_more (builds c d) = grows_on (conditions_more c) (builds_more d)

  pub gives_more : (domain : List Value) (g h : List Gate) (a : Assign ℕ) (es : List Entry)
      → Gives_target read domain g a es h → GainsGates g h
  gives_more domain g h a es (gives {r = r} c) =
      grows_on (assign_more c) (terms_more r.gates (given_terms domain r.conditions r.entries))

  pub round_more : (net : Net ℕ) (g h : List Gate) (n : ℕ) (es : List Entry) → RoundOf net read g n es h → GainsGates g h
  round_more net g h n es (round_of {h = i} {x = x} {ess = ess} s c) =
      grows_on (threads_more (Gives_target read x.domain) (gives_more x.domain) c) (terms_more i (together ess))

pub rounds_more : {net : Net ℕ} {block : List ℕ} {k : ℕ} {g h : List Gate} {read last : Reading}
    → Rounds net block k g read last h → GainsGates g h
rounds_more (no_round {g = g}) = grows_self g
rounds_more {net = net} (round_and {read = read} c d) =
    grows_on (threads_more (RoundOf net read) (round_more net) c) (rounds_more d)

pub all_rounds_more : {net : Net ℕ} {blocks : List (List ℕ)} {g h : List Gate} {read last : Reading}
    → All_rounds net blocks g read last h → GainsGates g h
all_rounds_more (no_block {g = g}) = grows_self g
all_rounds_more (block_and c d) = grows_on (rounds_more c) (all_rounds_more d)

pub two_more : (read : Reading) (g h : List Gate) (n : ℕ) (o : Operand) → Sees_two read g n o h → GainsGates g h
two_more read g h n o sees_two = one_more g (pairs_in (read n))

pub outside_more : (read : Reading) (g h : List Gate) (x : Variable ℕ × Assign ℕ) (o : Operand)
    → Sees_outside read g x o h → GainsGates g h
outside_more read g h x o (sees_outside {x = y} {r = r} c) =
    grows_on (assign_more c) (one_more r.gates (outside_terms y.domain r.conditions r.entries))

pub broken_more : (read : Reading) (g h : List Gate) (a : Assign ℕ) (o : Operand) → Sees_broken read g a o h
    → GainsGates g h
broken_more read g h a o (sees_broken {a = b} {r = r} c) =
    grows_on (assign_more c) (one_more r.gates (broken_terms r.conditions r.entries (read b.target)))

pub totals_more : (read : Reading) (g h : List Gate) (x : ℕ × Variable ℕ) (es : List Entry) → Totals_of read g x es h
    → GainsGates g h
totals_more read g h x es (total {g = g0} {n = n} {x = y}) =
    let m = all_of g0 (opposites (read n)) in
    grows_on (all_more g0 (opposites (read n)))
    (terms_more m.gates (as_terms (read n) ++ record { value = y.value; operands = m.operand ∷ [] } ∷ []))

-- the gates of the table, from step to step
module _ {net : Net ℕ} {trees : List ModeTree} {observer : Expr ℕ} {wanted : Value} {table : Table}
    (steps : IsTable net trees observer wanted table) where
  -- the conflict's operand and the gates after it
  pub joint_is : any_of steps.after_broken (steps.twos ++ (steps.outs ++ steps.broken))
      ≡ record { operand = table.conflict; gates = steps.after_conflict }
  joint_is = steps.conflict

  pub up_seen : GainsGates steps.after_conflict steps.seen.gates
  up_seen = builds_more steps.observed

  pub up_conflict : GainsGates steps.after_broken steps.after_conflict
  up_conflict =
      subst (λ (z : Made). GainsGates steps.after_broken z.gates) joint_is
      (any_more steps.after_broken (steps.twos ++ (steps.outs ++ steps.broken)))

  pub up_totals : GainsGates steps.after_totals steps.after_broken
  up_totals = threads_more (Sees_broken steps.total) (broken_more steps.total) steps.sees_broken

  pub up_outs : GainsGates steps.after_outs steps.after_totals
  up_outs = threads_more (Totals_of steps.known) (totals_more steps.known) steps.has_totals

  pub up_twos : GainsGates steps.after_twos steps.after_outs
  up_twos = threads_more (Sees_outside steps.known) (outside_more steps.known) steps.sees_outs

  pub up_rounds : GainsGates steps.after_rounds steps.after_twos
  up_rounds = threads_more (Sees_two steps.known) (two_more steps.known) steps.sees_twos

  pub rounds_to_seen : GainsGates steps.after_rounds steps.seen.gates
  rounds_to_seen =
      grows_on up_rounds
      (grows_on up_twos (grows_on up_outs (grows_on up_totals (grows_on up_conflict up_seen))))

  pub modes_to_seen : GainsGates steps.after_modes steps.seen.gates
  modes_to_seen = grows_on (all_rounds_more steps.has_rounds) rounds_to_seen

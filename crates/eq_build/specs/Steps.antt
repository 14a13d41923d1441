-- The steps of the gate table of a static system. Variables stand for themselves by their numbers.
use Rattle.std.specs.Prelude.{◌≡◌, ℕ, zero, suc, ◌+◌, Bool, true, false, if◌then◌else◌, nat_eq, List, [], ◌∷◌, ◌++◌, map, length, Contains}
use Rattle.ar_base.specs.Lists.{Stands, Along}
use Rattle.domains.specs.Same.{is_same, has_value}
use Rattle.domains.specs.declared.Value.{Value}
use Rattle.domains.specs.declared.Value.TheVariants.{Truth}
use Rattle.typed_expr.specs.Yields.{Yields}
use Rattle.typed_expr.specs.declared.expr.Expr.{Expr, out-Expr}
use Rattle.ar_meaning.specs.Systems.{Assign, Variable, Net}
use Rattle.ar_meaning.specs.Facts.{Allows}
use Rattle.ar_meaning.specs.Dependence.{AreUses, IsFlow, flow_count}
use Rattle.ar_firing.specs.Forest.{Row, ModeTree}
use Rattle.flow_blocks.specs.Blocks.{Follow}
use Rattle.eq_core.specs.Gates.{Operand, EventIs, Gate, opposite, all_of}
use Rattle.eq_build.specs.Entries.{Entry, Built, Term, operand_for, with_entry, only, one_of_alls, entries_for}
use Rattle.eq_build.specs.Builds.{Builds}

-- a reading: each variable's entries
abbrev pub Reading : Type 0
Reading = ℕ → List Entry

-- each of these in turn, from the gates that the one before left
pub data Threads {A B : Type 0} (R : List Gate → A → B → List Gate → Type 0) : List Gate → List A → List B
    → List Gate → Type 0 where
  none : {g : List Gate} → Threads R g [] [] g
  one_and : {g h i : List Gate} {a : A} {b : B} {xs : List A} {ys : List B} → R g a b h → Threads R h xs ys i
      → Threads R g (a ∷ xs) (b ∷ ys) i

-- the events that leave a mode have not come
abbrev pub not_left : Value → List Row → List Operand
not_left m [] = []
not_left m (r ∷ rs) = if is_same r.from m then EventIs r.label.event false ∷ not_left m rs else not_left m rs

-- the modes that the edges enter, in their order: the event that enters has come, and none of those that leave
abbrev pub entered : List Row → List Row → List Gate → Built
entered all [] gates = record { entries = []; gates = gates }
entered all (r ∷ rs) gates =
    let m = all_of gates (EventIs r.label.event true ∷ not_left r.to all) in
    let rest = entered all rs m.gates in
    record { entries = with_entry r.to m.operand rest.entries; gates = rest.gates }

-- the modes of a tree: its first one, and those that its edges enter
abbrev pub modes_of : ModeTree → List Gate → Built
modes_of tree gates =
    let m = all_of gates (not_left tree.first tree.edges) in
    let rest = entered tree.edges tree.edges m.gates in
    record { entries = with_entry tree.first m.operand rest.entries; gates = rest.gates }

-- each entry as a term of its own
abbrev pub as_terms : List Entry → List Term
as_terms es = map (λ (e : Entry). record { value = e.value; operands = e.operand ∷ [] }) es

-- the entries in the order of their values, which makes no gate
abbrev pub in_order : List Entry → List Entry
in_order es = (entries_for [] (as_terms es)).entries

-- what a state variable reads: the modes of its tree, or its init value
abbrev pub modes_at : ℕ → List ModeTree → List (List Entry) → Value → List Entry
modes_at n [] rows init = only init
modes_at n (t ∷ ts) [] init = only init
modes_at n (t ∷ ts) (es ∷ ess) init = if nat_eq t.variable n then in_order es else modes_at n ts ess init

-- what the variables read before the rounds; a flow reads nothing
abbrev pub first_reading : List ModeTree → List (List Entry) → ℕ → List (Variable ℕ) → Reading
first_reading trees rows n [] x = []
first_reading trees rows n (y ∷ ys) x =
    if nat_eq n x then (if y.is_state then modes_at n trees rows y.value else [])
    else first_reading trees rows (n + 1) ys x

-- what an assignment's conditions and expression come to
pub record BuiltAssign : Type 0 where
  pub conditions : List Operand
  pub entries : List Entry
  pub gates : List Gate

-- the operands of the conditions, from the outermost inward
pub data Builds_conditions (read : Reading) : List Gate → List (Expr ℕ × Bool) → List Operand → List Gate
    → Type 0 where
  no_condition : {g : List Gate} → Builds_conditions read g [] [] g
  condition_and : {g h : List Gate} {e : Expr ℕ} {b : Bool} {cs : List (Expr ℕ × Bool)} {r : Built} {os : List Operand}
      → Builds read g (out-Expr ℕ e) r → Builds_conditions read r.gates cs os h
      → Builds_conditions read g ((e, b) ∷ cs) (operand_for r.entries (Truth b) ∷ os) h

-- the conditions and then the value
pub data Builds_assign (read : Reading) : List Gate → Assign ℕ → BuiltAssign → Type 0 where
  builds : {g h : List Gate} {a : Assign ℕ} {os : List Operand} {r : Built} → Builds_conditions read g a.conditions os h
      → Builds read h (out-Expr ℕ a.value) r
      → Builds_assign read g a (record { conditions = os; entries = r.entries; gates = r.gates })

-- the terms of an assignment that is reached, for its values inside the domain
abbrev pub given_terms : List Value → List Operand → List Entry → List Term
given_terms ds cs [] = []
given_terms ds cs (e ∷ es) =
    if has_value e.value ds then record { value = e.value; operands = cs ++ e.operand ∷ [] } ∷ given_terms ds cs es
    else given_terms ds cs es

-- what an assignment gives its target
pub data Gives_target (read : Reading) (domain : List Value) : List Gate → Assign ℕ → List Entry → List Gate
    → Type 0 where
  gives : {g : List Gate} {a : Assign ℕ} {r : BuiltAssign} → Builds_assign read g a r
      → Gives_target read domain g a (entries_for r.gates (given_terms domain r.conditions r.entries)).entries
      (entries_for r.gates (given_terms domain r.conditions r.entries)).gates

-- the assignments to a variable, by number
abbrev pub assigns_to : ℕ → List (Assign ℕ) → List (Assign ℕ)
assigns_to x [] = []
assigns_to x (a ∷ rest) = if nat_eq a.target x then a ∷ assigns_to x rest else assigns_to x rest

-- all entries, list by list
abbrev pub together : List (List Entry) → List Term
together [] = []
together (es ∷ ess) = as_terms es ++ together ess

-- what a flow is known to be in a round: what one of its assignments gives
pub data RoundOf (net : Net ℕ) (read : Reading) : List Gate → ℕ → List Entry → List Gate → Type 0 where
  round_of : {g h : List Gate} {n : ℕ} {x : Variable ℕ} {ess : List (List Entry)} → Stands net.variables n x
      → Threads (Gives_target read x.domain) g (assigns_to n net.assertions) ess h
      → RoundOf net read g n (entries_for h (together ess)).entries (entries_for h (together ess)).gates

-- the reading with these rows for the flows of a block
abbrev pub updated : Reading → List ℕ → List (List Entry) → Reading
updated read [] rows x = read x
updated read (n ∷ ns) [] x = read x
updated read (n ∷ ns) (row ∷ rows) x = if nat_eq n x then row else updated read ns rows x

-- so many rounds of a block
pub data Rounds (net : Net ℕ) (block : List ℕ) : ℕ → List Gate → Reading → Reading → List Gate → Type 0 where
  no_round : {g : List Gate} {read : Reading} → Rounds net block zero g read read g
  round_and : {k : ℕ} {g h i : List Gate} {read last : Reading} {rows : List (List Entry)}
      → Threads (RoundOf net read) g block rows h → Rounds net block k h (updated read block rows) last i
      → Rounds net block (suc k) g read last i

-- the blocks in order, each with as many rounds as it has flows
pub data All_rounds (net : Net ℕ) : List (List ℕ) → List Gate → Reading → Reading → List Gate → Type 0 where
  no_block : {g : List Gate} {read : Reading} → All_rounds net [] g read read g
  block_and : {block : List ℕ} {blocks : List (List ℕ)} {g h i : List Gate} {read mid last : Reading}
      → Rounds net block (length block) g read mid h → All_rounds net blocks h mid last i
      → All_rounds net (block ∷ blocks) g read last i

-- an entry with each other one of a different value, behind these operands
abbrev pub others_with : List Operand → Entry → List Entry → List (List Operand)
others_with cs e [] = []
others_with cs e (f ∷ fs) =
    if is_same e.value f.value then others_with cs e fs
    else (cs ++ e.operand ∷ f.operand ∷ []) ∷ others_with cs e fs

-- the pairs of a flow's entries, each with a later one
abbrev pub pairs_in : List Entry → List (List Operand)
pairs_in [] = []
pairs_in (e ∷ es) = others_with [] e es ++ pairs_in es

-- a flow is known to have two values
pub data Sees_two (read : Reading) : List Gate → ℕ → Operand → List Gate → Type 0 where
  sees_two : {g : List Gate} {n : ℕ}
      → Sees_two read g n (one_of_alls g (pairs_in (read n))).operand (one_of_alls g (pairs_in (read n))).gates

-- an assignment may give a value outside its target's domain
pub record MayLeave (net : Net ℕ) (a : Assign ℕ) (x : Variable ℕ) : Type 0 where
  pub value : Value
  pub may : Yields (Allows net) (out-Expr ℕ a.value) value
  pub outside : Contains x.domain value → ⊥

-- the terms of an assignment that is reached, for its values outside the domain
abbrev pub outside_terms : List Value → List Operand → List Entry → List (List Operand)
outside_terms ds cs [] = []
outside_terms ds cs (e ∷ es) =
    if has_value e.value ds then outside_terms ds cs es else (cs ++ e.operand ∷ []) ∷ outside_terms ds cs es

-- such an assignment with the variable that it is looked at for, which is to be its target; and what is seen there
pub data Sees_outside (read : Reading) : List Gate → Variable ℕ × Assign ℕ → Operand → List Gate → Type 0 where
  sees_outside : {g : List Gate} {x : Variable ℕ} {a : Assign ℕ} {r : BuiltAssign} → Builds_assign read g a r
      → Sees_outside read g (x, a) (one_of_alls r.gates (outside_terms x.domain r.conditions r.entries)).operand
      (one_of_alls r.gates (outside_terms x.domain r.conditions r.entries)).gates

-- the assignments of one flow that may leave its domain, in order
pub data MayLeaveOf (net : Net ℕ) (x : Variable ℕ) : List (Assign ℕ) → List (Variable ℕ × Assign ℕ) → Type 0 where
  no_assign : MayLeaveOf net x [] []
  may : {a : Assign ℕ} {xs : List (Assign ℕ)} {ys : List (Variable ℕ × Assign ℕ)} → MayLeave net a x
      → MayLeaveOf net x xs ys → MayLeaveOf net x (a ∷ xs) ((x, a) ∷ ys)
  may_not : {a : Assign ℕ} {xs : List (Assign ℕ)} {ys : List (Variable ℕ × Assign ℕ)} → (MayLeave net a x → ⊥)
      → MayLeaveOf net x xs ys → MayLeaveOf net x (a ∷ xs) ys

-- those of all flows, from variable n on
pub data AllMayLeave (net : Net ℕ) : ℕ → List (Variable ℕ) → List (Variable ℕ × Assign ℕ) → Type 0 where
  no_variable : {n : ℕ} → AllMayLeave net n [] []
  state_and : {n : ℕ} {x : Variable ℕ} {xs : List (Variable ℕ)} {ys : List (Variable ℕ × Assign ℕ)}
      → x.is_state ≡ true → AllMayLeave net (n + 1) xs ys → AllMayLeave net n (x ∷ xs) ys
  flow_and : {n : ℕ} {x : Variable ℕ} {xs : List (Variable ℕ)} {ys zs : List (Variable ℕ × Assign ℕ)}
      → x.is_state ≡ false → MayLeaveOf net x (assigns_to n net.assertions) ys → AllMayLeave net (n + 1) xs zs
      → AllMayLeave net n (x ∷ xs) (ys ++ zs)

-- none of the entries' operands is true
abbrev pub opposites : List Entry → List Operand
opposites es = map (λ (e : Entry). opposite e.operand) es

-- the total entries of a flow: its reset value also where nothing is known
abbrev pub total_of : List Gate → List Entry → Value → Built
total_of gates row reset =
    let m = all_of gates (opposites row) in
    entries_for m.gates (as_terms row ++ record { value = reset; operands = m.operand ∷ [] } ∷ [])

-- the same for a flow with its number
pub data Totals_of (read : Reading) : List Gate → ℕ × Variable ℕ → List Entry → List Gate → Type 0 where
  total : {g : List Gate} {n : ℕ} {x : Variable ℕ}
      → Totals_of read g (n, x) (total_of g (read n) x.value).entries (total_of g (read n) x.value).gates

-- the pairs of an entry of the assignment's value and an entry of its target with another value
abbrev pub broken_terms : List Operand → List Entry → List Entry → List (List Operand)
broken_terms cs [] fs = []
broken_terms cs (e ∷ es) fs = others_with cs e fs ++ broken_terms cs es fs

-- an assignment is reached, and its value is not the total value of its target
pub data Sees_broken (read : Reading) : List Gate → Assign ℕ → Operand → List Gate → Type 0 where
  sees_broken : {g : List Gate} {a : Assign ℕ} {r : BuiltAssign} → Builds_assign read g a r
      → Sees_broken read g a (one_of_alls r.gates (broken_terms r.conditions r.entries (read a.target))).operand
      (one_of_alls r.gates (broken_terms r.conditions r.entries (read a.target))).gates

-- the flows with their numbers, from number n on
abbrev pub flows_from : ℕ → List (Variable ℕ) → List (ℕ × Variable ℕ)
flows_from n [] = []
flows_from n (x ∷ xs) = if x.is_state then flows_from (n + 1) xs else (n, x) ∷ flows_from (n + 1) xs

-- the modes of a tree
pub data Has_modes : List Gate → ModeTree → List Entry → List Gate → Type 0 where
  modes : {g : List Gate} {t : ModeTree} → Has_modes g t (modes_of t g).entries (modes_of t g).gates

-- the blocks: the classes of the flows that depend on each other, in their order, with the flows' numbers
pub record AreBlocks (net : Net ℕ) (blocks : List (List ℕ)) : Type 0 where
  pub uses : List (ℕ × ℕ)
  pub are_uses : AreUses net uses
  pub classes : List (List ℕ)
  pub follow : Follow (flow_count net.variables) uses [] classes
  pub are : Along (Along (λ k n. IsFlow net k n)) classes blocks

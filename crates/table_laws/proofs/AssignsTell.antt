-- What the steps of a round tell: conditions, assignments, what they give, and what a flow is known to be.
use Rattle.std.proofs.Common.{◌≡◌, ℕ, zero, suc, ◌⊎◌, inl, inr, Bool, true, false, if◌then◌else◌, nat_eq, List, [], ◌∷◌, Contains, refl, sym, ap, ◌∙◌, subst}
use Rattle.std.specs.Cmp.{unsigned_Decides}
use Rattle.ar_base.specs.Lists.{Stands, IsOneOf}
use Rattle.ar_base.specs.Lists as l
use Rattle.ar_base.proofs.Standing.{stands_one, one_cases, one_first, one_rest, one_none}
use Rattle.domains.specs.declared.Value.{Value}
use Rattle.domains.specs.declared.Value.TheVariants.{Truth}
use Rattle.typed_expr.specs.Yields.{Yields}
use Rattle.typed_expr.specs.Kinds.{kind_of, HasKind}
use Rattle.typed_expr.specs.declared.expr.ValueKind.{ValueKind}
use Rattle.typed_expr.specs.declared.expr.ValueKind.TheVariants as kind
use Rattle.typed_expr.specs.declared.expr.Expr.{Expr, out-Expr}
use Rattle.ar_meaning.specs.Systems.{Assign, Variable, Net}
use Rattle.ar_meaning.specs.Facts.{PassesConditions, Allows}
use Rattle.ar_meaning.specs.FactsInside.{AreNumberedVariables}
use Rattle.ar_meaning.specs.Facts as f
use Rattle.gts_core.specs.Lawful.{IsTypedAssign, IsLawful}
use Rattle.eq_core.specs.Gates.{Operand, Gate}
use Rattle.eq_core.specs.ValuesInside.{GainsGates}
use Rattle.eq_core.proofs.Telling.{grows_self, grows_on, tells_kept}
use Rattle.eq_build.specs.Entries.{Entry}
use Rattle.eq_build.specs.Tells.{AreEntries, IsBuilt}
use Rattle.eq_build.proofs.EntriesTell.{entries_kept, entries_as, entry_tells}
use Rattle.eq_build.proofs.BuildsTell.{IsRead, read_on, builds_tell}
use Rattle.table_laws.specs.Known.{AssignsValue}
use Rattle.eq_build.specs.Steps.{Reading, Threads, none, one_and, BuiltAssign, Builds_conditions, Builds_assign, builds, Gives_target, gives, assigns_to, RoundOf, round_of}
use Rattle.eq_build.specs.Steps as w
use Rattle.table_laws.proofs.OperandsTell.{TellTogether, together_kept, together_as, together_before, nothing_told}
use Rattle.table_laws.proofs.TermsTell.{EntriesTell, SomeHas, together_built, IsInside, given_built}

-- the assignments to a variable are those of which it is the target
pub one_assign : (x : ℕ) (assigns : List (Assign ℕ)) (a : Assign ℕ) → IsOneOf (assigns_to x assigns) a
    → IsOneOf assigns a × (a.target ≡ x)
one_assign x [] a o = absurd (one_none a o)
one_assign x (b ∷ assigns) a o = go (nat_eq b.target x) refl o (λ p. one_assign x assigns a p)
  where
    go : (c : Bool) → nat_eq b.target x ≡ c
        → IsOneOf (if c then b ∷ assigns_to x assigns else assigns_to x assigns) a
        → (IsOneOf (assigns_to x assigns) a → IsOneOf assigns a × (a.target ≡ x))
        → IsOneOf (b ∷ assigns) a × (a.target ≡ x)
    go true i p r = elim (one_cases b (assigns_to x assigns) a p) [
      | inl e ↦ (
        subst (λ z. IsOneOf (b ∷ assigns) z) e (one_first b assigns),
        subst (λ (z : Assign ℕ). z.target ≡ x) e ((unsigned_Decides b.target x).0 i),
      )
      | inr q ↦ let z = r q in (one_rest b assigns a z.0, z.1)
    ]
    go false i p r = let z = r p in (one_rest b assigns a z.0, z.1)

pub assign_one : (x : ℕ) (assigns : List (Assign ℕ)) (a : Assign ℕ) → IsOneOf assigns a → a.target ≡ x
    → IsOneOf (assigns_to x assigns) a
assign_one x [] a o t = absurd (one_none a o)
assign_one x (b ∷ assigns) a o t =
    go (nat_eq b.target x) refl (one_cases b assigns a o) (λ p. assign_one x assigns a p t)
  where
    go : (c : Bool) → nat_eq b.target x ≡ c → (b ≡ a) ⊎ IsOneOf assigns a
        → (IsOneOf assigns a → IsOneOf (assigns_to x assigns) a)
        → IsOneOf (if c then b ∷ assigns_to x assigns else assigns_to x assigns) a
    go true i (inl e) r = subst (λ z. IsOneOf (b ∷ assigns_to x assigns) z) e (one_first b (assigns_to x assigns))
    go true i (inr p) r = one_rest b (assigns_to x assigns) a (r p)
    go false i (inl e) r =
        absurd (let k = (unsigned_Decides b.target x).1 (ap (λ (z : Assign ℕ). z.target) e ∙ t) in cc)
    go false i (inr p) r = r p

-- in a numbered net the variable at a place is the one that allows a value for its number
pub allowed_there : (net : Net ℕ) → AreNumberedVariables net → (n : ℕ) (x : Variable ℕ) → Stands net.variables n x
    → (d : Value) → Allows net n d → Contains x.domain d
allowed_there net numbered n x s d a =
    let i : a.place ≡ n = sym (numbered.key a.place a.variable a.stands) ∙ a.is_key in
    let j : a.variable ≡ x =
    stands_one net.variables n a.variable x (subst (λ z. Stands net.variables z a.variable) i a.stands) s in
    subst (λ (z : Variable ℕ). Contains z.domain d) j a.has

module _ (set : List ℕ) (kinds : ℕ → ValueKind) (facts : ℕ → Value → Type 0)
    (kept : (x : ℕ) (d : Value) → facts x d → kind_of d ≡ kinds x) (read : Reading) where
  abbrev pub Read : List Gate → Type 0
  Read g = IsRead facts set kinds kept read g

  abbrev pub TypedConditions : List (Expr ℕ × Bool) → Type 0
  TypedConditions cs = (n : ℕ) (e : Expr ℕ) (b : Bool) → Stands cs n (e, b) → HasKind kinds (out-Expr ℕ e) kind.Truth

  record ConditionsTell (g h : List Gate) (cs : List (Expr ℕ × Bool)) (os : List Operand) : Type 0 where
    pub grown : GainsGates g h
    pub tell : TellTogether set h os (PassesConditions facts cs)

  conditions_tell : {g h : List Gate} {cs : List (Expr ℕ × Bool)} {os : List Operand}
      → Builds_conditions read g cs os h → TypedConditions cs → Read g → ConditionsTell g h cs os
  conditions_tell (w.no_condition {g = g}) t i = record { grown = grows_self g; tell = nothing_told f.none }
  conditions_tell (w.condition_and {e = e} {b = b} {cs = cs} {r = r} b0 b1) t i =
      let m = builds_tell facts set kinds kept read b0 (t zero e b refl) i in
      let n = conditions_tell b1 (λ j c d s. t (suc j) c d s) (read_on facts set kinds kept read m.grown i) in
      record {
        grown = grows_on m.grown n.grown;
        tell = together_as (λ p. f.one_and p.0 p.1) (λ p. split p)
            (together_before (tells_kept n.grown (entry_tells m.entries (Truth b))) n.tell);
      }
    where
      split : PassesConditions facts ((e, b) ∷ cs) → Yields facts (out-Expr ℕ e) (Truth b) × PassesConditions facts cs
      split (f.one_and p q) = (p, q)

  -- the operands of an assignment tell whether it is reached, and its entries what it yields
  pub record AssignTells (g : List Gate) (a : Assign ℕ) (r : BuiltAssign) : Type 0 where
    pub grown : GainsGates g r.gates
    pub conditions : TellTogether set r.gates r.conditions (PassesConditions facts a.conditions)
    pub entries : AreEntries set r.gates r.entries (Yields facts (out-Expr ℕ a.value))

  pub assign_tells : {g : List Gate} {a : Assign ℕ} {r : BuiltAssign} → Builds_assign read g a r
      → IsTypedAssign kinds a → Read g → AssignTells g a r
  assign_tells (builds {a = a} c d) t i =
      let m = conditions_tell c (λ n e b s. t.conditions (e, b) (record { place = n; stands = s })) i in
      let n = builds_tell facts set kinds kept read d t.value (read_on facts set kinds kept read m.grown i) in
      record { grown = grows_on m.grown n.grown; conditions = together_kept n.grown m.tell; entries = n.entries }

  -- the assignment is reached and yields this value of the domain
  abbrev pub Adds : List Value → Assign ℕ → Value → Type 0
  Adds ds a d = IsInside (PassesConditions facts a.conditions) (Yields facts (out-Expr ℕ a.value)) ds d

  gives_tells : {g h : List Gate} {a : Assign ℕ} {es : List Entry} (domain : List Value)
      → Gives_target read domain g a es h → IsTypedAssign kinds a → Read g
      → IsBuilt set g (record { entries = es; gates = h }) (Adds domain a)
  gives_tells domain (gives {a = a} {r = r} b) t i =
      let m = assign_tells b t i in
      let n = given_built set r.gates domain m.conditions m.entries in
      record { grown = grows_on m.grown n.grown; entries = n.entries }

  record AllGiven (ds : List Value) (g h : List Gate) (assigns : List (Assign ℕ)) (ess : List (List Entry))
      : Type 0 where
    pub grown : GainsGates g h
    pub tell : EntriesTell set h (Adds ds) assigns ess

  all_given : (domain : List Value) {g h : List Gate} {assigns : List (Assign ℕ)} {ess : List (List Entry)}
      → Threads (Gives_target read domain) g assigns ess h
      → ((n : ℕ) (a : Assign ℕ) → Stands assigns n a → IsTypedAssign kinds a) → Read g
      → AllGiven domain g h assigns ess
  all_given domain (none {g = g}) t i = record { grown = grows_self g; tell = l.none }
  all_given domain (one_and {a = a} c d) t i =
      let m = gives_tells domain c (t zero a refl) i in
      let n = all_given domain d (λ j b s. t (suc j) b s) (read_on facts set kinds kept read m.grown i) in
      record { grown = grows_on m.grown n.grown; tell = l.one_and (entries_kept n.grown m.entries) n.tell }

  module _ (net : Net ℕ) (lawful : IsLawful net kinds) where
    -- what a flow is known to be in a round
    pub record Comes (n : ℕ) (d : Value) : Type 0 where
      pub gives : AssignsValue net facts n d
      pub allowed : Allows net n d

    round_of_tells : {g h : List Gate} {n : ℕ} {es : List Entry} → RoundOf net read g n es h → Read g
        → IsBuilt set g (record { entries = es; gates = h }) (Comes n)
    round_of_tells (round_of {g = g} {h = h} {n = n} {x = x} {ess = ess} s c) i =
        let m = all_given x.domain c
        (λ j a k. lawful.typed a (one_assign n net.assertions a (record { place = j; stands = k })).0) i in
        let r = together_built set h (Adds x.domain) m.tell in
        record { grown = grows_on m.grown r.grown; entries = entries_as to from r.entries }
      where
        to : (d : Value) → SomeHas (Adds x.domain) (assigns_to n net.assertions) d → Comes n d
        to d p =
            let o = one_assign n net.assertions p.item p.is_one in
            let q = p.has in
            let keys = lawful.numbered in
            record {
              gives = record { assign = p.item; is_one = o.0; is_target = o.1; passes = q.passes; yields = q.has };
              allowed = record { place = n; variable = x; stands = s; is_key = keys.key n x s; has = q.inside };
            }

        from : (d : Value) → Comes n d → SomeHas (Adds x.domain) (assigns_to n net.assertions) d
        from d p =
            let q = p.gives in
            record {
              item = q.assign;
              is_one = assign_one n net.assertions q.assign q.is_one q.is_target;
              has = record {
                passes = q.passes;
                has = q.yields;
                inside = allowed_there net lawful.numbered n x s d p.allowed;
              };
            }

    pub record RoundTells (g h : List Gate) (block : List ℕ) (rows : List (List Entry)) : Type 0 where
      pub grown : GainsGates g h
      pub tell : EntriesTell set h Comes block rows

    -- a round
    pub round_tells : {g h : List Gate} {block : List ℕ} {rows : List (List Entry)}
        → Threads (RoundOf net read) g block rows h → Read g → RoundTells g h block rows
    round_tells (none {g = g}) i = record { grown = grows_self g; tell = l.none }
    round_tells (one_and c d) i =
        let m = round_of_tells c i in
        let n = round_tells d (read_on facts set kinds kept read m.grown i) in
        record { grown = grows_on m.grown n.grown; tell = l.one_and (entries_kept n.grown m.entries) n.tell }

-- The system of sound parts is lawful.
use Rattle.std.proofs.Common.{◌≡◌, ◌<◌, ℕ, inl, inr, Bool, false, List, map, length, take, Contains, refl, sym, ap, ◌∙◌, subst}
use Rattle.ar_base.specs.Lists.{IsOneOf}
use Rattle.ar_base.specs.Numbers.{VarId}
use Rattle.ar_base.proofs.Standing.{stands_map_back, one_here}
use Rattle.domains.specs.Domains.{values_of}
use Rattle.domains.specs.declared.Value.{Value}
use Rattle.domains.proofs.Domains.{listed, held}
use Rattle.typed_expr.specs.Kinds.{kind_of, HasKind}
use Rattle.typed_expr.specs.Mentions.{Mentions}
use Rattle.typed_expr.specs.PairsInside.{turned_pairs}
use Rattle.typed_expr.proofs.Renaming.{mentions_carry, renames_turned}
use Rattle.typed_expr.specs.declared.expr.Expr.{Expr, out-Expr}
use Rattle.typed_expr.specs.declared.expr.ValueKind.{ValueKind}
use Rattle.typed_expr.specs.declared.expr.ValueKind.TheVariants as kind
use Rattle.ar_meaning.specs.Systems as s
use Rattle.ar_meaning.specs.Facts.{Allows}
use Rattle.ar_meaning.specs.Dependence.{IsFlow, Names, flow_count}
use Rattle.ar_meaning.proofs.Dependence.{tests_one}
use Rattle.gts_core.specs.View.{numbered, condition_of, assign_of, variable_of, net_of}
use Rattle.gts_core.specs.Sound.{kind_of_domain, kind_of_found, variable_kind_at, IsTyped, IsAssignTo, IsSound}
use Rattle.gts_core.specs.Lawful.{kind_by_number, IsTypedAssign, IsLawful}
use Rattle.gts_core.specs.declared.system.Assign.{Assign}
use Rattle.gts_core.specs.declared.system.Observer.{Observer}
use Rattle.gts_core.specs.declared.system.GtsParts.{GtsParts}
use Rattle.gts_core.proofs.Numbering.{IsNumber, renames_numbered}
use Rattle.gts_core.proofs.Viewing.{variables_long, variable_there, variable_back, are_numbered}
use Rattle.gts_core.proofs.Reading.{kind_of_held}
use Rattle.gts_core.proofs.KindsRenamed.{kind_renamed}

module _ (p : GtsParts) where
  -- a typed expression over plain numbers has its kind
  pub typed_kind : (e : Expr VarId) (k : ValueKind) → IsTyped p e k
      → HasKind (kind_by_number p) (out-Expr ℕ (numbered e)) k
  typed_kind e k t = kind_renamed VarId ℕ (variable_kind_at p) (kind_by_number p) IsNumber (λ x n i. ap (kind_by_number
      p) i) t.typed (renames_numbered e)

  -- and names variables of the system
  typed_inside : (e : Expr VarId) (k : ValueKind) → IsTyped p e k → (n : ℕ) → Mentions n (out-Expr ℕ (numbered e))
      → n < length p.variables.items
  typed_inside e k t n m =
      let r = mentions_carry (turned_pairs IsNumber) n m (renames_turned IsNumber (renames_numbered e)) in
      subst (λ (z : ℕ). z < length p.variables.items) r.related (t.variables r.other r.stands)

  conditions_typed : (when : List (Expr VarId × Bool))
      → ((c : Expr VarId × Bool) → IsOneOf when c → IsTyped p c.0 kind.Truth)
      → (d : Expr ℕ × Bool) → IsOneOf (map condition_of when) d → HasKind (kind_by_number p) (out-Expr ℕ d.0) kind.Truth
  conditions_typed when each d h =
      let r = stands_map_back condition_of when h.place d h.stands in
      subst (λ (z : Expr ℕ × Bool). HasKind (kind_by_number p) (out-Expr ℕ z.0) kind.Truth) r.2
      (typed_kind r.0.0 kind.Truth (each r.0 (one_here when h.place r.0 r.1)))

  conditions_inside : (when : List (Expr VarId × Bool))
      → ((c : Expr VarId × Bool) → IsOneOf when c → IsTyped p c.0 kind.Truth)
      → (n : ℕ) (d : Expr ℕ × Bool) → IsOneOf (map condition_of when) d → Mentions n (out-Expr ℕ d.0)
      → n < length p.variables.items
  conditions_inside when each n d h m =
      let r = stands_map_back condition_of when h.place d h.stands in
      typed_inside r.0.0 kind.Truth (each r.0 (one_here when h.place r.0 r.1)) n
      (subst (λ (z : Expr ℕ × Bool). Mentions n (out-Expr ℕ z.0)) (sym r.2) m)

  assign_typed : (a : Assign) → IsAssignTo p false a → IsTypedAssign (kind_by_number p) (assign_of a)
  assign_typed a t = record {
    value = subst (λ (k : ValueKind). HasKind (kind_by_number p) (out-Expr ℕ (numbered a.value)) k)
        (sym (ap kind_of_found t.stands)) (typed_kind a.value (kind_of_domain t.variable.domain) t.value);
    conditions = conditions_typed a.when.items t.conditions;
  }

  target_flow : (a : Assign) → IsAssignTo p false a → (k : ℕ) × IsFlow (net_of p) k a.target.n
  target_flow a t = (
    flow_count (take a.target.n (net_of p).variables),
    record {
      place = a.target.n;
      variable = variable_of a.target.n t.variable;
      stands = variable_there p a.target.n t.variable t.stands;
      is_key = refl;
      is_flow = t.is;
      before = refl;
    },
  )

  assign_inside : (a : Assign) → IsAssignTo p false a → (n : ℕ) → Names (assign_of a) n → n < length p.variables.items
  assign_inside a t n (inl m) = typed_inside a.value (kind_of_domain t.variable.domain) t.value n m
  assign_inside a t n (inr m) = let r = tests_one n (map condition_of a.when.items) m in conditions_inside a.when.items t.conditions n r.0 r.1 r.2

  module _ (sound : IsSound p) where
    assign_back : (a : s.Assign ℕ) → IsOneOf (net_of p).assertions a
        → (b : Assign) × IsAssignTo p false b × (assign_of b ≡ a)
    assign_back a h =
        let r = stands_map_back assign_of p.assigns.items h.place a h.stands in
        (r.0, sound.assertions r.0 (one_here p.assigns.items h.place r.0 r.1), r.2)

    begins : (x : s.Variable ℕ) → IsOneOf (net_of p).variables x → Contains x.domain x.value
    begins x h =
        let r = variable_back p h.place x h.stands in
        subst (λ (z : s.Variable ℕ). Contains z.domain z.value) r.2
        (listed r.0.domain r.0.value (sound.variables h.place r.0 r.1).value)

    of_kind : (n : ℕ) (v : Value) → Allows (net_of p) n v → kind_of v ≡ kind_by_number p n
    of_kind n v h =
        let r = variable_back p h.place h.variable h.stands in
        let same : h.place ≡ n = ap (λ (z : s.Variable ℕ). z.key) r.2 ∙ h.is_key in
        let has : Contains (values_of r.0.domain) v =
        subst (λ (z : s.Variable ℕ). Contains z.domain v) (sym r.2) h.has in
        kind_of_held r.0.domain v (held r.0.domain v (sound.variables h.place r.0 r.1).domain has)
        ∙ sym (ap kind_of_found r.1) ∙ ap (kind_by_number p) same

    pub system_lawful : IsLawful (net_of p) (kind_by_number p)
    system_lawful = record {
      numbered = are_numbered p;
      begins = begins;
      of_kind = of_kind;
      typed = λ a h. let r = assign_back a h in subst (IsTypedAssign (kind_by_number p)) r.2 (assign_typed r.0 r.1);
      targets = λ a h. let r = assign_back a h in subst (λ (z : s.Assign ℕ). (k : ℕ) × IsFlow (net_of p) k z.target) r.2 (target_flow r.0 r.1);
      inside = λ a n h m. let r = assign_back a h in
          subst (λ (k : ℕ). n < k) (sym (variables_long 0 p.variables.items))
          (assign_inside r.0 r.1 n (subst (λ (z : s.Assign ℕ). Names z n) (sym r.2) m));
    }

    pub observer_kind : (o : Observer) → IsOneOf p.observers.items o
        → HasKind (kind_by_number p) (out-Expr ℕ (numbered o.value)) o.kind
    observer_kind o h = typed_kind o.value o.kind (sound.observers o h)

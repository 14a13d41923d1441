-- Copies are typed as what they are copies of, over the copied variables and symbols.
use Rattle.std.proofs.Common.{◌≡◌, ℕ, zero, suc, ◌<◌, Bool, true, false, List, [], ◌∷◌, ◌++◌, map, length, slice_get, refl, sym, ◌∙◌, ap, subst, inl, inr, arith}
use Rattle.std.specs.List.{flat_map}
use Rattle.ar_base.specs.Lists.{Stands, IsOneOf, Along, none, one_and}
use Rattle.ar_base.specs.Numbers.{VarId}
use Rattle.ar_base.proofs.Standing.{stands_map, one_here, one_none, one_cases, one_split, one_first, one_rest, along_on, along_back, along_length}
use Rattle.domains.specs.declared.Value.{Value}
use Rattle.domains.specs.declared.Value.TheVariants as value
use Rattle.typed_expr.specs.Kinds.{HasKind}
use Rattle.typed_expr.specs.Mentions.{Mentions}
use Rattle.typed_expr.specs.PairsInside.{turned_pairs}
use Rattle.typed_expr.specs.Possible.{IsSubexpression}
use Rattle.typed_expr.specs.Renames.{Renames}
use Rattle.typed_expr.specs.Renames as r
use Rattle.typed_expr.specs.Yields.{Level}
use Rattle.typed_expr.proofs.Renaming.{mentions_carry, renames_turned}
use Rattle.typed_expr.specs.declared.expr.Expr.{Expr, out-Expr}
use Rattle.typed_expr.specs.declared.expr.Expr.TheOpen.{Constant}
use Rattle.typed_expr.specs.declared.expr.ValueKind.{ValueKind}
use Rattle.typed_expr.specs.declared.expr.ValueKind.TheVariants as kind
use Rattle.ar_meaning.specs.Systems as s
use Rattle.ar_meaning.specs.Image.{Conditions_rename, Assign_renames}
use Rattle.ar_meaning.specs.Image as i
use Rattle.ar_firing.proofs.Widths.{part_there}
use Rattle.gts_core.specs.Bound.{NumberedConditions, assigns_under, AreAssigns}
use Rattle.gts_core.specs.Copies.{IsCopy}
use Rattle.gts_core.specs.Lawful.{kind_by_number}
use Rattle.gts_core.specs.Sound.{kind_of_domain, kind_of_found, variable_kind_at, IsNamedValue, IsTyped, IsAssignTo}
use Rattle.gts_core.specs.View.{numbered, condition_of, assign_of}
use Rattle.gts_core.specs.declared.bound.Act.{Act, out-Act}
use Rattle.gts_core.specs.declared.bound.Act.TheOpen as act
use Rattle.gts_core.specs.declared.bound.Act.TheOpen.{Act-F}
use Rattle.gts_core.specs.declared.system.Assign.{Assign}
use Rattle.gts_core.specs.declared.system.GtsParts.{GtsParts}
use Rattle.gts_core.specs.declared.system.Variable.{Variable}
use Rattle.gts_core.proofs.KindsRenamed.{kind_renamed}
use Rattle.gts_core.proofs.Lawfulness.{typed_kind}
use Rattle.gts_core.proofs.Numbering.{IsNumber, renames_numbered, copy_numbered}
use Rattle.source_meaning.specs.SoundBound.{IsSoundAct}
use Rattle.source_meaning.specs.SoundBound as sound
use Rattle.source_meaning.proofs.BoundInstructions.{under, each_under}
use Rattle.source_meaning.proofs.SoundActs.{joined_one}
use Rattle.gts_flatten.specs.Making.{IsSameVariable}
use Rattle.gts_core.proofs.SameDomains.{domain_kind}

-- one number
abbrev same : ℕ → ℕ → Type 0
same m n = m ≡ n

-- an expression over plain numbers: it has the kind, its variables are those of the system, and its symbols have names
pub record IsTypedBy (p : GtsParts) (e : Expr ℕ) (k : ValueKind) : Type 0 where
  pub typed : HasKind (kind_by_number p) (out-Expr ℕ e) k
  pub variables : (n : ℕ) → Mentions n (out-Expr ℕ e) → n < length p.variables.items
  pub names : (v : Value) → IsSubexpression (Constant v) (out-Expr ℕ e) → IsNamedValue p v

-- a constant stands where a related one does
constant_there : {V W : Type 0} (R : V → W → Type 0) {e : Level V} {f : Level W} (v : Value) → IsSubexpression (Constant
    v) e → Renames R e f → IsSubexpression (Constant v) f
constant_there {V = V} {W = W} R {e = e} {f = f} v p q = let o = part_there R p q in go o.is_part o.renames
  where
    go : {g : Level W} → IsSubexpression g f → Renames R (Constant v) g → IsSubexpression (Constant v) f
    go h r.constant = h

module _ (p : GtsParts) where
  -- typed expressions by plain numbers, and back
  pub by_number : (e : Expr VarId) (k : ValueKind) → IsTyped p e k → IsTypedBy p (numbered e) k
  by_number e k t = record {
    typed = typed_kind p e k t;
    variables = λ n m. let o = mentions_carry (turned_pairs IsNumber) n m (renames_turned IsNumber (renames_numbered e)) in
        subst (λ (z : ℕ). z < length p.variables.items) o.related (t.variables o.other o.stands);
    names = λ v h. t.symbols v (constant_there (turned_pairs IsNumber) v h (renames_turned IsNumber (renames_numbered e)));
  }

  pub by_variable : (e : Expr VarId) (k : ValueKind) → IsTypedBy p (numbered e) k → IsTyped p e k
  by_variable e k t = record {
    typed = kind_renamed ℕ VarId (kind_by_number p) (variable_kind_at p) (turned_pairs IsNumber)
        (λ n x j. sym (ap (kind_by_number p) j)) t.typed (renames_turned IsNumber (renames_numbered e));
    variables = λ x m. let o = mentions_carry IsNumber x m (renames_numbered e) in subst (λ (z : ℕ). z < length p.variables.items) (sym o.related) (t.variables o.other o.stands);
    symbols = λ v h. t.names v (constant_there IsNumber v h (renames_numbered e));
  }

-- domains
found_kind : {xs ys : List Variable} → Along IsSameVariable xs ys → (n : ℕ)
    → kind_of_found (slice_get xs n) ≡ kind_of_found (slice_get ys n)
found_kind none n = refl
found_kind (one_and h hs) zero = domain_kind h.domain
found_kind (one_and h hs) (suc n) = found_kind hs n

-- an assignment over plain numbers to a state variable, or a flow, of a value of its kind under conditions that are
-- truth values
pub record IsSoundAssign (q : GtsParts) (to_state : Bool) (a : s.Assign ℕ) : Type 0 where
  pub variable : Variable
  pub stands : Stands q.variables.items a.target variable
  pub sort : variable.is_state ≡ to_state
  pub value : IsTypedBy q a.value (kind_of_domain variable.domain)
  pub conditions : (c : Expr ℕ × Bool) → IsOneOf a.conditions c → IsTypedBy q c.0 kind.Truth

module _ (q : GtsParts) (to_state : Bool) where
  more : (cs : NumberedConditions) (e : Expr ℕ) (b : Bool) → ((c : Expr ℕ × Bool) → IsOneOf cs c → IsTypedBy q c.0
      kind.Truth) → IsTypedBy q e kind.Truth
      → (c : Expr ℕ × Bool) → IsOneOf (cs ++ (e, b) ∷ []) c → IsTypedBy q c.0 kind.Truth
  more cs e b each t c h =
      let last : List (Expr ℕ × Bool) = [] in
      elim (one_split cs ((e, b) ∷ last) c h) [
        | inl j ↦ each c j
        | inr j ↦ elim (one_cases (e, b) last c j)
            [ inl k ↦ subst (λ (z : Expr ℕ × Bool). IsTypedBy q z.0 kind.Truth) k t | inr k ↦ absurd (one_none c k) ]
      ]

  sound_under : {x : Act-F Act} → IsSoundAct q to_state x → (b : Act) → out-Act b ≡ x → (cs : NumberedConditions)
      → ((c : Expr ℕ × Bool) → IsOneOf cs c → IsTypedBy q c.0 kind.Truth) → (a : s.Assign ℕ)
      → IsOneOf (assigns_under b cs) a → IsSoundAssign q to_state a
  sound_under sound.skip b e cs each a h = absurd (one_none a (subst (λ z. IsOneOf z a) (under b act.Skip e cs) h))
  sound_under (sound.set {x = x} {e = f} {at = at} v k is_sort t) b e cs each a h =
      let made : s.Assign ℕ = record { target = x.n; conditions = cs; value = numbered f } in
      let only : List (s.Assign ℕ) = [] in
      elim (one_cases made only a (subst (λ z. IsOneOf z a) (under b (act.Set x f at) e cs) h)) [
        | inl j ↦ subst (λ (z : s.Assign ℕ). IsSoundAssign q to_state z) j
            (record {
              variable = v;
              stands = k;
              sort = is_sort;
              value = by_number q f (kind_of_domain v.domain) t;
              conditions = each;
            })
        | inr j ↦ absurd (one_none a j)
      ]
  sound_under (sound.conditional {test = t} {first = c} {second = d} k m n) b e cs each a h =
      let typed = by_number q t kind.Truth k in
      elim (one_split (assigns_under c.value (cs ++ (numbered t, true) ∷ []))
      (assigns_under d.value (cs ++ (numbered t, false) ∷ [])) a
      (subst (λ z. IsOneOf z a) (under b (act.If t c d) e cs) h)) [
        | inl o ↦ sound_under m c.value refl (cs ++ (numbered t, true) ∷ []) (more cs (numbered t) true each typed) a o
        | inr o ↦ sound_under n d.value refl (cs ++ (numbered t, false) ∷ []) (more cs (numbered t) false each typed) a
            o
      ]
  sound_under (sound.all {acts = acts} m) b e cs each a h =
      let one = joined_one (λ (c : Act). assigns_under c cs) acts.items a
      (subst (λ z. IsOneOf z a) (under b (act.All acts) e cs ∙ each_under acts.items cs) h) in
      sound_under (m one.0 one.1) one.0 refl cs each a one.2

  -- each assignment of a sound instruction
  pub sound_assigns : (b : Act) (a : s.Assign ℕ) → IsSoundAct q to_state (out-Act b) → IsOneOf (assigns_under b []) a
      → IsSoundAssign q to_state a
  sound_assigns b a m h = sound_under m b refl [] (λ c j. absurd (one_none c j)) a h

  -- each assignment of sound instructions
  pub sound_all : (bs : List Act) (a : s.Assign ℕ) → ((b : Act) → IsOneOf bs b → IsSoundAct q to_state (out-Act b))
      → IsOneOf (flat_map (λ (b : Act). assigns_under b []) bs) a → IsSoundAssign q to_state a
  sound_all bs a each h = let one = joined_one (λ (b : Act). assigns_under b []) bs a h in sound_assigns one.0 a (each one.0 one.1) one.2

-- a condition stands where its copy does
condition_back : (cs : NumberedConditions) (ds : List (Expr VarId × Bool)) → Conditions_rename same cs (map condition_of
    ds) → (d : Expr VarId × Bool) → IsOneOf ds d
    → (e : Expr ℕ) × IsOneOf cs (e, d.1) × Renames same (out-Expr ℕ e) (out-Expr ℕ (numbered d.0))
condition_back [] [] i.none d h = absurd (one_none d h)
condition_back [] (x ∷ ds) k d h = elim k [ ]
condition_back (c ∷ cs) [] k d h = elim k [ ]
condition_back ((e, b) ∷ cs) ((f, g) ∷ ds) (i.one_and k ks) d h = elim (one_cases (f, g) ds d h) [
  | inl j ↦ subst (λ (z : Expr VarId × Bool). (w : Expr ℕ) × IsOneOf ((e, g) ∷ cs) (w, z.1)
      × Renames same (out-Expr ℕ w) (out-Expr ℕ (numbered z.0))) j (e, one_first (e, g) cs, k)
  | inr j ↦ let o = condition_back cs ds ks d j in (o.0, one_rest (e, g) cs (o.0, d.1) o.1, o.2)
]

module _ (q p : GtsParts) (names_long : length p.symbols.items ≡ length q.symbols.items)
    (copied : Along IsSameVariable q.variables.items p.variables.items) where
  named : (v : Value) → IsNamedValue q v → IsNamedValue p v
  named (value.Truth b) h = tt
  named (value.Whole n) h = tt
  named (value.Symbol k) h = omega (arith, h, names_long)

  moved : (e f : Expr ℕ) (k : ValueKind) → IsTypedBy q e k → Renames same (out-Expr ℕ e) (out-Expr ℕ f)
      → IsTypedBy p f k
  moved e f k t h = record {
    typed = kind_renamed ℕ ℕ (kind_by_number q) (kind_by_number p) same
        (λ m n j. found_kind copied m ∙ ap (kind_by_number p) j) t.typed h;
    variables = λ n m. let o = mentions_carry (turned_pairs same) n m (renames_turned same h) in
        let b = t.variables o.other o.stands in let l = along_length q.variables.items p.variables.items copied in let j : o.other ≡ n = o.related in omega (arith, b, l, j);
    names = λ v m. named v (t.names v (constant_there (turned_pairs same) v m (renames_turned same h)));
  }

  -- a copy of a typed expression
  pub copy_typed : (e f : Expr VarId) (k : ValueKind) → IsTyped q e k → IsCopy e f → IsTyped p f k
  copy_typed e f k t c = by_variable p f k (moved (numbered e) (numbered f) k (by_number q e k t) (copy_numbered e f c))

  -- an assignment in code of a sound one
  assign_sound : (to_state : Bool) (a : s.Assign ℕ) (c : Assign) → IsSoundAssign q to_state a
      → Assign_renames same a (assign_of c) → IsAssignTo p to_state c
  assign_sound to_state a c h k =
      let there = along_on q.variables.items p.variables.items copied a.target h.variable h.stands in
      record {
        variable = there.0;
        stands = subst (λ (n : ℕ). Stands p.variables.items n there.0) k.target there.1;
        is = there.2.is_state ∙ h.sort;
        value = by_variable p c.value (kind_of_domain there.0.domain)
            (moved a.value (numbered c.value) (kind_of_domain there.0.domain)
            (subst (λ (z : ValueKind). IsTypedBy q a.value z) (domain_kind there.2.domain) h.value) k.value);
        conditions = λ d o. let e = condition_back a.conditions c.when.items k.conditions d o in
            by_variable p d.0 kind.Truth (moved e.0 (numbered d.0) kind.Truth (h.conditions (e.0, d.1) e.1) e.2);
      }

  pub assigns_sound : (to_state : Bool) (xs : List (s.Assign ℕ)) (ys : List Assign)
      → ((a : s.Assign ℕ) → IsOneOf xs a → IsSoundAssign q to_state a) → AreAssigns xs ys → (c : Assign) → IsOneOf ys c
      → IsAssignTo p to_state c
  assigns_sound to_state xs ys each h c o =
      let b = along_back xs (map assign_of ys) h o.place (assign_of c) (stands_map assign_of ys o.place c o.stands) in
      assign_sound to_state b.0 c (each b.0 (one_here xs o.place b.0 b.1)) b.2

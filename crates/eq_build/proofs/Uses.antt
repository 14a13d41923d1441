-- A net has a list of its uses, and so blocks.
use Rattle.std.proofs.Common.{◌≡◌, ◌⊎◌, inl, inr, ℕ, zero, suc, ◌+◌, ◌<◌, ◌≤◌, Bool, true, false, not, cond, List, [], ◌∷◌, take, refl, sym, ap, ◌∙◌, subst, arith}
use Rattle.std.proofs.lemmas.Bool.{cases_eq}
use Rattle.std.proofs.lemmas.List.Sums.{sum_by-cons}
use Rattle.ar_base.specs.Lists.{Stands, IsOneOf, Along, none, one_and}
use Rattle.ar_base.proofs.Standing.{stands_none, one_none, one_first, one_rest, one_cases, one_contains, contains_one}
use Rattle.typed_expr.specs.Mentions.{Mentions}
use Rattle.typed_expr.specs.declared.expr.Expr.{Expr, out-Expr}
use Rattle.typed_expr.proofs.Listing.{Told, Listed, listed_as, listed_one, listed_or, listed_where, listed_by}
use Rattle.typed_expr.proofs.Mentioning.{mentions_told}
use Rattle.ar_meaning.specs.Systems.{Assign, Variable, Net}
use Rattle.ar_meaning.specs.Dependence.{Tests, in_this, in_later, Names, IsFlow, DependsOn, flow_count}
use Rattle.flow_blocks.specs.Blocks.{Follow, all_given, next}
use Rattle.flow_blocks.specs.BlocksInside.{AreUsesBelow}
use Rattle.flow_blocks.proofs.ExistenceLemmas.{some_list}
use Rattle.eq_build.specs.Steps.{AreBlocks}
use Rattle.eq_build.proofs.Blocks.{one_flow}

number_told : (x y : ℕ) → Told (x ≡ y)
number_told x y = cases_eq x y

-- one more where the first is a flow
counted : (z : Variable ℕ) (zs : List (Variable ℕ))
    → flow_count (z ∷ zs) ≡ cond {A = ℕ} (not z.is_state) 1 0 + flow_count zs
counted z zs = sum_by-cons (λ (v : Variable ℕ). cond {A = ℕ} (not v.is_state) 1 0) z zs

is_one : (z : Variable ℕ) → z.is_state ≡ false → cond {A = ℕ} (not z.is_state) 1 0 ≡ 1
is_one z e = ap (λ b. cond {A = ℕ} (not b) 1 0) e

is_none : (z : Variable ℕ) → z.is_state ≡ true → cond {A = ℕ} (not z.is_state) 1 0 ≡ 0
is_none z e = ap (λ b. cond {A = ℕ} (not b) 1 0) e

-- a flow before which k flows stand
record FlowAt (xs : List (Variable ℕ)) (k : ℕ) : Type 0 where
  place : ℕ
  variable : Variable ℕ
  stands : Stands xs place variable
  is_flow : variable.is_state ≡ false
  before : flow_count (take place xs) ≡ k

later : {z : Variable ℕ} {zs : List (Variable ℕ)} {j k : ℕ} → j + cond {A = ℕ} (not z.is_state) 1 0 ≡ k
    → FlowAt zs j → FlowAt (z ∷ zs) k
later {z = z} {zs = zs} e f =
    let more : flow_count (take (suc f.place) (z ∷ zs))
    ≡ cond {A = ℕ} (not z.is_state) 1 0 + flow_count (take f.place zs) = counted z (take f.place zs) in
    let h = f.before in
    record {
      place = suc f.place;
      variable = f.variable;
      stands = f.stands;
      is_flow = f.is_flow;
      before = omega (arith, more, h, e);
    }

flow_at : (xs : List (Variable ℕ)) (k : ℕ) → k < flow_count xs → FlowAt xs k
flow_at [] k l = absurd (omega (arith, l))
flow_at (z ∷ zs) k l = go (λ j m. flow_at zs j m) z.is_state refl
  where
    first : ((j : ℕ) → j < flow_count zs → FlowAt zs j) → z.is_state ≡ false → (j : ℕ) → j ≡ k → FlowAt (z ∷ zs) k
    first rest e zero h =
        record { place = zero; variable = z; stands = refl; is_flow = e; before = h }
    first rest e (suc j) h =
        let one = is_one z e in
        let c = counted z zs in
        later (omega (arith, one, h)) (rest j (omega (arith, one, c, l, h)))

    go : ((j : ℕ) → j < flow_count zs → FlowAt zs j) → (b : Bool) → z.is_state ≡ b → FlowAt (z ∷ zs) k
    go rest true e =
        let no = is_none z e in
        let c = counted z zs in
        later (omega (arith, no)) (rest k (omega (arith, no, c, l)))
    go rest false e = first rest e k refl

-- fewer flows stand before a flow than there are
pub before_flow : (xs : List (Variable ℕ)) (n : ℕ) (x : Variable ℕ) → Stands xs n x → x.is_state ≡ false
    → flow_count (take n xs) < flow_count xs
before_flow [] n x s e = absurd (stands_none n x s)
before_flow (z ∷ zs) zero x s e =
    let i : z ≡ x = cc in
    let one = is_one z (ap (λ (v : Variable ℕ). v.is_state) i ∙ e) in
    let c = counted z zs in
    let start : flow_count (take zero (z ∷ zs)) ≡ 0 = refl in
    omega (arith, one, c, start)
before_flow (z ∷ zs) (suc n) x s e =
    let c = counted z zs in
    let d : flow_count (take (suc n) (z ∷ zs)) ≡ cond {A = ℕ} (not z.is_state) 1 0 + flow_count (take n zs)
    = counted z (take n zs) in
    let r = before_flow zs n x s e in
    omega (arith, c, d, r)

module _ (net : Net ℕ) where
  flow_below : (k x : ℕ) → IsFlow net k x → k < flow_count net.variables
  flow_below k x f =
      let r = before_flow net.variables f.place f.variable f.stands f.is_flow in
      let b = f.before in omega (arith, r, b)

  pub some_flow : (k : ℕ) → k < flow_count net.variables → (x : ℕ) × IsFlow net k x
  some_flow k l =
      let f = flow_at net.variables k l in (
        f.variable.key,
        record {
          place = f.place;
          variable = f.variable;
          stands = f.stands;
          is_key = refl;
          is_flow = f.is_flow;
          before = f.before;
        },
      )

  -- the first so many flows
  flows_listed : (m : ℕ) → m ≤ flow_count net.variables → Listed (λ (p : ℕ × ℕ). IsFlow net p.0 p.1 × (p.0 < m))
  flows_listed zero l = record {
    items = [];
    sound = λ a m. absurd (one_none a (one_contains [] a m));
    whole = λ a h. let r = h.1 in absurd (omega (arith, r));
  }
  flows_listed (suc m) l =
      let f = some_flow m (omega (arith, l)) in
      listed_as (listed_or (flows_listed m (omega (arith, l))) (listed_one (m, f.0))) (on f) (back f)
    where
      on : (f : (x : ℕ) × IsFlow net m x) (p : ℕ × ℕ) → (IsFlow net p.0 p.1 × (p.0 < m)) ⊎ ((m, f.0) ≡ p)
          → IsFlow net p.0 p.1 × (p.0 < suc m)
      on f p (inl h) = let r = h.1 in (h.0, omega (arith, r))
      on f p (inr e) =
          subst (λ (q : ℕ × ℕ). IsFlow net q.0 q.1 × (q.0 < suc m)) e (f.1, omega arith)

      back : (f : (x : ℕ) × IsFlow net m x) (p : ℕ × ℕ) → IsFlow net p.0 p.1 × (p.0 < suc m)
          → (IsFlow net p.0 p.1 × (p.0 < m)) ⊎ ((m, f.0) ≡ p)
      back f p h = elim (cases_eq p.0 m) [
        | inl e ↦
            (let g : IsFlow net m p.1 = subst (λ k. IsFlow net k p.1) e h.0 in
            let i : f.0 ≡ p.1 = one_flow net m f.0 p.1 f.1 g in
            inr (ap (λ (k : ℕ). (k, f.0)) (sym e) ∙ ap (λ (x : ℕ). (p.0, x)) i))
        | inr n ↦ (let r = h.1 in inl (h.0, omega (arith, r, n)))
      ]

  tests_told : (x : ℕ) (cs : List (Expr ℕ × Bool)) → Told (Tests x cs)
  tests_told x [] = inr (λ t. elim t [ ])
  tests_told x ((e, b) ∷ cs) = go (mentions_told number_told x e) (tests_told x cs)
    where
      go : Told (Mentions x (out-Expr ℕ e)) → Told (Tests x cs) → Told (Tests x ((e, b) ∷ cs))
      go (inl m) t = inl (in_this m)
      go (inr n) (inl t) = inl (in_later t)
      go (inr n) (inr k) = inr (λ t. elim t [ in_this m ↦ n m | in_later u ↦ k u ])

  names_told : (a : Assign ℕ) (x : ℕ) → Told (Names a x)
  names_told a x = go (mentions_told number_told x a.value) (tests_told x a.conditions)
    where
      go : Told (Mentions x (out-Expr ℕ a.value)) → Told (Tests x a.conditions) → Told (Names a x)
      go (inl m) t = inl (inl m)
      go (inr n) (inl t) = inl (inr t)
      go (inr n) (inr k) = inr (λ h. elim h [ inl m ↦ n m | inr t ↦ k t ])

  -- an assignment to x names y
  record Leads (assigns : List (Assign ℕ)) (x y : ℕ) : Type 0 where
    assign : Assign ℕ
    is_one : IsOneOf assigns assign
    is_target : assign.target ≡ x
    names : Names assign y

  leads_told : (assigns : List (Assign ℕ)) (x y : ℕ) → Told (Leads assigns x y)
  leads_told [] x y = inr (λ l. one_none l.assign l.is_one)
  leads_told (a ∷ rest) x y = go (number_told a.target x) (names_told a y) (leads_told rest x y)
    where
      on_rest : Leads rest x y → Leads (a ∷ rest) x y
      on_rest l = record {
        assign = l.assign;
        is_one = one_rest a rest l.assign l.is_one;
        is_target = l.is_target;
        names = l.names;
      }

      none_here : (a.target ≡ x → Names a y → ⊥) → (Leads rest x y → ⊥) → Leads (a ∷ rest) x y → ⊥
      none_here n k l = elim (one_cases a rest l.assign l.is_one) [
        | inl e ↦
            n (ap (λ (z : Assign ℕ). z.target) e ∙ l.is_target)
            (subst (λ (z : Assign ℕ). Names z y) (sym e) l.names)
        | inr m ↦ k (record { assign = l.assign; is_one = m; is_target = l.is_target; names = l.names })
      ]

      go : Told (a.target ≡ x) → Told (Names a y) → Told (Leads rest x y) → Told (Leads (a ∷ rest) x y)
      go (inl e) (inl n) t = inl (record { assign = a; is_one = one_first a rest; is_target = e; names = n })
      go (inl e) (inr n) (inl l) = inl (on_rest l)
      go (inl e) (inr n) (inr k) = inr (none_here (λ _ h. n h) k)
      go (inr n) t (inl l) = inl (on_rest l)
      go (inr n) t (inr k) = inr (none_here (λ e _. n e) k)

  uses_listed : Listed (λ (q : ℕ × ℕ). DependsOn net q.0 q.1)
  uses_listed =
      let flows = flows_listed (flow_count net.variables) (omega arith) in
      listed_as
      (listed_by flows (λ f. listed_by flows
      (λ g. listed_where (leads_told net.assertions f.1 g.1) (listed_one (f.0, g.0)))))
      (λ q h. on h.0 h.2.0 q h.1.0 h.2.1.0 h.2.2.0 h.2.2.1)
      (λ q d. let k = d.to in let l = d.other in (
        (q.0, d.assign.target),
        (k, flow_below q.0 d.assign.target k),
        (
          (q.1, d.named),
          (l, flow_below q.1 d.named l),
          (record { assign = d.assign; is_one = d.is_one; is_target = refl; names = d.names }, refl),
        ),
      ))
    where
      on : (f g q : ℕ × ℕ) → IsFlow net f.0 f.1 → IsFlow net g.0 g.1 → Leads net.assertions f.1 g.1 → (f.0, g.0) ≡ q
          → DependsOn net q.0 q.1
      on f g q r s l e = subst (λ (z : ℕ × ℕ). DependsOn net z.0 z.1) e (record {
        assign = l.assign;
        is_one = l.is_one;
        to = subst (λ x. IsFlow net f.0 x) (sym l.is_target) r;
        named = g.1;
        names = l.names;
        other = s;
      })

  -- the numbers of the flows at these places
  keyed : (ks : List ℕ) → ((k : ℕ) → IsOneOf ks k → k < flow_count net.variables)
      → (ns : List ℕ) × Along (λ k n. IsFlow net k n) ks ns
  keyed [] l = ([], none)
  keyed (k ∷ ks) l =
      let f = some_flow k (l k (one_first k ks)) in
      let r = keyed ks (λ j m. l j (one_rest k ks j m)) in
      (f.0 ∷ r.0, one_and f.1 r.1)

  all_keyed : {uses : List (ℕ × ℕ)} {given classes : List (List ℕ)}
      → Follow (flow_count net.variables) uses given classes
      → (blocks : List (List ℕ)) × Along (Along (λ k n. IsFlow net k n)) classes blocks
  all_keyed (all_given f) = ([], none)
  all_keyed (next {members = members} n f) =
      let c = n.is_class in
      let r = keyed members c.below in
      let rs = all_keyed f in
      (r.0 ∷ rs.0, one_and r.1 rs.1)

  -- a net has blocks
  pub some_blocks : (blocks : List (List ℕ)) × AreBlocks net blocks
  some_blocks =
      let us = uses_listed in
      let low : AreUsesBelow (flow_count net.variables) us.items = λ a b m.
      let d = us.sound (a, b) (contains_one us.items (a, b) m) in
      (flow_below a d.assign.target d.to, flow_below b d.named d.other) in
      let found = some_list (flow_count net.variables) us.items low in
      let r = all_keyed found.1 in (
        r.0,
        record {
          uses = us.items;
          are_uses = record {
            only = λ a b m. us.sound (a, b) (contains_one us.items (a, b) m);
            all = λ a b d. one_contains us.items (a, b) (us.whole (a, b) d);
          };
          classes = found.0;
          follow = found.1;
          are = r.1;
        },
      )

-- each number of a block is that of a flow
pub block_flow : {net : Net ℕ} {classes blocks : List (List ℕ)} → Along (Along (λ k n. IsFlow net k n)) classes blocks
    → (block : List ℕ) → IsOneOf blocks block → (n : ℕ) → IsOneOf block n → (k : ℕ) × IsFlow net k n
block_flow none block m n i = absurd (one_none block m)
block_flow {net = net} (one_and {b = b} {ys = ys} r rs) block m n i = elim (one_cases b ys block m) [
  | inl e ↦ in_block r n (subst (λ z. IsOneOf z n) (sym e) i)
  | inr k ↦ block_flow rs block k n i
]
  where
    in_block : {ks ns : List ℕ} → Along (λ k n. IsFlow net k n) ks ns → (n : ℕ) → IsOneOf ns n
        → (k : ℕ) × IsFlow net k n
    in_block none n i = absurd (one_none n i)
    in_block (one_and {a = k} {b = x} {ys = xs} f fs) n i = elim (one_cases x xs n i) [
      | inl e ↦ (k, subst (λ z. IsFlow net k z) e f)
      | inr h ↦ in_block fs n h
    ]

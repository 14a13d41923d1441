-- The blocks of the table have each flow once, in an order in which what a block names comes before it.
use Rattle.std.proofs.Common.{◌≡◌, ℕ, zero, suc, ◌<◌, ◌⊎◌, inl, inr, Bool, true, false, List, [], ◌∷◌, take, refl, sym, ap, ◌∙◌, subst, arith}
use Rattle.ar_base.specs.Lists.{Stands, IsOneOf}
use Rattle.ar_base.proofs.Standing.{stands_none, stands_one, one_none, along_back, along_on}
use Rattle.ar_meaning.specs.Systems.{Assign, Variable, Net}
use Rattle.ar_meaning.specs.FactsInside.{AreKeyed, AreNumberedVariables}
use Rattle.ar_meaning.specs.Dependence.{Names, IsFlow, flow_count}
use Rattle.flow_blocks.specs.Blocks.{directly}
use Rattle.flow_blocks.proofs.LawLemmas.{in_some, in_one, in_earlier}
use Rattle.table_laws.specs.Known.{IsSomeFlow, AreOfFlows}
use Rattle.eq_build.specs.Steps.{AreBlocks}
use Rattle.table_laws.proofs.FirstReading.{variable_or_none}
use Rattle.table_laws.proofs.FlowCounts.{flow_within, flow_number, number_flow}
use Rattle.table_laws.proofs.KnownInEnd.{AreInOrder, IsAmong}

-- one of the first so many
within_take : {A : Type 0} (xs : List A) (k n : ℕ) (x : A) → Stands (take k xs) n x → (n < k) × Stands xs n x
within_take [] zero n x s = absurd (stands_none n x s)
within_take [] (suc k) n x s = absurd (stands_none n x s)
within_take (y ∷ xs) zero n x s = absurd (stands_none n x s)
within_take (y ∷ xs) (suc k) zero x s = (omega arith, s)
within_take (y ∷ xs) (suc k) (suc n) x s = let r = within_take xs k n x s in (let l = r.0 in omega (arith, l), r.1)

module _ (net : Net ℕ) (keyed : AreKeyed net) (numbered : AreNumberedVariables net)
    (targets : (a : Assign ℕ) → IsOneOf net.assertions a → IsSomeFlow net a.target)
    (blocks : List (List ℕ)) (b : AreBlocks net blocks) where
  abbrev IsNumber : ℕ → ℕ → Type 0
  IsNumber k n = IsFlow net k n

  -- a member of a block by its class
  record IsMember (n : ℕ) (x : ℕ) : Type 0 where
    pub class : List ℕ
    pub stands : Stands b.classes n class
    pub number : ℕ
    pub is_one : IsOneOf class number
    pub is_flow : IsFlow net number x

  member : (n : ℕ) (block : List ℕ) → Stands blocks n block → (x : ℕ) → IsOneOf block x → IsMember n x
  member n block s x o =
      let c = along_back b.classes blocks b.are n block s in
      let p = along_back c.0 block c.2 o.place x o.stands in
      record {
        class = c.0;
        stands = c.1;
        number = p.0;
        is_one = record { place = o.place; stands = p.1 };
        is_flow = p.2;
      }

  -- a block by the number of a flow
  record HasBlock (n : ℕ) (x : ℕ) : Type 0 where
    pub block : List ℕ
    pub stands : Stands blocks n block
    pub is_one : IsOneOf block x

  block_of : (n : ℕ) (class : List ℕ) (k x : ℕ) → Stands b.classes n class → IsOneOf class k → IsFlow net k x
      → HasBlock n x
  block_of n class k x s o f =
      let c = along_on b.classes blocks b.are n class s in
      let y = along_on class c.0 c.2 o.place k o.stands in
      let i : y.0 ≡ x = number_flow net k y.0 x y.2 f in
      record {
        block = c.0;
        stands = c.1;
        is_one = record { place = o.place; stands = subst (λ (z : ℕ). Stands c.0 o.place z) i y.1 };
      }

  pub blocks_of_flows : AreOfFlows net blocks
  blocks_of_flows = record {
    members = λ n block s x o. let m = member n block s x o in (m.number, m.is_flow);
    targets = targets;
  }

  pub blocks_in_order : AreInOrder net blocks
  blocks_in_order = record {
    covers = λ a o.
        let p = targets a o in
        elim (in_some b.classes b.follow p.0 (flow_within net p.0 a.target p.1)) [
          | inl none ↦ absurd (one_none none.members none.is_one)
          | inr g ↦ (
              let w = g.is_one in
              let c = block_of w.place g.members p.0 a.target w.stands g.is_member p.1 in
              (c.block, record { place = w.place; stands = c.stands }, c.is_one))
        ];
    apart = λ m n c d x s t o u.
        let p = member m c s x o in
        let q = member n d t x u in
        let e = flow_number net keyed p.number q.number x p.is_flow q.is_flow in
        in_one b.classes b.follow m n q.number p.class q.class p.stands q.stands
        (subst (λ z. IsOneOf p.class z) e p.is_one) q.is_one;
    earlier = λ n c s a x o i r. earlier n c s a x o i r (variable_or_none net.variables x);
  }
    where
      Earlier : ℕ → List ℕ → ℕ → Type 0
      Earlier n c x = IsOneOf c x ⊎ ((IsSomeFlow net x → ⊥) ⊎ IsAmong blocks 0 n x)

      used : (n : ℕ) (c : List ℕ) → Stands blocks n c → (a : Assign ℕ) (x : ℕ) → IsOneOf net.assertions a
          → IsOneOf c a.target → Names a x → IsSomeFlow net x → Earlier n c x
      used n c s a x o i r f =
          let m = member n c s a.target i in
          let all = b.are_uses in
          let u : IsOneOf b.uses (m.number, f.0) = all.all m.number f.0
          (record { assign = a; is_one = o; to = m.is_flow; named = x; names = r; other = f.1 }) in
          elim (in_earlier b.classes b.follow n m.number f.0 m.class (flow_within net f.0 x f.1) m.stands m.is_one
          (directly u)) [
            | inl k ↦ (
                let h = block_of n m.class f.0 x m.stands k f.1 in
                inl (subst (λ z. IsOneOf z x) (stands_one blocks n h.block c h.stands s) h.is_one))
            | inr z ↦ elim z [
              | inl g ↦ absurd (one_none g.members g.is_one)
              | inr g ↦ (
                  let w = g.is_one in
                  let k = within_take b.classes n w.place g.members w.stands in
                  let h = block_of w.place g.members f.0 x k.1 g.is_member f.1 in
                  inr (inr (record {
                    place = w.place;
                    block = h.block;
                    from_low = omega arith;
                    before_high = k.0;
                    stands = h.stands;
                    is_one = h.is_one;
                  })))
            ]
          ]

      earlier : (n : ℕ) (c : List ℕ) → Stands blocks n c → (a : Assign ℕ) (x : ℕ) → IsOneOf net.assertions a
          → IsOneOf c a.target → Names a x
          → ((v : Variable ℕ) × Stands net.variables x v) ⊎ ((v : Variable ℕ) → Stands net.variables x v → ⊥)
          → Earlier n c x
      earlier n c s a x o i r (inr h) = inr (inl (λ f.
          let g = f.1 in
          h g.variable (subst (λ z. Stands net.variables z g.variable)
          (sym (numbered.key g.place g.variable g.stands) ∙ g.is_key) g.stands)))
      earlier n c s a x o i r (inl v) = go v.0.is_state refl
        where
          go : (e : Bool) → v.0.is_state ≡ e → Earlier n c x
          go false e = used n c s a x o i r (
            flow_count (take x net.variables),
            record {
              place = x;
              variable = v.0;
              stands = v.1;
              is_key = numbered.key x v.0 v.1;
              is_flow = e;
              before = refl;
            },
          )
          go true e = inr (inl (λ f.
              let g = f.1 in
              let k : g.place ≡ x = sym (numbered.key g.place g.variable g.stands) ∙ g.is_key in
              let j : g.variable ≡ v.0 =
              stands_one net.variables x g.variable v.0
              (subst (λ z. Stands net.variables z g.variable) k g.stands) v.1 in
              let q = g.is_flow in
              let y : v.0.is_state ≡ false = ap (λ (z : Variable ℕ). z.is_state) (sym j) ∙ q in cc))

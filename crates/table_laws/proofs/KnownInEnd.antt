-- The rounds of all blocks in order, at one set and with the gates of the whole table: what is known in the end.
use Rattle.std.proofs.Common.{◌≡◌, ◌↔◌, ℕ, zero, suc, ◌<◌, ◌≤◌, ◌⊎◌, inl, inr, Bool, true, false, List, ◌∷◌, length, refl, sym, ap, ◌∙◌, subst, arith}
use Rattle.ar_base.specs.Lists.{Stands, IsOneOf}
use Rattle.ar_base.proofs.Standing.{stands_none}
use Rattle.domains.specs.declared.Value.{Value}
use Rattle.typed_expr.specs.declared.expr.ValueKind.{ValueKind}
use Rattle.ar_meaning.specs.Systems.{Assign, Net}
use Rattle.ar_meaning.specs.Facts.{Allows, HasStateValue}
use Rattle.ar_meaning.specs.Dependence.{Names}
use Rattle.gts_core.specs.Lawful.{IsLawful}
use Rattle.eq_core.specs.Gates.{Gate}
use Rattle.eq_core.specs.Values.{value_at}
use Rattle.eq_core.specs.ValuesInside.{GainsGates}
use Rattle.eq_core.proofs.Telling.{grows_on}
use Rattle.eq_build.specs.Entries.{operand_for}
use Rattle.table_laws.specs.Known.{HasRounds, IsKnownInTheEnd, IsSomeFlow, AreOfFlows}
use Rattle.eq_build.specs.Steps.{Reading, All_rounds, no_block, block_and}
use Rattle.table_laws.proofs.Growing.{all_rounds_more}
use Rattle.table_laws.proofs.RoundsHold.{held, IsSound, Follows, RoundsHold, rounds_hold, reading_at, reading_first, reading_last}

-- the variable is one of a block from place low on and before place high
pub record IsAmong (blocks : List (List ℕ)) (low high : ℕ) (x : ℕ) : Type 0 where
  pub place : ℕ
  pub block : List ℕ
  pub from_low : low ≤ place
  pub before_high : place < high
  pub stands : Stands blocks place block
  pub is_one : IsOneOf block x

-- the blocks have each target of an assignment, no flow twice, and what an assignment to one of them names is no flow,
-- of its block, or of an earlier one
pub record AreInOrder (net : Net ℕ) (blocks : List (List ℕ)) : Type 0 where
  pub covers : (a : Assign ℕ) → IsOneOf net.assertions a
      → (block : List ℕ) × IsOneOf blocks block × IsOneOf block a.target
  pub apart : (m n : ℕ) (b c : List ℕ) (x : ℕ) → Stands blocks m b → Stands blocks n c → IsOneOf b x → IsOneOf c x
      → m ≡ n
  pub earlier : (n : ℕ) (block : List ℕ) → Stands blocks n block → (a : Assign ℕ) (x : ℕ)
      → IsOneOf net.assertions a → IsOneOf block a.target → Names a x
      → IsOneOf block x ⊎ ((IsSomeFlow net x → ⊥) ⊎ IsAmong blocks 0 n x)

one_later_on : (b : List ℕ) (blocks : List (List ℕ)) (low high : ℕ) (x : ℕ) → IsAmong blocks low high x
    → IsAmong (b ∷ blocks) (suc low) (suc high) x
one_later_on b blocks low high x m = record {
  place = suc m.place;
  block = m.block;
  from_low = (let l = m.from_low in omega (arith, l));
  before_high = (let l = m.before_high in omega (arith, l));
  stands = m.stands;
  is_one = m.is_one;
}

wider_on : (blocks : List (List ℕ)) (low high : ℕ) (x : ℕ) → IsAmong blocks (suc low) high x
    → IsAmong blocks low high x
wider_on blocks low high x m = record {
  place = m.place;
  block = m.block;
  from_low = (let l = m.from_low in omega (arith, l));
  before_high = m.before_high;
  stands = m.stands;
  is_one = m.is_one;
}

in_first : (b : List ℕ) (blocks : List (List ℕ)) (high : ℕ) (x : ℕ) → 0 < high → IsOneOf b x
    → IsAmong (b ∷ blocks) 0 high x
in_first b blocks high x l o =
    record { place = 0; block = b; from_low = omega arith; before_high = l; stands = refl; is_one = o }

module _ (set : List ℕ) (kinds : ℕ → ValueKind) (net : Net ℕ) (lawful : IsLawful net kinds) (gates : List Gate) where
  abbrev SoundAt : List Gate → Reading → Type 0
  SoundAt = IsSound set kinds net lawful gates

  abbrev FollowAt : List ℕ → Reading → Reading → Type 0
  FollowAt = Follows set kinds net lawful gates

  abbrev RoundsAt : (b : List ℕ) → List Gate → Reading → Reading → (ℕ → Reading) → Type 0
  RoundsAt b = RoundsHold set kinds net lawful gates b (length b)

  -- the readings of a block's rounds; before and after them other blocks change theirs
  pub record BlockHolds (blocks : List (List ℕ)) (n : ℕ) (b : List ℕ) (read last : Reading) : Type 0 where
    pub at : ℕ → Reading
    pub follows : (k : ℕ) → k < length b → FollowAt b (at k) (at (suc k))
    pub allowed : (k : ℕ) (x : ℕ) (d : Value) → held set gates (at k) x d ≡ true → Allows net x d
    pub begins : (x : ℕ) → IsAmong blocks 0 n x ⊎ (at zero x ≡ read x)
    pub ends : (x : ℕ) → IsAmong blocks (suc n) (length blocks) x ⊎ (at (length b) x ≡ last x)
    pub outside : (x : ℕ) → IsOneOf b x ⊎ (IsAmong blocks (suc n) (length blocks) x ⊎ ((k : ℕ) → at k x ≡ last x))

  pub record AllHold (blocks : List (List ℕ)) (h : List Gate) (read last : Reading) : Type 0 where
    pub is_sound : SoundAt h last
    pub outside : (x : ℕ) → IsAmong blocks 0 (length blocks) x ⊎ (last x ≡ read x)
    pub each : (n : ℕ) (b : List ℕ) → Stands blocks n b → BlockHolds blocks n b read last

  pub all_hold : {blocks : List (List ℕ)} {g h : List Gate} {read last : Reading}
      → All_rounds net blocks g read last h → SoundAt g read → GainsGates h gates → AllHold blocks h read last
  all_hold no_block s top =
      record { is_sound = s; outside = λ x. inr refl; each = λ n b e. absurd (stands_none n b e) }
  all_hold (block_and {block = b} {blocks = bs} {g = g0} {h = h0} {i = i0} {read = read} {mid = mid} {last = last} c d)
      s top =
      let m = rounds_hold set kinds net lawful gates c s (grows_on (all_rounds_more d) top) in
      let r = all_hold d m.is_sound top in
      record { is_sound = r.is_sound; outside = λ x. out m r x; each = each m r }
    where
      at : ℕ → Reading
      at = reading_at set kinds net lawful gates c

      First : Type 0
      First = RoundsAt b h0 read mid at

      Rest : Type 0
      Rest = AllHold bs i0 mid last

      begun : at zero ≡ read
      begun = reading_first set kinds net lawful gates c

      ended : at (length b) ≡ mid
      ended = reading_last set kinds net lawful gates c

      middle : First → (x : ℕ) → IsOneOf b x ⊎ (mid x ≡ read x)
      middle m x = elim (m.outside x) [
        | inl o ↦ inl o
        | inr f ↦ inr (ap (λ (z : Reading). z x) (sym ended) ∙ f (length b))
      ]

      out : First → Rest → (x : ℕ) → IsAmong (b ∷ bs) 0 (suc (length bs)) x ⊎ (last x ≡ read x)
      out m r x = elim (r.outside x) [
        | inl a ↦ inl (wider_on (b ∷ bs) 0 (suc (length bs)) x (one_later_on b bs 0 (length bs) x a))
        | inr e ↦ elim (middle m x) [
          | inl o ↦ inl (in_first b bs (suc (length bs)) x (omega arith) o)
          | inr f ↦ inr (e ∙ f)
        ]
      ]

      first : First → Rest → BlockHolds (b ∷ bs) zero b read last
      first m r = record {
        at = at;
        follows = m.follows;
        allowed = m.allowed;
        begins = λ x. inr (ap (λ (z : Reading). z x) begun);
        ends = λ x. elim (r.outside x) [
          | inl a ↦ inl (one_later_on b bs 0 (length bs) x a)
          | inr e ↦ inr (ap (λ (z : Reading). z x) ended ∙ sym e)
        ];
        outside = λ x. elim (m.outside x) [
          | inl o ↦ inl o
          | inr f ↦ elim (r.outside x) [
            | inl a ↦ inr (inl (one_later_on b bs 0 (length bs) x a))
            | inr e ↦ inr (inr (λ k. f k ∙ sym (f (length b)) ∙ ap (λ (z : Reading). z x) ended ∙ sym e))
          ]
        ];
      }

      next : First → Rest → (n : ℕ) (e : List ℕ) → Stands bs n e → BlockHolds (b ∷ bs) (suc n) e read last
      next m r n e st =
          let q = r.each n e st in
          record {
            at = q.at;
            follows = q.follows;
            allowed = q.allowed;
            begins = λ x. elim (q.begins x) [
              | inl a ↦ inl (wider_on (b ∷ bs) 0 (suc n) x (one_later_on b bs 0 n x a))
              | inr i ↦ elim (middle m x) [
                | inl o ↦ inl (in_first b bs (suc n) x (omega arith) o)
                | inr f ↦ inr (i ∙ f)
              ]
            ];
            ends = λ x. elim (q.ends x) [
              | inl a ↦ inl (one_later_on b bs (suc n) (length bs) x a)
              | inr i ↦ inr i
            ];
            outside = λ x. elim (q.outside x) [
              | inl o ↦ inl o
              | inr z ↦ elim z [
                | inl a ↦ inr (inl (one_later_on b bs (suc n) (length bs) x a))
                | inr f ↦ inr (inr f)
              ]
            ];
          }

      each : First → Rest → (n : ℕ) (e : List ℕ) → Stands (b ∷ bs) n e → BlockHolds (b ∷ bs) n e read last
      each m r zero e st = let i : b ≡ e = cc in subst (λ z. BlockHolds (b ∷ bs) zero z read last) i (first m r)
      each m r (suc n) e st = next m r n e st

  -- what is known in the end
  pub all_known : {blocks : List (List ℕ)} {g h : List Gate} {read last : Reading} (t : List Value)
      → All_rounds net blocks g read last h → SoundAt g read → GainsGates h gates → AreInOrder net blocks
      → AreOfFlows net blocks → ((x : ℕ) (d : Value) → (held set gates read x d ≡ true) ↔ HasStateValue net t x d)
      → ((x : ℕ) (d : Value) → HasStateValue net t x d → IsSomeFlow net x → ⊥)
      → IsKnownInTheEnd net t blocks (held set gates last)
  all_known {blocks = blocks} {read = read} {last = last} t c s top order flows given states =
      let r = all_hold c s top in
      record {
        given = λ x d e. at_end x d e (r.outside x);
        only = λ x d e. elim (r.outside x) [
          | inl a ↦ inr (a.place, a.block, a.stands, a.is_one)
          | inr i ↦ inl ((given x d).0 (subst (λ z. value_at gates (operand_for z d) set ≡ true) i e))
        ];
        rounds = λ n b st. rounds n b st (r.each n b st);
        covers = order.covers;
        earlier = λ n b st a x m o q. elim (order.earlier n b st a x m o q) [
          | inl k ↦ inl k
          | inr z ↦ elim z [
            | inl f ↦ inr (inl (λ v e. elim (r.outside x) [
              | inl k ↦ absurd (f (flows.members k.place k.block k.stands x k.is_one))
              | inr i ↦ (given x v).0 (subst (λ u. value_at gates (operand_for u v) set ≡ true) i e)
            ]))
            | inr k ↦ inr (inr (k.place, k.block, k.before_high, k.stands, k.is_one))
          ]
        ];
      }
    where
      at_end : (x : ℕ) (d : Value) → HasStateValue net t x d → IsAmong blocks 0 (length blocks) x ⊎ (last x ≡ read x)
          → held set gates last x d ≡ true
      at_end x d e (inl a) = absurd (states x d e (flows.members a.place a.block a.stands x a.is_one))
      at_end x d e (inr i) = subst (λ z. value_at gates (operand_for z d) set ≡ true) (sym i) ((given x d).1 e)

      not_later : (n : ℕ) (b : List ℕ) → Stands blocks n b → (x : ℕ) → IsOneOf b x
          → IsAmong blocks (suc n) (length blocks) x → ⊥
      not_later n b st x o a =
          let i = order.apart n a.place b a.block x st a.stands o a.is_one in
          let l = a.from_low in omega (arith, i, l)

      rounds : (n : ℕ) (b : List ℕ) → Stands blocks n b → BlockHolds blocks n b read last
          → HasRounds net (held set gates last) b
      rounds n b st q = record {
        reading = λ k. held set gates (q.at k);
        outside = λ a x m o z. elim (q.outside x) [
          | inl k ↦ inl k
          | inr u ↦ elim u [
            | inl k ↦ elim (order.earlier n b st a x m o z) [
              | inl e ↦ inl e
              | inr e ↦ elim e [
                | inl f ↦ absurd (f (flows.members k.place k.block k.stands x k.is_one))
                | inr j ↦ absurd (
                    let i = order.apart j.place k.place j.block k.block x j.stands k.stands j.is_one k.is_one in
                    let y = j.before_high in let p = k.from_low in omega (arith, i, y, p))
              ]
            ]
            | inr f ↦ inr (λ k v. ap (λ z. value_at gates (operand_for z v) set) (f k))
          ]
        ];
        start = λ x v o. none_first x v o (q.begins x);
        allowed = λ k x v o e. q.allowed k x v e;
        sound = λ k x v l o e. let fo = q.follows k l in fo.sound x v o e;
        whole = λ k x v l o a g. let fo = q.follows k l in fo.whole x v o a g;
        last = λ x v o. elim (q.ends x) [
          | inl a ↦ absurd (not_later n b st x o a)
          | inr i ↦ ap (λ z. value_at gates (operand_for z v) set) i
        ];
      }
        where
          none_first : (x : ℕ) (v : Value) → IsOneOf b x → IsAmong blocks 0 n x ⊎ (q.at zero x ≡ read x)
              → held set gates (q.at zero) x v ≡ false
          none_first x v o (inl a) = absurd (
              let i = order.apart n a.place b a.block x st a.stands o a.is_one in
              let l = a.before_high in omega (arith, i, l))
          none_first x v o (inr i) = go (held set gates (q.at zero) x v) refl
            where
              go : (c : Bool) → held set gates (q.at zero) x v ≡ c → held set gates (q.at zero) x v ≡ false
              go false e = e
              go true e = absurd (states x v
                  ((given x v).0 (subst (λ z. value_at gates (operand_for z v) set ≡ true) i e))
                  (flows.members n b st x o))

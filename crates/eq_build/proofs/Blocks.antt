-- The blocks of a net are the same, whatever lists its uses.
use Rattle.std.proofs.Common.{◌≡◌, inl, inr, ℕ, zero, suc, ◌+◌, false, not, cond, List, [], ◌∷◌, take, refl, sym, ap, ◌∙◌, subst, arith}
use Rattle.std.proofs.lemmas.List.Sums.{sum_by-cons}
use Rattle.ar_base.specs.Lists.{Stands, IsOneOf, Along, none, one_and}
use Rattle.ar_base.proofs.Standing.{stands_one, stands_none}
use Rattle.ar_meaning.specs.Systems.{Variable, Net}
use Rattle.ar_meaning.specs.Dependence.{IsFlow, flow_count}
use Rattle.flow_blocks.specs.Blocks.{Depends, directly, through, Together, same, each_other, IsClass, MayBeGiven, IsNext, Follow, all_given, next}
use Rattle.flow_blocks.proofs.LawLemmas.{same_blocks}
use Rattle.eq_build.specs.Steps.{AreBlocks}

-- the two lists have the same uses
record SameUses (us vs : List (ℕ × ℕ)) : Type 0 where
  there : (a b : ℕ) → IsOneOf us (a, b) → IsOneOf vs (a, b)
  back : (a b : ℕ) → IsOneOf vs (a, b) → IsOneOf us (a, b)

turned : {us vs : List (ℕ × ℕ)} → SameUses us vs → SameUses vs us
turned s = record { there = s.back; back = s.there }

depends_as : {us vs : List (ℕ × ℕ)} {a b : ℕ} → SameUses us vs → Depends us a b → Depends vs a b
depends_as {a = a} {b = b} s (directly m) = directly (s.there a b m)
depends_as {a = a} s (through {b = b} m d) = through (s.there a b m) (depends_as s d)

together_as : {us vs : List (ℕ × ℕ)} {a b : ℕ} → SameUses us vs → Together us a b → Together vs a b
together_as s same = same
together_as s (each_other d e) = each_other (depends_as s d) (depends_as s e)

class_as : {count : ℕ} {us vs : List (ℕ × ℕ)} {members : List ℕ} → SameUses us vs → IsClass count us members
    → IsClass count vs members
class_as s c = record {
  one = c.one;
  is_member = c.is_member;
  below = c.below;
  only = λ n m. together_as s (c.only n m);
  all = λ n l t. c.all n l (together_as (turned s) t);
  ascending = c.ascending;
}

may_as : {us vs : List (ℕ × ℕ)} {given : List (List ℕ)} (a : ℕ) → SameUses us vs → MayBeGiven us given a
    → MayBeGiven vs given a
may_as a s m b n t d = elim (m b n (together_as (turned s) t) (depends_as (turned s) d)) [
  | inl q ↦ inl (together_as s q)
  | inr g ↦ inr g
]

next_as : {count : ℕ} {us vs : List (ℕ × ℕ)} {given : List (List ℕ)} {members : List ℕ} → SameUses us vs
    → IsNext count us given members → IsNext count vs given members
next_as s n = record {
  is_class = class_as s n.is_class;
  is_new = n.is_new;
  may = λ k m. may_as k s (n.may k m);
  least = λ m k h l f g. n.least m k h l f (may_as k (turned s) g);
}

follow_as : {count : ℕ} {us vs : List (ℕ × ℕ)} {given blocks : List (List ℕ)} → SameUses us vs
    → Follow count us given blocks → Follow count vs given blocks
follow_as s (all_given f) = all_given f
follow_as s (next n f) = next (next_as s n) (follow_as s f)

-- two flows before which equally many flows stand are one
flow_places : (xs : List (Variable ℕ)) (m n : ℕ) (x y : Variable ℕ) → Stands xs m x → Stands xs n y
    → x.is_state ≡ false → y.is_state ≡ false → flow_count (take m xs) ≡ flow_count (take n xs) → m ≡ n
flow_places [] m n x y s t e f i = absurd (stands_none m x s)
flow_places (z ∷ zs) zero zero x y s t e f i = refl
flow_places (z ∷ zs) zero (suc n) x y s t e f i =
    let same_item : z ≡ x = cc in
    let flow : z.is_state ≡ false = ap (λ (v : Variable ℕ). v.is_state) same_item ∙ e in
    let one : cond {A = ℕ} (not z.is_state) 1 0 ≡ 1 = ap (λ b. cond {A = ℕ} (not b) 1 0) flow in
    let rest = sum_by-cons (λ (v : Variable ℕ). cond {A = ℕ} (not v.is_state) 1 0) z (take n zs) in
    let none_yet : flow_count (take zero (z ∷ zs)) ≡ 0 = refl in
    let here : flow_count (take (suc n) (z ∷ zs)) ≡ cond {A = ℕ} (not z.is_state) 1 0 + flow_count (take n zs) = rest in
    absurd (omega (arith, one, here, none_yet, i))
flow_places (z ∷ zs) (suc m) zero x y s t e f i =
    let same_item : z ≡ y = cc in
    let flow : z.is_state ≡ false = ap (λ (v : Variable ℕ). v.is_state) same_item ∙ f in
    let one : cond {A = ℕ} (not z.is_state) 1 0 ≡ 1 = ap (λ b. cond {A = ℕ} (not b) 1 0) flow in
    let rest = sum_by-cons (λ (v : Variable ℕ). cond {A = ℕ} (not v.is_state) 1 0) z (take m zs) in
    let none_yet : flow_count (take zero (z ∷ zs)) ≡ 0 = refl in
    let here : flow_count (take (suc m) (z ∷ zs)) ≡ cond {A = ℕ} (not z.is_state) 1 0 + flow_count (take m zs) = rest in
    absurd (omega (arith, one, here, none_yet, i))
flow_places (z ∷ zs) (suc m) (suc n) x y s t e f i =
    let a : flow_count (take (suc m) (z ∷ zs)) ≡ cond {A = ℕ} (not z.is_state) 1 0 + flow_count (take m zs)
    = sum_by-cons (λ (v : Variable ℕ). cond {A = ℕ} (not v.is_state) 1 0) z (take m zs) in
    let b : flow_count (take (suc n) (z ∷ zs)) ≡ cond {A = ℕ} (not z.is_state) 1 0 + flow_count (take n zs)
    = sum_by-cons (λ (v : Variable ℕ). cond {A = ℕ} (not v.is_state) 1 0) z (take n zs) in
    ap suc (flow_places zs m n x y s t e f (omega (arith, a, b, i)))

-- flow k is one variable
pub one_flow : (net : Net ℕ) (k x y : ℕ) → IsFlow net k x → IsFlow net k y → x ≡ y
one_flow net k x y f g =
    let p : f.place ≡ g.place
    = flow_places net.variables f.place g.place f.variable g.variable f.stands g.stands f.is_flow g.is_flow
    (f.before ∙ sym g.before) in
    let s : Stands net.variables f.place g.variable = subst (λ n. Stands net.variables n g.variable) (sym p) g.stands in
    let e : f.variable ≡ g.variable = stands_one net.variables f.place f.variable g.variable f.stands s in
    sym f.is_key ∙ ap (λ (v : Variable ℕ). v.key) e ∙ g.is_key

-- what is related to one list item by item, where an item has one partner, is one list
along_same : {A B : Type 0} {R : A → B → Type 0} → ((a : A) (b c : B) → R a b → R a c → b ≡ c) → {as_ : List A}
    {bs cs : List B} → Along R as_ bs → Along R as_ cs → bs ≡ cs
along_same one none none = refl
along_same one (one_and {a = a} {b = b} {ys = ys} r rs) (one_and {b = c} {ys = zs} q qs) =
    ap (λ z. z ∷ ys) (one a b c r q) ∙ ap (λ z. c ∷ z) (along_same one rs qs)

-- a net has one list of blocks
pub blocks_same : (net : Net ℕ) (bs cs : List (List ℕ)) → AreBlocks net bs → AreBlocks net cs → bs ≡ cs
blocks_same net bs cs p q =
    let s : SameUses p.uses q.uses = record {
      there = λ a b m. let u = q.are_uses in u.all a b (let v = p.are_uses in v.only a b m);
      back = λ a b m. let u = p.are_uses in u.all a b (let v = q.are_uses in v.only a b m);
    } in
    let e : p.classes ≡ q.classes = same_blocks p.classes q.classes (follow_as s p.follow) q.follow in
    let along : Along (Along (λ k n. IsFlow net k n)) q.classes bs
    = subst (λ z. Along (Along (λ k n. IsFlow net k n)) z bs) e p.are in
    along_same (λ ks xs ys r t. along_same (λ k x y f g. one_flow net k x y f g) r t) along q.are

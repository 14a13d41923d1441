-- Ways that are put in order.
use Rattle.std.proofs.Common.{◌≡◌, ◌<◌, ◌≤◌, ◌+◌, ◌-◌, ◌⊎◌, ℕ, zero, suc, Bool, true, List, [], ◌∷◌, ◌++◌, length, set, refl, sym, ap, ◌∙◌, subst, inl, inr, arith, length-set, below_more}
use Rattle.std.proofs.lemmas.Bool.{and_parts, and_from}
use Rattle.ar_base.specs.Lists.{Stands, IsOneOf}
use Rattle.ar_base.proofs.Standing.{stands_left, stands_next, stands_within, stands_one}
use Rattle.ar_base.specs.Numbers.{WayId}
use Rattle.gts_core.specs.declared.system.Way.{Way}
use Rattle.gts_core.specs.declared.system.WayBody.{WayBody}
use Rattle.gts_core.specs.declared.system.WayBody.TheVariants.{Local, Sync}
use Rattle.gts_core.specs.declared.system.GtsParts.{GtsParts}
use Rattle.way_flags.specs.Parts.{are_set, flag_at}
use Rattle.way_flags.specs.Ways.{parts_of, WayHasPart, IsWayOrder, IsPlacing, KeepsMarks, ArePartsPlaced, are_placed}
use Rattle.way_flags.proofs.Lists.{flag_same, flag_kept, flag_from, one_more}

-- each part of a way whose parts are placed is placed
set_each : (placed : List Bool) (ps : List (Bool × WayId)) → are_set placed ps ≡ true → (k : ℕ) (q : Bool × WayId)
    → Stands ps k q → flag_at placed q.1.n ≡ true
set_each placed [] h zero q s = cc
set_each placed [] h (suc k) q s = cc
set_each placed (r ∷ ps) h zero q s = let same : r ≡ q = cc in subst (λ (z : Bool × WayId). flag_at placed z.1.n ≡ true) same (and_parts (flag_at placed r.1.n) (are_set placed ps) h).0
set_each placed (r ∷ ps) h (suc k) q s =
    set_each placed ps (and_parts (flag_at placed r.1.n) (are_set placed ps) h).1 k q s

placed_each : (placed : List Bool) (b : WayBody) → are_placed placed b ≡ true → (q : Bool × WayId)
    → IsOneOf (parts_of b) q → flag_at placed q.1.n ≡ true
placed_each placed (Local guard action) h q one = set_each placed [] refl one.place q one.stands
placed_each placed (Sync parts) h q one = set_each placed parts.items h one.place q one.stands

module _ (p : GtsParts) (order : List WayId) (placed : List Bool) (is : IsPlacing p order placed) where
  -- one more way, whose parts are placed
  pub place_more : (id : WayId) (way : Way) → Stands p.ways.items id.n way → (flag_at placed id.n ≡ true → ⊥)
      → are_placed placed way.body ≡ true → IsPlacing p (order ++ id ∷ []) (set placed id.n true)
  place_more id way st fresh ready = record {
    long = length-set placed id.n true ∙ is.long;
    inside = λ k a s. elim (one_more order id k a s) [
      | inl s ↦ (let i = is.inside k a s in (i.0, flag_kept placed id.n a.n i.1))
      | inr e ↦ (
        subst (λ (z : WayId). z.n < length p.ways.items) (sym e.1) below,
        subst
            (λ (z : WayId). flag_at (set placed id.n true) z.n ≡ true) (sym e.1) here,
      )
    ];
    once = λ j k a other s t e. once j k a other (one_more order id j a s) (one_more order id k other t) e;
    all = λ n h. elim (flag_from placed id.n n h) [
      | inl h ↦ (let a = is.all n h in (a.0, a.1, stands_left order (id ∷ []) a.0 a.1 a.2, a.3))
      | inr e ↦ (length order, id, stands_next order id [], sym e)
    ];
    after = λ j k a other part s has t e. after j k a other part (one_more order id k a s) has
        (one_more order id j other t) e;
    ready = λ k a part s has. elim (one_more order id k a s) [
      | inl s ↦ flag_kept placed id.n part.1.n (is.ready k a part s has)
      | inr e ↦ flag_kept placed id.n part.1.n (parts_ready part (subst (λ (z : WayId). WayHasPart p z.n part) e.1 has))
    ];
  }
    where
      below : id.n < length p.ways.items
      below = stands_within p.ways.items id.n way st

      here : flag_at (set placed id.n true) id.n ≡ true
      here = flag_same placed id.n true (omega (arith, below, is.long))

      parts_ready : (part : Bool × WayId) → WayHasPart p id.n part → flag_at placed part.1.n ≡ true
      parts_ready part has =
          let same : has.way ≡ way = stands_one p.ways.items id.n has.way way has.stands st in
          placed_each placed way.body ready part (subst (λ (z : Way). IsOneOf (parts_of z.body) part) same has.is_part)

      once : (j k : ℕ) (a other : WayId) → (Stands order j a) ⊎ ((j ≡ length order) × (a ≡ id))
          → (Stands order k other) ⊎ ((k ≡ length order) × (other ≡ id)) → a.n ≡ other.n → j ≡ k
      once j k a other (inl s) (inl t) e = is.once j k a other s t e
      once j k a other (inl s) (inr t) e =
          let n : a.n ≡ id.n = e ∙ ap (λ (z : WayId). z.n) t.1 in
          absurd (fresh (subst (λ (z : ℕ). flag_at placed z ≡ true) n (is.inside j a s).1))
      once j k a other (inr s) (inl t) e =
          let n : other.n ≡ id.n = sym e ∙ ap (λ (z : WayId). z.n) s.1 in
          absurd (fresh (subst (λ (z : ℕ). flag_at placed z ≡ true) n (is.inside k other t).1))
      once j k a other (inr s) (inr t) e = s.0 ∙ sym t.0

      after : (j k : ℕ) (a other : WayId) (part : Bool × WayId) → (Stands order k a) ⊎ ((k ≡ length order) × (a ≡ id))
          → WayHasPart p a.n part → (Stands order j other) ⊎ ((j ≡ length order) × (other ≡ id)) → other.n ≡ part.1.n
          → j < k
      after j k a other part (inl s) has (inl t) e = is.after j k a other part s has t e
      after j k a other part (inl s) has (inr t) e =
          let set : flag_at placed part.1.n ≡ true = is.ready k a part s has in
          let n : other.n ≡ id.n = ap (λ (z : WayId). z.n) t.1 in
          absurd (fresh (subst (λ (z : ℕ). flag_at placed z ≡ true) (sym e ∙ n) set))
      after j k a other part (inr s) has (inl t) e = let h = stands_within order j other t in omega (arith, h, s.0)
      after j k a other part (inr s) has (inr t) e =
          let set : flag_at placed part.1.n ≡ true =
          parts_ready part (subst (λ (z : WayId). WayHasPart p z.n part) s.1 has) in
          let n : other.n ≡ id.n = ap (λ (z : WayId). z.n) t.1 in
          absurd (fresh (subst (λ (z : ℕ). flag_at placed z ≡ true) (sym e ∙ n) set))

-- one part more is placed
pub placed_more : (old mid new : List Bool) (parts : List (Bool × WayId)) (i : ℕ) (q : Bool × WayId) → Stands parts i q
    → KeepsMarks mid new → flag_at new q.1.n ≡ true
    → ArePartsPlaced mid parts i → ArePartsPlaced new parts (i + 1)
placed_more old mid new parts i q st keeps here are =
    record {
      each = below_more (λ (k : ℕ). (r : Bool × WayId) → Stands parts k r → flag_at new r.1.n ≡ true) i
          (λ k less r s. keeps.keeps r.1.n (are.each k less r s)) last;
    }
  where
    last : (r : Bool × WayId) → Stands parts i r → flag_at new r.1.n ≡ true
    last r s = let same : q ≡ r = stands_one parts i q r st s in subst (λ (z : Bool × WayId). flag_at new z.1.n ≡ true) same here

pub keeps_on : (old mid new : List Bool) → KeepsMarks old mid → KeepsMarks mid new → KeepsMarks old new
keeps_on old mid new a b = record { keeps = λ n h. b.keeps n (a.keeps n h) }

-- all parts are placed
pub each_set : (placed : List Bool) (ps : List (Bool × WayId)) (n : ℕ) → length ps ≤ n → ArePartsPlaced placed ps n
    → are_set placed ps ≡ true
each_set placed [] n low are = refl
each_set placed (r ∷ ps) n low are =
    and_from (flag_at placed r.1.n) (are_set placed ps) (are.each 0 (omega (arith, low)) r refl)
    (each_set placed ps (n - 1) (omega (arith, low))
    (record { each = λ k below q s. are.each (suc k) (omega (arith, below)) q s }))

-- each of the first so many ways is placed, and there are no more
pub all_ordered : (p : GtsParts) (order : List WayId) (placed : List Bool) (count : ℕ) → length p.ways.items ≤ count
    → IsPlacing p order placed
    → ((k : ℕ) → k < count → flag_at placed k ≡ true) → IsWayOrder p order
all_ordered p order placed count long is each = record {
  inside = λ k a s. (is.inside k a s).0;
  once = is.once;
  all = λ n below. is.all n (each n (omega (arith, below, long)));
  after = is.after;
}

pub keeps_same : (old : List Bool) → KeepsMarks old old
keeps_same old = record { keeps = λ n h. h }

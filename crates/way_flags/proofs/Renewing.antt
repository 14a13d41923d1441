-- Flags that are set in the order of the ways.
use Rattle.std.proofs.Common.{◌≡◌, ◌<◌, ◌≤◌, ◌+◌, ◌⊎◌, ℕ, Bool, List, length, set, sym, ap, ◌∙◌, subst, inl, inr, arith, length-set}
use Rattle.std.proofs.lemmas.Bool.{cases_eq}
use Rattle.ar_base.specs.Lists.{Stands, IsOneOf}
use Rattle.ar_base.proofs.Standing.{stands_within, stands_one, stands_map_back}
use Rattle.domains.specs.declared.Value.{Value}
use Rattle.ar_meaning.specs.Systems as s
use Rattle.ar_meaning.specs.Facts.{HasValue}
use Rattle.ar_meaning.specs.Found.{IsAnswer}
use Rattle.ar_meaning.specs.Numbered.{Means_way, leaf, joint}
use Rattle.ar_meaning.specs.Ways.{Can}
use Rattle.ar_base.specs.Numbers.{WayId}
use Rattle.gts_core.specs.View.{net_of, way_bodies, body_of_way, IsWayAt}
use Rattle.gts_core.specs.Sound.{IsSound}
use Rattle.gts_core.specs.declared.system.Way.{Way}
use Rattle.gts_core.specs.declared.system.GtsParts.{GtsParts}
use Rattle.gts_core.specs.Readings.{IsTotal}
use Rattle.way_flags.specs.Parts.{flag_at}
use Rattle.way_flags.specs.Ways.{parts_of, IsWayOrder, AreFlags, can_by}
use Rattle.way_flags.proofs.Lists.{flag_same, flag_other}
use Rattle.way_flags.proofs.Firing.{can_answer}

-- the flags of the first so many ways are right
pub record AreSetTo (p : GtsParts) (order : List WayId) (t : List Value) (i : ℕ) (flags : List Bool) : Type 0 where
  pub long : length flags ≡ length p.ways.items
  pub flag : (k : ℕ) (id : WayId) → k < i → Stands order k id → (u : s.Way ℕ) → IsWayAt p id.n u
      → IsAnswer (flag_at flags id.n) (Can (HasValue (net_of p) t) u)

-- a way that a number stands for stands in the list
pub means_way : (p : GtsParts) (n : ℕ) (u : s.Way ℕ) → Means_way (way_bodies p) n u → n < length p.ways.items
means_way p n u (leaf st) = let r = stands_map_back body_of_way p.ways.items n _ st in stands_within p.ways.items n r.0
    r.1
means_way p n u (joint st m) = let r = stands_map_back body_of_way p.ways.items n _ st in stands_within p.ways.items n r.0 r.1

module _ (p : GtsParts) (sound : IsSound p) (order : List WayId) (is : IsWayOrder p order) (t : List Value)
    (total : IsTotal p t) where
  pub renew_more : (i : ℕ) (flags : List Bool) (id : WayId) (way : Way) (b : Bool) → AreSetTo p order t i flags
      → Stands order i id → Stands p.ways.items id.n way → b ≡ can_by t flags way.body
      → AreSetTo p order t (i + 1) (set flags id.n b)
  renew_more i flags id way b before at st e = record {
    long = length-set flags id.n b ∙ before.long;
    flag = λ k a below s u m. go k a below s u m (cases_eq a.n id.n);
  }
    where
      right : (q : Bool × WayId) → IsOneOf (parts_of way.body) q → (u : s.Way ℕ) → Means_way (way_bodies p) q.1.n u
          → IsAnswer (flag_at flags q.1.n) (Can (HasValue (net_of p) t) u)
      right q one u m =
          let place = is.all q.1.n (means_way p q.1.n u m) in
          let below : place.0 < i = is.after place.0 i id place.1 q
          at (record { way = way; stands = st; is_part = one }) place.2 place.3 in
          subst (λ (z : ℕ). IsAnswer (flag_at flags z) (Can (HasValue (net_of p) t) u)) place.3
          (before.flag place.0 place.1 below place.2 u
          (subst (λ (z : ℕ). Means_way (way_bodies p) z u) (sym place.3) m))

      here : (u : s.Way ℕ) → Means_way (way_bodies p) id.n u → IsAnswer b (Can (HasValue (net_of p) t) u)
      here u m = subst (λ (z : Bool). IsAnswer z (Can (HasValue (net_of p) t) u)) (sym e)
          (can_answer p sound t total flags id.n way u st m right)

      go : (k : ℕ) (a : WayId) → k < i + 1 → Stands order k a → (u : s.Way ℕ) → Means_way (way_bodies p) a.n u
          → (a.n ≡ id.n) ⊎ (a.n ≡ id.n → ⊥) → IsAnswer (flag_at (set flags id.n b) a.n) (Can (HasValue (net_of p) t) u)
      go k a below s u m (inl j) =
          let set_here : flag_at (set flags id.n b) a.n ≡ b = ap (flag_at (set flags id.n b)) j ∙ flag_same flags id.n b (let h = stands_within p.ways.items id.n way st in omega (arith, h, before.long)) in
          subst (λ (z : Bool). IsAnswer z (Can (HasValue (net_of p) t) u)) (sym set_here)
          (here u (subst (λ (z : ℕ). Means_way (way_bodies p) z u) j m))
      go k a below s u m (inr n) =
          let other : flag_at (set flags id.n b) a.n ≡ flag_at flags a.n = flag_other flags id.n a.n b n in
          let less : k < i = omega (arith, not_last k a s n) in
          subst (λ (z : Bool). IsAnswer z (Can (HasValue (net_of p) t) u)) (sym other) (before.flag k a less s u m)
        where
          not_last : (k : ℕ) (a : WayId) → Stands order k a → (a.n ≡ id.n → ⊥) → (k ≡ i → ⊥)
          not_last k a s n e = n (ap (λ (z : WayId). z.n)
              (stands_one order i a id (subst (λ (z : ℕ). Stands order z a) e s) at))

  pub renewed : (i : ℕ) (flags : List Bool) → length order ≤ i → AreSetTo p order t i flags → AreFlags p t flags
  renewed i flags h all = record {
    long = all.long;
    flag = λ n u m.
        let place = is.all n (means_way p n u m) in
        subst (λ (z : ℕ). IsAnswer (flag_at flags z) (Can (HasValue (net_of p) t) u)) place.3
        (all.flag place.0 place.1 (let b = stands_within order place.0 place.1 place.2 in omega (arith, b)) place.2 u (subst (λ (z : ℕ). Means_way (way_bodies p) z u) (sym place.3) m));
  }

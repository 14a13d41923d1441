-- The ways that take part, as they are met.
use Rattle.std.proofs.Common.{◌≡◌, ◌<◌, ◌≤◌, ◌+◌, ◌⊎◌, ℕ, suc, Bool, true, false, List, [], ◌∷◌, ◌++◌, map, length, refl, sym, ap, ◌∙◌, subst, inl, inr, arith}
use Rattle.ar_base.specs.Lists.{Stands, IsOneOf}
use Rattle.ar_base.specs.Numbers.{WayId}
use Rattle.ar_base.proofs.Standing.{stands_one, stands_within, stands_some, stands_none, stands_map_back, at_most}
use Rattle.gts_core.specs.Sound.{IsSound}
use Rattle.gts_core.specs.declared.system.Way.{Way}
use Rattle.gts_core.specs.declared.system.WayBody.{WayBody}
use Rattle.gts_core.specs.declared.system.WayBody.TheVariants.{Local, Sync}
use Rattle.gts_core.specs.declared.system.GtsParts.{GtsParts}
use Rattle.way_flags.specs.Ways.{parts_of, WayHasPart}
use Rattle.way_flags.proofs.Lists.{one_of_more, one_kept, one_last}
use Rattle.way_flags.specs.Taking.{takes_part, TakesPart, HasWayNumber, AreDifferentIds, AreTakers}
use Rattle.way_flags.specs.Taking as takes
use Rattle.way_flags.specs.Meeting.{AreMet, MeetsWays, HasTakenPart, MeetsParts, IsMetAlone}
use Rattle.way_flags.specs.declared.takers.Met.{Met}
use Rattle.ar_base.proofs.Few.{few_below}

-- the first way
pub is_alone : (way : WayId) (old new : Met) → old.ways.items ≡ [] → MeetsWays (λ n. n ≡ way.n) old new → IsMetAlone way new
is_alone way old new e m = record {
  are = m.are;
  there = m.there way.n refl;
  only = λ n h. elim (m.only n h) [
    | inl k ↦ absurd
        (stands_none k.place k.way (subst (λ (z : List WayId). Stands z k.place k.way) e k.stands))
    | inr i ↦ i
  ];
}

-- The parts of one way

module _ (flags : List Bool) where
  pub meets_none : (met : Met) → AreMet met → MeetsWays (HasTakenPart [] flags) met met
  meets_none met are = record {
    are = are;
    keeps = λ k id s. s;
    only = λ n h. inl h;
    there = λ n h. absurd (stands_none h.is_part.place h.part h.is_part.stands);
  }

  taken_kept : (ps : List (Bool × WayId)) (q : Bool × WayId) (n : ℕ) → HasTakenPart ps flags n
      → HasTakenPart (ps ++ q ∷ []) flags n
  taken_kept ps q n h = record {
    part = h.part;
    is_part = one_kept ps q h.part h.is_part;
    takes = h.takes;
    number = h.number;
  }

  -- a part that takes part is met
  pub meets_one : (ps : List (Bool × WayId)) (q : Bool × WayId) (old mid new : Met) → MeetsWays (HasTakenPart ps flags) old mid
      → takes_part flags q ≡ true → MeetsWays (λ n. n ≡ q.1.n) mid new → MeetsWays (HasTakenPart (ps ++ q ∷ []) flags) old new
  meets_one ps q old mid new a h b = record {
    are = b.are;
    keeps = λ k id s. b.keeps k id (a.keeps k id s);
    only = λ n k. elim (b.only n k) [
      | inl c ↦ elim (a.only n c) [ inl d ↦ inl d | inr d ↦ inr (taken_kept ps q n d) ]
      | inr e ↦ inr (record { part = q; is_part = one_last ps q; takes = h; number = sym e })
    ];
    there = λ n k. elim (one_of_more ps q k.part k.is_part) [
      | inl one ↦ kept n (a.there n (record { part = k.part; is_part = one; takes = k.takes; number = k.number }))
      | inr e ↦ b.there n (sym k.number ∙ ap (λ (z : Bool × WayId). z.1.n) e)
    ];
  }
    where
      kept : (n : ℕ) → HasWayNumber mid.ways.items n → HasWayNumber new.ways.items n
      kept n c = record { place = c.place; way = c.way; stands = b.keeps c.place c.way c.stands; number = c.number }

  -- another part is not
  pub meets_past : (ps : List (Bool × WayId)) (q : Bool × WayId) (old mid : Met) → MeetsWays (HasTakenPart ps flags) old mid
      → takes_part flags q ≡ false → MeetsWays (HasTakenPart (ps ++ q ∷ []) flags) old mid
  meets_past ps q old mid a h = record {
    are = a.are;
    keeps = a.keeps;
    only = λ n k. elim (a.only n k) [ inl d ↦ inl d | inr d ↦ inr (taken_kept ps q n d) ];
    there = λ n k. elim (one_of_more ps q k.part k.is_part) [
      | inl one ↦ a.there n (record { part = k.part; is_part = one; takes = k.takes; number = k.number })
      | inr e ↦ absurd (not_taken k.part e k.takes)
    ];
  }
    where
      not_taken : (r : Bool × WayId) → r ≡ q → takes_part flags r ≡ true → ⊥
      not_taken r e k = let t : takes_part flags q ≡ true = subst (λ (z : Bool × WayId). takes_part flags z ≡ true) e k in cc

-- All of them

-- what is met when the parts of the first so many ways are
pub record IsTaking (p : GtsParts) (flags : List Bool) (top : ℕ) (done : ℕ) (met : Met) : Type 0 where
  pub are : AreMet met
  pub sound : (n : ℕ) → HasWayNumber met.ways.items n → TakesPart p flags top n
  pub first : HasWayNumber met.ways.items top
  pub closed : (k : ℕ) (id : WayId) (part : Bool × WayId) → k < done → Stands met.ways.items k id → WayHasPart p id.n part
      → takes_part flags part ≡ true → HasWayNumber met.ways.items part.1.n
  pub reached : done ≤ length met.ways.items

module _ (p : GtsParts) (sound : IsSound p) (flags : List Bool) (top : ℕ) (inside : top < length p.ways.items) where
  pub taking_first : (way : WayId) (met : Met) → way.n ≡ top → IsMetAlone way met → IsTaking p flags top 0 met
  taking_first way met e a = record {
    are = a.are;
    sound = λ n h. subst (λ (z : ℕ). TakesPart p flags top z) (sym (a.only n h ∙ e)) takes.itself;
    first = subst (λ (z : ℕ). HasWayNumber met.ways.items z) e a.there;
    closed = λ k id part l s has t. absurd (omega (arith, l));
    reached = omega arith;
  }

  part_within : (n : ℕ) (part : Bool × WayId) → WayHasPart p n part → part.1.n < length p.ways.items
  part_within n part has = go has.way.body refl has.is_part
    where
      go : (b : WayBody) → has.way.body ≡ b → IsOneOf (parts_of b) part → part.1.n < length p.ways.items
      go (Local guard action) e one = absurd (stands_none one.place part one.stands)
      go (Sync ps) e one = sound.parts n has.way ps has.stands e part one

  -- a way that takes part is a way of the system
  pub taker_within : (n : ℕ) → TakesPart p flags top n → n < length p.ways.items
  taker_within n takes.itself = inside
  taker_within n (takes.part {n = k} q t has e i) = let h = part_within k q has in omega (arith, h, i)

  -- no more ways are met than there are
  pub few_met : (done : ℕ) (met : Met) → IsTaking p flags top done met → length met.ways.items ≤ length p.ways.items
  few_met done met i =
      let l = few_below (length p.ways.items) (map number met.ways.items) (record { one = apart }) below in
      let m = same_long met.ways.items in
      omega (arith, l, m)
    where
      number : WayId → ℕ
      number a = a.n

      same_long : (ws : List WayId) → length (map number ws) ≡ length ws
      same_long [] = refl
      same_long (a ∷ ws) = ap suc (same_long ws)

      apart : (j k n : ℕ) → Stands (map number met.ways.items) j n → Stands (map number met.ways.items) k n → j ≡ k
      apart j k n s t =
          let a = stands_map_back number met.ways.items j n s in
          let b = stands_map_back number met.ways.items k n t in
          i.are.once.once j k a.0 b.0 a.1 b.1 (a.2 ∙ sym b.2)

      below : (n : ℕ) → IsOneOf (map number met.ways.items) n → n < length p.ways.items
      below n o =
          let a = stands_map_back number met.ways.items o.place n o.stands in
          taker_within n (i.sound n (record { place = o.place; way = a.0; stands = a.1; number = a.2 }))

  -- the parts of the next way are met
  pub taking_next : (done : ℕ) (old new : Met) (id : WayId) (way : Way) → Stands old.ways.items done id
      → Stands p.ways.items id.n way → MeetsParts flags way.body old new → IsTaking p flags top done old
      → IsTaking p flags top (done + 1) new
  taking_next done old new id way at st m before = record {
    are = m.are;
    sound = λ n h. elim (m.only n h) [ inl a ↦ before.sound n a | inr b ↦ taken n b ];
    first = kept top before.first;
    closed = λ k a part l s has t. at_place k a part s has t (last_or_not k l);
    reached = let h = stands_within new.ways.items done id (m.keeps done id at) in omega (arith, h);
  }
    where
      kept : (n : ℕ) → HasWayNumber old.ways.items n → HasWayNumber new.ways.items n
      kept n c = record { place = c.place; way = c.way; stands = m.keeps c.place c.way c.stands; number = c.number }

      taken : (n : ℕ) → HasTakenPart (parts_of way.body) flags n → TakesPart p flags top n
      taken n b = takes.part b.part (before.sound id.n (record { place = done; way = id; stands = at; number = refl }))
          (record { way = way; stands = st; is_part = b.is_part }) b.takes b.number

      last_or_not : (k : ℕ) → k < done + 1 → (k < done) ⊎ (k ≡ done)
      last_or_not k l = at_most k done l

      at_place : (k : ℕ) (a : WayId) (part : Bool × WayId) → Stands new.ways.items k a → WayHasPart p a.n part
          → takes_part flags part ≡ true → (k < done) ⊎ (k ≡ done) → HasWayNumber new.ways.items part.1.n
      at_place k a part s has t (inl l) =
          let b = stands_some old.ways.items k (let h = before.reached in omega (arith, h, l)) in
          let same : b.0 ≡ a = stands_one new.ways.items k b.0 a (m.keeps k b.0 b.1) s in
          kept part.1.n (before.closed k a part l (subst (λ (z : WayId). Stands old.ways.items k z) same b.1) has t)
      at_place k a part s has t (inr e) =
          let same : a ≡ id = stands_one new.ways.items done a id (subst (λ (z : ℕ). Stands new.ways.items z a) e s)
          (m.keeps done id at) in
          let here : WayHasPart p id.n part = subst (λ (z : WayId). WayHasPart p z.n part) same has in
          let one_way : here.way ≡ way = stands_one p.ways.items id.n here.way way here.stands st in
          m.there part.1.n (record {
            part = part;
            is_part = subst (λ (z : Way). IsOneOf (parts_of z.body) part) one_way here.is_part;
            takes = t;
            number =
                refl;
          })

  pub taking_all : (done : ℕ) (met : Met) → length met.ways.items ≤ done → IsTaking p flags top done met
      → AreTakers p flags top met.ways.items
  taking_all done met h m = record { sound = m.sound; complete = complete; once = m.are.once }
    where
      complete : (n : ℕ) → TakesPart p flags top n → HasWayNumber met.ways.items n
      complete n takes.itself = m.first
      complete n (takes.part {n = k} q t has e i) =
          let w = complete k t in
          subst (λ (z : ℕ). HasWayNumber met.ways.items z) i
          (m.closed w.place w.way q (let b = stands_within met.ways.items w.place w.way w.stands in omega (arith, b, h)) w.stands (subst (λ (z : ℕ). WayHasPart p z q) (sym w.number) has) e)

  -- a way that is met is a way of the system
  pub met_within : (done : ℕ) (met : Met) (k : ℕ) (id : WayId) → IsTaking p flags top done met
      → Stands met.ways.items k id → id.n < length p.ways.items
  met_within done met k id m s = taker_within id.n
      (m.sound id.n (record { place = k; way = id; stands = s; number = refl }))

-- Ways that wait to be looked at, and the flags of the others.
use Rattle.std.proofs.Common.{◌≡◌, ◌<◌, ◌≤◌, ◌+◌, ◌⊎◌, ◌↔◌, ◌-◌, ℕ, zero, suc, Bool, true, false, not, ◌||◌, ◌&&◌, cond, List, [], ◌∷◌, ◌++◌, length, set, map, IsTrue, inl, inr, refl, sym, ◌∙◌, ap, subst, arith}
use Rattle.std.specs.BTreeSet.{BTreeSet, contains}
use Rattle.std.specs.Ordering.{nat_cmp, is_eq}
use Rattle.std.specs.BTreeMap.{is_at}
use Rattle.std.specs.List.{list_any}
use Rattle.std.specs.Cmp.{nat_cmp_is}
use Rattle.std.proofs.Common.{Equal}
use Rattle.std.proofs.lemmas.Bool.{cases_eq}
use mathlib.Core.Bool.{beq}
use Rattle.ar_base.specs.Lists.{Stands, IsOneOf}
use Rattle.ar_base.specs.Numbers.{VarId, WayId}
use Rattle.ar_base.proofs.Standing.{stands_within, stands_one, stands_none, stands_some, one_first, one_here, one_none, one_rest, one_cases, stands_map}
use Rattle.ar_base.proofs.Items.{last_cases}
use Rattle.ar_base.proofs.Truths.{other_mark}
use Rattle.domains.specs.declared.Value.{Value}
use Rattle.typed_expr.specs.Mentions.{Mentions}
use Rattle.typed_expr.specs.declared.expr.Expr.{out-Expr}
use Rattle.typed_expr.specs.declared.expr.ValueKind.TheVariants as kind
use Rattle.ar_meaning.specs.Facts.{HasValue}
use Rattle.ar_meaning.specs.Ways.{Can}
use Rattle.ar_meaning.proofs.Found.{same_answer}
use Rattle.ar_base.specs.Pairing.{IsPaired}
use Rattle.gts_core.specs.View.{net_of}
use Rattle.gts_core.specs.Sound.{IsSound}
use Rattle.gts_core.specs.Readings.{IsTotal, valuation_at, is_met, is_truth}
use Rattle.gts_core.specs.declared.system.Way.{Way}
use Rattle.gts_core.specs.declared.system.WayBody.{WayBody}
use Rattle.gts_core.specs.declared.system.WayBody.TheVariants.{Local, Sync}
use Rattle.gts_core.specs.declared.system.GtsParts.{GtsParts}
use Rattle.way_flags.specs.Parts.{flag_at, musts_by, some_by, has_must_in}
use Rattle.way_flags.specs.Ways.{parts_of, WayHasPart, AreFlags, can_by}
use Rattle.way_flags.specs.Index.{WayGuardNames, IsWayIndex, IsWholeOf}
use Rattle.way_flags.specs.declared.index.WayIndex.{WayIndex}
use Rattle.way_flags.specs.Renewing.{WereFlags, WaitsAt, WayWaits, IsPlaceWith, AreFlagsSettled, IsSettledBut, AreBehind, AreLooked}
use Rattle.way_flags.proofs.Firing.{can_answer}
use Rattle.way_flags.proofs.Lists.{flag_same, flag_other, one_more}
use Rattle.way_flags.proofs.Renewing.{AreSetTo, renew_more, renewed}
use Rattle.way_flags.proofs.SameReadings.{same_in}
use Rattle.way_flags.proofs.Turned.{flip}

-- a place waits or does not
waits_or_not : (w : BTreeSet ℕ) (place : ℕ) → WaitsAt w place ⊎ (WaitsAt w place → ⊥)
waits_or_not w place = go (contains nat_cmp w place) refl
  where
    not_true : IsTrue false → ⊥
    not_true h = cc

    go : (b : Bool) → contains nat_cmp w place ≡ b → WaitsAt w place ⊎ (WaitsAt w place → ⊥)
    go true e = inl (subst (λ b. IsTrue b) (sym e) refl)
    go false e = inr (λ h. not_true (subst (λ b. IsTrue b) e h))

-- one of the parts has the number, or none has
part_or_none : (ps : List (Bool × WayId)) (n : ℕ)
    → ((q : Bool × WayId) × IsOneOf ps q × (q.1.n ≡ n)) ⊎ ((q : Bool × WayId) → IsOneOf ps q → q.1.n ≡ n → ⊥)
part_or_none [] n = inr (λ q o e. stands_none o.place q o.stands)
part_or_none (p ∷ ps) n = elim (cases_eq p.1.n n) [
  | inl e ↦ inl (p, one_first p ps, e)
  | inr f ↦ (elim (part_or_none ps n) [
    | inl r ↦ inl (r.0, one_rest p ps r.0 r.1, r.2)
    | inr g ↦ inr (λ q o e. elim (one_cases p ps q o)
        [ inl i ↦ f (ap (λ (z : Bool × WayId). z.1.n) i ∙ e) | inr k ↦ g q k e ])
  ])
]

-- flags of parts that stay
module _ (flags : List Bool) (n : ℕ) (b : Bool) where
  musts_stay : (ps : List (Bool × WayId)) → ((q : Bool × WayId) → IsOneOf ps q → q.1.n ≡ n → ⊥)
      → musts_by (set flags n b) ps ≡ musts_by flags ps
  musts_stay [] lacks = refl
  musts_stay (p ∷ ps) lacks =
      ap (λ z. (not p.0 || z) && musts_by (set flags n b) ps) (flag_other flags n p.1.n b (lacks p (one_first p ps)))
      ∙ ap (λ z. (not p.0 || flag_at flags p.1.n) && z) (musts_stay ps (λ q o. lacks q (one_rest p ps q o)))

  some_stay : (ps : List (Bool × WayId)) → ((q : Bool × WayId) → IsOneOf ps q → q.1.n ≡ n → ⊥)
      → some_by (set flags n b) ps ≡ some_by flags ps
  some_stay [] lacks = refl
  some_stay (p ∷ ps) lacks =
      ap (λ z. z || some_by (set flags n b) ps) (flag_other flags n p.1.n b (lacks p (one_first p ps)))
      ∙ ap (λ z. flag_at flags p.1.n || z) (some_stay ps (λ q o. lacks q (one_rest p ps q o)))

  can_stay : (t : List Value) (body : WayBody) → ((q : Bool × WayId) → IsOneOf (parts_of body) q → q.1.n ≡ n → ⊥)
      → can_by t (set flags n b) body ≡ can_by t flags body
  can_stay t (Local guard action) lacks = refl
  can_stay t (Sync ps) lacks =
      ap (λ z. cond (has_must_in ps.items) z (some_by (set flags n b) ps.items)) (musts_stay ps.items lacks)
      ∙ ap (λ z. cond (has_must_in ps.items) (musts_by flags ps.items) z) (some_stay ps.items lacks)

-- a flag that is set to what it is
set_own : (flags : List Bool) (n : ℕ) → set flags n (flag_at flags n) ≡ flags
set_own [] zero = refl
set_own [] (suc n) = refl
set_own (f ∷ flags) zero = refl
set_own (f ∷ flags) (suc n) = ap (λ z. f ∷ z) (set_own flags n)

module _ (p : GtsParts) (sound : IsSound p) where
  -- right flags say what a way's guard or the flags of its parts say
  pub flag_is : (t : List Value) → IsTotal p t → (flags : List Bool) → AreFlags p t flags → (n : ℕ) (way : Way)
      → Stands p.ways.items n way → flag_at flags n ≡ can_by t flags way.body
  flag_is t total flags are n way st =
      let tree = sound.trees n (stands_within p.ways.items n way st) in
      same_answer (Can (HasValue (net_of p) t) tree.0) (flag_at flags n) (can_by t flags way.body)
      (are.flag n tree.0 tree.1)
      (can_answer p sound t total flags n way tree.0 st tree.1 (λ q o u m. are.flag q.1.n u m))

  module _ (index : WayIndex) (ix : IsWayIndex p index) (t : List Value) where
    -- the place of a way
    pub place_of : (n : ℕ) → n < length p.ways.items → (place : ℕ) × Stands index.places.items n place
    place_of n h = stands_some index.places.items n (omega (arith, h, ix.long))

    -- a place is that of one way
    pub one_way : (m n place : ℕ) → Stands index.places.items m place → Stands index.places.items n place → m ≡ n
    one_way m n place a b =
        let f = ix.placed m place a in
        let g = ix.placed n place b in
        sym f.number ∙ ap (λ (z : WayId). z.n) (stands_one index.order.items place f.id g.id f.at g.at) ∙ g.number

    -- a part's place comes before that of the way
    part_before : (n m j k : ℕ) → IsWholeOf p n m → Stands index.places.items n j → Stands index.places.items m k → j < k
    part_before n m j k a sj sk =
        let f = ix.placed n j sj in
        let g = ix.placed m k sk in
        ix.order.after j k g.id f.id a.part g.at (subst (λ (z : ℕ). WayHasPart p z a.part) (sym g.number) a.has) f.at
        (f.number ∙ sym a.number)

    -- no way is a part of its own
    not_own : (n : ℕ) (way : Way) → Stands p.ways.items n way → (q : Bool × WayId) → IsOneOf (parts_of way.body) q
        → q.1.n ≡ n → ⊥
    not_own n way st q o e =
        let r = place_of n (stands_within p.ways.items n way st) in
        let h = part_before n n r.0 r.0 (record
        { part = q; has = record { way = way; stands = st; is_part = o }; number = e }) r.1 r.1 in
        omega (arith, h)

    -- the flag was right
    pub looked_still : (n place : ℕ) (way : Way) (waiting : BTreeSet ℕ) (flags : List Bool)
        → Stands index.places.items n place → Stands p.ways.items n way → flag_at flags n ≡ can_by t flags way.body
        → IsSettledBut p index.places.items t place waiting flags → AreFlagsSettled p index.places.items t waiting flags
    looked_still n place way waiting flags at here e but = record {
      long = but.long;
      within = but.within;
      right = λ m w st. elim (but.right m w st) [
        | inl a ↦ inr (now m w st (one_way m n place a at))
        | inr r ↦ r
      ];
    }
      where
        now : (m : ℕ) (w : Way) → Stands p.ways.items m w → m ≡ n → flag_at flags m ≡ can_by t flags w.body
        now m w st i =
            let same : w ≡ way = stands_one p.ways.items n w way (subst (λ (z : ℕ). Stands p.ways.items z w) i st)
            here in
            ap (λ z. flag_at flags z) i ∙ e ∙ ap (λ (z : Way). can_by t flags z.body) (sym same)

    -- the flag was turned, and the ways above wait
    pub looked_turned : (n place : ℕ) (way : Way) (old new : BTreeSet ℕ) (flags : List Bool)
        → Stands index.places.items n place → Stands p.ways.items n way
        → (can_by t flags way.body ≡ flag_at flags n → ⊥)
        → ((q : ℕ) → (WaitsAt new q ↔ (WaitsAt old q
        ⊎ IsPlaceWith index.places.items (λ m. IsOneOf index.above.pairs.items (n, m)) q)))
        → IsSettledBut p index.places.items t place old flags
        → AreFlagsSettled p index.places.items t new (flip flags n) × ((q : ℕ) → WaitsAt new q → place < q)
    looked_turned n place way old new flags at here differs adds but = (
      record {
        long = set_long flags n (not (flag_at flags n)) ∙ but.long;
        within = λ q h. elim ((adds q).0 h) [
          | inl k ↦ but.within q k
          | inr o ↦ (o.n, o.stands)
        ];
        right = λ m w st. right m w st (part_or_none (parts_of w.body) n) (cases_eq m n) (but.right m w st);
      },
      later,
    )
      where
        set_long : (xs : List Bool) (k : ℕ) (b : Bool) → length (set xs k b) ≡ length xs
        set_long [] zero b = refl
        set_long [] (suc k) b = refl
        set_long (x ∷ xs) zero b = refl
        set_long (x ∷ xs) (suc k) b = ap suc (set_long xs k b)

        later : (q : ℕ) → WaitsAt new q → place < q
        later q h = elim ((adds q).0 h) [
          | inl k ↦ but.later q k
          | inr o ↦ part_before n o.n place q (ix.above.only n o.n o.has) at o.stands
        ]

        -- the way itself
        own : (m : ℕ) (w : Way) → Stands p.ways.items m w → m ≡ n
            → flag_at (flip flags n) m ≡ can_by t (flip flags n) w.body
        own m w st e =
            let body : w ≡ way = stands_one p.ways.items n w way (subst (λ (z : ℕ). Stands p.ways.items z w) e st)
            here in
            ap (λ z. flag_at (flip flags n) z) e
            ∙ flag_same flags n (not (flag_at flags n)) (let h = stands_within p.ways.items n way here in omega (arith, h, but.long))
            ∙ other_mark (can_by t flags way.body) (flag_at flags n) differs
            ∙ sym (can_stay flags n (not (flag_at flags n)) t way.body (not_own n way here))
            ∙ ap (λ (z : Way). can_by t (flip flags n) z.body) (sym body)

        right : (m : ℕ) (w : Way) → Stands p.ways.items m w
            → ((q : Bool × WayId) × IsOneOf (parts_of w.body) q × (q.1.n ≡ n))
            ⊎ ((q : Bool × WayId) → IsOneOf (parts_of w.body) q → q.1.n ≡ n → ⊥)
            → (m ≡ n) ⊎ (m ≡ n → ⊥) → Stands index.places.items m place
            ⊎ (WayWaits index.places.items old m ⊎ (flag_at flags m ≡ can_by t flags w.body))
            → WayWaits index.places.items new m ⊎ (flag_at (flip flags n) m ≡ can_by t (flip flags n) w.body)
        right m w st (inl r) told before =
            let below = stands_within p.ways.items m w st in
            let o : IsOneOf index.above.pairs.items (n, m) =
            ix.above.all n m below (record
            { part = r.0; has = record { way = w; stands = st; is_part = r.1 }; number = r.2 }) in
            let k = place_of m below in
            inl (k.0, k.1, (adds k.0).1 (inr (record { n = m; has = o; stands = k.1 })))
        right m w st (inr lacks) (inl e) before = inr (own m w st e)
        right m w st (inr lacks) (inr f) (inl a) = absurd (f (one_way m n place a at))
        right m w st (inr lacks) (inr f) (inr (inl h)) = inl (h.0, h.1, (adds h.0).1 (inl h.2))
        right m w st (inr lacks) (inr f) (inr (inr e)) =
            inr (flag_other flags n m (not (flag_at flags n)) f ∙ e
            ∙ sym (can_stay flags n (not (flag_at flags n)) t w.body lacks))

    -- where none waits, all flags are right
    pub all_right : IsTotal p t → (waiting : BTreeSet ℕ) (flags : List Bool)
        → AreFlagsSettled p index.places.items t waiting flags → ((q : ℕ) → WaitsAt waiting q → ⊥) → AreFlags p t flags
    all_right total waiting flags are none =
        renewed p sound index.order.items ix.order t total (length index.order.items) flags (omega arith)
        (up (length index.order.items) (omega arith))
      where
        up : (i : ℕ) → i ≤ length index.order.items → AreSetTo p index.order.items t i flags
        up zero h = record { long = are.long; flag = λ k id below. absurd (omega (arith, below)) }
        up (suc i) h =
            let a = stands_some index.order.items i (omega (arith, h)) in
            let w = stands_some p.ways.items a.0.n (ix.order.inside i a.0 a.1) in
            let e : flag_at flags a.0.n ≡ can_by t flags w.0.body =
            elim (are.right a.0.n w.0 w.1) [ inl k ↦ absurd (none k.0 k.2) | inr r ↦ r ] in
            let more = renew_more p sound index.order.items ix.order t total i flags a.0 w.0 (flag_at flags a.0.n)
            (up i (omega (arith, h))) a.1 w.1 e in
            subst (λ (m : ℕ). AreSetTo p index.order.items t m flags) (omega arith)
            (subst (λ (z : List Bool). AreSetTo p index.order.items t (i + 1) z) (set_own flags a.0.n) more)

    -- the ways whose guards name what changed wait at first
    pub first_settled : IsTotal p t → (changed : List VarId) (flags : List Bool) → WereFlags p t changed flags
        → (waiting : BTreeSet ℕ)
        → ((q : ℕ) → (WaitsAt waiting q ↔ IsPlaceWith index.places.items
        (IsPaired index.guards.pairs.items (map (λ (x : VarId). x.n) changed)) q))
        → AreFlagsSettled p index.places.items t waiting flags
    first_settled total changed flags were waiting waits = record {
      long = were.were.long;
      within = λ q h. (let r = (waits q).0 h in (r.n, r.stands));
      right = λ n way st. right n way st way.body refl;
    }
      where
        was : (n : ℕ) (way : Way) → Stands p.ways.items n way → flag_at flags n ≡ can_by were.before flags way.body
        was n way st = flag_is were.before were.total flags were.were n way st

        right : (n : ℕ) (way : Way) → Stands p.ways.items n way → (body : WayBody) → way.body ≡ body
            → WayWaits index.places.items waiting n ⊎ (flag_at flags n ≡ can_by t flags way.body)
        right n way st (Sync ps) e =
            inr (was n way st ∙ ap (λ z. can_by were.before flags z) e ∙ ap (λ z. can_by t flags z) (sym e))
        right n way st (Local guard action) e = elim (waits_or_not waiting k.0) [
          | inl h ↦ inl (k.0, k.1, h)
          | inr lacks ↦ inr (was n way st ∙ ap (λ z. can_by were.before flags z) e ∙ same lacks
              ∙ ap (λ z. can_by t flags z) (sym e))
        ]
          where
            below : n < length p.ways.items
            below = stands_within p.ways.items n way st

            k : (place : ℕ) × Stands index.places.items n place
            k = place_of n below

            pair : (x : VarId) → Mentions x (out-Expr VarId guard) → IsOneOf index.guards.pairs.items (x.n, n)
            pair x m = ix.guards.all n way x below st (subst (λ z. WayGuardNames z x) (sym e) m)

            kept : (WaitsAt waiting k.0 → ⊥) → (x : VarId) → Mentions x (out-Expr VarId guard)
                → valuation_at were.before x.n ≡ valuation_at t x.n
            kept lacks x m = were.same x.n (λ y o i. lacks ((waits k.0).1 (record {
              n = n;
              has = record {
                first = x.n;
                is_one = subst (λ (z : ℕ). IsOneOf (map (λ (x : VarId). x.n) changed) z) i
                    (record { place = o.place; stands = stands_map (λ (x : VarId). x.n) changed o.place y o.stands });
                pair = pair x m;
              };
              stands = k.1;
            })))

            same : (WaitsAt waiting k.0 → ⊥) → is_met were.before (guard, true) ≡ is_met t (guard, true)
            same lacks = ap (λ z. is_truth z true)
                (same_in p were.before t were.total total guard kind.Truth (sound.guards n way guard action st e)
                (kept lacks))

-- how many looks are left at most: those from the first place that waits
abbrev left_of : ℕ → List ℕ → ℕ
left_of count [] = 0
left_of count (k ∷ ks) = suc (count - k)

abbrev pub looks_left : ℕ → BTreeSet ℕ → ℕ
looks_left count waiting = left_of count waiting.keys

first_waits : (w : BTreeSet ℕ) (k : ℕ) (ks : List ℕ) → w.keys ≡ k ∷ ks → WaitsAt w k
first_waits w k ks e = subst (λ (z : List ℕ). IsTrue (list_any (is_at (nat_cmp k)) z)) (sym e)
    (subst (λ r. IsTrue (is_eq r || list_any (is_at (nat_cmp k)) ks)) (nat_cmp_is k k Equal refl) refl)

-- a look leaves fewer
pub looks_less : (count place : ℕ) (old mid new : BTreeSet ℕ) → old.keys ≡ place ∷ mid.keys
    → ((q : ℕ) → WaitsAt new q → place < q) → ((q : ℕ) → WaitsAt new q → q < count)
    → looks_left count new < looks_left count old
looks_less count place old mid new e later within =
    subst (λ (z : List ℕ). looks_left count new < left_of count z) (sym e) (go new.keys refl)
  where
    go : (ks : List ℕ) → new.keys ≡ ks → left_of count ks < suc (count - place)
    go [] i = let e : left_of count [] ≡ 0 = refl in omega (arith, e)
    go (k ∷ ks) i =
        let h = first_waits new k ks i in
        let a = later k h in
        let b = within k h in
        let l : left_of count (k ∷ ks) ≡ suc (count - k) = refl in
        omega (arith, a, b, l)

beq_same : (a b : Bool) → beq a b ≡ true → a ≡ b
beq_same true true e = refl
beq_same true false e = cc
beq_same false true e = cc
beq_same false false e = refl

pub same_flag : (a b : Bool) → beq a b ≡ true → b ≡ a
same_flag a b e = sym (beq_same a b e)

-- the way that a place is of
module _ (p : GtsParts) (index : WayIndex) (ix : IsWayIndex p index) where
  pub within_order : (n place : ℕ) → Stands index.places.items n place → place < length index.order.items
  within_order n place st = let r = ix.placed n place st in stands_within index.order.items place r.id r.at

  pub here_way : (n place : ℕ) (way : WayId) → Stands index.places.items n place → Stands index.order.items place way
      → Stands index.places.items way.n place
  here_way n place way st at =
      let r = ix.placed n place st in
      let same : way ≡ r.id = stands_one index.order.items place way r.id at r.at in
      subst (λ (z : ℕ). Stands index.places.items z place) (sym (ap (λ (z : WayId). z.n) same ∙ r.number)) st

  -- a place was taken
  pub taken : (t : List Value) (place : ℕ) (old new : BTreeSet ℕ) (flags : List Bool)
      → AreFlagsSettled p index.places.items t old flags → WaitsAt old place
      → ((q : ℕ) → (WaitsAt new q ↔ (WaitsAt old q × (q ≡ place → ⊥))))
      → ((q : ℕ) → WaitsAt new q → place < q) → IsSettledBut p index.places.items t place new flags
  taken t place old new flags are is rest later = record {
    long = are.long;
    here = are.within place is;
    within = λ q h. are.within q ((rest q).0 h).0;
    later = later;
    right = λ n way st. elim (are.right n way st) [ inl k ↦ waits n k (cases_eq k.0 place) | inr e ↦ inr (inr e) ];
  }
    where
      waits : (n : ℕ) → (k : WayWaits index.places.items old n) → (k.0 ≡ place) ⊎ (k.0 ≡ place → ⊥) → {X : Type 0}
          → Stands index.places.items n place ⊎ (WayWaits index.places.items new n ⊎ X)
      waits n k (inl e) = inl (subst (λ (z : ℕ). Stands index.places.items n z) e k.1)
      waits n k (inr f) = inr (inl (k.0, k.1, (rest k.0).1 (k.2, f)))

-- ways that were looked at
module _ (p : GtsParts) (places : List ℕ) where
  -- at first none was
  pub looked_none : (waiting : BTreeSet ℕ) → AreLooked p places waiting []
  looked_none waiting = record {
    are = record { inside = λ id o. absurd (one_none id o); once = λ j k a b s t e. absurd (stands_none j a s) };
    before = λ id q next o. absurd (one_none id o);
  }

  -- a place that waits comes after those of all ways that were
  pub looked_behind : (waiting : BTreeSet ℕ) (ways : List WayId) (place : ℕ) → AreLooked p places waiting ways
      → WaitsAt waiting place → AreBehind p places place ways
  looked_behind waiting ways place are is = record { are = are.are; before = λ id q o s. are.before id q place o s is }

  -- the flag of the next one was right
  pub behind_still : (waiting : BTreeSet ℕ) (ways : List WayId) (place : ℕ) → AreBehind p places place ways
      → ((q : ℕ) → WaitsAt waiting q → place < q) → AreLooked p places waiting ways
  behind_still waiting ways place are later = record {
    are = are.are;
    before = λ id q next o s w. (let a = are.before id q o s in let b = later next w in omega (arith, a, b));
  }

  -- the flag of the next one was turned
  pub behind_more : (waiting : BTreeSet ℕ) (ways : List WayId) (place : ℕ) (id : WayId) → id.n < length p.ways.items
      → Stands places id.n place → AreBehind p places place ways → ((q : ℕ) → WaitsAt waiting q → place < q)
      → AreLooked p places waiting (ways ++ id ∷ [])
  behind_more waiting ways place id within at are later = record {
    are = record {
      inside = λ a o. elim (last_cases ways id a o)
          [ inl k ↦ are.are.inside a k | inr e ↦ subst (λ (z : WayId). z.n < length p.ways.items) e within ];
      once = λ j k a b s t e. once j k a b (one_more ways id j a s) (one_more ways id k b t) e;
    };
    before = λ a q next o s w. elim (last_cases ways id a o) [
      | inl k ↦ (let f = are.before a q k s in let g = later next w in omega (arith, f, g))
      | inr e ↦ (
          let same : place ≡ q = stands_one places id.n place q
          at (subst (λ (z : WayId). Stands places z.n q) (sym e) s) in
          let g = later next w in omega (arith, same, g))
    ];
  }
    where
      -- the way was not among those that were looked at
      fresh : (k : ℕ) (a : WayId) → Stands ways k a → a.n ≡ id.n → ⊥
      fresh k a s e = let h = are.before a place (one_here ways k a s) (subst (λ (z : ℕ). Stands places z place) (sym e) at) in omega (arith, h)

      once : (j k : ℕ) (a b : WayId) → (Stands ways j a) ⊎ ((j ≡ length ways) × (a ≡ id))
          → (Stands ways k b) ⊎ ((k ≡ length ways) × (b ≡ id)) → a.n ≡ b.n → j ≡ k
      once j k a b (inl s) (inl t) e = are.are.once j k a b s t e
      once j k a b (inl s) (inr t) e = absurd (fresh j a s (e ∙ ap (λ (z : WayId). z.n) t.1))
      once j k a b (inr s) (inl t) e = absurd (fresh k b t (sym e ∙ ap (λ (z : WayId). z.n) s.1))
      once j k a b (inr s) (inr t) e = s.0 ∙ sym t.0

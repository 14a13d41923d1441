-- The rows of lines.
use Rattle.std.proofs.Common.{◌≡◌, ℕ, zero, suc, ◌+◌, ◌<◌, ◌⊎◌, ◌↔◌, ◌&&◌, inl, inr, Bool, true, false, List, [], ◌∷◌, ◌++◌, length, set, get_or, sym, ap, ◌∙◌, subst, arith, get_or-set_same, get_or-set_other}
use Rattle.std.proofs.lemmas.List.{length-append, length-set, length-map, map-append}
use Rattle.std.proofs.lemmas.Option.{get_or_from_slice_get}
use Rattle.std.proofs.lemmas.Bool.{cases_eq}
use Rattle.ar_base.specs.Lists.{Stands, IsOneOf, AreDifferent}
use Rattle.ar_base.specs.Numbers.{WayId}
use Rattle.ar_base.proofs.Standing.{stands_one, stands_within, stands_some, stands_left, stands_split, stands_none, stands_next, stands_map_back, stands_get, one_here, one_none, one_cases, one_split, one_left, one_right, one_first, different_more}
use Rattle.ar_base.proofs.Sets.{member_told}
use Rattle.ar_meaning.specs.Found.{IsAnswer}
use Rattle.ar_meaning.specs.Runs.{Label}
use Rattle.flow_blocks.specs.Bits.{IsSet, words_for}
use Rattle.gts_core.specs.Sound.{IsSound}
use Rattle.gts_core.specs.declared.bound.Chain.{Chain}
use Rattle.gts_core.specs.declared.system.Event.{Event}
use Rattle.gts_core.specs.declared.system.GtsParts.{GtsParts}
use Rattle.gts_core.specs.declared.system.Way.{Way}
use Rattle.gts_core.proofs.Tests.{and_answer, turned_answer}
use Rattle.job_inputs.specs.Chains.{chain_labels, HaveKnownWays}
use Rattle.job_inputs.specs.CutReads.{AreKnownWays}
use Rattle.text_pieces.specs.WayLabels.{numbered_label, way_label_found}
use Rattle.cut_check.specs.Flat.{chain_lines}
use Rattle.cut_check.specs.Rows.{IsOpenEvent, AreOpenEvents, AreVisible, IsFit, IsFreshEvent, IsRow, AreLineRows, HaveBits, AreWide}
use Rattle.cut_check.specs.Verdicts.{events_of}
use Rattle.cut_check.specs.declared.rows.Row.{Row}

-- Ways

-- the event of a way that is read is that of its label
pub event_read : (p : GtsParts) (n : ℕ) (w : Way) → Stands p.ways.items n w → w.event.n ≡ (numbered_label p n).event
event_read p n w s = ap (λ o. (way_label_found o).event) (sym s)

-- and one of the system's
pub event_inside : (p : GtsParts) (n : ℕ) (w : Way) → IsSound p → Stands p.ways.items n w
    → w.event.n < length p.events.items
event_inside p n w sound s = let own = sound.own_ways n w s in stands_within p.events.items w.event.n own.event own.stands

pub known_at : (p : GtsParts) (ways : List WayId) (i : ℕ) (w : WayId) → AreKnownWays p ways → Stands ways i w
    → w.n < length p.ways.items
known_at p ways i w h s = h.each w (one_here ways i w s)

pub chain_known : (p : GtsParts) (chains : List Chain) (i : ℕ) (c : Chain) → HaveKnownWays p chains → Stands chains i c
    → AreKnownWays p c.ways.items
chain_known p chains i c h s = record { each = λ w o. h.each c (one_here chains i c s) w o }

-- Open events

pub all_visible : (p : GtsParts) (visible : List Bool) → AreVisible p visible → AreOpenEvents p [] visible
all_visible p visible v = record {
  long = v.long;
  each = λ n b s.
      let e = stands_some p.events.items n (let w = stands_within visible n b s in omega (arith, w, v.long)) in
      turned_answer b (e.0.hidden ≡ false) (IsOpenEvent p [] n)
      (λ h. record { event = e.0; stands = e.1; visible = h; stays = one_none n })
      (λ o. let same : o.event ≡ e.0 = stands_one p.events.items n o.event e.0 o.stands e.1 in subst (λ (z : Event). z.hidden ≡ false) same o.visible)
      (v.each n b e.0 s e.1);
}

pub drop_more : (p : GtsParts) (ds : List ℕ) (d : ℕ) (old new : List Bool) → new ≡ set old d false → d < length old
    → AreOpenEvents p ds old → AreOpenEvents p (ds ++ d ∷ []) new
drop_more p ds d old new e lt h = record {
  long = ap length e ∙ length-set old d false ∙ h.long;
  each = λ n b s. at n b s (cases_eq n d);
}
  where
    gone : (b : Bool) → b ≡ false → IsAnswer b (IsOpenEvent p (ds ++ d ∷ []) d)
    gone true f = absurd (cc f)
    gone false f = λ o. o.stays (one_right ds (d ∷ []) d (one_first d []))

    at : (n : ℕ) (b : Bool) → Stands new n b → ((n ≡ d) ⊎ (n ≡ d → ⊥)) → IsAnswer b (IsOpenEvent p (ds ++ d ∷ []) n)
    at n b s (inl same) =
        let t : Stands (set old d false) d b =
        subst (λ (z : ℕ). Stands (set old d false) z b) same (subst (λ (z : List Bool). Stands z n b) e s) in
        let f : b ≡ false = sym (get_or_from_slice_get (set old d false) d b b t) ∙ get_or-set_same old d false b lt in
        subst (λ (z : ℕ). IsAnswer b (IsOpenEvent p (ds ++ d ∷ []) z)) (sym same) (gone b f)
    at n b s (inr other) =
        let t : Stands (set old d false) n b = subst (λ (z : List Bool). Stands z n b) e s in
        let i : n < length old = (let w = stands_within (set old d false) n b t in omega (arith, w, length-set old d false)) in
        let f : get_or old n b ≡ b = sym (get_or-set_other old d n false b other)
        ∙ get_or_from_slice_get (set old d false) n b b t in
        turned_answer b (IsOpenEvent p ds n) (IsOpenEvent p (ds ++ d ∷ []) n)
        (λ o. record {
          event = o.event;
          stands = o.stands;
          visible = o.visible;
          stays = λ q. elim (one_split ds (d ∷ []) n q) [
            | inl r ↦ o.stays r
            | inr r ↦ elim (one_cases d [] n r) [ inl j ↦ other (sym j) | inr k ↦ one_none n k ]
          ];
        })
        (λ o. record {
          event = o.event;
          stands = o.stands;
          visible = o.visible;
          stays = λ q. o.stays (one_left ds (d ∷ []) n q);
        })
        (h.each n b (subst (λ (z : Bool). Stands old n z) f (stands_get old n b i)))

-- Rows

module _ (p : GtsParts) (dropped : List ℕ) where
  pub row_none : (row : Row) (ls : List Label) → ls ≡ [] → length row.words.items ≡ words_for (length p.events.items)
      → ((n : ℕ) → IsSet row.words.items n → ⊥) → row.fit ≡ true → IsRow p dropped ls row
  row_none row ls e long none fit = subst (λ (z : List Label). IsRow p dropped z row) (sym e) (record {
    long = long;
    bits = λ n. ((λ s. absurd (none n s)), (λ o. absurd (one_none n o)));
    fit = subst (λ (b : Bool). IsAnswer b (IsFit p dropped [])) (sym fit) (record {
      once = record { one = λ m n a s t. absurd (stands_none m a s) };
      are_open = λ k l s. absurd (stands_none k l s);
    });
  })

  events_more : (ls : List Label) (l : Label) → events_of (ls ++ l ∷ []) ≡ events_of ls ++ l.event ∷ []
  events_more ls l = map-append (λ (k : Label). k.event) ls (l ∷ [])

  last_open : (ls : List Label) (l : Label) → IsFit p dropped (ls ++ l ∷ []) → IsOpenEvent p dropped l.event
  last_open ls l f = f.are_open (length ls) l (stands_next ls l [])

  fit_less : (ls : List Label) (l : Label) → IsFit p dropped (ls ++ l ∷ []) → IsFit p dropped ls
  fit_less ls l f = record {
    once = record {
      one = λ m n a s t.
          let same = events_more ls l in
          f.once.one m n a
          (subst (λ (z : List ℕ). Stands z m a) (sym same) (stands_left (events_of ls) (l.event ∷ []) m a s))
          (subst (λ (z : List ℕ). Stands z n a) (sym same) (stands_left (events_of ls) (l.event ∷ []) n a t));
    };
    are_open = λ k m s. f.are_open k m (stands_left ls (l ∷ []) k m s);
  }

  fit_new : (ls : List Label) (l : Label) → IsFit p dropped (ls ++ l ∷ []) → IsOneOf (events_of ls) l.event → ⊥
  fit_new ls l f o =
      let same = events_more ls l in
      let i : o.place ≡ length (events_of ls) = f.once.one o.place (length (events_of ls)) l.event
      (subst (λ (z : List ℕ). Stands z o.place l.event) (sym same)
      (stands_left (events_of ls) (l.event ∷ []) o.place l.event o.stands))
      (subst (λ (z : List ℕ). Stands z (length (events_of ls)) l.event) (sym same)
      (stands_next (events_of ls) l.event [])) in
      let w = stands_within (events_of ls) o.place l.event o.stands in
      absurd (omega (arith, i, w))

  fit_more : (ls : List Label) (l : Label) → IsFit p dropped ls → IsOpenEvent p dropped l.event
      → (IsOneOf (events_of ls) l.event → ⊥) → IsFit p dropped (ls ++ l ∷ [])
  fit_more ls l f o new = record {
    once = subst AreDifferent (sym (events_more ls l))
        (different_more (events_of ls) l.event f.once
        (record {
          has_not = λ k a s e. new
              (subst (λ (z : ℕ). IsOneOf (events_of ls) z) e (one_here (events_of ls) k a s));
        }));
    are_open = λ k m s. elim (stands_split ls (l ∷ []) k m s) [
      | inl q ↦ f.are_open k m q
      | inr q ↦ last q.0 m q.2
    ];
  }
    where
      last : (j : ℕ) (m : Label) → Stands (l ∷ []) j m → IsOpenEvent p dropped m.event
      last zero m s = let same : l ≡ m = cc in subst (λ (z : Label). IsOpenEvent p dropped z.event) same o
      last (suc j) m s = absurd (stands_none j m s)

  module _ (allowed : List Bool) (table : AreOpenEvents p dropped allowed) where
    is_open_at : (e : ℕ) → Stands allowed e true → IsOpenEvent p dropped e
    is_open_at e s = table.each e true s

    stands_open : (e : ℕ) → e < length allowed → IsOpenEvent p dropped e → Stands allowed e true
    stands_open e lt o = let b = stands_some allowed e lt in go b.0 b.1
      where
        go : (b : Bool) → Stands allowed e b → Stands allowed e true
        go true s = s
        go false s = absurd (table.each e false s o)

    -- whether an event is fresh can be told
    fresh_told : (row : List ℕ) (ls : List Label) (e : ℕ) → e < length allowed
        → ((n : ℕ) → IsSet row n ↔ IsOneOf (events_of ls) n)
        → (b : Bool) × IsAnswer b (IsFreshEvent allowed row e)
    fresh_told row ls e lt bits = let b = stands_some allowed e lt in go b.0 b.1 (member_told (events_of ls) e)
      where
        go : (b : Bool) → Stands allowed e b → IsOneOf (events_of ls) e ⊎ (IsOneOf (events_of ls) e → ⊥)
            → (f : Bool) × IsAnswer f (IsFreshEvent allowed row e)
        go false s o = (false, λ f. let i : false ≡ true = stands_one allowed e false true s f.is_open in cc)
        go true s (inl o) = (false, λ f. f.is_new ((bits e).1 o))
        go true s (inr n) = (true, record { is_open = s; is_new = λ q. n ((bits e).0 q) })

    pub row_more : (ls more : List Label) (l : Label) (event : ℕ) (old new : Row) → more ≡ ls ++ l ∷ []
        → event ≡ l.event → event < length allowed → IsRow p dropped ls old
        → length new.words.items ≡ length old.words.items
        → ((n : ℕ) → IsSet new.words.items n ↔ (IsSet old.words.items n ⊎ (n ≡ event)))
        → ((fresh : Bool) → IsAnswer fresh (IsFreshEvent allowed old.words.items event) → new.fit ≡ (old.fit && fresh))
        → IsRow p dropped more new
    row_more ls more l event old new grown e lt is long bits fit =
        subst (λ (z : List Label). IsRow p dropped z new) (sym grown) (record {
          long = long ∙ is.long;
          bits = λ n. (to n, from n);
          fit =
              let told = fresh_told old.words.items ls event lt is.bits in
              subst (λ (b : Bool). IsAnswer b (IsFit p dropped (ls ++ l ∷ []))) (sym (fit told.0 told.1))
              (and_answer old.fit told.0 (IsFit p dropped ls) (IsFreshEvent allowed old.words.items event)
              (IsFit p dropped (ls ++ l ∷ [])) both (fit_less ls l) two is.fit told.1);
        })
      where
        to : (n : ℕ) → IsSet new.words.items n → IsOneOf (events_of (ls ++ l ∷ [])) n
        to n s = subst (λ (z : List ℕ). IsOneOf z n) (sym (events_more ls l)) (elim ((bits n).0 s) [
          | inl o ↦ one_left (events_of ls) (l.event ∷ []) n ((is.bits n).0 o)
          | inr i ↦ one_right (events_of ls) (l.event ∷ []) n
              (subst (λ (z : ℕ). IsOneOf (l.event ∷ []) z) (sym (i ∙ e)) (one_first l.event []))
        ])

        from : (n : ℕ) → IsOneOf (events_of (ls ++ l ∷ [])) n → IsSet new.words.items n
        from n o = elim (one_split (events_of ls) (l.event ∷ []) n
            (subst (λ (z : List ℕ). IsOneOf z n) (events_more ls l) o)) [
              | inl q ↦ (bits n).1 (inl ((is.bits n).1 q))
              | inr q ↦ elim (one_cases l.event [] n q)
                  [ inl i ↦ (bits n).1 (inr (sym i ∙ sym e)) | inr r ↦ absurd (one_none n r) ]
            ]

        both : IsFit p dropped ls → IsFreshEvent allowed old.words.items event → IsFit p dropped (ls ++ l ∷ [])
        both f g = fit_more ls l f (subst (λ (z : ℕ). IsOpenEvent p dropped z) e (is_open_at event g.is_open))
            (λ o. g.is_new ((is.bits event).1 (subst (λ (z : ℕ). IsOneOf (events_of ls) z) (sym e) o)))

        two : IsFit p dropped (ls ++ l ∷ []) → IsFreshEvent allowed old.words.items event
        two f = record {
          is_open = stands_open event lt (subst (λ (z : ℕ). IsOpenEvent p dropped z) (sym e) (last_open ls l f));
          is_new = λ s. fit_new ls l f (subst (λ (z : ℕ). IsOneOf (events_of ls) z) e ((is.bits event).0 s));
        }

  pub rows_none : (chains : List Chain) (rows : List Row) → chains ≡ [] → rows ≡ [] → AreLineRows p dropped chains rows
  rows_none chains rows e f = record {
    long = ap length f ∙ sym (ap length e);
    each = λ k c r s t. absurd (stands_none k c (subst (λ (z : List Chain). Stands z k c) e s));
  }

  pub rows_more : (chains more : List Chain) (c : Chain) (old new : List Row) (r : Row) → more ≡ chains ++ c ∷ []
      → new ≡ old ++ r ∷ [] → AreLineRows p dropped chains old
      → IsRow p dropped (chain_labels p c.ways.items) r → AreLineRows p dropped more new
  rows_more chains more c old new r e f h is = record {
    long = ap length f ∙ length-append old (r ∷ []) ∙ ap (λ n. n + 1) h.long ∙ sym (length-append chains (c ∷ []))
        ∙ sym (ap length e);
    each = λ k d q s t.
        elim (stands_split chains (c ∷ []) k d (subst (λ (z : List Chain). Stands z k d) e s)) [
          | inl a ↦ elim (stands_split old (r ∷ []) k q (subst (λ (z : List Row). Stands z k q) f t)) [
            | inl b ↦ h.each k d q a b
            | inr b ↦ let w = stands_within chains k d a in absurd (omega (arith, w, b.1, h.long))
          ]
          | inr a ↦ elim (stands_split old (r ∷ []) k q (subst (λ (z : List Row). Stands z k q) f t)) [
            | inl b ↦ let w = stands_within old k q b in absurd (omega (arith, w, a.1, h.long))
            | inr b ↦ last a.0 b.0 d q a.2 b.2
          ]
        ];
  }
    where
      last : (i j : ℕ) (d : Chain) (q : Row) → Stands (c ∷ []) i d → Stands (r ∷ []) j q
          → IsRow p dropped (chain_labels p d.ways.items) q
      last zero zero d q s t =
          let a : c ≡ d = cc in
          let b : r ≡ q = cc in
          subst (λ (z : Row). IsRow p dropped (chain_labels p d.ways.items) z) b
          (subst (λ (z : Chain). IsRow p dropped (chain_labels p z.ways.items) r) a is)
      last zero (suc j) d q s t = absurd (stands_none j q t)
      last (suc i) j d q s t = absurd (stands_none i d s)

  -- Lists of rows

  pub have_bits : (chains : List Chain) (rows : List Row) → AreLineRows p dropped chains rows
      → HaveBits (chain_lines p chains) rows
  have_bits chains rows h = record {
    long = h.long ∙ sym (length-map chains (λ (c : Chain). chain_labels p c.ways.items));
    each = λ k ls r s t n.
        let c = stands_map_back (λ (c : Chain). chain_labels p c.ways.items) chains k ls s in
        subst (λ (z : List Label). IsSet r.words.items n ↔ IsOneOf (events_of z) n) c.2 ((h.each k c.0 r c.1 t).bits n);
  }

  pub is_wide : (chains : List Chain) (rows : List Row) → AreLineRows p dropped chains rows → (k : ℕ) (r : Row)
      → Stands rows k r → length r.words.items ≡ words_for (length p.events.items)
  is_wide chains rows h k r s =
      let c = stands_some chains k (let w = stands_within rows k r s in omega (arith, w, h.long)) in
      (h.each k c.0 r c.1 s).long

  pub are_wide : (chains : List Chain) (rows : List Row) → AreLineRows p dropped chains rows → AreWide rows
  are_wide chains rows h = record { same = λ j k r s a b. is_wide chains rows h j r a ∙ sym (is_wide chains rows h k s b) }

-- the rows are those of the system
pub rows_are : (p q : GtsParts) (ds : List ℕ) (chains : List Chain) (allowed table : List Bool) (rows : List Row) → q ≡ p
    → table ≡ allowed → AreOpenEvents q ds allowed
    → ((dropped : List ℕ) → AreOpenEvents q dropped table → AreLineRows q dropped chains rows) → AreLineRows p ds chains rows
rows_are p q ds chains allowed table rows e f h made =
    subst (λ (z : GtsParts). AreLineRows z ds chains rows) e
    (made ds (subst (λ (z : List Bool). AreOpenEvents q ds z) (sym f) h))

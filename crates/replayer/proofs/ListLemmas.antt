-- What is written of the ways that can fire is what the trace tells of them.
use Rattle.std.proofs.Common.{◌≡◌, ◌+◌, ◌-◌, ◌<◌, ℕ, suc, Bool, true, false, if◌then◌else◌, cond, List, [], ◌∷◌, ◌++◌, codes, filter, length, refl, sym, ◌∙◌, ap, subst, arith, append_assoc, inl, inr}
use Rattle.std.proofs.lemmas.Bool.{cases_eq, cases_lt}
use Rattle.std.proofs.lemmas.List.{length-map}
use Rattle.std.proofs.lemmas.List.Elements.{filter-append}
use Rattle.ar_base.specs.Lists.{Stands, IsOneOf, Along}
use Rattle.ar_base.specs.Lists as l
use Rattle.ar_base.specs.Numbers.{WayId}
use Rattle.ar_base.specs.Texts.{line}
use Rattle.ar_base.proofs.Standing.{stands_within, one_here, one_none, one_cases, one_first, one_rest, one_split}
use Rattle.domains.specs.declared.Value.{Value}
use Rattle.typed_expr.proofs.Listing.{Told}
use Rattle.ar_meaning.specs.Systems as s
use Rattle.ar_meaning.specs.Facts.{HasValue}
use Rattle.ar_meaning.specs.Found.{IsAnswer}
use Rattle.ar_meaning.specs.Numbered.{leaf, joint}
use Rattle.ar_meaning.specs.Ways.{Can}
use Rattle.ar_meaning.specs.Runs.{Label, Ways_listed, can, cannot, Listed, visible, hidden}
use Rattle.ar_meaning.specs.Runs as r
use Rattle.ar_meaning.specs.TraceText.{label_text, label_lines}
use Rattle.ar_meaning.proofs.Answering.{can_told}
use Rattle.ar_meaning.proofs.OneRun.{means_same}
use Rattle.ar_meaning.proofs.Outcomes.{values_known}
use Rattle.ar_meaning.proofs.Found.{same_answer}
use Rattle.gts_core.specs.View.{Views, IsEventView, IsWayAt, net_of, way_bodies, body_of_way}
use Rattle.gts_core.specs.Sound.{IsSound, IsListedWay}
use Rattle.gts_core.specs.declared.system.Event.{Event}
use Rattle.gts_core.specs.declared.system.GtsParts.{GtsParts}
use Rattle.gts_flatten.specs.Flat.{naming_of_parts}
use Rattle.text_pieces.specs.WayLabels.{numbered_label, way_label_found, way_label}
use Rattle.replayer.specs.Listing.{AreAnswers, AreInside, visible_ways, able, AreReadyWays}
use Rattle.replayer.specs.Printing.{way_lines}
use Rattle.text_pieces.proofs.Ways.{label_alike}

-- the labels of those of these ways that can fire
abbrev labels_of : (ℕ → Bool) → List WayId → ℕ → ℕ → List Label
labels_of may [] e k = []
labels_of may (w ∷ ws) e k = (if may w.n then record { event = e; way = k } ∷ [] else []) ++ labels_of may ws e (k + 1)

-- the same of the ways of these events
abbrev visible_labels : (ℕ → Bool) → Event → ℕ → List Label
visible_labels may v e = if v.hidden then [] else labels_of may v.ways.items e 0

abbrev events_labels : (ℕ → Bool) → List Event → ℕ → List Label
events_labels may [] e = []
events_labels may (v ∷ vs) e = visible_labels may v e ++ events_labels may vs (e + 1)

-- the lines of ways and of further ones
way_lines_both : (p : GtsParts) (vs ws : List WayId) → way_lines p (vs ++ ws) ≡ way_lines p vs ++ way_lines p ws
way_lines_both p [] ws = refl
way_lines_both p (v ∷ vs) ws =
    ap (λ z. line (codes "  " ++ way_label p v.n) ++ z) (way_lines_both p vs ws)
    ∙ sym (append_assoc (line (codes "  " ++ way_label p v.n)) (way_lines p vs) (way_lines p ws))

module _ (p : GtsParts) (sys : s.System ℕ) (views : Views p sys) (t : List Value) (may : ℕ → Bool)
    (answers : AreAnswers p t may) where
  abbrev facts : ℕ → Value → Type 0
  facts = HasValue (net_of p) t

  one_listed : (e k : ℕ) (w : s.Way ℕ) (ws : List (s.Way ℕ)) (ls : List Label) (b : Bool) → IsAnswer b (Can facts w)
      → Ways_listed facts e (k + 1) ws ls
      → Ways_listed facts e k (w ∷ ws) ((if b then record { event = e; way = k } ∷ [] else []) ++ ls)
  one_listed e k w ws ls true h d = can h d
  one_listed e k w ws ls false h d = cannot h d

  ways_listed : (e k : ℕ) {ids : List WayId} {ws : List (s.Way ℕ)}
      → Along (λ (n : WayId) (w : s.Way ℕ). IsWayAt p n.n w) ids ws
      → Ways_listed facts e k ws (labels_of may ids e k)
  ways_listed e k l.none = r.none
  ways_listed e k (l.one_and {a = n} {b = w} {xs = ids} {ys = ws} q qs) =
      one_listed e k w ws (labels_of may ids e (k + 1)) (may n.n) (answers.each n.n w q) (ways_listed e (k + 1) qs)

  event_listed : (e : ℕ) (v : Event) (u : s.Event ℕ) (us : List (s.Event ℕ)) (ls : List Label) (b : Bool) → v.hidden ≡ b
      → IsEventView p v u → Listed facts (e + 1) us ls
      → Listed facts e (u ∷ us) ((if b then [] else labels_of may v.ways.items e 0) ++ ls)
  event_listed e v u us ls true i is d = hidden (is.hidden ∙ i) d
  event_listed e v u us ls false i is d = visible (is.hidden ∙ i) (ways_listed e 0 is.ways) d

  listed_from : (e : ℕ) {vs : List Event} {us : List (s.Event ℕ)} → Along (IsEventView p) vs us
      → Listed facts e us (events_labels may vs e)
  listed_from e l.none = r.none
  listed_from e (l.one_and {a = v} {b = u} {xs = vs} {ys = us} q qs) =
      event_listed e v u us (events_labels may vs (e + 1)) v.hidden refl q (listed_from (e + 1) qs)

  lines_joined : (ks ls : List Label)
      → label_lines (naming_of_parts p) sys (ks ++ ls)
      ≡ label_lines (naming_of_parts p) sys ks ++ label_lines (naming_of_parts p) sys ls
  lines_joined [] ls = refl
  lines_joined (k ∷ ks) ls =
      ap (λ z. line (codes "  " ++ label_text (naming_of_parts p) sys k) ++ z) (lines_joined ks ls)
      ∙ sym (append_assoc (line (codes "  " ++ label_text (naming_of_parts p) sys k))
      (label_lines (naming_of_parts p) sys ks) (label_lines (naming_of_parts p) sys ls))

  module _ (sound : IsSound p) where
    -- the label of the way at place k of event e
    listed_label : (e k : ℕ) (n : WayId) → IsListedWay p e k n → numbered_label p n.n ≡ record { event = e; way = k }
    listed_label e k n is = ap way_label_found is.stands
        ∙ made is.way.event.n (is.way.number - 1) is.event (omega (arith, is.number))
      where
        made : (a b : ℕ) → a ≡ e → b ≡ k → ◌≡◌ {A = Label} (record { event = a; way = b })
            (record { event = e; way = k })
        made a b i j = cc

    way_text_is : (e k : ℕ) (n : WayId) → IsListedWay p e k n
        → line (codes "  " ++ way_label p n.n)
        ≡ line (codes "  " ++ label_text (naming_of_parts p) sys (record { event = e; way = k }))
    way_text_is e k n is =
        ap (λ z. line (codes "  " ++ z))
        (sym (label_alike p sys views n.n)
        ∙ ap (λ (z : Label). label_text (naming_of_parts p) sys z) (listed_label e k n is))

    one_text : (e k : ℕ) (n : WayId) (b : Bool) (ws : List WayId) (ls : List Label) → IsListedWay p e k n
        → way_lines p ws ≡ label_lines (naming_of_parts p) sys ls
        → way_lines p (cond b (n ∷ ws) ws)
        ≡ label_lines (naming_of_parts p) sys ((if b then record { event = e; way = k } ∷ [] else []) ++ ls)
    one_text e k n true ws ls is rest =
        ap (λ z. z ++ way_lines p ws) (way_text_is e k n is)
        ∙ ap (λ z. line (codes "  " ++ label_text (naming_of_parts p) sys (record { event = e; way = k })) ++ z) rest
    one_text e k n false ws ls is rest = rest

    ways_text : (e : ℕ) (ids : List WayId) (k : ℕ) → ((j : ℕ) (n : WayId) → Stands ids j n → IsListedWay p e (k + j) n)
        → way_lines p (able may ids)
        ≡ label_lines (naming_of_parts p) sys (labels_of may ids e k)
    ways_text e [] k own = refl
    ways_text e (n ∷ ids) k own =
        let first : IsListedWay p e k n = subst (λ (z : ℕ). IsListedWay p e z n) (omega arith) (own 0 n refl) in
        one_text e k n (may n.n) (able may ids) (labels_of may ids e (k + 1)) first
        (ways_text e ids (k + 1) (λ j m s. subst (λ (z : ℕ). IsListedWay p e z m) (omega arith) (own (suc j) m s)))

    event_text : (e : ℕ) (v : Event) (b : Bool) → Stands p.events.items e v
        → way_lines p (able may (if b then [] else v.ways.items))
        ≡ label_lines (naming_of_parts p) sys (if b then [] else labels_of may v.ways.items e 0)
    event_text e v true s = refl
    event_text e v false s = ways_text e v.ways.items 0
        (λ j n h. subst (λ (z : ℕ). IsListedWay p e z n) (omega arith) (sound.event_ways e j v n s h))

    events_text : (vs : List Event) (e : ℕ) → ((j : ℕ) (v : Event) → Stands vs j v → Stands p.events.items (e + j) v)
        → way_lines p (able may (visible_ways vs)) ≡ label_lines (naming_of_parts p) sys (events_labels may vs e)
    events_text [] e own = refl
    events_text (v ∷ vs) e own =
        let first : Stands p.events.items e v =
        subst (λ (z : ℕ). Stands p.events.items z v) (omega arith) (own 0 v refl) in
        let here : List WayId = if v.hidden then [] else v.ways.items in
        ap (way_lines p) (filter-append (λ (n : WayId). may n.n) here (visible_ways vs))
        ∙ way_lines_both p (able may here) (able may (visible_ways vs))
        ∙ ap (λ z. z ++ way_lines p (able may (visible_ways vs))) (event_text e v v.hidden first)
        ∙ ap (λ z. label_lines (naming_of_parts p) sys (visible_labels may v e) ++ z)
        (events_text vs (e + 1) (λ j u h. subst (λ (z : ℕ). Stands p.events.items z u) (omega arith) (own (suc j) u h)))
        ∙ sym (lines_joined (visible_labels may v e) (events_labels may vs (e + 1)))

    -- the labels that are listed, and their lines
    pub record IsList (text : List ℕ) : Type 0 where
      pub labels : List Label
      pub listed : Listed (HasValue sys.net t) 0 sys.events labels
      pub lines : text ≡ label_lines (naming_of_parts p) sys labels

    pub is_list : IsList (way_lines p (able may (visible_ways p.events.items)))
    is_list = record {
      labels = events_labels may p.events.items 0;
      listed = subst (λ (net : s.Net ℕ). Listed (HasValue net t) 0 sys.events (events_labels may p.events.items 0))
          (sym views.net)
          (listed_from 0 views.events);
      lines = events_text p.events.items 0 (λ j v h. subst (λ (z : ℕ). Stands p.events.items z v) (omega arith) h);
    }

-- There is such a test

means_within : (p : GtsParts) (n : ℕ) (w : s.Way ℕ) → IsWayAt p n w → n < length (way_bodies p)
means_within p n w (leaf h) = stands_within (way_bodies p) n _ h
means_within p n w (joint h d) = stands_within (way_bodies p) n _ h

abbrev answer_of : {P : Type 0} → Told P → Bool
answer_of (inl h) = true
answer_of (inr n) = false

is_answer : {P : Type 0} (told : Told P) → IsAnswer (answer_of told) P
is_answer (inl h) = h
is_answer (inr n) = n

module _ (p : GtsParts) (sound : IsSound p) (t : List Value) where
  can_be_told : (w : s.Way ℕ) → Told (Can (HasValue (net_of p) t) w)
  can_be_told w = can_told (HasValue (net_of p) t) (values_known cases_eq (net_of p) t) w

  -- an answer for one number
  record HasAnswer (n : ℕ) : Type 0 where
    pub answer : Bool
    pub is : (w : s.Way ℕ) → IsWayAt p n w → IsAnswer answer (Can (HasValue (net_of p) t) w)

  answered : (n : ℕ) → HasAnswer n
  answered n = elim (cases_lt n (length p.ways.items)) [
    | inl h ↦ (let tree = sound.trees n h in record {
      answer = answer_of (can_be_told tree.0);
      is = λ w m. subst (λ (z : s.Way ℕ). IsAnswer (answer_of (can_be_told tree.0)) (Can (HasValue (net_of p) t) z))
          (means_same (way_bodies p) tree.1 m) (is_answer (can_be_told tree.0));
    })
    | inr h ↦ record {
      answer = false;
      is = λ w m. absurd (let i = means_within p n w m in omega (arith, i, h, length-map p.ways.items body_of_way));
    }
  ]

  -- whether each way can fire can be told
  pub some_answers : (may : ℕ → Bool) × AreAnswers p t may
  some_answers = (λ n. (answered n).answer, record { each = λ n w m. (answered n).is w m })

-- what is answered for a way is what the test says
pub enabled_so : (p q : GtsParts) (t : List Value) (may : ℕ → Bool) (n : ℕ) (b : Bool) → q ≡ p → IsSound p
    → n < length p.ways.items → AreAnswers p t may
    → ((w : s.Way ℕ) → IsWayAt q n w → IsAnswer b (Can (HasValue (net_of q) t) w)) → may n ≡ b
enabled_so p q t may n b e sound h answers is =
    let tree = sound.trees n h in
    let own = subst (λ (z : GtsParts). (w : s.Way ℕ) → IsWayAt z n w → IsAnswer b (Can (HasValue (net_of z) t) w)) e
    is in
    same_answer (Can (HasValue (net_of p) t) tree.0) (may n) b (answers.each n tree.0 tree.1) (own tree.0 tree.1)

-- the ways of a list
pub rest_inside : (p : GtsParts) (ways : List WayId) (i : ℕ) (w : WayId) → AreInside p ways → Stands ways i w
    → w.n < length p.ways.items
rest_inside p ways i w h s = h.each i w s

-- the visible ways of these events are those of the system
events_inside : (p : GtsParts) → IsSound p → (es : List Event) (e : ℕ)
    → ((j : ℕ) (v : Event) → Stands es j v → Stands p.events.items (e + j) v)
    → (w : WayId) → IsOneOf (visible_ways es) w → w.n < length p.ways.items
events_inside p sound [] e own w o = absurd (one_none w o)
events_inside p sound (v ∷ es) e own w o =
    elim (one_split (if v.hidden then [] else v.ways.items) (visible_ways es) w o) [
      | inl here ↦ one v.hidden here
      | inr later ↦ events_inside p sound es (e + 1)
          (λ j u h. subst (λ (z : ℕ). Stands p.events.items z u) (omega arith) (own (suc j) u h)) w later
    ]
  where
    one : (b : Bool) → IsOneOf (if b then [] else v.ways.items) w → w.n < length p.ways.items
    one true here = absurd (one_none w here)
    one false here =
        let first : Stands p.events.items e v =
        subst (λ (z : ℕ). Stands p.events.items z v) (omega arith) (own 0 v refl) in
        let listed = sound.event_ways e here.place v w first here.stands in
        stands_within p.ways.items w.n listed.way listed.stands

pub visible_inside : (p : GtsParts) → IsSound p → AreInside p (visible_ways p.events.items)
visible_inside p sound = record {
  each = λ k w s. events_inside p sound p.events.items 0
      (λ j v h. subst (λ (z : ℕ). Stands p.events.items z v) (omega arith) h) w
      (one_here (visible_ways p.events.items) k w s);
}

-- some of these ways
filter_one : (f : WayId → Bool) (ws : List WayId) (w : WayId) → IsOneOf (filter f ws) w → IsOneOf ws w
filter_one f [] w o = o
filter_one f (v ∷ ws) w o = by (f v) (filter_one f ws w) o
  where
    by : (b : Bool) → (IsOneOf (filter f ws) w → IsOneOf ws w) → IsOneOf (cond b (v ∷ filter f ws) (filter f ws)) w
        → IsOneOf (v ∷ ws) w
    by true rest q = elim (one_cases v (filter f ws) w q) [
      | inl e ↦ subst (λ (z : WayId). IsOneOf (v ∷ ws) z) e (one_first v ws)
      | inr r ↦ one_rest v ws w (rest r)
    ]
    by false rest q = one_rest v ws w (rest q)

pub ready_inside : (p : GtsParts) → IsSound p → (t : List Value) (ways : List WayId) → AreReadyWays p t ways
    → AreInside p ways
ready_inside p sound t ways h = record {
  each = λ k w s.
      let may = some_answers p sound t in
      let o = subst (λ (z : List WayId). IsOneOf z w) (h.are may.0 may.1) (one_here ways k w s) in
      let q = filter_one (λ (v : WayId). may.0 v.n) (visible_ways p.events.items) w o in
      (visible_inside p sound).each q.place w q.stands;
}

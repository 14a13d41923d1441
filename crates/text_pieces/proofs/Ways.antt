-- The ways of a flat system by number, and their labels.
use Rattle.std.proofs.Common.{◌≡◌, ◌-◌, ◌<◌, ℕ, zero, suc, List, length, Option, slice_get, slice_index_or, codes, decimal, ◌++◌, refl, sym, ◌∙◌, ap, subst, arith}
use Rattle.ar_base.specs.Lists.{Stands, Along}
use Rattle.ar_base.specs.Lists as l
use Rattle.ar_base.specs.Texts.{text_at}
use Rattle.ar_base.proofs.Standing.{stands_some, stands_get, stands_map, along_on, along_length}
use Rattle.ar_meaning.specs.Systems as s
use Rattle.ar_meaning.specs.Runs.{Label, IsWay}
use Rattle.ar_meaning.specs.TraceText.{way_text, ways_of, label_text, optional_place_text}
use Rattle.gts_core.specs.View.{Views, IsEventView, IsWayAt}
use Rattle.gts_core.specs.Sound.{IsSound, IsOwn}
use Rattle.gts_core.specs.declared.system.Assign.{Assign}
use Rattle.gts_core.specs.declared.system.Event.{Event}
use Rattle.gts_core.specs.declared.system.GtsParts.{GtsParts}
use Rattle.gts_core.specs.declared.system.Way.{Way}
use Rattle.gts_flatten.specs.Flat.{naming_of_parts}
use Rattle.text_pieces.specs.WayLabels.{way_label_found, numbered_label, ways_found, way_label}

-- a way of the system with its label and its number
pub record IsNamed (p : GtsParts) (sys : s.System ℕ) (n : ℕ) : Type 0 where
  pub way : s.Way ℕ
  pub is_way : IsWay sys (numbered_label p n) way
  pub is_at : IsWayAt p n way

-- events have as many ways in the system as in its parts
ways_alike : (p : GtsParts) {es : List Event} {vs : List (s.Event ℕ)} → Along (IsEventView p) es vs → (n : ℕ)
    → ways_found (slice_get es n) ≡ ways_of (slice_get vs n)
ways_alike p l.none zero = refl
ways_alike p l.none (suc n) = refl
ways_alike p (l.one_and r rs) zero = along_length _ _ r.ways
ways_alike p (l.one_and r rs) (suc n) = ways_alike p rs n

-- what is read at a place stands there
pub read_stands : {A : Type 0} (xs : List A) (n : ℕ) (a : A) → n < length xs → a ≡ slice_index_or xs n a → Stands xs n a
read_stands xs n a h e = subst (λ z. Stands xs n z) (sym e) (stands_get xs n a h)

-- the label of a way that is read
pub label_read : (p : GtsParts) (n : ℕ) (w : Way) → Stands p.ways.items n w
    → way_text (text_at (naming_of_parts p).events w.event.n) (ways_found (slice_get p.events.items w.event.n))
    (w.number - 1) ≡ way_label p n
label_read p n w h =
    ap (λ (o : Option Way). way_text (text_at (naming_of_parts p).events (way_label_found o).event)
    (ways_found (slice_get p.events.items (way_label_found o).event)) (way_label_found o).way)
    (sym h)

-- a way that is read has a number from 1
pub number_read : (p : GtsParts) (n : ℕ) (w : Way) → IsSound p → Stands p.ways.items n w → 0 < w.number
number_read p n w sound h = let own = sound.own_ways n w h in omega (arith, own.number)

-- the place of an assignment that is read
pub place_read : (p : GtsParts) (n : ℕ) (a : Assign) → Stands p.assigns.items n a
    → decimal a.at.line ++ (codes ":" ++ decimal a.at.column) ≡ optional_place_text
    (slice_get (naming_of_parts p).places n)
place_read p n a h = ap optional_place_text (sym (stands_map (λ (z : Assign). z.at) p.assigns.items n a h))

module _ (p : GtsParts) (sys : s.System ℕ) (views : Views p sys) where
  -- the canonical label of a way
  pub label_alike : (n : ℕ) → label_text (naming_of_parts p) sys (numbered_label p n) ≡ way_label p n
  label_alike n =
      let k : Label = numbered_label p n in
      ap (λ z. way_text (text_at (naming_of_parts p).events k.event) z k.way)
      (sym (ways_alike p views.events k.event))

  abbrev at_event : ℕ → ℕ → Label
  at_event e k = record { event = e; way = k }

  -- each number of a way names a way of the system
  pub way_named : IsSound p → (n : ℕ) → n < length p.ways.items → IsNamed p sys n
  way_named sound n h =
      let found = stands_some p.ways.items n h in
      let w : Way = found.0 in
      let own : IsOwn p n w = sound.own_ways n w found.1 in
      let there = along_on p.events.items sys.events views.events w.event.n own.event own.stands in
      let way = along_on own.event.ways.items there.0.ways there.2.ways own.place own.way own.there in
      let is : numbered_label p n ≡ record { event = w.event.n; way = own.place } =
      ap way_label_found found.1 ∙ ap (at_event w.event.n) (omega (arith, own.number)) in
      record {
        way = way.0;
        is_way = subst (λ (k : Label). IsWay sys k way.0) (sym is)
            (record { event = there.0; is_event = there.1; is_way = way.1 });
        is_at = subst (λ (k : ℕ). IsWayAt p k way.0) own.is way.2;
      }

-- What the labels of a script name, by the numbers of a flat system.
use Rattle.std.proofs.Common.{◌≡◌, ◌+◌, ◌-◌, ◌<◌, ◌≤◌, ℕ, true, false, List, [], ◌∷◌, ◌++◌, length, decimal, Option, Some, None, slice_get, slice_index_or, get_or, nat_lt, option_map, Ok, Err, refl, sym, ◌∙◌, ap, subst, arith}
use Rattle.std.specs.Option.{MatchOption}
use Rattle.std.proofs.lemmas.Bool.Decides.{nat_tests}
use Rattle.std.proofs.lemmas.List.{length-map}
use Rattle.std.proofs.lemmas.Option.{slice_get_past}
use Rattle.hierarchy.proofs.Finding.{item_stands}
use Rattle.ar_base.specs.Lists.{Stands, AreDifferent}
use Rattle.ar_base.specs.Numbers.{WayId, NameId}
use Rattle.ar_base.specs.NumbersInside.{EventId}
use Rattle.ar_base.proofs.Standing.{stands_one, stands_within, stands_some, along_on, along_length}
use Rattle.ar_meaning.specs.Systems as s
use Rattle.ar_meaning.specs.Runs.{Label}
use Rattle.ar_syntax.specs.declared.paths.PathStart.TheVariants.{Here}
use Rattle.gts_core.specs.Sound.{IsSound, IsListedWay}
use Rattle.gts_core.specs.declared.system.Event.{Event}
use Rattle.gts_core.specs.declared.system.GtsParts.{GtsParts}
use Rattle.gts_flatten.specs.Elaborating.{Elaborated}
use Rattle.gts_flatten.specs.Flat.{IsFlat}
use Rattle.hierarchy.specs.Listing.{events}
use Rattle.hierarchy.specs.Paths.{thing_path}
use Rattle.hierarchy.specs.Tie.{AnswersThing}
use Rattle.hierarchy.specs.Units.{Thing, numbers}
use Rattle.hierarchy.specs.Walks.{IsThingAt, is_event}
use Rattle.hierarchy.specs.declared.tree.Tree.{Tree}
use Rattle.job_inputs.specs.Flat.{IsOfTree}
use Rattle.text_pieces.specs.WayLabels.{numbered_label, way_label_found, ways_found}
use Rattle.job_inputs.specs.Labels.{Spells, NamesEvent, NamesVisible, IsLabel, path, numbered, NeedsWay}
use Rattle.job_inputs.specs.Reads.{has_mark, AnswersEvent, AnswersVisible, IsVisible, AnswersLabel, IsWayCount, IsUnlessHidden, IsNumberedWay, IsNoWayOf}
use Rattle.job_inputs.specs.declared.faults.ScriptFault.TheVariants as fault
use Rattle.job_inputs.specs.declared.script_labels.Counted.TheVariants as count
use Rattle.job_inputs.proofs.MarkLemmas.{decimal_unmarked, last_mark, unmarked}
use Rattle.job_inputs.proofs.EventLemmas.{events_different, one_thing, one_spelling}

-- Events

-- an event of the declarations, in the flat system
pub record IsThere (x : Elaborated) (p : GtsParts) (e : ℕ) : Type 0 where
  pub part : Event
  pub stands : Stands p.events.items e part
  pub event : s.Event Thing
  pub is_event : Stands x.system.events e event
  pub hidden : event.hidden ≡ part.hidden
  pub count : length event.ways ≡ length part.ways.items

module _ {x : Elaborated} {p : GtsParts} (flat : IsFlat x p) where
  events_long : length p.events.items ≡ length (events x.declarations.model x.declarations.units)
  events_long =
      sym (length-map p.events.items (λ (e : Event). e.path))
      ∙ ap (λ z. length z.events) flat.names
      ∙ length-map (events x.declarations.model x.declarations.units) (thing_path x.declarations.model)

  pub event_there : (e : ℕ) (t : Thing) → Stands (events x.declarations.model x.declarations.units) e t → IsThere x p e
  event_there e t h =
      let inside : e < length p.events.items = let w = stands_within _ e t h in omega (arith, w, events_long) in
      let part = stands_some p.events.items e inside in
      let mid = along_on p.events.items flat.flat.events flat.views.events e part.0 part.1 in
      let own = stands_some x.system.events e (let w = stands_within flat.flat.events e mid.0 mid.1 in omega (arith, w, along_length _ _ flat.is_flat.events)) in
      let far = along_on x.system.events flat.flat.events flat.is_flat.events e own.0 own.1 in
      let same : far.0 ≡ mid.0 = stands_one flat.flat.events e far.0 mid.0 far.1 mid.1 in
      record {
        part = part.0;
        stands = part.1;
        event = own.0;
        is_event = own.1;
        hidden = far.2.hidden ∙ ap (λ (z : s.Event ℕ). z.hidden) same ∙ mid.2.hidden;
        count = along_length _ _ far.2.ways ∙ ap (λ (z : s.Event ℕ). length z.ways) same
            ∙ sym (along_length _ _ mid.2.ways);
      }

  -- how many ways a visible event has
  pub visible_count : {text : List ℕ} {e ways : ℕ} → NamesVisible x text e ways
      → ways ≡ ways_found (slice_get p.events.items e)
  visible_count {e = e} v =
      let t = event_there e v.names.thing v.names.number in
      let same : v.event ≡ t.event = stands_one x.system.events e v.event t.event v.stands t.is_event in
      sym v.count ∙ ap (λ (z : s.Event Thing). length z.ways) same ∙ t.count ∙ sym (ap ways_found t.stands)

module _ {x : Elaborated} {tree : Tree} {p : GtsParts} (of : IsOfTree x tree p) where
  -- a text names one event at most
  pub one_event : AreDifferent x.declarations.model.names → (text : List ℕ) (e f : ℕ) → NamesEvent x text e
      → NamesEvent x text f → f ≡ e
  one_event different text e f a b =
      let table = of.is_tree.table in
      let spelled : b.is_thing.names ≡ a.is_thing.names =
      one_spelling x.declarations.model.names different b.is_thing.spells a.is_thing.spells in
      let same : b.thing ≡ a.thing = one_thing is_event a.is_thing.names b.thing a.thing
      (subst (λ (ns : List ℕ). IsThingAt x.declarations.model is_event [] Here ns b.thing) spelled b.is_thing.is_thing)
      a.is_thing.is_thing in
      (events_different table.kept of.is_tree.are_units).one f e a.thing
      (subst (λ (t : Thing). Stands (events x.declarations.model x.declarations.units) f t) same b.number) a.number

  names_alike : tree.classes.names ≡ x.declarations.model.names
  names_alike = of.is_tree.table.table.names

  -- the event of the names that a text spells
  pub names_event : (text : List ℕ) (names : List NameId) (answer : Option EventId) → AreDifferent tree.classes.names
      → Spells tree.classes.names text (numbers names)
      → AnswersThing x.declarations.model (events x.declarations.model x.declarations.units) is_event [] Here
      (numbers names) (option_map (λ (e : EventId). e.n) answer)
      → AnswersEvent x text answer
  names_event text names (Some e) different spelled a =
      let own : AreDifferent x.declarations.model.names = subst AreDifferent names_alike different in
      let named : NamesEvent x text e.n = record {
        thing = a.0;
        is_thing = record {
          names = numbers names;
          spells = subst (λ (t : List (List ℕ)). Spells t text (numbers names)) names_alike spelled;
          is_thing = a.2;
        };
        number = a.1;
      } in
      (named, λ f b. one_event own text e.n f named b)
  names_event text names None different spelled a = λ f b.
      let own : AreDifferent x.declarations.model.names = subst AreDifferent names_alike different in
      let same : b.is_thing.names ≡ numbers names =
      one_spelling x.declarations.model.names own b.is_thing.spells
      (subst (λ (t : List (List ℕ)). Spells t text (numbers names)) names_alike spelled) in
      a b.thing (subst (λ (ns : List ℕ). IsThingAt x.declarations.model is_event [] Here ns b.thing) same
      b.is_thing.is_thing)

  -- a text that spells no names
  pub no_event_named : (text : List ℕ) → ((names : List ℕ) → Spells tree.classes.names text names → ⊥)
      → AnswersEvent x text None
  no_event_named text h = λ f b. h b.is_thing.names
      (subst (λ (t : List (List ℕ)). Spells t text b.is_thing.names) (sym names_alike) b.is_thing.spells)

  -- the event, where it is visible
  pub event_visible : (text : List ℕ) (e : EventId) (answer : Option EventId) → AnswersEvent x text (Some e)
      → IsUnlessHidden p e answer → AnswersVisible x p text answer
  event_visible text e (Some f) a (same, (v, stands, shown)) =
      let there = event_there of.flat e.n a.0.thing a.0.number in
      let part : there.part ≡ v = stands_one p.events.items e.n there.part v there.stands stands in
      let own : IsVisible x p text e = record {
        names = record {
          names = a.0;
          event = there.event;
          stands = there.is_event;
          visible = there.hidden ∙ ap (λ (z : Event). z.hidden) part ∙ shown;
          count = there.count ∙ sym (ap ways_found there.stands);
        };
        one = λ g ways named.
            let i : g ≡ e.n = a.1 g named.names in
            (i, visible_count of.flat named ∙ ap (λ n. ways_found (slice_get p.events.items n)) i);
      } in
      subst (λ (z : EventId). IsVisible x p text z) (sym same) own
  event_visible text e None a hidden = λ g ways named.
      let i : g ≡ e.n = a.1 g named.names in
      let there = event_there of.flat g named.names.thing named.names.number in
      let event : named.event ≡ there.event =
      stands_one x.system.events g named.event there.event named.stands there.is_event in
      let h : there.part.hidden ≡ true =
      hidden there.part (subst (λ n. Stands p.events.items n there.part) i there.stands) in
      let k : false ≡ true = sym named.visible ∙ ap (λ (z : s.Event Thing). z.hidden) event ∙ there.hidden ∙ h in
      cc

  pub none_visible : (text : List ℕ) → AnswersEvent x text None → AnswersVisible x p text None
  none_visible text h = λ f ways named. h f named.names

-- Labels

-- the label of the way at place k of event e
listed_label : (p : GtsParts) (e k : ℕ) (n : WayId) → IsListedWay p e k n
    → numbered_label p n.n ≡ record { event = e; way = k }
listed_label p e k n is = ap way_label_found is.stands
    ∙ made is.way.event.n (is.way.number - 1) is.event (omega (arith, is.number))
  where
    made : (a b : ℕ) → a ≡ e → b ≡ k → ◌≡◌ {A = Label} (record { event = a; way = b }) (record { event = e; way = k })
    made a b i j = cc

-- no visible event with ways has this path
abbrev pub HasNoWays : Elaborated → List ℕ → Type 0
HasNoWays x text = (e ways : ℕ) → NamesVisible x text e ways → ways ≡ 0

module _ {x : Elaborated} where
  needs_none : (text : List ℕ) → HasNoWays x text → NeedsWay x text → ⊥
  needs_none text h needs = let i = h needs.event needs.ways needs.names in let k = needs.many in absurd (omega (arith, i, k))

module _ {x : Elaborated} (p : GtsParts) where
  -- a label that names no way
  pub no_label : (text : List ℕ) (number : ℕ) → HasNoWays x text
      → ((before : List ℕ) (e k ways : ℕ) → text ≡ before ++ (35 ∷ decimal (k + 1)) → NamesVisible x before e ways
      → k < ways → ⊥)
      → AnswersLabel x p text number (Err (fault.Unknown number))
  no_label text number h none = (refl, needs_none text h, λ k is. go k is)
    where
      go : (k : Label) → IsLabel x text k → ⊥
      go k (path named) = let i = h _ 1 named in cc
      go k (numbered before ways split named inside) = none before _ _ ways split named inside

  pub no_mark_label : (text : List ℕ) (number : ℕ) → HasNoWays x text → has_mark text ≡ false
      → AnswersLabel x p text number (Err (fault.Unknown number))
  no_mark_label text number h e = no_label text number h
      (λ before f k ways split named inside. unmarked text before (decimal (k + 1)) e split)

  pub no_path_label : (text before digits : List ℕ) (number : ℕ) → text ≡ before ++ (35 ∷ digits)
      → has_mark digits ≡ false → HasNoWays x text
      → ((f ways : ℕ) → NamesVisible x before f ways → ⊥) → AnswersLabel x p text number (Err (fault.Unknown number))
  no_path_label text before digits number split last h none = no_label text number h (λ other f k ways is named inside.
      let parts = last_mark before other digits (decimal (k + 1)) (sym split ∙ is) last (decimal_unmarked (k + 1)) in
      none f ways (subst (λ (z : List ℕ). NamesVisible x z f ways) (sym parts.0) named))

  pub no_way_label : (text before digits : List ℕ) (e : EventId) (number : ℕ) → text ≡ before ++ (35 ∷ digits)
      → has_mark digits ≡ false → HasNoWays x text
      → IsVisible x p before e → IsNoWayOf p e digits → AnswersLabel x p text number (Err (fault.Unknown number))
  no_way_label text before digits e number split last h is none =
      no_label text number h (λ other f k ways same named inside.
      let parts = last_mark before other digits (decimal (k + 1)) (sym split ∙ same) last (decimal_unmarked (k + 1)) in
      let one = is.one f ways (subst (λ (z : List ℕ). NamesVisible x z f ways) (sym parts.0) named) in
      none k parts.1 (let i = one.1 in omega (arith, i, inside)))

module _ {x : Elaborated} {p : GtsParts} (sound : IsSound p) where
  -- the only way of an event
  pub only_way : (text : List ℕ) (e : EventId) (w : WayId) (number : ℕ) → IsVisible x p text e
      → IsWayCount p e (count.One w) → AnswersLabel x p text number (Ok w)
  only_way text e w number is (v, stands, only) =
      let here : Stands v.ways.items 0 w = ap (λ (ws : List WayId). slice_get ws 0) only in
      let listed = sound.event_ways e.n 0 v w stands here in
      let one : ways_found (slice_get p.events.items e.n) ≡ 1 = ap ways_found stands ∙ ap length only in (
        subst (λ (k : Label). IsLabel x text k) (sym (listed_label p e.n 0 w listed))
            (path (subst (λ (n : ℕ). NamesVisible x text e.n n) one is.names)),
        stands_within p.ways.items w.n listed.way listed.stands,
        λ needs. (let i = (is.one needs.event needs.ways needs.names).1 in let h = needs.many in absurd (omega (arith, i, one, h))),
      )

  -- an event with more ways
  pub many_ways : (text : List ℕ) (e : EventId) (number : ℕ) → IsVisible x p text e → IsWayCount p e count.Many
      → AnswersLabel x p text number (Err (fault.Which number))
  many_ways text e number is many = (refl, record { event = e.n; ways = _; names = is.names; many = many })

  pub no_ways : (text : List ℕ) (e : EventId) → IsVisible x p text e → IsWayCount p e count.None → HasNoWays x text
  no_ways text e is nothing f ways named = (is.one f ways named).1 ∙ nothing

  -- a way by its number
  pub numbered_way : (text before digits : List ℕ) (e : EventId) (w : WayId) (number : ℕ)
      → text ≡ before ++ (35 ∷ digits) → HasNoWays x text
      → IsVisible x p before e → IsNumberedWay p e digits w → AnswersLabel x p text number (Ok w)
  numbered_way text before digits e w number split h is (v, i, written, stands, here) =
      let listed = sound.event_ways e.n i v w stands here in
      let inside : i < ways_found (slice_get p.events.items e.n) = let k = stands_within v.ways.items i w here in omega (arith, k, ap ways_found stands) in (
        subst (λ (k : Label). IsLabel x text k) (sym (listed_label p e.n i w listed))
            (numbered before _ (split ∙ ap (λ z. before ++ (35 ∷ z)) written) is.names inside),
        stands_within p.ways.items w.n listed.way listed.stands,
        needs_none text h,
      )

-- Look-ups

module _ {A : Type 0} where
  pub found_stands : (ys xs : List A) (n : ℕ) (a : A) → ys ≡ xs → true ≡ nat_lt n (length ys)
      → a ≡ slice_index_or ys n a → Stands xs n a
  found_stands ys xs n a e h i = subst (λ (z : List A). Stands z n a) e (item_stands ys n a h i)

  pub found_none : (ys xs : List A) (n : ℕ) → ys ≡ xs → false ≡ nat_lt n (length ys) → slice_get xs n ≡ None
  found_none ys xs n e h = subst (λ (z : List A). slice_get z n ≡ None) e
      (slice_get_past ys n (grind (arith, nat_tests)))

  pub one_item : (xs : List A) (d : A) → length xs < 2 → 1 ≤ length xs → xs ≡ get_or xs 0 d ∷ []
  one_item [] d h l = absurd (omega (arith, l))
  one_item (a ∷ []) d h l = refl
  one_item (a ∷ b ∷ xs) d h l = absurd (omega (arith, h))

-- the way of a number among those of an event
pub way_answer : (p : GtsParts) (e : EventId) (digits : List ℕ) (v : Event) (ws : List WayId) (r : Option WayId)
    → Stands p.events.items e.n v → ws ≡ v.ways.items
    → MatchOption r ((i : ℕ) → digits ≡ decimal (i + 1) → i < length ws → ⊥)
    (λ (w : WayId). (i : ℕ) × (digits ≡ decimal (i + 1)) × Stands ws i w)
    → MatchOption r (IsNoWayOf p e digits) (λ (w : WayId). IsNumberedWay p e digits w)
way_answer p e digits v ws None s i h = λ k same inside. h k same (let n = ap ways_found s in let m = ap length i in omega (arith, inside, n, m))
way_answer p e digits v ws (Some w) s i h = (v, h.0, h.1, s, subst (λ (z : List WayId). Stands z h.0 w) i h.2)

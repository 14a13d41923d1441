-- Whether a set is listed, item by item.
use Rattle.std.proofs.Common.{◌≡◌, ℕ, ◌+◌, ◌<◌, List, [], ◌∷◌, ◌++◌, take, length, get_or, sym, ap, ◌∙◌, subst, inl, inr}
use Rattle.std.proofs.lemmas.List.{map-append, take_more}
use Rattle.ar_base.specs.Lists.{Stands, IsOneOf}
use Rattle.ar_base.specs.Numbers.{WayId}
use Rattle.ar_base.specs.NumbersInside.{EventId}
use Rattle.ar_base.specs.Sets.{Within}
use Rattle.ar_base.proofs.Standing.{one_here, stands_map, one_none, one_split, one_cases, one_right, one_first}
use Rattle.ar_meaning.specs.Runs.{Label}
use Rattle.gts_core.specs.declared.bound.Chain.{Chain}
use Rattle.gts_core.specs.declared.system.GtsParts.{GtsParts}
use Rattle.job_inputs.specs.Chains.{chain_labels}
use Rattle.text_pieces.specs.WayLabels.{numbered_label}
use Rattle.cut_check.specs.Flat.{chain_lines, flat_event_numbers}
use Rattle.cut_check.specs.Verdicts.{events_of, IsListed}

-- one item more, by images
pub numbers_more : (cut : List EventId) (i : ℕ) (d : EventId) → i < length cut
    → flat_event_numbers (take (i + 1) cut) ≡ flat_event_numbers (take i cut) ++ (get_or cut i d).n ∷ []
numbers_more cut i d lt = ap flat_event_numbers (take_more cut i d lt)
    ∙ map-append (λ (e : EventId). e.n) (take i cut) (get_or cut i d ∷ [])

pub labels_more : (p : GtsParts) (ways : List WayId) (i : ℕ) (d : WayId) → i < length ways
    → chain_labels p (take (i + 1) ways) ≡ chain_labels p (take i ways) ++ numbered_label p (get_or ways i d).n ∷ []
labels_more p ways i d lt = ap (chain_labels p) (take_more ways i d lt)
    ∙ map-append (λ (w : WayId). numbered_label p w.n) (take i ways) (get_or ways i d ∷ [])

pub events_more : (p : GtsParts) (ways : List WayId) (i : ℕ) (d : WayId) → i < length ways
    → events_of (chain_labels p (take (i + 1) ways))
    ≡ events_of (chain_labels p (take i ways)) ++ (numbered_label p (get_or ways i d).n).event ∷ []
events_more p ways i d lt = ap events_of (labels_more p ways i d lt)
    ∙ map-append (λ (l : Label). l.event) (chain_labels p (take i ways)) (numbered_label p (get_or ways i d).n ∷ [])

pub lines_more : (p : GtsParts) (chains : List Chain) (i : ℕ) (d : Chain) → i < length chains
    → chain_lines p (take (i + 1) chains)
    ≡ chain_lines p (take i chains) ++ chain_labels p (get_or chains i d).ways.items ∷ []
lines_more p chains i d lt = ap (chain_lines p) (take_more chains i d lt)
    ∙ map-append (λ (c : Chain). chain_labels p c.ways.items) (take i chains) (get_or chains i d ∷ [])

-- a number that is not among more numbers
pub not_more : (old new : List ℕ) (last e : ℕ) → new ≡ old ++ last ∷ [] → (last ≡ e → ⊥) → (IsOneOf old e → ⊥)
    → IsOneOf new e → ⊥
not_more old new last e same n h o = elim (one_split old (last ∷ []) e (subst (λ (z : List ℕ). IsOneOf z e) same o)) [
  | inl q ↦ h q
  | inr q ↦ elim (one_cases last [] e q) [ inl i ↦ n i | inr r ↦ one_none e r ]
]

-- or is, as the last of the first so many
pub among_more : (old new all : List ℕ) (last e : ℕ) → new ≡ old ++ last ∷ [] → last ≡ e → Within new all
    → IsOneOf all e
among_more old new all last e same i h =
    h.each e (subst (λ (z : List ℕ). IsOneOf z e) (sym same)
    (subst (λ (z : ℕ). IsOneOf (old ++ last ∷ []) z) i (one_right old (last ∷ []) last (one_first last []))))

-- numbers that are all in a set
pub within_more : (old new set : List ℕ) (last : ℕ) → new ≡ old ++ last ∷ [] → IsOneOf set last → Within old set
    → Within new set
within_more old new set last same o h = record {
  each = λ e i. elim (one_split old (last ∷ []) e (subst (λ (z : List ℕ). IsOneOf z e) same i)) [
    | inl q ↦ h.each e q
    | inr q ↦ elim (one_cases last [] e q)
        [ inl j ↦ subst (λ (z : ℕ). IsOneOf set z) j o | inr r ↦ absurd (one_none e r) ]
  ];
}

pub within_none : (xs set : List ℕ) → xs ≡ [] → Within xs set
within_none xs set e = record { each = λ n o. absurd (one_none n (subst (λ (z : List ℕ). IsOneOf z n) e o)) }

-- Lines

module _ (set : List ℕ) where
  pub listed_none : IsListed [] set → ⊥
  listed_none h = one_none h.line h.is_line

  pub listed_more : (old new : List (List Label)) (last : List Label) → new ≡ old ++ last ∷ []
      → (Within (events_of last) set × Within set (events_of last) → ⊥) → (IsListed old set → ⊥) → IsListed new set → ⊥
  listed_more old new last same n h l =
      elim (one_split old (last ∷ []) l.line (subst (λ (z : List (List Label)). IsOneOf z l.line) same l.is_line)) [
        | inl q ↦ h (record { line = l.line; is_line = q; within = l.within; whole = l.whole })
        | inr q ↦ elim (one_cases last [] l.line q) [
          | inl i ↦ n (
            subst (λ (z : List Label). Within (events_of z) set) (sym i) l.within,
            subst
                (λ (z : List Label). Within set (events_of z)) (sym i) l.whole,
          )
          | inr r ↦ one_none l.line r
        ]
      ]

-- the event of a label of a line
pub event_there : (p : GtsParts) (ways : List WayId) (i : ℕ) (w : WayId) (e : ℕ) → Stands ways i w
    → (numbered_label p w.n).event ≡ e → IsOneOf (events_of (chain_labels p ways)) e
event_there p ways i w e s same =
    subst (λ (z : ℕ). IsOneOf (events_of (chain_labels p ways)) z) same
    (one_here (events_of (chain_labels p ways)) i (numbered_label p w.n).event
    (stands_map (λ (l : Label). l.event) (chain_labels p ways) i (numbered_label p w.n)
    (stands_map (λ (v : WayId). numbered_label p v.n) ways i w s)))

-- a line more that has other events
pub listed_step : (p q : GtsParts) (chains : List Chain) (i : ℕ) (c : Chain) (ways : List WayId) (set : List ℕ)
    → i < length chains → c ≡ get_or chains i c → q ≡ p → ways ≡ c.ways.items
    → (Within (events_of (chain_labels q ways)) set × Within set (events_of (chain_labels q ways)) → ⊥)
    → (IsListed (chain_lines p (take i chains)) set → ⊥) → IsListed (chain_lines p (take (i + 1) chains)) set → ⊥
listed_step p q chains i c ways set lt is same e other h =
    listed_more set _ _ _ (lines_more p chains i c lt)
    (subst (λ (z : List WayId). Within (events_of (chain_labels p z)) set × Within set (events_of (chain_labels p z)) → ⊥)
    (e ∙ ap (λ (d : Chain). d.ways.items) is)
    (subst (λ (z : GtsParts). Within (events_of (chain_labels z ways)) set × Within set (events_of (chain_labels z ways)) → ⊥)
    same other)) h

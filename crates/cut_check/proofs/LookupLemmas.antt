-- Sets that are looked up in rows.
use Rattle.std.proofs.Common.{◌≡◌, ◌↔◌, ◌⊎◌, ℕ, ◌+◌, ◌<◌, ◌≤◌, ◌/◌, inl, inr, List, [], ◌∷◌, take, length, get_or, sym, ◌∙◌, subst, arith}
use Rattle.ar_base.specs.Lists.{Stands, IsOneOf}
use Rattle.ar_base.specs.NumbersInside.{EventId}
use Rattle.ar_base.specs.Sets.{Within}
use Rattle.ar_base.proofs.Standing.{one_here, one_none, one_split, one_cases, one_left, one_right, one_first, stands_within}
use Rattle.ar_meaning.specs.Runs.{Label}
use Rattle.flow_blocks.specs.Bits.{IsSet, words_for}
use Rattle.gts_core.specs.declared.system.GtsParts.{GtsParts}
use Rattle.cut_check.specs.Flat.{flat_event_numbers}
use Rattle.cut_check.specs.LineSets.{AreLineSets, AreEventNumbers, HasEqualRows}
use Rattle.cut_check.specs.Rows.{HaveBits}
use Rattle.cut_check.specs.Verdicts.{events_of, IsListed}
use Rattle.cut_check.specs.declared.lookup.LineSets.{LineSets}
use Rattle.cut_check.specs.declared.rows.Row.{Row}
use Rattle.cut_check.proofs.HoldLemmas.{line_at}
use Rattle.cut_check.proofs.ListedLemmas.{numbers_more}

-- one event more in a row
pub put_more : (old new : List ℕ) (events : List EventId) (i : ℕ) (d : EventId) → i < length events
    → ((n : ℕ) → IsSet new n ↔ (IsSet old n ⊎ (n ≡ (get_or events i d).n)))
    → ((n : ℕ) → IsSet old n ↔ IsOneOf (flat_event_numbers (take i events)) n) → (n : ℕ)
    → IsSet new n ↔ IsOneOf (flat_event_numbers (take (i + 1) events)) n
put_more old new events i d lt put is n =
    let x = (get_or events i d).n in
    let before = flat_event_numbers (take i events) in
    let more = numbers_more events i d lt in (
      (λ s. subst (λ (z : List ℕ). IsOneOf z n) (sym more) (elim ((put n).0 s) [
        | inl o ↦ one_left before (x ∷ []) n ((is n).0 o)
        | inr e ↦ one_right before (x ∷ []) n (subst (λ (z : ℕ). IsOneOf (x ∷ []) z) (sym e) (one_first x []))
      ])),
      (λ o. elim (one_split before (x ∷ []) n (subst (λ (z : List ℕ). IsOneOf z n) more o)) [
        | inl q ↦ (put n).1 (inl ((is n).1 q))
        | inr q ↦ elim (one_cases x [] n q) [ inl j ↦ (put n).1 (inr (sym j)) | inr r ↦ absurd (one_none n r) ]
      ]),
    )

-- one event more that a row has
pub bits_more : (row : List ℕ) (events : List EventId) (i : ℕ) (d : EventId) → i < length events
    → IsSet row (get_or events i d).n → ((n : ℕ) → IsOneOf (flat_event_numbers (take i events)) n → IsSet row n) → (n : ℕ)
    → IsOneOf (flat_event_numbers (take (i + 1) events)) n → IsSet row n
bits_more row events i d lt is before n o =
    let x = (get_or events i d).n in
    elim (one_split (flat_event_numbers (take i events)) (x ∷ []) n
    (subst (λ (z : List ℕ). IsOneOf z n) (numbers_more events i d lt) o)) [
      | inl q ↦ before n q
      | inr q ↦ elim (one_cases x [] n q)
          [ inl j ↦ subst (λ (z : ℕ). IsSet row z) j is | inr r ↦ absurd (one_none n r) ]
    ]

-- the row has the bits of the set, and no others than the row that is asked for
abbrev pub IsRowOf : List ℕ → List ℕ → List ℕ → Type 0
IsRowOf set asked row = ((n : ℕ) → IsOneOf set n → IsSet row n) × ((n : ℕ) → IsSet row n → IsSet asked n)

-- the line has the events of the set
abbrev pub IsSame : List ℕ → List Label → Type 0
IsSame set ls = Within (events_of ls) set × Within set (events_of ls)

module _ (lines : List (List Label)) (rows : List Row) (have : HaveBits lines rows) (asked set : List ℕ)
    (bits : (n : ℕ) → IsSet asked n ↔ IsOneOf set n) where
  pub is_listed_row : (k : ℕ) (r : Row) → Stands rows k r → IsRowOf set asked r.words.items → IsListed lines set
  is_listed_row k r s h =
      let l = line_at lines rows have k r s in
      record {
        line = l.0;
        is_line = one_here lines k l.0 l.1;
        within = record { each = λ e o. (bits e).0 (h.1 e ((have.each k l.0 r l.1 s e).1 o)) };
        whole = record { each = λ e o. (have.each k l.0 r l.1 s e).0 (h.0 e o) };
      }

  row_of_line : (k : ℕ) (ls : List Label) (r : Row) → Stands lines k ls → Stands rows k r → IsSame set ls
      → IsRowOf set asked r.words.items
  row_of_line k ls r s t w = (
    (λ n o. (have.each k ls r s t n).1 (w.1.each n o)),
    (λ n i. (bits n).1 (w.0.each n ((have.each k ls r s t n).0 i))),
  )

  pub no_row_more : (i : ℕ) (r : Row) → Stands rows i r → (IsRowOf set asked r.words.items → ⊥)
      → ((k : ℕ) (ls : List Label) → k < i → Stands lines k ls → IsSame set ls → ⊥) → (k : ℕ) (ls : List Label)
      → k < i + 1 → Stands lines k ls → IsSame set ls → ⊥
  no_row_more i r t other before k ls lt s w = elim (which k i lt) [
    | inl low ↦ before k ls low s w
    | inr same ↦ other (row_of_line i ls r (subst (λ (z : ℕ). Stands lines z ls) same s) t w)
  ]
    where
      which : (k i : ℕ) → k < i + 1 → (k < i) ⊎ (k ≡ i)
      which k i l = grind arith

  pub not_listed_rows : (i : ℕ) → length rows ≤ i
      → ((k : ℕ) (ls : List Label) → k < i → Stands lines k ls → IsSame set ls → ⊥) → IsListed lines set → ⊥
  not_listed_rows i le before h =
      before h.is_line.place h.line
      (let w = stands_within lines h.is_line.place h.line h.is_line.stands in omega (arith, w, le, have.long))
      h.is_line.stands (h.within, h.whole)

-- there is room for events of the system
pub has_room : (p : GtsParts) (lines : List (List Label)) (sets : LineSets) (events : List ℕ)
    → AreLineSets p lines sets → AreEventNumbers p events → HasEqualRows sets events
has_room p lines sets events are inside = record {
  same = λ k r s. are.wide k r s ∙ sym are.room;
  inside = λ e o. let lt = inside.each e o in fits e (length p.events.items) (length sets.asked.items) lt are.room;
}
  where
    fits : (e n m : ℕ) → e < n → m ≡ words_for n → e / 64 < m
    fits e n m lt is = omega arith

-- The texts of the events in a table of texts.
use Rattle.std.proofs.Common.{◌≡◌, ℕ, ◌+◌, ◌<◌, List, [], ◌∷◌, ◌++◌, length, take, drop, get_or, sym, ap, ◌∙◌, subst, arith}
use Rattle.std.proofs.lemmas.List.{take-append-drop, length-take}
use Rattle.std.proofs.lemmas.Grind.{take_at_read}
use Rattle.ar_base.specs.Lists.{Stands, AreDifferent}
use Rattle.ar_base.specs.Texts.{Interns, known, added}
use Rattle.ar_base.proofs.Standing.{stands_left, stands_within, stands_get}

pub interned : (events old new : List (List ℕ)) (text item : List ℕ) (i : ℕ) → AreDifferent events → i < length events
    → item ≡ get_or events i item → text ≡ item → old ≡ take i events
    → Interns old text new → new ≡ take (i + 1) events
interned events old new text item i different inside is same so_far (known one) =
    let here : Stands events i text = subst (λ (z : List ℕ). Stands events i z) (sym is ∙ sym same)
    (stands_get events i item inside) in
    let there : Stands (take i events) one.place text =
    subst (λ (z : List (List ℕ)). Stands z one.place text) so_far one.stands in
    let whole : Stands events one.place text =
    subst (λ (z : List (List ℕ)). Stands z one.place text) (take-append-drop i events)
    (stands_left (take i events) (drop i events) one.place text there) in
    let within = stands_within (take i events) one.place text there in
    let equal = different.one one.place i text whole here in
    absurd (omega (arith, within, equal, length-take i events))
interned events old new text item i different inside is same so_far (added lacks) =
    ap (λ (z : List (List ℕ)). z ++ text ∷ []) so_far ∙ ap (λ (z : List ℕ). take i events ++ z ∷ []) (same ∙ is)
    ∙ sym (take_at_read events i item inside).1

-- Lines in pieces.
use Rattle.std.proofs.Common.{◌≡◌, ◌+◌, ℕ, false, List, [], ◌∷◌, ◌++◌, codes, decimal, slice_get, refl, sym, ◌∙◌, ap}
use Rattle.ar_base.specs.Numbers.{VarId}
use Rattle.ar_base.specs.Texts.{separated, text_at}
use Rattle.ar_base.proofs.Lines.{line_after}
use Rattle.ar_meaning.specs.TraceText.{Naming, optional_place_text}
use Rattle.ar_meaning.specs.ValueTexts.{value_text}
use Rattle.flow_reasons.specs.Reasons.{Reason}
use Rattle.flow_reasons.specs.Answers.{numbers_of}
use Rattle.reason_text.specs.Texts.{path_of, paths_of, from_text, added_text, why_text, reason_line}

pub reason_pieces : (names : Naming) (r : Reason) (path : List ℕ) → path ≡ text_at names.variables r.flow
    → path ++ (codes " = " ++ (value_text names.symbols r.value ++ (why_text names r.by r.round r.rests_on ++ 10 ∷ [])))
    ≡ reason_line names r
reason_pieces names r path e =
    let value = value_text names.symbols r.value in
    let why = why_text names r.by r.round r.rests_on in
    ap (λ (z : List ℕ). z ++ (codes " = " ++ (value ++ (why ++ 10 ∷ [])))) e
    ∙ line_after (text_at names.variables r.flow) (codes " = " ++ (value ++ why)) _
    (line_after (codes " = ") (value ++ why) _ (line_after value why _ refl))

pub added_pieces : (names : Naming) (a round : ℕ) (ns : List ℕ) (at : List ℕ)
    → at ≡ optional_place_text (slice_get names.places a)
    → codes " round " ++ (decimal round
    ++ (codes " assignment " ++ (decimal (a + 1) ++ (codes " at " ++ (at ++ from_text names ns)))))
    ≡ added_text names a round ns
added_pieces names a round ns at e =
    ap (λ (z : List ℕ). codes " round "
    ++ (decimal round ++ (codes " assignment "
    ++ (decimal (a + 1) ++ (codes " at " ++ (z ++ from_text names ns)))))) e

pub from_pieces : (names : Naming) (xs : List VarId) (first : VarId) (others : List VarId) (path : List ℕ)
    → xs ≡ first ∷ others
    → path ≡ text_at names.variables first.n
    → codes " from " ++ (path ++ separated false (codes ", ") (paths_of names (numbers_of others)))
    ≡ from_text names (numbers_of xs)
from_pieces names xs first others path e f =
    ap (λ (z : List ℕ). codes " from " ++ (z ++ separated false (codes ", ") (paths_of names (numbers_of others)))) f
    ∙ ap (λ (z : List VarId). from_text names (numbers_of z)) (sym e)

pub next_pieces : (names : Naming) (n : ℕ) (path : List ℕ) → path ≡ text_at names.variables n
    → codes ", " ++ path ≡ codes ", " ++ path_of names n
next_pieces names n path e = ap (λ (z : List ℕ). codes ", " ++ z) e

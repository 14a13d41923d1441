use Rattle.std.proofs.Common.{◌≡◌, ◌+◌, ℕ, List, ◌++◌, codes, decimal, sym, ap, ◌∙◌, subst, append_assoc}
use Rattle.ar_base.proofs.Results.{ok_map}
use Rattle.aralia_text.specs.Fronts.{IsStuckIn, header_text}
use Rattle.aralia_text.proofs.GateLines.{no_header, line_read, line_stuck}
use Rattle.aralia_text.proofs.Results.{err_map, stop_is}
use Rattle.aralia_text.proofs.Stuck.{text_first, text_next}
use Rattle.aralia_text.proofs.gates.gate.Goals as goal

module _ (gates : ℕ) (rest one : List ℕ) (first : rest ≡ codes "g" ++ one) (digits : List ℕ)
    (is : digits ≡ decimal (gates + 1)) where
  no_digits : (n : ℕ) → IsStuckIn digits one n → IsStuckIn (header_text gates) rest n
  no_digits n k = text_next (codes "g") (decimal (gates + 1) ++ codes " := ") rest one n first
      (text_first (decimal (gates + 1)) (codes " := ") one n (subst (λ (z : List ℕ). IsStuckIn z one n) is k))

  module _ (two : List ℕ) (second : one ≡ digits ++ two) where
    named : one ≡ decimal (gates + 1) ++ two
    named = second ∙ ap (λ (z : List ℕ). z ++ two) is

    no_sign : (n : ℕ) → IsStuckIn (codes " := ") two n → IsStuckIn (header_text gates) rest n
    no_sign n k = text_next (codes "g") (decimal (gates + 1) ++ codes " := ") rest one n first
        (text_next (decimal (gates + 1)) (codes " := ") one two n named k)

    header : (left : List ℕ) → two ≡ codes " := " ++ left → rest ≡ header_text gates ++ left
    header left third = first
        ∙ ap (λ (z : List ℕ). codes "g" ++ z) (named ∙ ap (λ (z : List ℕ). decimal (gates + 1) ++ z) third
        ∙ sym (append_assoc (decimal (gates + 1)) (codes " := ") left))

pub returns-in_err-behind-clause-stuck : goal.returns-in_err-behind-clause-stuck
returns-in_err-behind-clause-stuck c =
    stop_is _ c.from_residual.result c.in_err-behind.field-0.0 c.from_residual.ensures.1
    (no_header c.args.gates _ _ c.args.gates _ c.requires.some
    (text_first (codes "g") (decimal (c.args.gates + 1) ++ codes " := ") c.args.rest.now _
    c.in_err-behind.ensures.stuck))

pub returns-in_err-behind-2-clause-stuck : goal.returns-in_err-behind-2-clause-stuck
returns-in_err-behind-2-clause-stuck c =
    stop_is _ c.from_residual-in_err-behind-2.result c.in_err-behind-2.field-0.0
    c.from_residual-in_err-behind-2.ensures.1
    (no_header c.args.gates _ _ c.args.gates _ c.requires.some
    (no_digits c.args.gates c.args.rest.now c.in_ok-behind.behind.now c.in_ok-behind.ensures.found
    c.as_bytes-digits.result.now (c.as_bytes-digits.ensures.value ∙ c.format.ensures.text) _
    c.in_err-behind-2.ensures.stuck))

pub returns-in_err-behind-3-clause-stuck : goal.returns-in_err-behind-3-clause-stuck
returns-in_err-behind-3-clause-stuck c =
    stop_is _ c.from_residual-in_err-behind-3.result c.in_err-behind-3.field-0.0
    c.from_residual-in_err-behind-3.ensures.1
    (no_header c.args.gates _ _ c.args.gates _ c.requires.some
    (no_sign c.args.gates c.args.rest.now c.in_ok-behind.behind.now c.in_ok-behind.ensures.found
    c.as_bytes-digits.result.now (c.as_bytes-digits.ensures.value ∙ c.format.ensures.text)
    c.in_ok-behind-2.behind.now c.in_ok-behind-2.ensures.found _ c.in_err-behind-3.ensures.stuck))

pub returns-clause-found : goal.returns-clause-found
returns-clause-found c =
    let found = header c.args.gates c.args.rest.now c.in_ok-behind.behind.now c.in_ok-behind.ensures.found
    c.as_bytes-digits.result.now (c.as_bytes-digits.ensures.value ∙ c.format.ensures.text)
    c.in_ok-behind-2.behind.now c.in_ok-behind-2.ensures.found c.in_ok-behind-3.behind.now
    c.in_ok-behind-3.ensures.found in
    ok_map c.operands.result (λ r h. line_read c.args.gates _ _ c.args.gates _ found _ _ h) c.operands.ensures.found

pub returns-clause-stuck : goal.returns-clause-stuck
returns-clause-stuck c =
    let found = header c.args.gates c.args.rest.now c.in_ok-behind.behind.now c.in_ok-behind.ensures.found
    c.as_bytes-digits.result.now (c.as_bytes-digits.ensures.value ∙ c.format.ensures.text)
    c.in_ok-behind-2.behind.now c.in_ok-behind-2.ensures.found c.in_ok-behind-3.behind.now
    c.in_ok-behind-3.ensures.found in
    err_map c.operands.result
    (λ stop h stuck e. line_stuck c.args.gates _ _ c.args.gates _ found _ c.requires.some (h stuck e))
    c.operands.ensures.stuck

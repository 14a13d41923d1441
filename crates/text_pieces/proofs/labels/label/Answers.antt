use Rattle.std.proofs.Common.{◌≡◌, ◌+◌, ◌-◌, ◌<◌, ◌++◌, ◌==◌, ℕ, List, Bool, true, false, codes, decimal, if◌then◌else◌, refl, sym, ap, ◌∙◌, arith}
use Rattle.std.proofs.lemmas.Bool.{eqb-true}
use Rattle.ar_io.proofs.Writing.{writes_exit, writes_on, writes_front, writes_as}
use Rattle.ar_meaning.specs.TraceText.{way_text}
use Rattle.text_pieces.proofs.labels.label.Goals as goal

not_one : (n : ℕ) → (n ≡ 1 → ⊥) → (n == 1) ≡ false
not_one n other = go (n == 1) refl
  where
    go : (b : Bool) → (n == 1) ≡ b → (n == 1) ≡ false
    go true e = absurd (other (eqb-true n 1 e))
    go false e = e

-- a path and the number of a way are the text of the way, where the event has others
numbered : (path name : List ℕ) (count found k : ℕ) → path ≡ name → count ≡ found → (count ≡ 1 → ⊥) → 0 < k
    → path ++ (codes "#" ++ decimal k) ≡ way_text name found (k - 1)
numbered path name count found k p q other some =
    let n : k ≡ k - 1 + 1 = omega (arith, some) in
    ap (λ (z : List ℕ). z ++ (codes "#" ++ decimal k)) p
    ∙ ap (λ (j : ℕ). name ++ (codes "#" ++ decimal j)) n
    ∙ sym (ap (λ (b : Bool). if b then name else name ++ (codes "#" ++ decimal (k - 1 + 1)))
    (not_one found (λ e. other (q ∙ e))))

pub returns-in_err-write_text-2 : goal.returns-in_err-write_text-2
returns-in_err-write_text-2 g c =
    let e = numbered c.event_path-path.result.now _ _ _ c.args.k c.event_path-path.ensures c.way_count.ensures
    c.if-way_count-eq1.false c.requires in
    writes_exit _ _ c.from_residual-in_err-write_text-2.ensures.1
    (writes_as _ _ e (writes_on c.in_ok-write_text.ensures (writes_front _ _ c.in_err-write_text-2.ensures)))

pub returns-in_ok-write_text-2 : goal.returns-in_ok-write_text-2
returns-in_ok-write_text-2 g c =
    let e = numbered c.event_path-path.result.now _ _ _ c.args.k c.event_path-path.ensures c.way_count.ensures
    c.if-way_count-eq1.false c.requires in
    writes_as _ _ e (writes_on c.in_ok-write_text.ensures
    (writes_on c.in_ok-write_text-2.ensures c.write_number.ensures))

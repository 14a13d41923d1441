-- Lines in pieces.
use Rattle.std.proofs.Common.{◌≡◌, ℕ, List, [], ◌∷◌, ◌++◌, codes, decimal, length, append_assoc, sym, ◌∙◌, ap}
use Rattle.ar_base.specs.Texts.{line}
use Rattle.ar_base.proofs.Lines.{line_after}
use Rattle.gts_core.specs.declared.system.GtsParts.{GtsParts}
use Rattle.job_stages.specs.Tells.{counts_line, make_lines}

pub line_two : (a b : List ℕ) → a ++ (b ++ 10 ∷ []) ≡ line (a ++ b)
line_two a b = sym (append_assoc a b (10 ∷ []))

-- two pieces before the rest of their line
pub line_onto : (a b t : List ℕ) → a ++ (b ++ line t) ≡ line (a ++ (b ++ t))
line_onto a b t = line_after a (b ++ t) (b ++ line t) (sym (append_assoc b t (10 ∷ [])))

pub line_three : (a b c : List ℕ) → a ++ (b ++ (c ++ 10 ∷ [])) ≡ line (a ++ (b ++ c))
line_three a b c = line_after a (b ++ c) (b ++ (c ++ 10 ∷ [])) (line_two b c)

pub line_four : (a b c d : List ℕ) → a ++ (b ++ (c ++ (d ++ 10 ∷ []))) ≡ line (a ++ (b ++ (c ++ d)))
line_four a b c d = line_after a (b ++ (c ++ d)) (b ++ (c ++ (d ++ 10 ∷ []))) (line_three b c d)

-- the line of counts in its four parts
pub line_counts : (u v e o : ℕ)
    → (codes "ok units " ++ decimal u)
    ++ ((codes " variables " ++ decimal v)
    ++ ((codes " events " ++ decimal e) ++ ((codes " observers " ++ decimal o) ++ 10 ∷ []))) ≡ counts_line u v e o
line_counts u v e o =
    let o_line = line_two (codes " observers ") (decimal o) in
    let e_line = line_after (decimal e) (codes " observers " ++ decimal o) _ o_line in
    let e_all = line_after (codes " events ") (decimal e ++ (codes " observers " ++ decimal o)) _ e_line in
    let v_line = line_after (decimal v) (codes " events " ++ (decimal e ++ (codes " observers " ++ decimal o))) _
    e_all in
    let v_all = line_after (codes " variables ")
    (decimal v ++ (codes " events " ++ (decimal e ++ (codes " observers " ++ decimal o)))) _ v_line in
    let u_line = line_after (decimal u)
    (codes " variables " ++ (decimal
    v ++ (codes " events " ++ (decimal e ++ (codes " observers " ++ decimal o))))) _ v_all in
    line_after (codes "ok units ")
    (decimal u ++ (codes " variables "
    ++ (decimal v ++ (codes " events " ++ (decimal e ++ (codes " observers " ++ decimal o)))))) _ u_line

pub counts_same : {u v e o m n k l : ℕ} → u ≡ m → v ≡ n → e ≡ k → o ≡ l → counts_line u v e o ≡ counts_line m n k l
counts_same {u = u} {v = v} {e = e} {n = n} {k = k} {l = l} h i j q =
    ap (λ (z : ℕ). counts_line u v e z) q ∙ ap (λ (z : ℕ). counts_line u v z l) j ∙ ap
    (λ (z : ℕ). counts_line u z k l) i ∙ ap (λ (z : ℕ). counts_line z n k l) h

pub made_same : {n u e m v f : ℕ} → n ≡ m → u ≡ v → e ≡ f → (k l : ℕ) → make_lines n u e k l ≡ make_lines m v f k l
made_same {u = u} {e = e} {m = m} {v = v} h i j k l =
    ap (λ (z : ℕ). make_lines z u e k l) h ∙ ap (λ (z : ℕ). make_lines m z e k l) i ∙ ap
    (λ (z : ℕ). make_lines m v z k l) j

-- the lines of `make`, by the parts of a system
pub made_text : {p q : GtsParts} → p ≡ q → (n : ℕ) → {k l m o : ℕ} → k ≡ m → l ≡ o
    → make_lines n (length p.units.items) (length p.events.items) k l
    ≡ make_lines n (length q.units.items) (length q.events.items) m o
made_text {p = p} {q = q} e n {k = k} {l = l} {m = m} i j =
    ap (λ (z : GtsParts). make_lines n (length z.units.items) (length z.events.items) k l) e
    ∙ ap (λ (z : ℕ). make_lines n (length q.units.items) (length q.events.items) z l) i
    ∙ ap (λ (z : ℕ). make_lines n (length q.units.items) (length q.events.items) m z) j

-- the lines of `make`, by numbers as they are passed
pub made_put : {n u e l m v f o : ℕ} (k : ℕ) → n ≡ m → u ≡ v → e ≡ f → l ≡ o
    → make_lines n u e k l ≡ make_lines m v f k o
made_put {l = l} {m = m} {v = v} {f = f} k h i j q = made_same h i j k l ∙ ap (λ (z : ℕ). make_lines m v f k z) q

-- Pieces put one behind the other.
use Rattle.std.proofs.Common.{◌≡◌, ◌+◌, ◌++◌, ◌∷◌, [], List, ℕ, append_assoc, sym, ◌∙◌, ap, suc, arith}
use Rattle.run_words.specs.Generator.{up_to}

-- one more of the texts that are numbered from 1
pub one_more : (one : ℕ → List ℕ) (j : ℕ) (old now next : List ℕ) → now ≡ old ++ up_to one j → next ≡ now ++ one (j + 1)
    → next ≡ old ++ up_to one (j + 1)
one_more one j old now next h e =
    let n : suc j ≡ j + 1 = omega arith in
    e ∙ ap (λ t. t ++ one (j + 1)) h ∙ append_assoc old (up_to one j) (one (j + 1))
    ∙ ap (λ k. old ++ up_to one k) n

-- a line of three pieces
pub line_of_three : (old a b d : List ℕ) → ((old ++ a) ++ b) ++ (d ++ 10 ∷ []) ≡ old ++ ((a ++ (b ++ d)) ++ 10 ∷ [])
line_of_three old a b d =
    append_assoc (old ++ a) b (d ++ 10 ∷ []) ∙ append_assoc old a (b ++ (d ++ 10 ∷ []))
    ∙ ap (λ t. old ++ t) (ap (λ t. a ++ t) (sym (append_assoc b d (10 ∷ []))) ∙ sym (append_assoc a (b ++ d) (10 ∷ [])))

-- eight pieces
pub eight : (a b d e f g h i : List ℕ)
    → (((((((a ++ b) ++ d) ++ e) ++ f) ++ g) ++ h) ++ i) ≡ a ++ (b ++ (d ++ (e ++ (f ++ (g ++ (h ++ i))))))
eight a b d e f g h i =
    append_assoc (((((a ++ b) ++ d) ++ e) ++ f) ++ g) h i
    ∙ append_assoc ((((a ++ b) ++ d) ++ e) ++ f) g (h ++ i)
    ∙ append_assoc (((a ++ b) ++ d) ++ e) f (g ++ (h ++ i))
    ∙ append_assoc ((a ++ b) ++ d) e (f ++ (g ++ (h ++ i)))
    ∙ append_assoc (a ++ b) d (e ++ (f ++ (g ++ (h ++ i))))
    ∙ append_assoc a b (d ++ (e ++ (f ++ (g ++ (h ++ i)))))

-- a line of seven pieces
pub line_of_seven : (old a b d e f g h : List ℕ)
    → (((((((old ++ a) ++ b) ++ d) ++ e) ++ f) ++ g) ++ (h ++ 10 ∷ []))
    ≡ old ++ ((a ++ (b ++ (d ++ (e ++ (f ++ (g ++ h)))))) ++ 10 ∷ [])
line_of_seven old a b d e f g h =
    eight old a b d e f g (h ++ 10 ∷ [])
    ∙ ap (λ t. old ++ t) (sym (append_assoc a (b ++ (d ++ (e ++ (f ++ (g ++ h))))) (10 ∷ [])
    ∙ ap (λ t. a ++ t) (append_assoc b (d ++ (e ++ (f ++ (g ++ h)))) (10 ∷ [])
    ∙ ap (λ t. b ++ t) (append_assoc d (e ++ (f ++ (g ++ h))) (10 ∷ [])
    ∙ ap (λ t. d ++ t) (append_assoc e (f ++ (g ++ h)) (10 ∷ [])
    ∙ ap (λ t. e ++ t) (append_assoc f (g ++ h) (10 ∷ [])
    ∙ ap (λ t. f ++ t) (append_assoc g h (10 ∷ []))))))))

-- How long the text of a generated model is at most.
use Rattle.std.proofs.Common.{◌≡◌, ◌≤◌, ◌+◌, ◌-◌, ◌*◌, ◌++◌, ◌∷◌, [], ℕ, zero, suc, Bool, true, false, List, length, arith, refl, codes, decimal}
use Rattle.std.specs.Prelude.{if◌then◌else◌, nat_le, ◌%◌, ◌==◌}
use Rattle.std.proofs.lemmas.Fmt.{length-decimal-le}
use Rattle.std.proofs.lemmas.List.{length-append}
use Rattle.ar_base.specs.Texts.{line}
use Rattle.run_words.specs.Generator.{lines, up_to, classes, component, flow, works, pair_works, first_link, link, pairs, observer, generated}

joined : (a b : List ℕ) (m n : ℕ) → length a ≤ m → length b ≤ n → length (a ++ b) ≤ m + n
joined a b m n h k = let e = length-append a b in omega (arith, e, h, k)

-- a line has one byte more than its text
lined : (t : List ℕ) (m : ℕ) → length t ≤ m → length (line t) ≤ m + 1
lined t m h = joined t (10 ∷ []) m 1 h (let e : length {A = ℕ} (10 ∷ []) ≡ 1 = refl in omega (arith, e))

digits : (n : ℕ) → n ≤ 1000 → length (decimal n) ≤ 4
digits n h = length-decimal-le 4 n (omega arith) (omega (arith, h)) (omega (arith, h))

-- texts of at most a hundred bytes each
up_to_short : (one : ℕ → List ℕ) (n : ℕ) → ((i : ℕ) → i ≤ n → length (one i) ≤ 100) → length (up_to one n) ≤ 100 * n
up_to_short one zero h = omega arith
up_to_short one (suc n) h =
    let before = up_to_short one n (λ i k. h i (omega (arith, k))) in
    let last = h (n + 1) (omega arith) in
    let both = joined (up_to one n) (one (n + 1)) (100 * n) 100 before last in omega (arith, both)

class_short : (b : Bool) → length (if b then codes "  Short c" else codes "  Long c") ≤ 9
class_short true = let e : length (codes "  Short c") ≡ 9 = refl in omega (arith, e)
class_short false = let e : length (codes "  Long c") ≡ 8 = refl in omega (arith, e)

one_byte : length (codes ";") ≤ 1
one_byte = let e : length (codes ";") ≡ 1 = refl in omega (arith, e)

component_short : (i : ℕ) → i ≤ 200 → length (component i) ≤ 100
component_short i h =
    let number = joined (decimal i) (codes ";") 4 1 (digits i (omega (arith, h))) one_byte in
    let text = joined (if i % 2 == 1 then codes "  Short c" else codes "  Long c") (decimal i ++ codes ";") 9 (4 + 1)
    (class_short (i % 2 == 1)) number in
    let all : length (component i) ≤ 15 = lined ((if i % 2 == 1 then codes "  Short c" else codes "  Long c") ++ (decimal i ++ codes ";")) 14 text in omega (arith, all)

flow_short : (j : ℕ) → j ≤ 200 → length (flow j) ≤ 100
flow_short j h =
    let rest : length (codes " (reset = false);") ≡ 17 = refl in
    let head : length (codes "  Boolean f") ≡ 11 = refl in
    let number = joined (decimal j) (codes " (reset = false);") 4 17 (digits j (omega (arith, h)))
    (omega (arith, rest)) in
    let text = joined (codes "  Boolean f") (decimal j ++ codes " (reset = false);") 11 (4 + 17) (omega (arith, head))
    number in
    let all : length (flow j) ≤ 33 = lined (codes "  Boolean f" ++ (decimal j ++ codes " (reset = false);")) 32 text in omega (arith, all)

observer_short : (last : ℕ) → last ≤ 200 → length (observer last) ≤ 100
observer_short last h =
    let head : length (codes "  observer Boolean lost = not f") ≡ 31 = refl in
    let number = joined (decimal last) (codes ";") 4 1 (digits last (omega (arith, h))) one_byte in
    let text = joined (codes "  observer Boolean lost = not f") (decimal last ++ codes ";") 31 (4 + 1)
    (omega (arith, head)) number in
    let all : length (observer last) ≤ 37 = lined (codes "  observer Boolean lost = not f" ++ (decimal last ++ codes ";")) 36 text in omega (arith, all)

works_short : (i : ℕ) → i ≤ 1000 → length (works i) ≤ 8
works_short i h =
    let head : length (codes "c") ≡ 1 = refl in
    let rest : length (codes ".up") ≡ 3 = refl in
    let number = joined (decimal i) (codes ".up") 4 3 (digits i h) (omega (arith, rest)) in
    let text = joined (codes "c") (decimal i ++ codes ".up") 1 (4 + 3) (omega (arith, head)) number in omega (arith, text)

second_short : (b : Bool) (i : ℕ) → i ≤ 1000 → length (if b then codes " or " ++ works i else []) ≤ 12
second_short true i h =
    let head : length (codes " or ") ≡ 4 = refl in
    let text = joined (codes " or ") (works i) 4 8 (omega (arith, head)) (works_short i h) in omega (arith, text)
second_short false i h = omega arith

pair_short : (n j : ℕ) → j ≤ 400 → length (pair_works n j) ≤ 20
pair_short n j h =
    let text = joined (works (2 * j - 1)) (if nat_le (2 * j) n then codes " or " ++ works (2 * j) else []) 8 12
    (works_short (2 * j - 1) (omega (arith, h))) (second_short (nat_le (2 * j) n) (2 * j) (omega (arith, h))) in omega (arith, text)

first_short : (n : ℕ) → length (first_link n) ≤ 100
first_short n =
    let head : length (codes "    f1 := ") ≡ 10 = refl in
    let pair = joined (pair_works n 1) (codes ";") 20 1 (pair_short n 1 (omega arith)) one_byte in
    let text = joined (codes "    f1 := ") (pair_works n 1 ++ codes ";") 10 (20 + 1) (omega (arith, head)) pair in
    let all : length (first_link n) ≤ 32 = lined (codes "    f1 := " ++ (pair_works n 1 ++ codes ";")) 31 text in omega (arith, all)

link_short : (n j : ℕ) → j ≤ 200 → length (link n j) ≤ 100
link_short n j h =
    let flow : length (codes "    f") ≡ 5 = refl in
    let is : length (codes " := f") ≡ 5 = refl in
    let and : length (codes " and (") ≡ 6 = refl in
    let closed : length (codes ");") ≡ 2 = refl in
    let pair = pair_works n (j + 1) ++ codes ");" in
    let a = joined (pair_works n (j + 1)) (codes ");") 20 2 (pair_short n (j + 1) (omega (arith, h)))
    (omega (arith, closed)) in
    let b = joined (codes " and (") pair 6 22 (omega (arith, and)) a in
    let d = joined (decimal j) (codes " and (" ++ pair) 4 28 (digits j (omega (arith, h))) b in
    let e = joined (codes " := f") (decimal j ++ (codes " and (" ++ pair)) 5 32 (omega (arith, is)) d in
    let f = joined (decimal (j + 1)) (codes " := f" ++ (decimal j ++ (codes " and (" ++ pair))) 4 37
    (digits (j + 1) (omega (arith, h))) e in
    let g = joined (codes "    f") (decimal (j + 1) ++ (codes " := f" ++ (decimal j ++ (codes " and (" ++ pair)))) 5 41
    (omega (arith, flow)) f in
    let all : length (link n j) ≤ 47 = lined (codes "    f" ++ (decimal (j + 1) ++ (codes " := f" ++ (decimal j ++ (codes " and (" ++ pair))))) 46 g in omega (arith, all)

pub generated_short : (n : ℕ) → n ≤ 200 → length (generated n) ≤ 65536
generated_short n h =
    let few : pairs n ≤ 200 = omega (arith, h) in
    let head : length (lines classes) ≡ 390 = refl in
    let assertion : length (line (codes "  assertion")) ≡ 12 = refl in
    let closed : length (line (codes "end")) ≡ 4 = refl in
    let links = up_to_short (link n) (pairs n - 1) (λ j k. link_short n j (omega (arith, k, few))) in
    let flows = up_to_short flow (pairs n) (λ j k. flow_short j (omega (arith, k, few))) in
    let components = up_to_short component n (λ i k. component_short i (omega (arith, k, h))) in
    let a = joined (up_to (link n) (pairs n - 1)) (line (codes "end")) (100 * (pairs n - 1)) 4 links
    (omega (arith, closed)) in
    let b = joined (first_link n) _ 100 _ (first_short n) a in
    let d = joined (line (codes "  assertion")) (first_link n ++ (up_to (link n) (pairs n - 1) ++ line (codes "end")))
    12 _ (omega (arith, assertion)) b in
    let e = joined (observer (pairs n)) _ 100 _ (observer_short (pairs n) few) d in
    let f = joined (up_to flow (pairs n)) _ (100 * pairs n) _ flows e in
    let g = joined (up_to component n) _ (100 * n) _ components f in
    let all : length (generated n) ≤ 390
    + (100 * n + (100 * pairs n + (100 + (12 + (100 + (100 * (pairs n - 1) + 4)))))) =
    joined (lines classes) _ 390 _ (omega (arith, head)) g in omega (arith, all, h, few)

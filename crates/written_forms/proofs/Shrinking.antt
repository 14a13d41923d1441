-- The operands of a written expression are smaller than the expression, so that a recursion over expressions ends.
use Rattle.std.proofs.Common.{◌≡◌, ℕ, ◌<◌, ◌≤◌, Bool, List, length, get_or, Box, Vec, Global, sym, ap, ◌∙◌, subst, arith}
use Prim.Native.Nat.{max}
use denote.Param.Weighed.{most, at_most}
use Rattle.ar_syntax.specs.declared.expressions.RawExpr.{RawExpr, size-RawExpr, size_is-RawExpr}
use Rattle.ar_syntax.specs.declared.expressions.RawRelation.{RawRelation}
use Rattle.ar_syntax.specs.declared.expressions.RawForm.{size-RawForm}
use Rattle.ar_syntax.specs.declared.expressions.RawForm.TheViews as view

-- the sizes of a part of a sum and of a case of a choice
abbrev pub part_size : Bool × RawExpr → ℕ
part_size p = max 0 (max (size-RawExpr p.1) 0)

abbrev pub case_size : RawExpr × RawExpr → ℕ
case_size c = max (size-RawExpr c.0) (max (size-RawExpr c.1) 0)

-- a form is smaller than the expression that has it
less-form : (e : RawExpr) → size-RawForm e.form < size-RawExpr e
less-form e = let k = size_is-RawExpr e in omega arith

pub less-not : (e b : RawExpr) (a : Box RawExpr Global) → e.form ≡ view.Not a → b ≡ a.value
    → size-RawExpr b < size-RawExpr e
less-not e b a i j =
    let k = ap size-RawForm i ∙ view.sized-Not a in let l = ap size-RawExpr j in
    let m = less-form e in omega arith

pub less-minus : (e b : RawExpr) (a : Box RawExpr Global) → e.form ≡ view.Minus a → b ≡ a.value
    → size-RawExpr b < size-RawExpr e
less-minus e b a i j =
    let k = ap size-RawForm i ∙ view.sized-Minus a in let l = ap size-RawExpr j in
    let m = less-form e in omega arith

pub less-left : (e b : RawExpr) (r : RawRelation) (a d : Box RawExpr Global) → e.form ≡ view.Compare r a d → b ≡ a.value
    → size-RawExpr b < size-RawExpr e
less-left e b r a d i j =
    let k = ap size-RawForm i ∙ view.sized-Compare r a d in let l = ap size-RawExpr j in
    let m = less-form e in omega arith

pub less-right : (e b : RawExpr) (r : RawRelation) (a d : Box RawExpr Global) → e.form ≡ view.Compare r a d
    → b ≡ d.value
    → size-RawExpr b < size-RawExpr e
less-right e b r a d i j =
    let k = ap size-RawForm i ∙ view.sized-Compare r a d in let l = ap size-RawExpr j in
    let m = less-form e in omega arith

pub less-other : (e b : RawExpr) (cs : Vec (RawExpr × RawExpr) Global) (a : Box RawExpr Global)
    → e.form ≡ view.Choose cs a → b ≡ a.value
    → size-RawExpr b < size-RawExpr e
less-other e b cs a i j =
    let k = ap size-RawForm i ∙ view.sized-Choose cs a in let l = ap size-RawExpr j in
    let m = less-form e in omega arith

pub less-cases : (e : RawExpr) (cs : Vec (RawExpr × RawExpr) Global) (a : Box RawExpr Global)
    (xs : List (RawExpr × RawExpr)) → e.form ≡ view.Choose cs a → xs ≡ cs.items
    → most case_size xs < size-RawExpr e
less-cases e cs a xs i j =
    let k = ap size-RawForm i ∙ view.sized-Choose cs a in let l = ap (most case_size) j in
    let m = less-form e in omega arith

pub less-parts : (e : RawExpr) (ps : Vec (Bool × RawExpr) Global) (xs : List (Bool × RawExpr))
    → e.form ≡ view.Sum ps → xs ≡ ps.items
    → most part_size xs < size-RawExpr e
less-parts e ps xs i j =
    let k = ap size-RawForm i ∙ view.sized-Sum ps in let l = ap (most part_size) j in
    let m = less-form e in omega arith

pub less-all : (e : RawExpr) (es : Vec RawExpr Global) (xs : List RawExpr) → e.form ≡ view.All es → xs ≡ es.items
    → most size-RawExpr xs < size-RawExpr e
less-all e es xs i j =
    let k = ap size-RawForm i ∙ view.sized-All es in let l = ap (most size-RawExpr) j in
    let m = less-form e in omega arith

pub less-any : (e : RawExpr) (es : Vec RawExpr Global) (xs : List RawExpr) → e.form ≡ view.Any es → xs ≡ es.items
    → most size-RawExpr xs < size-RawExpr e
less-any e es xs i j =
    let k = ap size-RawForm i ∙ view.sized-Any es in let l = ap (most size-RawExpr) j in
    let m = less-form e in omega arith

pub less-product : (e : RawExpr) (es : Vec RawExpr Global) (xs : List RawExpr) → e.form ≡ view.Product es
    → xs ≡ es.items
    → most size-RawExpr xs < size-RawExpr e
less-product e es xs i j =
    let k = ap size-RawForm i ∙ view.sized-Product es in let l = ap (most size-RawExpr) j in
    let m = less-form e in omega arith

pub less-least : (e : RawExpr) (es : Vec RawExpr Global) (xs : List RawExpr) → e.form ≡ view.Least es → xs ≡ es.items
    → most size-RawExpr xs < size-RawExpr e
less-least e es xs i j =
    let k = ap size-RawForm i ∙ view.sized-Least es in let l = ap (most size-RawExpr) j in
    let m = less-form e in omega arith

pub less-greatest : (e : RawExpr) (es : Vec RawExpr Global) (xs : List RawExpr) → e.form ≡ view.Greatest es
    → xs ≡ es.items
    → most size-RawExpr xs < size-RawExpr e
less-greatest e es xs i j =
    let k = ap size-RawForm i ∙ view.sized-Greatest es in let l = ap (most size-RawExpr) j in
    let m = less-form e in omega arith

pub less-count : (e : RawExpr) (es : Vec RawExpr Global) (xs : List RawExpr) → e.form ≡ view.Count es → xs ≡ es.items
    → most size-RawExpr xs < size-RawExpr e
less-count e es xs i j =
    let k = ap size-RawForm i ∙ view.sized-Count es in let l = ap (most size-RawExpr) j in
    let m = less-form e in omega arith

-- an item of a list, of the parts of a sum or of the cases of a choice
pub up-item : (xs : List RawExpr) (i : ℕ) (x : RawExpr) → i < length xs → x ≡ get_or xs i x
    → size-RawExpr x ≤ most size-RawExpr xs
up-item xs i x h is =
    subst (λ (z : RawExpr). size-RawExpr z ≤ most size-RawExpr xs) (sym is) (at_most size-RawExpr xs i x h)

pub up-part : (xs : List (Bool × RawExpr)) (i : ℕ) (x : Bool × RawExpr) → i < length xs → x ≡ get_or xs i x
    → size-RawExpr x.1 ≤ most part_size xs
up-part xs i x h is =
    let k : part_size x ≤ most part_size xs =
    subst (λ (z : Bool × RawExpr). part_size z ≤ most part_size xs) (sym is) (at_most part_size xs i x h) in
    omega arith

pub up-test : (xs : List (RawExpr × RawExpr)) (i : ℕ) (x : RawExpr × RawExpr) → i < length xs → x ≡ get_or xs i x
    → size-RawExpr x.0 ≤ most case_size xs
up-test xs i x h is =
    let k : case_size x ≤ most case_size xs =
    subst (λ (z : RawExpr × RawExpr). case_size z ≤ most case_size xs) (sym is) (at_most case_size xs i x h) in
    omega arith

pub up-value : (xs : List (RawExpr × RawExpr)) (i : ℕ) (x : RawExpr × RawExpr) → i < length xs → x ≡ get_or xs i x
    → size-RawExpr x.1 ≤ most case_size xs
up-value xs i x h is =
    let k : case_size x ≤ most case_size xs =
    subst (λ (z : RawExpr × RawExpr). case_size z ≤ most case_size xs) (sym is) (at_most case_size xs i x h) in
    omega arith

-- Of two lists of the first units of a unit one begins the other, and the list of all units begins with each.
use Rattle.std.proofs.Common.{◌≡◌, ◌+◌, ◌≤◌, ◌⊎◌, inl, inr, Bool, true, false, List, [], ◌∷◌, ◌++◌, length, length-append, append_assoc, refl, sym, ap, subst, ◌∙◌, arith}
use Rattle.std.proofs.lemmas.List.{append-nil}
use Rattle.ar_base.specs.Counts.{limit_of}
use Rattle.ar_base.specs.Lists.{IsOneOf}
use Rattle.ar_base.specs.declared.counts.Count.{Count}
use Rattle.ar_base.specs.declared.counts.Count.TheVariants.{Depth, Units}
use Rattle.ar_base.proofs.Items.{one_last}
use Rattle.ar_base.proofs.Standing.{one_left}
use Rattle.class_table.specs.Members.{NamedMember}
use Rattle.hierarchy.specs.Models.{RootedModel}
use Rattle.hierarchy.specs.Units.{UnitPath}
use Rattle.hierarchy.specs.Listing.{ListsUnits, unit, Insides, cut, makes, makes_cut, passes, MakesUnit}
use Rattle.hierarchy.proofs.Lists.{makes_one, makes_or_none, lists_same}
use Rattle.unit_walks.specs.Unfolding.{depth, AreShallow, IsFirstOver, deep, many}

-- the first list begins the second
pub record Begins (us vs : List UnitPath) : Type 0 where
  pub rest : List UnitPath
  pub split : us ++ rest ≡ vs

none_begins : (vs : List UnitPath) → Begins [] vs
none_begins vs = record { rest = vs; split = refl }

first_begins : {us vs : List UnitPath} (u : UnitPath) → Begins us vs → Begins (u ∷ us) (u ∷ vs)
first_begins u b = record { rest = b.rest; split = ap (λ ws. u ∷ ws) b.split }

after_begins : {us vs xs ys : List UnitPath} → us ≡ vs → Begins xs ys → Begins (us ++ xs) (vs ++ ys)
after_begins {us = us} {vs = vs} {xs = xs} {ys = ys} e b = record {
  rest = b.rest;
  split = append_assoc us xs b.rest ∙ ap (λ ws. us ++ ws) b.split ∙ ap (λ ws. ws ++ ys) e;
}

more_begins : {us vs : List UnitPath} (ws : List UnitPath) → Begins us vs → Begins us (vs ++ ws)
more_begins {us = us} ws b = record {
  rest = b.rest ++ ws;
  split = sym (append_assoc us b.rest ws) ∙ ap (λ xs. xs ++ ws) b.split;
}

-- one of the two lists begins the other
abbrev OneBegins : List UnitPath → List UnitPath → Type 0
OneBegins us vs = Begins us vs ⊎ Begins vs us

module _ {m : RootedModel} where
  -- of units that one member makes
  of_one : {whole : Bool} {u v w : UnitPath} {us : List UnitPath} (g : NamedMember) → MakesUnit m u g v → MakesUnit m u g w
      → ListsUnits m whole w us → ListsUnits m whole v us
  of_one {whole = whole} {us = us} g k h l =
      subst (λ (z : UnitPath). ListsUnits m whole z us) (sym (makes_one g k h)) l

  mutual
    -- the first units begin all of them
    pub begins_all : {u : UnitPath} {us vs : List UnitPath} → ListsUnits m false u us → ListsUnits m true u vs
        → Begins us vs
    begins_all {u = u} (unit i) (unit j) = first_begins u (insides_all i j)

    insides_all : {u : UnitPath} {gs : List NamedMember} {us vs : List UnitPath} → Insides m false u gs us
        → Insides m true u gs vs → Begins us vs
    insides_all {vs = vs} cut j = none_begins vs
    insides_all (makes {g = g} k l i) (makes h r j) = after_begins (lists_same l (of_one g k h r)) (insides_all i j)
    insides_all (makes k l i) (passes n j) = absurd (makes_or_none k n)
    insides_all (makes_cut {g = g} k l) (makes {vs = vs} h r j) = more_begins vs (begins_all l (of_one g k h r))
    insides_all (makes_cut k l) (passes n j) = absurd (makes_or_none k n)
    insides_all (passes n i) (makes h r j) = absurd (makes_or_none h n)
    insides_all (passes n i) (passes o j) = insides_all i j

  mutual
    -- of two lists of first units one begins the other
    pub begins_one : {u : UnitPath} {us vs : List UnitPath} → ListsUnits m false u us → ListsUnits m false u vs
        → OneBegins us vs
    begins_one {u = u} (unit i) (unit j) =
        elim (insides_one i j) [ inl b ↦ inl (first_begins u b) | inr b ↦ inr (first_begins u b) ]

    insides_one : {u : UnitPath} {gs : List NamedMember} {us vs : List UnitPath} → Insides m false u gs us
        → Insides m false u gs vs → OneBegins us vs
    insides_one {vs = vs} cut j = inl (none_begins vs)
    insides_one {us = us} (makes k l i) cut = inr (none_begins us)
    insides_one {us = us} (makes_cut k l) cut = inr (none_begins us)
    insides_one {us = us} (passes n i) cut = inr (none_begins us)
    insides_one (makes {g = g} k l i) (makes h r j) =
        let e = lists_same l (of_one g k h r) in
        elim (insides_one i j) [ inl b ↦ inl (after_begins e b) | inr b ↦ inr (after_begins (sym e) b) ]
    insides_one (makes {g = g} {vs = vs} k l i) (makes_cut h r) = inr (more_begins vs (begins_all (of_one g k h r) l))
    insides_one (makes k l i) (passes n j) = absurd (makes_or_none k n)
    insides_one (makes_cut {g = g} k l) (makes {vs = vs} h r j) = inl (more_begins vs (begins_all l (of_one g k h r)))
    insides_one (makes_cut {g = g} k l) (makes_cut h r) = begins_one l (of_one g k h r)
    insides_one (makes_cut k l) (passes n j) = absurd (makes_or_none k n)
    insides_one (passes n i) (makes h r j) = absurd (makes_or_none h n)
    insides_one (passes n i) (makes_cut h r) = absurd (makes_or_none h n)
    insides_one (passes n i) (passes o j) = insides_one i j

-- Limits

begins_long : {us vs : List UnitPath} (b : Begins us vs) → length us + length b.rest ≡ length vs
begins_long {us = us} b = sym (length-append us b.rest) ∙ ap length b.split

-- the last unit of the first list is in the second
last_among : (front : List UnitPath) (u : UnitPath) {vs : List UnitPath} → Begins (front ++ u ∷ []) vs → IsOneOf vs u
last_among front u b =
    subst (λ (ws : List UnitPath). IsOneOf ws u) b.split
    (one_left (front ++ u ∷ []) b.rest u (one_last front u))

not_shallow : (units : List UnitPath) (u : UnitPath) → AreShallow units → IsOneOf units u
    → depth u ≡ limit_of Depth + 1 → ⊥
not_shallow units u s o e = let l = s.each u o in omega (arith, l, e)

-- where all units are within the limits, no first ones pass one
pub within_limits : {count : Count} {us vs : List UnitPath} → AreShallow us → length us ≤ limit_of Units
    → IsFirstOver count vs → Begins vs us → ⊥
within_limits {us = us} s few (deep front u h i e) b = not_shallow us u s (last_among front u b) e
within_limits s few (many h e) b = let l = begins_long b in omega (arith, few, e, l)

nothing_left : (units : List UnitPath) → length units ≡ 0 → units ≡ []
nothing_left [] e = refl
nothing_left (u ∷ us) e = absurd (omega (arith, e))

-- the first units pass one limit
pub one_limit : {c d : Count} {us vs : List UnitPath} → IsFirstOver c us → IsFirstOver d vs → Begins us vs → c ≡ d
one_limit (deep front u h i e) (deep rest v j k f) b = refl
one_limit (many h e) (many i f) b = refl
one_limit {vs = vs} (deep front u h i e) (many s f) b = absurd (not_shallow vs u s (last_among front u b) e)
one_limit (many {units = us} s f) (deep front u h i e) b =
    let l = begins_long b in
    let m = length-append front (u ∷ []) in
    let r : b.rest ≡ [] = nothing_left b.rest (omega (arith, l, m, f, i)) in
    let same : us ≡ front ++ u ∷ [] =
    sym (append-nil us) ∙ ap (λ (ws : List UnitPath). us ++ ws) (sym r) ∙ b.split in
    absurd
    (not_shallow us u s (subst (λ (ws : List UnitPath). IsOneOf ws u) (sym same) (one_last front u)) e)

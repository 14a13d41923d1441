-- Texts that are made item by item, in the order of the units or of things.
use Rattle.std.proofs.Common.{◌≡◌, ℕ, zero, suc, ◌+◌, ◌<◌, ◌≤◌, List, [], ◌∷◌, ◌++◌, append_assoc, codes, map, take, length, get_or, Option, Some, unwrap_or, refl, sym, ap, ◌∙◌, subst, arith}
use Rattle.std.proofs.lemmas.List.{take_all, length-map}
use Rattle.ar_base.specs.Lists.{Stands, Along}
use Rattle.ar_base.specs.Numbers.{NameId}
use Rattle.ar_base.specs.NumbersInside.{UnitId}
use Rattle.ar_base.specs.Texts.{text_at}
use Rattle.ar_base.proofs.Standing.{along_back, along_length, stands_map, stands_none}
use Rattle.class_table.proofs.Taken.{item_stands, map_next}
use Rattle.hierarchy.specs.Listing.{AreUnits}
use Rattle.hierarchy.specs.Models.{RootedModel}
use Rattle.hierarchy.specs.ModelsInside.{KeepsTextRules}
use Rattle.hierarchy.specs.Paths.{prefix, thing_path}
use Rattle.hierarchy.specs.Tie.{IsOwner, of_unit, IsNameOfUnit}
use Rattle.hierarchy.specs.Units.{UnitPath}
use Rattle.bind_names.specs.Fronts.{HasFrontAbove}
use Rattle.bind_names.proofs.Above.{above_first}

module _ {A : Type 0} where
  -- the text at a place is that of the item there, where f gives the text of an item
  pub text_here : (f : A → List ℕ) (xs : List A) (ts : List (List ℕ)) → ts ≡ map f xs → (k : ℕ) (a : A)
      → Stands xs k a → text_at ts k ≡ f a
  text_here f xs ts e k a s = ap (λ (zs : List (List ℕ)). text_at zs k) e
      ∙ ap (λ (o : Option (List ℕ)). unwrap_or o []) (stands_map f xs k a s)

  -- an item before place n is among the first n
  stands_take_below : (xs : List A) (n k : ℕ) (a : A) → k < n → Stands xs k a → Stands (take n xs) k a
  stands_take_below [] n k a l p = absurd (stands_none k a p)
  stands_take_below (x ∷ xs) zero k a l p = absurd (omega (arith, l))
  stands_take_below (x ∷ xs) (suc n) zero a l p = p
  stands_take_below (x ∷ xs) (suc n) (suc k) a l p = stands_take_below xs n k a (omega (arith, l)) p

-- the texts of the first n items, where f gives the text of an item
module _ {A D : Type 0} (R : A → D → Type 0) (f : A → List ℕ) (xs : List A) (ds : List D) (along : Along R xs ds) where
  -- the item of the node of a loop
  pub item_of : (n : ℕ) (d : D) → n < length ds → d ≡ get_or ds n d → (a : A) × Stands xs n a × R a d
  item_of n d h e = along_back xs ds along n d (item_stands ds n d h e)

  -- one text more
  pub texts_more : (n : ℕ) (a : A) (ts zs : List (List ℕ)) (t : List ℕ) → Stands xs n a → ts ≡ map f (take n xs)
      → t ≡ f a → zs ≡ ts ++ t ∷ []
      → zs ≡ map f (take (n + 1) xs)
  texts_more n a ts zs t s e i j =
      j ∙ (ap (λ (z : List (List ℕ)). z ++ t ∷ []) e
      ∙ (ap (λ (z : List ℕ). map f (take n xs) ++ z ∷ []) i ∙ sym (map_next f xs n a s)))

  -- all texts
  pub texts_end : (n : ℕ) (ts : List (List ℕ)) → length ds ≤ n → ts ≡ map f (take n xs) → ts ≡ map f xs
  texts_end n ts h e =
      let l = along_length xs ds along in
      e ∙ ap (map f) (take_all n xs (omega (arith, h, l)))

module _ (m : RootedModel) (units : List UnitPath) where
  -- the first texts stand before names in the first units, among which is the unit above the next one
  pub fronts_taken : KeepsTextRules m → AreUnits m units → (n : ℕ) (u : UnitPath) → Stands units n u
      → (ts : List (List ℕ)) → ts ≡ map (prefix m) (take n units) → HasFrontAbove m units u ts
  fronts_taken kept are n u at ts e = record {
    is = λ l v k split s.
        let first = above_first kept are n k l v (subst (λ (w : UnitPath). Stands units n w) split at) s in
        text_here (prefix m) (take n units) ts e k v (stands_take_below units n k v first s);
  }

  -- and all before names in all units
  pub fronts_all : (u : UnitPath) (ts : List (List ℕ)) → ts ≡ map (prefix m) units → HasFrontAbove m units u ts
  fronts_all u ts e = record { is = λ l v k split s. text_here (prefix m) units ts e k v s }

  -- what stands before a name in a unit: the unit's path, which is that of its name in the unit above, and a dot
  pub prefix_below : (u : UnitPath) (id : UnitId) (x : NameId) (ts : List (List ℕ)) → HasFrontAbove m units u ts
      → IsOwner units u (Some id) → IsNameOfUnit u x → (before after t : List ℕ)
      → ((v : UnitPath) → text_at ts id.n ≡ prefix m v → before ≡ thing_path m (record { unit = v; name = x.n }))
      → after ≡ before ++ codes "." → t ≡ after → t ≡ prefix m u
  prefix_below u id x ts fronts (of_unit {l = l} {above = above} s) name before after t path e i =
      i ∙ (e ∙ (ap (λ (z : List ℕ). z ++ codes ".") (path above (fronts.is l above id.n refl s))
      ∙ (append_assoc (prefix m above) (text_at m.names x.n) (codes ".")
      ∙ ap (λ (n : ℕ). prefix m above ++ (text_at m.names n ++ codes ".")) name)))

-- the texts of numbers that stand for names
module _ (f : ℕ → List ℕ) (xs : List ℕ) (names : List NameId) (all : map (λ (x : NameId). x.n) names ≡ xs) where
  pub symbols_more : (n : ℕ) (x : NameId) (ts zs : List (List ℕ)) (t : List ℕ) → Stands names n x
      → ts ≡ map f (take n xs) → t ≡ f x.n → zs ≡ ts ++ t ∷ []
      → zs ≡ map f (take (n + 1) xs)
  symbols_more n x ts zs t s e i j =
      let there : Stands xs n x.n = subst (λ (z : List ℕ). Stands z n x.n) all
      (stands_map (λ (y : NameId). y.n) names n x s) in
      j ∙ (ap (λ (z : List (List ℕ)). z ++ t ∷ []) e
      ∙ (ap (λ (z : List ℕ). map f (take n xs) ++ z ∷ []) i ∙ sym (map_next f xs n x.n there)))

  pub symbols_end : (n : ℕ) (ts : List (List ℕ)) → length names ≤ n → ts ≡ map f (take n xs) → ts ≡ map f xs
  symbols_end n ts h e =
      let l : length xs ≡ length names = ap length (sym all) ∙ length-map names (λ (x : NameId). x.n) in
      e ∙ ap (map f) (take_all n xs (omega (arith, h, l)))

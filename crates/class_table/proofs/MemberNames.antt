-- Names of members.
use Rattle.std.proofs.Common.{◌≡◌, ℕ, ◌≤◌, true, is_some, List, [], ◌∷◌, ◌++◌, map, length, slice_get, Option, Some, None, option_map, refl, sym, ◌∙◌, ap, arith, append_assoc}
use Rattle.std.proofs.Common.{Bor, ltb, ltb-true, ltb-false, IfSome, option_copied, get_or}
use Rattle.std.proofs.lemmas.Option.{slice_get_past}
use Rattle.std.proofs.lemmas.List.{append-nil}
use Rattle.class_table.proofs.Taken.{item_stands}
use Rattle.ar_base.specs.Lists.{Stands, Along}
use Rattle.ar_base.specs.Numbers.{NameId}
use Rattle.ar_base.specs.declared.places.Place.{Place}
use Rattle.ar_base.proofs.Standing.{along_length}
use Rattle.ar_syntax.specs.declared.members.Setting.{Setting}
use Rattle.ar_syntax.specs.declared.members.TypeForm.{TypeForm}
use Rattle.ar_syntax.specs.declared.members.TypeForm.TheVariants as form
use Rattle.class_table.specs.Declaring.{TextBody, NamedType, Declared}
use Rattle.class_table.specs.Members.{Site, own_of, own_at, owned_at, type_named, member_kind_of, declared_kind, all_named, names_of, named_at, NamedMember, MemberKind}
use Rattle.class_table.specs.TablesInside.{IsBodyOf}
use Rattle.class_table.specs.Names.{name_and_place}
use Rattle.class_table.specs.Shown.{IsDeclaredBy, member_place}
use Rattle.class_table.specs.declared.tables.Body.{Body}
use Rattle.class_table.specs.declared.tables.Owned.{Owned}
use Rattle.class_table.proofs.OwnAt.{own_shown}

module _ (d : Declared) (bodies : List Body) (shown : Along IsBodyOf bodies d.bodies) where
  -- a member at a place of a body that is there
  pub site_there : (b k : ℕ) (body : Body) → Stands bodies b body
      → slice_get body.own.items k ≡ slice_get (own_at d b) k
  site_there b k body s = ap (λ (os : List Owned). slice_get os k) (sym (own_shown d bodies shown b body s))

  -- and of none
  pub site_past : (b k : ℕ) → length bodies ≤ b → None ≡ slice_get (own_at d b) k
  site_past b k l =
      let e = slice_get_past d.bodies b (let g = along_length bodies d.bodies shown in omega arith) in
      sym (ap (λ (t : Option TextBody). slice_get (own_of t) k) e ∙ slice_get_past [] k (omega arith))

-- the names of a declaration, as they are met
same_names : (s : Site) (kind : MemberKind) (names : List (NameId × Place))
    → map name_and_place names ≡ map member_place (all_named s (Some kind) names)
same_names s kind [] = refl
same_names s kind (n ∷ ns) = ap (λ (xs : List (ℕ × Place)). name_and_place n ∷ xs) (same_names s kind ns)

pub declared_names : (d : Declared) (s : Site) (f : TypeForm) (settings : List Setting) (names : List (NameId × Place))
    → IsDeclaredBy d f true → map name_and_place names
    ≡ map member_place (all_named s (declared_kind d s f settings) names)
declared_names d s form.Boolean settings names e = same_names s _ names
declared_names d s form.Integer settings names e = cc
declared_names d s (form.Named x) settings names e = by (type_named d x.n) e
  where
    by : (t : Option NamedType) → true ≡ is_some t
        → map name_and_place names ≡ map member_place
        (all_named s (option_map (λ (u : NamedType). member_kind_of s (form.Named x) u settings) t) names)
    by None e = cc
    by (Some t) e = same_names s _ names

-- the names of members, one after the other
pub named_next : (d : Declared) (xs : List Site) (x : Site)
    → map member_place (named_at d (xs ++ x ∷ []))
    ≡ map member_place (named_at d xs) ++ map member_place (names_of d x (owned_at d x))
named_next d [] x = ap (map member_place) (append-nil (names_of d x (owned_at d x)))
named_next d (y ∷ ys) x = maps (names_of d y (owned_at d y)) (named_at d (ys ++ x ∷ []))
    ∙ (ap (λ (ms : List (ℕ × Place)). map member_place (names_of d y (owned_at d y)) ++ ms) (named_next d ys x)
    ∙ (sym (append_assoc (map member_place (names_of d y (owned_at d y))) (map member_place (named_at d ys)) _)
    ∙ ap (λ (ms : List (ℕ × Place)). ms ++ map member_place (names_of d x (owned_at d x)))
    (sym (maps (names_of d y (owned_at d y)) (named_at d ys)))))
  where
    maps : (us vs : List NamedMember) → map member_place (us ++ vs) ≡ map member_place us ++ map member_place vs
    maps [] vs = refl
    maps (u ∷ us) vs = ap (λ (ms : List (ℕ × Place)). member_place u ∷ ms) (maps us vs)

-- what is read at a place of a list
pub copied_get : {A : Type 0} (xs : List A) (k : ℕ) (r : Option (Bor A)) → is_some r ≡ ltb k (length xs)
    → IfSome r (λ x. x.now ≡ get_or xs k x.now) → option_copied r ≡ slice_get xs k
copied_get xs k (Some x) e i = sym (item_stands xs k x.now (ltb-true _ _ (sym e)) i)
copied_get xs k None e i = sym (slice_get_past xs k (ltb-false _ _ (sym e)))

pub none_of : {A : Type 0} (o : Option A) → ((a : A) → o ≡ Some a → ⊥) → o ≡ None
none_of None n = refl
none_of (Some a) n = absurd (n a refl)

pub copied_past : {A : Type 0} (xs : List A) (k : ℕ) (r : Option (Bor A)) → is_some r ≡ ltb k (length xs)
    → option_copied r ≡ None → length xs ≤ k
copied_past xs k (Some x) e i = absurd (cc)
copied_past xs k None e i = ltb-false _ _ (sym e)

-- The forms of the members at sites, one site after the other.
use Rattle.std.proofs.Common.{◌≡◌, ℕ, ◌+◌, List, [], ◌∷◌, ◌++◌, map, take, ◌∙◌, ap}
use Rattle.std.specs.List.{flat_map}
use Rattle.std.proofs.lemmas.List.Concat.{flat_map-append}
use Rattle.std.proofs.lemmas.List.{append-nil}
use Rattle.ar_base.specs.Lists.{Stands}
use Rattle.ar_base.specs.Numbers.{BodyId}
use Rattle.class_table.specs.Declaring.{Declared, MemberForm}
use Rattle.class_table.specs.Members.{Site, owned_at}
use Rattle.class_table.specs.TablesInside.{site_of}
use Rattle.class_table.proofs.Taken.{map_next}
use Rattle.hierarchy.specs.Listing.{form_of}

-- the forms of the members at these sites
abbrev pub forms_of_sites : Declared → List (BodyId × ℕ) → List MemberForm
forms_of_sites d sites = flat_map (λ (s : Site). form_of (owned_at d s)) (map site_of sites)

pub sites_next : (d : Declared) (sites : List (BodyId × ℕ)) (i : ℕ) (s : BodyId × ℕ) → Stands sites i s
    → forms_of_sites d (take (i + 1) sites) ≡ forms_of_sites d (take i sites) ++ form_of (owned_at d (site_of s))
sites_next d sites i s at =
    let f = λ (t : Site). form_of (owned_at d t) in
    let before = map site_of (take i sites) in
    ap (flat_map f) (map_next site_of sites i s at)
    ∙ (flat_map-append f before (site_of s ∷ [])
    ∙ ap (λ (fs : List MemberForm). flat_map f before ++ fs) (append-nil (f (site_of s))))

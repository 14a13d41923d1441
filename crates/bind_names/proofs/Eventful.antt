-- Names of events.
use Rattle.std.proofs.Common.{◌≡◌, ℕ, ◌⊎◌, inl, inr, List, [], ◌∷◌, Option, Some, None, Vec, refl, sym, subst}
use Rattle.std.specs.Global.{Global}
use Rattle.ar_base.specs.Lists.{Stands}
use Rattle.ar_base.specs.Numbers.{NameId}
use Rattle.ar_base.specs.declared.places.Place.{Place}
use Rattle.ar_base.proofs.Standing.{one_here}
use Rattle.ar_base.proofs.Comparing.{not_before}
use Rattle.ar_syntax.specs.declared.expressions.RawExpr.{RawExpr}
use Rattle.ar_syntax.specs.declared.instructions.Instr.{Instr}
use Rattle.ar_syntax.specs.declared.members.Member.{Member, out-Member}
use Rattle.ar_syntax.specs.declared.members.Member.TheOpen as member
use Rattle.ar_syntax.specs.declared.members.Member.TheVariants.{Hide, Local, Sync}
use Rattle.ar_syntax.specs.declared.members.Part.{Part}
use Rattle.ar_syntax.specs.declared.paths.Path.{Path}
use Rattle.ar_syntax.specs.declared.paths.PathStart.TheVariants.{Here}
use Rattle.class_table.specs.Declaring.{MemberForm}
use Rattle.class_table.specs.Earliest.{IsEarliest, nowhere, there, IsEarlierOf}
use Rattle.class_table.proofs.FirstPlaces.{earliest_same, earliest_both}
use Rattle.class_table.proofs.Looping.{AtItem}
use Rattle.hierarchy.specs.Models.{RootedModel}
use Rattle.hierarchy.specs.Units.{UnitPath, Thing, numbers}
use Rattle.hierarchy.specs.Walks.{PassesTest, thing, is_event}
use Rattle.hierarchy.specs.Listing.{events}
use Rattle.hierarchy.specs.Tie.{AnswersThing}
use Rattle.bind_scopes.proofs.NamedPaths.{name_leads, name_only}
use Rattle.bind_names.specs.Breaking.{IsNoEvent, PartNamesNoEvent, IsNoOwnEvent, MisnamesEvent, hides, part, sync, local}

module _ {m : RootedModel} (units : List UnitPath) {u : UnitPath} where
  pub event_there : (p : Path) (n : ℕ)
      → AnswersThing m (events m units) is_event u p.start (numbers p.names.items) (Some n)
      → IsEarliest (IsNoEvent m u p) None
  event_there p n a = nowhere (λ at h. h.none a.0 a.2)

  pub event_none : (p : Path) → AnswersThing m (events m units) is_event u p.start (numbers p.names.items) None
      → IsEarliest (IsNoEvent m u p) (Some p.at)
  event_none p a = there (record { none = a; place = refl }) (λ q e h. not_before q p.at e h.place)

  pub own_there : (x : NameId) (here : Place) (n : ℕ)
      → AnswersThing m (events m units) is_event u Here (x.n ∷ []) (Some n) → IsEarliest (IsNoOwnEvent m u x here) None
  own_there x here n a = nowhere (λ at h. h.not
      (subst (λ (t : Thing). PassesTest m is_event t) (name_only x.n refl refl a.0 a.2.leads) a.2.has))

  pub own_none : (x : NameId) (here : Place) → AnswersThing m (events m units) is_event u Here (x.n ∷ []) None
      → IsEarliest (IsNoOwnEvent m u x here) (Some here)
  own_none x here a = there (record {
    not = λ h. a (thing u x.n) (record { leads = name_leads x.n refl refl; has = h });
    place = refl;
  }) (λ q e h. not_before q here e h.place)

module _ (m : RootedModel) (u : UnitPath) where
  -- parts
  pub part_to : (parts : List Part) (k : ℕ) (p : Part) (at : Place) → Stands parts k p
      → IsNoEvent m u p.event at → PartNamesNoEvent m u parts at
  part_to parts k p at st h = record { part = p; is_one = one_here parts k p st; no_event = h }

  pub part_back : (parts : List Part) (at : Place)
      → PartNamesNoEvent m u parts at → (k : ℕ)
      × AtItem parts (λ (j : ℕ) (p : Part) (q : Place). IsNoEvent m u p.event q) k at
  part_back parts at h = (h.is_one.place, record { item = h.part; stands = h.is_one.stands; has = h.no_event })

  -- members by their forms
  hides_back : {p : Path} {at : Place} → MisnamesEvent m u (member.Hide p) at → IsNoEvent m u p at
  hides_back (hides h) = h

  pub hide_misnamed : (f : MemberForm) (p : Path) (r : Option Place) → f ≡ member.Hide p
      → IsEarliest (IsNoEvent m u p) r → IsEarliest (MisnamesEvent m u f) r
  hide_misnamed f p r e k = subst (λ (z : MemberForm). IsEarliest (MisnamesEvent m u z) r) (sym e)
      (earliest_same r (λ at h. hides h) (λ at h. hides_back h) k)

  local_back : {x : NameId} {here at : Place} {g : RawExpr} {i : Instr}
      → MisnamesEvent m u (member.Local x here g i) at → IsNoOwnEvent m u x here at
  local_back (local h) = h

  pub local_misnamed : (f : MemberForm) (x : NameId) (here : Place) (g : RawExpr) (i : Instr) (r : Option Place)
      → f ≡ member.Local x here g i → IsEarliest (IsNoOwnEvent m u x here) r → IsEarliest (MisnamesEvent m u f) r
  local_misnamed f x here g i r e k =
      subst (λ (z : MemberForm). IsEarliest (MisnamesEvent m u z) r) (sym e)
      (earliest_same r (λ at h. local h) (λ at h. local_back h) k)

  sync_to : {x : NameId} {here at : Place} {parts : Vec Part Global}
      → IsNoOwnEvent m u x here at ⊎ PartNamesNoEvent m u parts.items at → MisnamesEvent m u (member.Sync x here parts) at
  sync_to (inl h) = sync h
  sync_to (inr h) = part h

  sync_back : {x : NameId} {here at : Place} {parts : Vec Part Global}
      → MisnamesEvent m u (member.Sync x here parts) at → IsNoOwnEvent m u x here at ⊎ PartNamesNoEvent m u parts.items at
  sync_back (sync h) = inl h
  sync_back (part h) = inr h

  pub sync_misnamed : (f : MemberForm) (x : NameId) (here : Place) (parts : Vec Part Global) (g k r : Option Place)
      → f ≡ member.Sync x here parts → IsEarliest (IsNoOwnEvent m u x here) g
      → IsEarliest (PartNamesNoEvent m u parts.items) k → IsEarlierOf g k r → IsEarliest (MisnamesEvent m u f) r
  sync_misnamed f x here parts g k r e a c o =
      subst (λ (z : MemberForm). IsEarliest (MisnamesEvent m u z) r) (sym e)
      (earliest_same r (λ at h. sync_to h) (λ at h. sync_back h) (earliest_both g k r a c o))

  none_misnamed : (f : MemberForm) → ((at : Place) → MisnamesEvent m u f at → ⊥) → IsEarliest (MisnamesEvent m u f) None
  none_misnamed f n = nowhere n

  -- no other member names events
  pub other_misnamed : (w : Member) → ((p : Path) → w ≡ Hide p → ⊥)
      → ((x : NameId) (here : Place) (parts : Vec Part Global) → w ≡ Sync x here parts → ⊥)
      → ((x : NameId) (here : Place) (g : RawExpr) (i : Instr) → w ≡ Local x here g i → ⊥)
      → IsEarliest (MisnamesEvent m u (out-Member w)) None
  unfolding out-Member denote.Hole.Carrier.out
  other_misnamed (Hide p) a b c = absurd (a p refl)
  other_misnamed (Sync x here parts) a b c = absurd (b x here parts refl)
  other_misnamed (Local x here g i) a b c = absurd (c x here g i refl)
  other_misnamed w a b c = none_misnamed (out-Member w) (λ at h. elim h [ ])

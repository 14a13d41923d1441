-- The events that are read from a list so far.
use Rattle.std.proofs.Common.{◌≡◌, ◌<◌, ◌+◌, ⊎_elim, ℕ, List, [], ◌∷◌, ◌++◌, map, length, Option, Some, None, refl, sym, ◌∙◌, ap, subst, append_assoc}
use Rattle.std.proofs.lemmas.List.{append-nil, map-append}
use Rattle.std.specs.Option.{MatchOption}
use denote.Bor.{Bor}
use Rattle.ar_base.specs.Lists.{Along, IsOneOf}
use Rattle.ar_base.specs.Lists as l
use Rattle.ar_base.specs.NumbersInside.{EventId}
use Rattle.ar_base.proofs.Standing.{one_none, one_split, one_cases, one_right, one_first}
use Rattle.gts_core.specs.declared.system.GtsParts.{GtsParts}
use Rattle.gts_flatten.specs.Elaborating.{Elaborated}
use Rattle.job_inputs.specs.Labels.{NamesEvent}
use Rattle.job_inputs.specs.Lines.{pieces}
use Rattle.job_inputs.specs.CutLines.{is_comma}
use Rattle.job_inputs.specs.Naming.{NamesEvents, HasUnknown}
use Rattle.job_inputs.specs.NamingInside.{AreEventsOf}

-- the parts that are left, and their bytes with a comma more
abbrev pub parts_left : Option (Bor (List ℕ)) → List (List ℕ)
parts_left None = []
parts_left (Some rest) = pieces is_comma rest.now

-- the parts before those that are left name these events
pub record IsRead (x : Elaborated) (all left : List (List ℕ)) (events : List ℕ) : Type 0 where
  pub done : List (List ℕ)
  pub split : all ≡ done ++ left
  pub names : Along (NamesEvent x) done events

module _ (x : Elaborated) where
  along_more : {ps : List (List ℕ)} {es : List ℕ} (p : List ℕ) (e : ℕ) → Along (NamesEvent x) ps es → NamesEvent x p e
      → Along (NamesEvent x) (ps ++ p ∷ []) (es ++ e ∷ [])
  along_more p e l.none s = l.one_and s l.none
  along_more p e (l.one_and r rs) s = l.one_and r (along_more p e rs s)

  pub read_none : (all : List (List ℕ)) (events : List ℕ) → events ≡ [] → IsRead x all all events
  read_none all events e = record {
    done = [];
    split = refl;
    names = subst (λ (es : List ℕ). Along (NamesEvent x) [] es) (sym e) l.none;
  }

  pub read_more : (all left rest : List (List ℕ)) (part : List ℕ) (old new : List EventId) (event : EventId)
      → left ≡ part ∷ rest → new ≡ old ++ event ∷ [] → NamesEvent x part event.n
      → IsRead x all left (map (λ (e : EventId). e.n) old) → IsRead x all rest (map (λ (e : EventId). e.n) new)
  read_more all left rest part old new event e i s r = record {
    done = r.done ++ part ∷ [];
    split = r.split ∙ ap (λ z. r.done ++ z) e ∙ sym (append_assoc r.done (part ∷ []) rest);
    names = subst (λ (es : List ℕ). Along (NamesEvent x) (r.done ++ part ∷ []) es)
        (sym (ap (λ (z : List EventId). map (λ (n : EventId). n.n) z) i
        ∙ map-append (λ (n : EventId). n.n) old (event ∷ [])))
        (along_more part event.n r.names s);
  }

  pub read_all : (text : List ℕ) (left : List (List ℕ)) (events : List ℕ) → left ≡ []
      → IsRead x (pieces is_comma text) left events → NamesEvents x text events
  read_all text left events e r =
      subst (λ (ps : List (List ℕ)). Along (NamesEvent x) ps events)
      (sym (r.split ∙ ap (λ z. r.done ++ z) e ∙ append-nil r.done)) r.names

  pub read_not : (text : List ℕ) (left rest : List (List ℕ)) (part : List ℕ) (events : List ℕ) → left ≡ part ∷ rest
      → ((e : ℕ) → NamesEvent x part e → ⊥) → IsRead x (pieces is_comma text) left events → HasUnknown x text
  read_not text left rest part events e none r = record {
    part = part;
    is_part = subst (λ (ps : List (List ℕ)). IsOneOf ps part) (sym (r.split ∙ ap (λ z. r.done ++ z) e))
        (one_right r.done (part ∷ rest) part (one_first part rest));
    names_none = none;
  }

-- the system has the events
pub inside_more : (p : GtsParts) (old new : List EventId) (event : EventId) → new ≡ old ++ event ∷ []
    → event.n < length p.events.items → AreEventsOf p old → AreEventsOf p new
inside_more p old new event i h k = subst (λ (z : List EventId). AreEventsOf p z) (sym i) (record {
  each = λ e o. ⊎_elim (k.each e) (λ q. ⊎_elim (λ same. subst (λ (z : EventId). z.n < length p.events.items) same h)
      (λ none. absurd (one_none e none)) (one_cases event [] e q)) (one_split old (event ∷ []) e o);
})

pub inside_none : (p : GtsParts) (events : List EventId) → events ≡ [] → AreEventsOf p events
inside_none p events e = record { each = λ n o. absurd (one_none n (subst (λ (z : List EventId). IsOneOf z n) e o)) }

-- what is left behind the first part
pub left_part : (rest o : Option (Bor (List ℕ))) (bytes : Bor (List ℕ)) (part : List ℕ) → rest ≡ Some bytes
    → MatchOption o (pieces is_comma bytes.now ≡ part ∷ [])
    (λ more. (pieces is_comma bytes.now ≡ part ∷ pieces is_comma more.now) × (length more.now < length bytes.now))
    → parts_left rest ≡ part ∷ parts_left o
left_part rest None bytes part e h = ap parts_left e ∙ h
left_part rest (Some more) bytes part e h = ap parts_left e ∙ h.0

-- What words name in a source they name in one that is alike.
use Rattle.std.proofs.Common.{ℕ, Bool, List, [], sym, ◌∙◌, subst}
use Rattle.ar_base.specs.Lists.{Stands}
use Rattle.ar_base.proofs.Standing.{along_length}
use Rattle.ar_meaning.specs.Runs.{Label}
use Rattle.ar_meaning.proofs.ImageFlows.{partner}
use Rattle.ar_syntax.specs.declared.paths.PathStart.TheVariants.{Here}
use Rattle.class_table.specs.Members.{MemberKind}
use Rattle.hierarchy.specs.Units.{Thing}
use Rattle.hierarchy.specs.Walks.{IsThingAt, is_event, is_observer}
use Rattle.gts_flatten.specs.Elaborating.{Elaborated}
use Rattle.job_inputs.specs.Labels.{Spells, TextNames, NamesEvent, NamesVisible, IsLabel, path, numbered, NeedsWay}
use Rattle.job_inputs.specs.Wanting.{NamesObserver}
use Rattle.job_laws.proofs.Shared.{Share}

module _ (x y : Elaborated) (s : Share x y) where
  names_there : (test : MemberKind → Bool)
      → ((names : List ℕ) (t : Thing) → IsThingAt x.declarations.model test [] Here names t
      → IsThingAt y.declarations.model test [] Here names t)
      → (text : List ℕ) (t : Thing) → TextNames x.declarations.model test text t
      → TextNames y.declarations.model test text t
  names_there test on text t h = record {
    names = h.names;
    spells = subst (λ (z : List (List ℕ)). Spells z text h.names) s.names h.spells;
    is_thing = on h.names t h.is_thing;
  }

  pub event_there : (text : List ℕ) (n : ℕ) → NamesEvent x text n → NamesEvent y text n
  event_there text n h = record {
    thing = h.thing;
    is_thing = names_there is_event s.event text h.thing h.is_thing;
    number = subst (λ (z : List Thing). Stands z n h.thing) s.events h.number;
  }

  pub observer_there : (text : List ℕ) (n : ℕ) → NamesObserver x text n → NamesObserver y text n
  observer_there text n h = record {
    thing = h.thing;
    is_thing = names_there is_observer s.observer text h.thing h.is_thing;
    number = subst (λ (z : List Thing). Stands z n h.thing) s.observers h.number;
  }

  visible_there : (text : List ℕ) (e ways : ℕ) → NamesVisible x text e ways → NamesVisible y text e ways
  visible_there text e ways h =
      let p = partner s.system.events e h.event h.stands in
      record {
        names = event_there text e h.names;
        event = p.item;
        stands = p.stands;
        visible = sym p.related.hidden ∙ h.visible;
        count = sym (along_length h.event.ways p.item.ways p.related.ways) ∙ h.count;
      }

  pub label_there : (text : List ℕ) (l : Label) → IsLabel x text l → IsLabel y text l
  label_there text _ (path {e = e} h) = path (visible_there text e 1 h)
  label_there text _ (numbered {e = e} front ways i h less) = numbered front ways i (visible_there front e ways h) less

  pub needs_there : (text : List ℕ) → NeedsWay x text → NeedsWay y text
  needs_there text h = record {
    event = h.event;
    ways = h.ways;
    names = visible_there text h.event h.ways h.names;
    many = h.many;
  }

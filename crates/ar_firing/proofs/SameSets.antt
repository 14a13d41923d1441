-- Lists with the same members are one set.
use Rattle.std.proofs.Common.{ℕ, List, map, subst}
use Rattle.ar_base.specs.Lists.{Stands, IsOneOf}
use Rattle.domains.specs.declared.Value.{Value}
use Rattle.ar_meaning.specs.Systems.{System}
use Rattle.ar_meaning.specs.Runs.{Label}
use Rattle.ar_firing.specs.Cuts.{IsFirable, AreEvents}
use Rattle.ar_base.specs.Sets.{Within}
use Rattle.ar_firing.proofs.EachHasOrder.{event_of, label_of}

pub firable_as : {V : Type 0} (sys : System V) (dropped : List ℕ) {set other : List ℕ} {t : List Value}
    → Within set other → Within other set → IsFirable sys dropped set t → IsFirable sys dropped other t
firable_as sys dropped h k f = record {
  long = f.long;
  path = f.path;
  walks = f.walks;
  sound = λ n x s i j l m. h.each l.event (f.sound n x s i j l m);
  whole = λ e o. f.whole e (k.each e o);
}

pub events_within : (ls : List Label) (set : List ℕ) → AreEvents ls set → Within (map (λ l. l.event) ls) set
events_within ls set a = record {
  each = λ e o. let l = label_of ls o.place e o.stands in subst (λ z. IsOneOf set z) l.2 (a.sound o.place l.0 l.1);
}

pub set_within : (ls : List Label) (set : List ℕ) → AreEvents ls set → Within set (map (λ l. l.event) ls)
set_within ls set a = record {
  each = λ e o.
      let l = a.whole e o in
      let s = event_of ls l.1.place l.0 l.1.stands in
      record { place = l.1.place; stands = subst (λ z. Stands (map (λ l. l.event) ls) l.1.place z) l.2 s };
}

-- The parts of the ways of all events, from an event on.
use Rattle.std.proofs.Common.{◌≡◌, ℕ, ◌+◌, ◌≤◌, List, length, map, drop, ap, arith}
use Rattle.ar_base.specs.Lists.{Stands}
use Rattle.ar_meaning.specs.Systems.{Transition}
use Rattle.ar_meaning.specs.Expand.{EventDeclaration}
use Rattle.gts_core.specs.Bound.{declared_from, declared_of, member_of}
use Rattle.gts_core.specs.declared.bound.DeclaredEvent.{DeclaredEvent}
use Rattle.sync_expand.specs.Counts.{all_parts, parts_given}
use Rattle.sync_expand.proofs.Capping.{drop_next, drop_end}
use Rattle.sync_expand.proofs.DeclaredLemmas.{declared_length, declared_stands}

pub all_next : (counts : List ℕ) (events : List DeclaredEvent) (i : ℕ) (d : DeclaredEvent) → Stands events i d
    → all_parts counts (drop i (declared_from 0 events))
    ≡ parts_given counts (map member_of d.ways.items) + all_parts counts (drop (i + 1) (declared_from 0 events))
all_next counts events i d s = ap (λ (ds : List (EventDeclaration (Transition ℕ) ℕ)). all_parts counts ds)
    (drop_next (declared_from 0 events) i (declared_of (0 + i) d) (declared_stands 0 events i d s))

pub all_end : (counts : List ℕ) (events : List DeclaredEvent) (i : ℕ) → length events ≤ i
    → all_parts counts (drop i (declared_from 0 events)) ≡ 0
all_end counts events i l = ap (λ (ds : List (EventDeclaration (Transition ℕ) ℕ)). all_parts counts ds)
    (drop_end (declared_from 0 events) i (omega (arith, l, declared_length 0 events)))

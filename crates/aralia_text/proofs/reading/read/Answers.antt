use Rattle.std.proofs.Common.{◌≡◌, ℕ, List, sym, subst}
use Rattle.ar_base.specs.declared.places.Place.{Place}
use Rattle.eq_core.specs.Views.{table_of}
use Rattle.aralia_text.specs.Readings.{IsWrongPlace}
use Rattle.aralia_text.specs.Fronts.{IsOnlyTable, IsNoTable}
use Rattle.aralia_text.specs.declared.reading.AraliaFault.{AraliaFault}
use Rattle.aralia_text.specs.declared.reading.AraliaFault.TheVariants.{Syntax}
use Rattle.aralia_text.proofs.Places.{table_text, only_table, no_table, left_within, wrong_place}
use Rattle.aralia_text.proofs.reading.read.Goals as goal

place_told : (P : Place → Type 0) (one : Place) → P one → (place : Place)
    → ◌≡◌ {A = AraliaFault} (Syntax one) (Syntax place) → P place
place_told P one p place e = let same : ◌≡◌ {A = Place} one place = cc in subst P same p

pub returns-in-Ok-clause-found : goal.returns-in-Ok-clause-found
returns-in-Ok-clause-found c =
    table_text c.args.events.now c.args.text.now (table_of c.in-Ok.equations)
    (subst (λ (z : List (List ℕ)). IsOnlyTable z c.args.text.now (table_of c.in-Ok.equations)) c.in_ok-names.ensures
    c.in-Ok.ensures.found)

pub returns-in-Ok-clause-only : goal.returns-in-Ok-clause-only
returns-in-Ok-clause-only c = λ table is.
    sym (only_table c.args.events.now c.args.text.now (table_of c.in-Ok.equations) table
    (subst (λ (z : List (List ℕ)). IsOnlyTable z c.args.text.now (table_of c.in-Ok.equations)) c.in_ok-names.ensures
    c.in-Ok.ensures.found) is)

pub slice_bounds-place_after-count : goal.slice_bounds-place_after-count
slice_bounds-place_after-count c = left_within _ c.args.text.now c.in-Err-Stuck.stuck.left
    (c.in-Err-Stuck.ensures.stuck c.in-Err-Stuck.stuck c.in-Err-Stuck.field-0-is)

pub returns-in-Err-Stuck-clause-refused : goal.returns-in-Err-Stuck-clause-refused
returns-in-Err-Stuck-clause-refused c = λ place i table is.
    no_table c.args.events.now c.args.text.now c.in-Err-Stuck.stuck.left
    (subst (λ (z : List (List ℕ)). IsNoTable z c.args.text.now c.in-Err-Stuck.stuck.left) c.in_ok-names.ensures
    (c.in-Err-Stuck.ensures.stuck c.in-Err-Stuck.stuck c.in-Err-Stuck.field-0-is)) table is

pub returns-in-Err-Stuck-clause-place : goal.returns-in-Err-Stuck-clause-place
returns-in-Err-Stuck-clause-place c =
    place_told (IsWrongPlace c.args.events.now c.args.text.now) c.place_after.result
    (wrong_place c.args.events.now c.args.text.now c.in-Err-Stuck.stuck.left
    (subst (λ (z : List (List ℕ)). IsNoTable z c.args.text.now c.in-Err-Stuck.stuck.left) c.in_ok-names.ensures
    (c.in-Err-Stuck.ensures.stuck c.in-Err-Stuck.stuck c.in-Err-Stuck.field-0-is))
    c.place_after.result c.place_after.ensures)

pub returns-in-Err-Stuck-clause-only : goal.returns-in-Err-Stuck-clause-only
returns-in-Err-Stuck-clause-only c = λ table is.
    absurd (no_table c.args.events.now c.args.text.now c.in-Err-Stuck.stuck.left
    (subst (λ (z : List (List ℕ)). IsNoTable z c.args.text.now c.in-Err-Stuck.stuck.left) c.in_ok-names.ensures
    (c.in-Err-Stuck.ensures.stuck c.in-Err-Stuck.stuck c.in-Err-Stuck.field-0-is)) table is)

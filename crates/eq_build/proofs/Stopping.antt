-- What stopped a step stops the whole.
use Rattle.std.proofs.Common.{◌≡◌, ◌<◌, List, [], ◌∷◌, ◌++◌, length, Result, Ok, Err, Vec, Global, refl, sym, subst, ap, ◌∙◌}
use Rattle.std.specs.Result.{IsErrAnd}
use Rattle.std.proofs.lemmas.List.{map-append}
use Rattle.eq_core.specs.Gates.{Operand, Gate, Made, all_of}
use Rattle.eq_core.specs.Views.{operand_of}
use Rattle.eq_core.specs.declared.joints.Operand as sign
use Rattle.eq_core.specs.declared.joints.Gate as flat
use Rattle.eq_core.proofs.Telling.{any_more}
use Rattle.eq_build.specs.Entries.{OperandRow, Group, Built, all_of_each, one_of_alls, entries_of, entries_for, combined, folded, case_terms, chosen}
use Rattle.eq_build.specs.Entries.{Entry as View}
use Rattle.eq_build.specs.declared.steps.Step.{Step}
use Rattle.eq_build.specs.BuildsInside.{most_gates}
use Rattle.eq_build.specs.Views.{entries_in, cases_in, StopsBuilding, BuildsOrFails, MakesOperand, MakesEntries}
use Rattle.eq_build.specs.declared.entries.Entry.{Entry}
use Rattle.eq_build.specs.declared.entries.BuildFault.{BuildFault}
use Rattle.eq_build.specs.declared.entries.BuildFault.TheVariants.{Gates, Memory}
use Rattle.eq_build.proofs.Growing.{longer_on, each_more, entries_more, folded_more, chosen_more}

pub stops_up : (fault : BuildFault) {P Q : Type 0} → (P → Q) → StopsBuilding fault P → StopsBuilding fault Q
stops_up Gates f h = f h
stops_up Memory f h = tt

-- a fault that is passed on
pub passed_on : {A : Type 0} (done : A → List Gate → Type 0) (more : Type 0) (r : Result A BuildFault) (x : BuildFault)
    (gates : List flat.Gate) → IsErrAnd r (λ e. e ≡ x) → StopsBuilding x more → BuildsOrFails done more r gates
passed_on done more (Ok a) x gates h s = elim h [ ]
passed_on done more (Err e) x gates h s = subst (λ z. StopsBuilding z more) (sym h) s

pub operand_passed_on : (m : Made) (r : Result sign.Operand BuildFault) (x : BuildFault) (gates : List flat.Gate)
    → IsErrAnd r (λ e. e ≡ x) → StopsBuilding x (most_gates < length m.gates) → MakesOperand m r gates
operand_passed_on m r x gates h s =
    passed_on (λ (o : sign.Operand) (h : List Gate). m ≡ record { operand = operand_of o; gates = h })
    (most_gates < length m.gates) r x gates h s

pub entries_passed_on : (b : Built) (r : Result (Vec Entry Global) BuildFault) (x : BuildFault) (gates : List flat.Gate)
    → IsErrAnd r (λ e. e ≡ x) → StopsBuilding x (most_gates < length b.gates) → MakesEntries b r gates
entries_passed_on b r x gates h s =
    passed_on (λ (xs : Vec Entry Global) (h : List Gate). b ≡ record { entries = entries_in xs.items; gates = h })
    (most_gates < length b.gates) r x gates h s

-- too many gates for one term are too many for all
pub term_stops : (g h : List Gate) (oss rest : List (List Operand)) (os out : List Operand)
    → ◌≡◌ {A = OperandRow} (all_of_each g oss)
    (record { operands = out ++ (all_of_each h (os ∷ rest)).operands; gates = (all_of_each h (os ∷ rest)).gates })
    → most_gates < length (all_of h os).gates → most_gates < length (one_of_alls g oss).gates
term_stops g h oss rest os out e l =
    let r = all_of_each g oss in
    let more = longer_on (each_more (all_of h os).gates rest) l in
    longer_on (any_more r.gates r.operands)
    (subst (λ z. most_gates < length z) (sym (ap (λ (z : OperandRow). z.gates) e)) more)

-- too many gates for one group are too many for all
pub group_stops : (g h : List Gate) (p : Group) (all rest : List Group)
    → (entries_of g all).gates ≡ (entries_of h (p ∷ rest)).gates
    → most_gates < length (one_of_alls h p.terms).gates → most_gates < length (entries_of g all).gates
group_stops g h p all rest e l =
    subst (λ z. most_gates < length z) (sym e) (longer_on (entries_more (one_of_alls h p.terms).gates rest) l)

-- too many gates for one step of a fold are too many for all
pub step_stops : (g h : List Gate) (xs ys : List View) (all rest : List (Step × List View)) (p : Step × List View)
    → folded g xs all ≡ folded h ys (p ∷ rest) → most_gates < length (combined p.0 h ys p.1).gates
    → most_gates < length (folded g xs all).gates
step_stops g h xs ys all rest p e l =
    let r = combined p.0 h ys p.1 in
    subst (λ (z : Built). most_gates < length z.gates) (sym e) (longer_on (folded_more r.gates r.entries rest) l)

-- a choice whose last case is taken in
pub chosen_last : (g : List Gate) (cs : List (List View × List View)) (c : List View × List View) (other : List View)
    → chosen g (cs ++ c ∷ []) other ≡ (let r = entries_for g (case_terms c.0 c.1 other) in chosen r.gates cs r.entries)
chosen_last g [] c other = refl
chosen_last g (d ∷ cs) c other =
    ap (λ (r : Built). entries_for r.gates (case_terms d.0 d.1 r.entries)) (chosen_last g cs c other)

-- too many gates for one case are too many for all
pub case_stops : (g h : List Gate) (all cs : List (List View × List View)) (c : List View × List View)
    (first other : List View) → chosen g all first ≡ chosen h (cs ++ c ∷ []) other
    → most_gates < length (entries_for h (case_terms c.0 c.1 other)).gates
    → most_gates < length (chosen g all first).gates
case_stops g h all cs c first other e l =
    let r = entries_for h (case_terms c.0 c.1 other) in
    subst (λ (z : Built). most_gates < length z.gates) (sym (e ∙ chosen_last h cs c other))
    (longer_on (chosen_more r.gates cs r.entries) l)

-- the last of the cases
pub cases_split : (all front : List (Vec Entry Global × Vec Entry Global)) (x y : Vec Entry Global)
    → all ≡ front ++ (x, y) ∷ [] → cases_in all ≡ cases_in front ++ (entries_in x.items, entries_in y.items) ∷ []
cases_split all front x y e =
    ap cases_in e
    ∙ map-append (λ (c : Vec Entry Global × Vec Entry Global). (entries_in c.0.items, entries_in c.1.items)) front
    ((x, y) ∷ [])

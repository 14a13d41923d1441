-- Systems, declarations, sources and jobs that are alike are so the other way round.
use Rattle.std.proofs.Common.{Bool, sym, ◌∙◌}
use Rattle.typed_expr.specs.PairsInside.{turned_pairs}
use Rattle.typed_expr.specs.declared.expr.Expr.{Expr}
use Rattle.typed_expr.proofs.Renaming.{renames_turned}
use Rattle.ar_meaning.specs.Systems.{Assign, Variable, Transition, Event, Net, System}
use Rattle.ar_meaning.specs.Expand.{EventDeclaration, Member}
use Rattle.ar_meaning.specs.ExpandImage.{Part_renames, transitions, synchronise, Declared_renames}
use Rattle.ar_meaning.specs.ExpandImageInside.{Member_renames}
use Rattle.ar_meaning.specs.Image.{Assign_renames, Variable_renames, Transition_renames, Event_renames, Expr_renames}
use Rattle.ar_meaning.specs.ImageInside.{IsNetImage, IsImage}
use Rattle.ar_meaning.proofs.ImageTurned.{along_turned, assign_turned, variable_turned, transition_turned, event_turned}
use Rattle.ar_meaning.proofs.ImageJoined.{assign_joined, variable_joined, transition_joined, event_joined, observer_joined}
use Rattle.hierarchy.specs.Units.{Thing}
use Rattle.source_meaning.specs.Systems.{Declarations}
use Rattle.gts_flatten.specs.Elaborating.{Elaborated}
use Rattle.source_laws.proofs.Turned.{rooted_turned}
use Rattle.source_laws.specs.Declarations.{IsSameThing, SameDeclarations}
use Rattle.source_laws.specs.Sources.{SameSource}
use Rattle.job_stages.specs.Stages.{Ready}
use Rattle.job_laws.specs.Ready.{SameReady}

-- there and back is the same, and then back
out_and_in : (s t u : Thing) → turned_pairs IsSameThing s t → IsSameThing t u → IsSameThing s u
out_and_in s t u e f = sym e ∙ f

in_and_out : (s t u : Thing) → IsSameThing s t → turned_pairs IsSameThing t u → IsSameThing s u
in_and_out s t u e f = e ∙ sym f

assign_back : (a b : Assign Thing) → Assign_renames IsSameThing a b → Assign_renames IsSameThing b a
assign_back a b r =
    let t = assign_turned IsSameThing a b r in
    assign_joined IsSameThing (turned_pairs IsSameThing) IsSameThing in_and_out b b a
    (assign_joined (turned_pairs IsSameThing) IsSameThing IsSameThing out_and_in b a b t r) t

variable_back : (x y : Variable Thing) → Variable_renames IsSameThing x y → Variable_renames IsSameThing y x
variable_back x y r =
    let t = variable_turned IsSameThing x y r in
    variable_joined IsSameThing (turned_pairs IsSameThing) IsSameThing in_and_out y y x
    (variable_joined (turned_pairs IsSameThing) IsSameThing IsSameThing out_and_in y x y t r) t

transition_back : (d e : Transition Thing) → Transition_renames IsSameThing d e → Transition_renames IsSameThing e d
transition_back d e r =
    let t = transition_turned IsSameThing d e r in
    transition_joined IsSameThing (turned_pairs IsSameThing) IsSameThing in_and_out e e d
    (transition_joined (turned_pairs IsSameThing) IsSameThing IsSameThing out_and_in e d e t r) t

event_back : (e f : Event Thing) → Event_renames IsSameThing e f → Event_renames IsSameThing f e
event_back e f r =
    let t = event_turned IsSameThing e f r in
    event_joined IsSameThing (turned_pairs IsSameThing) IsSameThing in_and_out f f e
    (event_joined (turned_pairs IsSameThing) IsSameThing IsSameThing out_and_in f e f t r) t

observer_back : (e f : Expr Thing) → Expr_renames IsSameThing e f → Expr_renames IsSameThing f e
observer_back e f r =
    let t : Expr_renames (turned_pairs IsSameThing) f e = record { renames = renames_turned IsSameThing r.renames } in
    observer_joined IsSameThing (turned_pairs IsSameThing) IsSameThing in_and_out f f e
    (observer_joined (turned_pairs IsSameThing) IsSameThing IsSameThing out_and_in f e f t r) t

part_back : (p q : Bool × Thing) → Part_renames IsSameThing p q → Part_renames IsSameThing q p
part_back p q r = record { must = sym r.must; key = sym r.key }

member_back : (a b : Member (Transition Thing) Thing) → Member_renames IsSameThing IsSameThing a b
    → Member_renames IsSameThing IsSameThing b a
member_back a b (transitions {d = d} {e = e} r) = transitions (transition_back d e r)
member_back a b (synchronise r) = synchronise (along_turned part_back r)

pub declared_back : (d e : EventDeclaration (Transition Thing) Thing) → Declared_renames IsSameThing IsSameThing d e
    → Declared_renames IsSameThing IsSameThing e d
declared_back d e r = record {
  key = sym r.key;
  unit = sym r.unit;
  hidden = sym r.hidden;
  members = along_turned member_back r.members;
}

net_back : (a b : Net Thing) → IsNetImage IsSameThing a b → IsNetImage IsSameThing b a
net_back a b r = record {
  variables = along_turned variable_back r.variables;
  assertions = along_turned assign_back r.assertions;
  one = λ x y z e f. sym e ∙ f;
  one_back = λ x y z e f. e ∙ sym f;
}

pub system_back : (a b : System Thing) → IsImage IsSameThing a b → IsImage IsSameThing b a
system_back a b r = record {
  net = net_back a.net b.net r.net;
  events = along_turned event_back r.events;
  observers = along_turned observer_back r.observers;
}

pub declarations_back : (d e : Declarations) → SameDeclarations d e → SameDeclarations e d
declarations_back d e s = record {
  model = rooted_turned s.model;
  units = sym s.units;
  net = net_back d.net e.net s.net;
  events = along_turned declared_back s.events;
  observers = along_turned observer_back s.observers;
  places = sym s.places;
}

pub source_back : (x y : Elaborated) → SameSource x y → SameSource y x
source_back x y s = record {
  declarations = declarations_back x.declarations y.declarations s.declarations;
  system = system_back x.system y.system s.system;
}

pub ready_back : (w v : Ready) → SameReady w v → SameReady v w
ready_back w v s = record {
  source = source_back w.source v.source s.source;
  commands = sym s.commands;
  lines = sym s.lines;
  dropped = sym s.dropped;
  wanted = sym s.wanted;
  shown = sym s.shown;
  order = sym s.order;
}

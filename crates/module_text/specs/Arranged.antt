-- Lines of pieces, as they are arranged before they are written.
use Rattle.std.specs.Prelude.{◌≡◌, ◌<◌, ℕ, List, [], ◌++◌, map, length}
use Rattle.std.specs.List.{filter, flat_map}
use Rattle.ar_base.specs.Lists.{IsOneOf}
use Rattle.ar_base.specs.NumbersInside.{UnitId}
use Rattle.ar_base.specs.Texts.{line, text_at}
use Rattle.gts_core.specs.declared.system.GtsParts.{GtsParts}
use Rattle.mode_trees.specs.declared.forests.Edge.{Edge}
use Rattle.text_pieces.specs.WayLabels.{way_label}
use Rattle.zdd_nodes.specs.Families.{holds}
use Rattle.gate_modules.specs.ShortenedInside.{event_numbers}
use Rattle.gate_modules.specs.declared.ranges.EventSet.{EventSet}
use Rattle.gate_modules.specs.declared.ranges.Module.{Module}
use Rattle.gate_modules.specs.declared.ranges.ShortSet.{ShortSet}
use Rattle.module_text.specs.Texts.{unit_mark, part_line, module_line}
use Rattle.cut_text.specs.Texts.{braced}
use Rattle.module_text.specs.declared.arranging.Piece.{Piece}
use Rattle.module_text.specs.declared.arranging.Piece.TheVariants.{Unit as AUnit, Way as AWay}
use Rattle.module_text.specs.declared.arranging.Line.{Line}
use Rattle.module_text.specs.declared.arranging.Group.{Group}

-- units in a line
abbrev pub unit_pieces : List UnitId → List Piece
unit_pieces units = map (λ (u : UnitId). AUnit u) units

-- the ways of those of the edges that have an event of the set
abbrev pub way_pieces : List Edge → List ℕ → List Piece
way_pieces edges set = map (λ (e : Edge). AWay e.way) (filter (λ (e : Edge). holds e.event.n set) edges)

-- the line of these units and events
abbrev pub line_pieces : List Edge → List UnitId → List ℕ → List Piece
line_pieces edges units set = unit_pieces units ++ way_pieces edges set

-- the line of a set of events
abbrev pub part_pieces : List Edge → EventSet → List Piece
part_pieces edges s = line_pieces edges [] (event_numbers s.events.items)

-- the line of a short form
abbrev pub form_pieces : List Edge → ShortSet → List Piece
form_pieces edges s = line_pieces edges s.units.items (event_numbers s.events.items)

-- what stands in the line
abbrev pub pieces_of : Line → List Piece
pieces_of line = line.pieces.items

-- the group is the module's unit with the lines of its sets
pub record IsGroupOf (edges : List Edge) (m : Module) (g : Group) : Type 0 where
  pub unit : g.unit ≡ m.unit
  pub lines : map pieces_of g.lines.items ≡ map (part_pieces edges) m.sets.items

-- the text of a piece
abbrev pub piece_text : GtsParts → Piece → List ℕ
piece_text p (AUnit u) = unit_mark (text_at p.units.items u.n)
piece_text p (AWay w) = way_label p w.n

-- the text of the line between its braces, with them
abbrev pub line_text : GtsParts → Line → List ℕ
line_text p l = braced (map (piece_text p) l.pieces.items)

-- the lines of a module's sets
abbrev pub part_lines : GtsParts → List Line → List ℕ
part_lines p lines = flat_map (λ l. part_line (line_text p l)) lines

-- the lines of a module
abbrev pub group_lines : GtsParts → Group → List ℕ
group_lines p g = module_line (text_at p.units.items g.unit.n) ++ part_lines p g.lines.items

-- the lines of modules
abbrev pub groups_lines : GtsParts → List Group → List ℕ
groups_lines p groups = flat_map (group_lines p) groups

-- the lines of short forms
abbrev pub form_lines : GtsParts → List Line → List ℕ
form_lines p lines = flat_map (λ l. line (line_text p l)) lines

-- a way of the piece is one of the system
abbrev pub IsInside : GtsParts → Piece → Type 0
IsInside p (AUnit u) = Unit {0}
IsInside p (AWay w) = w.n < length p.ways.items

-- the same of all pieces
pub record ArePiecesOf (p : GtsParts) (pieces : List Piece) : Type 0 where
  pub each : (x : Piece) → IsOneOf pieces x → IsInside p x

-- the same of all lines
pub record LinesInside (p : GtsParts) (lines : List Line) : Type 0 where
  pub each : (l : Line) → IsOneOf lines l → ArePiecesOf p l.pieces.items

-- the same of all groups
pub record GroupsInside (p : GtsParts) (groups : List Group) : Type 0 where
  pub each : (g : Group) → IsOneOf groups g → LinesInside p g.lines.items

-- The limits of the program.
use Rattle.std.specs.Prelude.{ℕ}
use Rattle.ar_base.specs.declared.counts.Count.{Count}
use Rattle.ar_base.specs.declared.counts.Count.TheVariants.{ModelBytes, ScriptBytes, Nesting, Depth, Units, Variables, Events, TreeNodes, Ways, WayParts, ExpressionNodes, Gates, CutLines}

-- the greatest number that each count may have
abbrev pub limit_of : Count → ℕ
limit_of ModelBytes = 4194304
limit_of ScriptBytes = 1048576
limit_of Nesting = 128
limit_of Depth = 64
limit_of Units = 16384
limit_of Variables = 32768
limit_of Events = 16384
limit_of TreeNodes = 2000000
limit_of Ways = 256
limit_of WayParts = 1000000
limit_of ExpressionNodes = 1000000
limit_of Gates = 2000000
limit_of CutLines = 4096

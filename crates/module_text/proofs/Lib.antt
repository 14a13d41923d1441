mod Source
mod Pieces
mod Spanning
mod DepthFirst
mod UnitSpans
mod Reaching
mod Combining
mod Placing

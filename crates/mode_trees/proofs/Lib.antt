pub mod Fewer
mod Leading
mod Nexts

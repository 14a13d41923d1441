mod Groups
mod Bits
mod Single

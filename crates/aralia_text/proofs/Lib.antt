mod Runs
mod Stuck
mod Events
mod Numbers
mod Operands
mod Joints
mod GateLines
pub mod Results
mod Tables
mod TableLines
mod Interning
mod Printed
mod Places

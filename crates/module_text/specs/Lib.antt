pub mod Ranges
pub mod Texts
pub mod Printed
pub mod Arranged
pub mod Spans
pub mod Places

pub mod Drawn
pub mod DrawnLaws
pub mod GateLaws
pub mod Known
pub mod RoundLaws

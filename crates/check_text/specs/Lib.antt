pub mod Texts
pub mod TextsInside
pub mod Printed

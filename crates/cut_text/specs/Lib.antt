pub mod Answers
pub mod ForestPrinted
pub mod ForestTexts
pub mod Printed
pub mod Tables
pub mod Texts

pub mod ActForms
mod ActsShrinking
pub mod Added
pub mod Allowing
mod Copying
mod Gathering
pub mod KindsRenamed
pub mod Lawfulness
pub mod NamedVariables
pub mod NamesNumbered
pub mod Numbering
pub mod Reading
pub mod SameDomains
pub mod Systems
pub mod Tests
mod Texts
pub mod Viewing

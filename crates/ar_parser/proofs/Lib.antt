pub mod PlainTexts
pub mod NameLemmas
pub mod WholeTexts

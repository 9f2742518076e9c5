pub mod ChoiceLemmas
pub mod CodeLemmas
pub mod LeadLemmas

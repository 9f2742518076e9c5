pub mod Appends
pub mod EdgeLaws
pub mod EntryLaws
pub mod FragmentLaws
pub mod GroupLaws
pub mod KindLaws
pub mod Orders
pub mod ParentLaws
pub mod GuardedProducts
mod Walks

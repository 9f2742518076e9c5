pub mod NumberingLaws
pub mod StatementLaws
pub mod TokenLaws

pub mod ArrayNames
pub mod ExprTexts
pub mod KernelTexts
pub mod Text

pub mod ArrayNames
pub mod Equations
pub mod ExprTexts
pub mod KernelTexts
pub mod Loops
pub mod StatementTexts

pub mod Coordinates
pub mod FileLaws
pub mod KernelLaws
pub mod RowLaws
pub mod StopLaws
pub mod ToldLaws

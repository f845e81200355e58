pub mod Cells
pub mod HeapLending
pub mod Lending

pub mod CellEdits
pub mod FreeLists

pub mod FanLemmas
pub mod FillLemmas
pub mod ShapeLemmas
pub mod RowLemmas
pub mod TreeLemmas
pub mod FileLemmas

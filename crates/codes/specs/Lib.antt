-- What codes and entries mean.
pub mod Makings
pub mod Patterns
pub mod Rows
pub mod Cells
pub mod Shelves
pub mod Entries
pub mod EntryLaws
pub mod PatternLaws
pub mod RowLaws

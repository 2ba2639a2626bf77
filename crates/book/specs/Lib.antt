pub use Rattle.book_check.specs.Contents
pub use Rattle.book_check.specs.Passes
pub use Rattle.book_check.specs.Check
pub use Rattle.book_series.specs.Series
pub use Rattle.book_search.specs.Lookup
pub mod Reading
pub mod Calm
pub mod Position

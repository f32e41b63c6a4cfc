-- Lists and numbers only: a plain queue served in order, and sorted lists.
pub mod Serve
pub mod Sorted

pub mod Books
pub mod Closing

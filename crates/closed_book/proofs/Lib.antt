pub mod Books
pub mod ClosedBooks
pub mod TableOrder

pub mod Count
pub mod Pieces
pub mod Stream
pub mod Untold

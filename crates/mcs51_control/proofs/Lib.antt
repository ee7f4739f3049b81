pub mod Tops
pub mod Levels
pub mod Returns
pub mod Backs
pub mod Showing
pub mod Transfers

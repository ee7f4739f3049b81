pub mod Blocks
pub mod Named
pub mod Numbered
pub mod Numbers
pub mod Pages

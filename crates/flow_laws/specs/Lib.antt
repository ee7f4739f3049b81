pub mod KeptSteps
pub mod Landing
pub mod Returns

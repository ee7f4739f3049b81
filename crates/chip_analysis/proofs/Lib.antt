pub mod SameCauses

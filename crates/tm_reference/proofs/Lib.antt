pub mod Standing
pub mod Keeping
pub mod RowsServe
pub mod WorkGoesOn
pub mod Leaves
pub mod Opened

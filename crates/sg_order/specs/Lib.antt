pub mod Law
pub mod Mark
pub mod Order
pub mod Path

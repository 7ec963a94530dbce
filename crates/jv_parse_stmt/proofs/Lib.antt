pub mod BlockTurns
pub mod BranchTurns
pub mod VariableTurns

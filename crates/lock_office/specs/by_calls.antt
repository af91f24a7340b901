pub mod HoldsAsTold
pub mod WakeUps
pub mod Ended
pub mod OneHistory

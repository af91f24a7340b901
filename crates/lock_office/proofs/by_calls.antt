pub mod HoldsAsTold
pub mod Telling
pub mod ToldIsHeld
pub mod ToldTogether
pub mod WakeUps
pub mod OneHistory
pub mod WakesTold

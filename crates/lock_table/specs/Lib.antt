-- what contracts of users cite
pub mod Deadlocks
pub mod Noting
pub mod Changes
pub mod Ready
pub mod Shows
pub mod Listing
pub mod LockPages
-- what else the definitions above stand on
pub mod inner

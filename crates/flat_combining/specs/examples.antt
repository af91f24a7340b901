pub mod Queues
pub mod QueueLaws
pub mod Maps

-- where the calls of a program stand
pub mod Shapes
-- the last reply of an answer
pub mod Lasts
-- one more reply
pub mod Appends
-- single replies of an answer
pub mod Readings
-- each reply of the lock manager is one that its call can have
pub mod Steps
-- each run of a program is told by an answer
pub mod NotedReplies

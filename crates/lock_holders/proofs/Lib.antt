-- lists of sessions with modes: the holders or the queue of one resource
pub mod SessionModes
-- holders in order of session number: places, and modes that fit
pub mod Rising
-- holders as two columns
pub mod Columns
-- the list of ended waits: places, and which sessions are listed
pub mod EndedList
-- the numbers of a range that pass a test
pub mod FilteredNumbers

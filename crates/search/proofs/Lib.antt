-- What the search promises
pub mod Theorems
pub mod Cases
-- its answers are right, and it ends
pub mod Scans
pub mod Counting
pub mod Sound
pub mod Ending
pub mod Values
-- the order of units changes nothing
pub mod Closure
pub mod Order
-- refutations
pub mod Refutations
-- the code's words, scan, memory and turns
pub mod Reading
pub mod BadWords
pub mod Scanning
pub mod Prefixes
pub mod Seeking
pub mod State
pub mod Steps
pub mod Branching
pub mod Running
pub mod Solving
-- and REFUTE's
pub mod Denying
pub mod Rounds
pub mod Refuting

-- In the order of reading.
pub mod Code
pub mod Step
pub mod Clauses
pub mod Solve
pub mod Refute
pub mod Verdict
pub mod Owners

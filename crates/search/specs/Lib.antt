-- In the order of reading.
pub mod Search
pub mod Answers
pub mod Solve
pub mod AnyOrder
pub mod Refutation
pub mod Memory

-- In the order of reading.
pub mod Verdict
pub mod Owners
pub mod Isolation
pub mod Answers
pub mod Claim
pub mod Cases
pub mod Table
pub mod Loop
pub mod OwnersLoop

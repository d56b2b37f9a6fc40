-- What must be believed, in the order of reading; then what inner functions are given and promise.
-- clauses, their meaning and their words
pub mod Literal
pub mod Meaning
pub mod Words
-- the formula (document 01, "The formula")
pub mod Gate
pub mod Circuit
pub mod Expression
pub mod Action
pub mod Formula
-- the calls (document 01, "Turned-back calls"; 19 of document 02, R-2), and the theorem
pub mod Limits
pub mod Admission
pub mod Size
pub mod Encode
pub mod Decode
pub mod Replies
pub mod Theorem
-- sizes by arithmetic
pub mod Cost
-- inner functions: the buffer, the literals of a state, encoders, sizes, DECODE's loops
pub mod Writing
pub mod Builders
pub mod FlatState
pub mod Encoders
pub mod FrameSizes
pub mod Ready
pub mod Chosen

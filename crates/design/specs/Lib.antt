-- What must be believed, in the order of reading; then what other layers and inner functions rely on.
-- the design file (document 01, "The design file")
pub mod Limits
pub mod Tree
pub mod State
pub mod Reading
pub mod Expression
pub mod Action
pub mod DesignFile
-- CHECK, and how calls answer (document 01, "Turned-back calls")
pub mod Refusal
pub mod Check
pub mod Answer
-- what an accepted file is made of
pub mod Sections
pub mod WellFormed
pub mod Places
pub mod Answers
-- given designs
pub mod DesignA
pub mod AllOperators
pub mod Constrained
pub mod Multiplied
pub mod Passing

-- What must be believed, in the order of reading; then what inner functions are given and promise.
-- the step rule (document 01, "One step"), with a property kept outside the design (document 02, R-4)
pub mod Limits
pub mod Pattern
pub mod Evaluation
pub mod Piece
pub mod Property
pub mod OneStep
-- the order of a cell's tests, and REPLAY's counts (document 02, R-3)
pub mod StatusEventGuard
-- lists that break a property
pub mod Breaking
-- both readings of an idle step (document 02, R-8)
pub mod Strict
-- the calls (document 01, "Turned-back calls")
pub mod Gate
pub mod Interface
pub mod Operations
-- every slot stays in its range
pub mod Ranges
-- inner functions
pub mod Accepted
pub mod Ready
pub mod Entries

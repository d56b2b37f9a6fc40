-- Laws of the definitions, in the order of reading.
-- lists that break a property, and sizes that grow with the bound
pub mod Breaking
pub mod Growing
pub mod Sized
-- what VERDICT says is so, with its witness: demand 3
pub mod Judging
pub mod Calls
pub mod Witness
pub mod Refuted
pub mod Strict
pub mod Theorem
-- the table of document 01's marked cases
pub mod Raised
pub mod Table
-- the loop over the bounds
pub mod Loop
pub mod Searching
pub mod AtBound
-- several owners: what VERDICT does not read, one owner, the loop over the owners, the call, and what an owner's answer depends on
pub mod Unread
pub mod OneOwner
pub mod OwnersLoop
pub mod OwnersCall
pub mod Isolation

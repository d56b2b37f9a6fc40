-- Laws of the definitions, in the order of reading.
-- bytes put into a buffer
pub mod Putting
-- the Replay program
pub mod Tracing
-- the clause-printing program
pub mod Parts

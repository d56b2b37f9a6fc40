-- Laws of the definitions, in the order of reading.
-- numbers
pub mod Signed
pub mod Patterns
pub mod Exact
-- expressions and statements over bytes
pub mod Accepted
pub mod Values
pub mod Runs
-- cells, choices and properties
pub mod Cells
pub mod Scanning
pub mod Pieces
pub mod Pairs
pub mod Choices
pub mod Properties
-- runs: the first breaking step, the counts, and ranges
pub mod Counts
pub mod Replays
pub mod Breaks
pub mod Longer
pub mod Marks
pub mod Ranges
-- both readings of an idle step
pub mod Striking
pub mod Strict
-- the calls
pub mod Looking
pub mod Gates
pub mod Answering
pub mod Entries
pub mod States

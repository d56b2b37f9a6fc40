-- Laws of the definitions, in the order of reading. The layers above cite Forward, Moved, Positions, WellFormed, Widths, Externals and Indexed.
-- readers of expressions and actions
pub mod Readers
pub mod Forward
pub mod Moved
-- the sections and items of a file, and CHECK's walk over them
pub mod Sections
pub mod Positions
pub mod Items
pub mod Cells
pub mod File
pub mod Told
pub mod Numbers
-- an accepted design is well formed
pub mod Widths
pub mod Trees
pub mod WellFormed
-- where the items of an accepted file stand, and the tables of positions
pub mod Places
pub mod Tables
pub mod Externals
pub mod Indexed

-- Laws of the definitions, in the order of reading. Theorem has the whole claim, which the layers above cite.
-- circuits equal arithmetic and evaluation
pub mod Gates
pub mod Correct
pub mod Arithmetic
pub mod Equality
pub mod Operands
pub mod Expressions
pub mod Actions
-- models and runs match one to one
pub mod Definitions
pub mod StateBits
pub mod Alike
pub mod Flags
pub mod Frames
pub mod Runs
pub mod Models
pub mod Within
pub mod Decoding
pub mod Theorem
pub mod Lists
pub mod Counting
-- numbers of gates, clauses and words, and their limits
pub mod Costs
pub mod SizeNumbers
pub mod Bytes
pub mod Bounds
pub mod Limits
pub mod Results
-- given designs
pub mod DesignA
pub mod Constrained
pub mod Multiplied
pub mod Passing
-- the code of SIZE
pub mod TextGates
pub mod GateCounts
pub mod ActionCounts
pub mod CellCounts
pub mod FrameCounts
pub mod FrameNumbers
pub mod Admissions
pub mod SizeCall
-- the code of DECODE
pub mod FlagChoices
pub mod DecodeCall
-- the code of ENCODE: words, builders, circuits
pub mod EmitWords
pub mod EmitBuilds
pub mod EmitLists
pub mod EmitCircuits
-- expressions, statements, cells and movers
pub mod EmitMarks
pub mod EmitSlots
pub mod EmitReads
pub mod EmitExpressions
pub mod EmitStates
pub mod EmitActions
pub mod EmitCells
pub mod EmitSteps
-- clauses, frames, parts, the whole formula
pub mod EmitClauses
pub mod EmitFrames
pub mod EmitParts
pub mod EmitRoom
pub mod EmitFormula
pub mod EncodeCall

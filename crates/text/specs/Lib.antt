-- In the order of reading.
pub mod Text
pub mod Line
pub mod Trace
pub mod Ready
pub mod Listing

-- DECODE
pub mod Coding

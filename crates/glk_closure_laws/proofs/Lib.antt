pub mod Clauses
mod GraphClauses
mod Steps
pub mod Facts

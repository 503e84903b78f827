mod Blocks
mod LineEnds
pub mod Bytewise
pub mod PrintableRuns
pub mod PieceLemmas

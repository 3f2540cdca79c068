pub mod Interleaving
pub mod InterleavingLaws
pub mod LaneFact
pub mod Machine
pub mod PairFact
pub mod Parts
pub mod WorldLaws
pub mod Worlds

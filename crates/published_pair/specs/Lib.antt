pub mod Notes
pub mod Rules
pub mod Pair
pub mod PairLaws

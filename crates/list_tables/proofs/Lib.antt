mod CellBoxes
mod Sums
mod MapRows
mod ValueCounts
mod PairRows
mod Verbs
mod OneMore

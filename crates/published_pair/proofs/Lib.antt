mod CopyPoints
mod Histories
mod LastLists
mod NoteRule
mod PairRule
mod Prefixes
mod StepLaws

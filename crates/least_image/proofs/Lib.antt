mod Moves
mod Children
mod Orders
mod Slots
mod Image

mod Shallow
mod Along
mod BytesRead
mod NextReplies
mod RunSums
mod TurnClaims
mod SessionTurns
mod Opened

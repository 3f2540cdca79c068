pub mod TwoFronts
pub mod LinesApart
pub mod EntryTexts
pub mod Turns
pub mod Journals
pub mod ReplyTexts
pub mod Fronts
pub mod Faults
pub mod OneVerdict
pub mod ReplyLines
pub mod JournalEntries
pub mod ReplyTests
pub mod ScriptLines
mod TextPieces
pub mod AuditTexts
mod Puts
mod Ends

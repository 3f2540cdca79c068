pub mod HeldLetters
mod MailboxRule

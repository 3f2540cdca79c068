pub mod Statuses

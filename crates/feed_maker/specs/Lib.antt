pub mod GeneratedFeed

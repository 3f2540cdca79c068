pub mod OneImage

pub mod Scenes
pub mod Announcing

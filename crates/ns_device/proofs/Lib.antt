pub mod Blocks
pub mod Undo
pub mod Created
pub mod Replies

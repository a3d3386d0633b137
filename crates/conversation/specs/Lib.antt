pub mod Replies
pub mod Conversations
pub mod Files

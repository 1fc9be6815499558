pub mod Joined
pub mod JoinedParts

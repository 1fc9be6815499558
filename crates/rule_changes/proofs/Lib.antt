pub mod AdvanceLists
pub mod AdvanceShaped
pub mod AdvanceJoined
mod AdvanceExamples
pub mod LatestLists
pub mod LatestKept
pub mod LatestJoined
pub mod LatestRoom
pub mod LimitsKept
pub mod SameLists
pub mod JoinedOnce

pub mod JoinedLists
pub mod JoinedRising
pub mod JoinedTimings
pub mod JoinedGrid
pub mod JoinedSteps
pub mod JoinedStops
pub mod JoinedShaped
pub mod JoinedWhole

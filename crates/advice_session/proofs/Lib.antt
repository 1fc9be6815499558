pub mod Lines
pub mod LimitLaws
pub mod Accepted
pub mod PlaceLaws
pub mod MoveLaws
pub mod CallLaws
pub mod TimingLaws
pub mod LatestLaws

pub mod NumbersRead
pub mod RouteHeading
pub mod RouteEntries
pub mod RouteCounts
pub mod RouteRules
pub mod RouteFaultless
pub mod RouteShaped
pub mod RouteWhole
mod RouteExamples

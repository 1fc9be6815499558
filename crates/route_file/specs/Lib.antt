pub mod Route
pub mod RouteParts

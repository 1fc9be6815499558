pub mod Phases
pub mod Timetable
pub mod Points

pub mod OneSchedule
pub mod SomeSchedule
pub mod Steps

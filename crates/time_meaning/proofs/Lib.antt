pub mod DatesOfDays

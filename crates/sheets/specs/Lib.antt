pub mod Finals
pub mod Histories
pub mod Lists
pub mod Pending
pub mod Rest
pub mod Shifts
pub mod Tallies
pub mod Totals

-- the numbers of a report
pub mod Reports
pub mod Accounts
pub mod Worked

pub mod Audits
pub mod Scripts
pub mod Inboxes
pub mod Lines
pub mod RuleRuns

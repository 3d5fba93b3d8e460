pub mod ReadEntries
pub mod Judgements
pub mod Framing
pub mod RuleUses
pub mod Known

pub mod SealedForm
pub mod Envelopes
pub mod RangeTests
pub mod SealedTest
pub mod Submission
pub mod Within

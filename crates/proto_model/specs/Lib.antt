pub mod Made
pub mod Notices
pub mod RequestedViews
pub mod SealedRequests

pub mod EntryLaws
pub mod DumpLaws
pub mod RoomLaws
pub mod Written

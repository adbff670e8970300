pub mod MarksLaws
pub mod RecordLaws

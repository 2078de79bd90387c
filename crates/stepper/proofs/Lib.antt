pub mod CopyLaws
pub mod RecordLaws

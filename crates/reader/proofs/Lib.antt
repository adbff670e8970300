pub mod BarLaws
pub mod MarkLaws
pub mod DiagnosticLaws
pub mod FieldLaws
pub mod ReadLaws

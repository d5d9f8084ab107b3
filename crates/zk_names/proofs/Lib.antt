pub mod AddLaws
pub mod BodyLaws
pub mod LineLaws
pub mod ScriptLaws

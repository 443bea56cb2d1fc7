pub mod MoveLaws
pub mod PrintedLaws
pub mod ScriptLaws
pub mod ScriptTests

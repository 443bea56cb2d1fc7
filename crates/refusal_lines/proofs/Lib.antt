pub mod KeyLines
pub mod PrintedLines

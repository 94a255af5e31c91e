-- Words of the laws.
pub mod EndBlocks
pub mod FilledLine
pub mod GeometryFields
pub mod LineBlocks
pub mod StartBlocks
pub mod StopLog
pub mod ScriptLines

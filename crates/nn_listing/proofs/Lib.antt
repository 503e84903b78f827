pub mod KeyTexts
pub mod SaidIds
pub mod TableLines
pub mod Pieces
pub mod Lives
pub mod Summaries

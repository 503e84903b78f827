mod Numbers
mod PlainBlocks
pub mod PlainNames
mod PlainPaths
pub mod PutNames

pub mod Options
pub mod OptionsRows
pub mod Program
pub mod ProgramRows

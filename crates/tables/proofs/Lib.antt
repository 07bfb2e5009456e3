mod NoteLaws
mod RowLaws
mod Samples
mod TableLaws

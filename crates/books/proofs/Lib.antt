pub mod Conjunctions
pub mod OwingLaws
pub mod PairLaws
pub mod QuestionLaws
mod Samples
pub mod TwoLaws

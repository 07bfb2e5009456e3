mod GapLaws
mod Samples

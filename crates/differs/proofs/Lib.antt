mod DifferLaws
mod Samples

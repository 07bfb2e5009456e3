mod ClosingLaws
mod LineLaws
mod OpeningLaws
mod SceneLaws
mod TaleLaws

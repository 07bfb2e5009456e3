-- A sheet by plain values: its book, and what the record of it comes to. Assumes nothing.
use Rattle.record.specs.State.{State}

pub record Seen (B : Type 0) : Type 0 where
  pub book : B
  pub state : State

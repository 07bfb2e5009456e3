use Rattle.std.proofs.Common.{◌≡◌, ℕ, ◌+◌, ◌-◌, ◌<◌, length}
use Rattle.record.specs.View.{view}
use Rattle.sheet.specs.Settle.{rounds}
use Rattle.sheet.proofs.sheet.Sheet.settle.Given as goal

-- some rounds are left that come to the same, and they are enough
abbrev pub invariant-rounds : goal.invariant-rounds
invariant-rounds g l =
    let b = g.B.Book.model l.self-inside.book.now in
    let why = g.B.ReasoningBook.reasons l.self-inside.book.now in
    (l.self-inside.book ≡ l.initial.self-inside.book)
    × ((n : ℕ) × (512 < n + length (view l.self-inside.state).log) × (rounds b why n (view l.self-inside.state) ≡ rounds b why 513 (view l.initial.self-inside.state)))

abbrev pub decreases-rounds : goal.decreases-rounds
decreases-rounds g l = 512 - length (view l.self-inside.state).log

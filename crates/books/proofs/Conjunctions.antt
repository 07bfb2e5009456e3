-- A conjunction, test by test. Assumes nothing.
use Rattle.std.proofs.Common.{◌≡◌, Bool, true, false, ◌&&◌, sym, refl}
use Rattle.std.proofs.lemmas.Bool.{true≢false}

-- the first test fails
pub fails : (a b : Bool) → a ≡ false → false ≡ (a && b)
fails true b e = absurd (true≢false e)
fails false b e = refl

-- it holds, and the rest decides
pub holds : (a b r : Bool) → a ≡ true → r ≡ b → r ≡ (a && b)
holds true b r e f = f
holds false b r e f = absurd (true≢false (sym e))

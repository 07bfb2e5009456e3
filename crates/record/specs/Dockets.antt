-- Problems as they are made. Assumes nothing.
use Rattle.std.specs.Prelude.{◌≡◌, ℕ, ◌-◌, List, ◌++◌, length, replicate, Some, None, slice_set}
use Rattle.record.specs.declared.docket.Docket.{Docket}

pub record Unpicked (given : List ℕ) (d : Docket) : Type 0 where
  pub count : d.count ≡ length given
  pub sizes : d.sizes ≡ given ++ replicate (16 - length given) 0
  pub picks : d.picks ≡ replicate 16 None
  pub placed : d.placed ≡ 0

pub record WithPick (old : Docket) (q o : ℕ) (d : Docket) : Type 0 where
  pub count : d.count ≡ old.count
  pub sizes : d.sizes ≡ old.sizes
  pub picks : d.picks ≡ slice_set old.picks q (Some o)
  pub placed : d.placed ≡ old.placed

-- What a call says: nothing where it is granted, else the refusal that is tested first. Assumes nothing.
use Rattle.std.specs.Prelude.{Bool, true, false, Some, None, Option}
pub use Rattle.terms.specs.Refusals.{told}
use Rattle.terms.specs.declared.refusal.Refusal.{Refusal}

-- refuse where the test holds, else go on to the next test
abbrev pub refuse : Bool → Refusal → Option Refusal → Option Refusal
refuse true e next = Some e
refuse false e next = next

-- a denied call leaves what was there
abbrev pub unless : {A : Type 0} → Option Refusal → A → A → A
unless None old new = new
unless (Some e) old new = old

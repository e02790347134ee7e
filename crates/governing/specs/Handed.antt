-- The slice that is handed back of two lent ones. Document 01, "Answer list".
use Rattle.std.specs.Prelude.{ℕ, ◌≡◌, Option, Some, None, List, []}
use Rattle.std.specs.Borrow.{Bor}
use Rattle.governing.specs.declared.Governs.{Governs}
use Rattle.governing.specs.declared.Governs.TheVariants.{First, Second}

-- the caller's own; where neither governs, an empty part of the first, which begins where the first does
abbrev pub Handed : Option Governs → Bor (List ℕ) → Bor (List ℕ) → Bor (List ℕ) → Type 0
Handed None first second r = (r.now ≡ []) × (r.ref_ptr ≡ first.ref_ptr)
Handed (Some First) first second r = r ≡ first
Handed (Some Second) first second r = r ≡ second

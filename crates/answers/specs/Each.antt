-- A list made of a part for each index.
use Rattle.std.specs.Prelude.{ℕ, zero, suc, List, [], ◌++◌}

-- F of each index from k on, n of them, one after the other
unfoldable pub each : (ℕ → List ℕ) → ℕ → ℕ → List ℕ
each F k zero = []
each F k (suc n) = F k ++ each F (suc k) n

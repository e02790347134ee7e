-- The headroom: 0 where the sixth record ends the sheet, and what the seventh holds otherwise. Past a sheet's end numbers read as 0, so that both
-- are what is read behind the sixth record.
use Prim.Native.Nat.{ℕ, ◌+◌}
use mathlib.Core.List.{List}
use mathlib.Core.Logic.{⊎_elim}
use mathlib.Core.Path.{◌≡◌, refl, sym, ◌∙◌}
use native.Mathlib.Omega.{arith}
use lib.ListN.{length}
use Rattle.records.specs.Format.{u32, record_place, payload, record_count}
use Rattle.records.proofs.Records.{record_counts, six_records}
use Rattle.records.proofs.Alike.{past_end}
use Rattle.description.specs.Silo.{headroom_of}

module _ (s : List ℕ) where
  -- a sheet of six records means 0
  pub six_level : record_place s 6 ≡ length s → headroom_of s ≡ 0
  unfolding headroom_of
  six_level e = rw (six_records s e) refl

  pub seventh_headroom : record_count s ≡ 7 → headroom_of s ≡ u32 s (payload s 6)
  unfolding headroom_of
  seventh_headroom e = rw e refl

  pub headroom_read : headroom_of s ≡ u32 s (payload s 6)
  unfolding payload
  headroom_read = ⊎_elim (λ e. six_level e.0 ∙ sym (past_end s (record_place s 6 + 4) (omega (arith, e.0)))) seventh_headroom (record_counts s)

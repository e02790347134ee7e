-- The three parts one after the other are the answer list; and what each part asks holds of an accepted sheet, of the wall read
-- from it and of the basis made from it.
-- Assumes nothing.
use Prim.Native.Nat.{ℕ, ◌+◌, ◌*◌, ◌≤◌, ◌<◌}
use mathlib.Core.Path.{◌≡◌, refl, ap, sym, ◌∙◌, subst}
use mathlib.Core.List.{List, ◌++◌}
use native.Mathlib.Omega.{arith}
use lib.ListN.{length, take}
use Rattle.std.specs.Prelude.{max}
use Rattle.records.specs.Format.{u32, payload}
use Rattle.records.proofs.Numbers.{numbers_at}
use Rattle.description.specs.Silo.{product_of, strakes_of, strake_count, depths_of, depth_count, sum, V_of}
use Rattle.description.specs.declared.Described.{Described}
use Rattle.description.specs.program.Described.{product_read, wall_of, described_of}
use Rattle.description.proofs.Walls.{wall_counted, wall_fits}
use Rattle.sheet.specs.Refusal.{refusal_of}
use Rattle.records.proofs.Records.{six_least}
use Rattle.sheet.proofs.Acceptance.{accepted}
use Rattle.sheet.proofs.Described.{V_most}
use Rattle.loads.specs.declared.Silo.{Silo}
use Rattle.loads.specs.program.Basis.{Reached, Fits}
use Rattle.answers.specs.Length.{length_due}
use Rattle.answers.specs.Answers.{silo_of, depth}
use Rattle.answers.specs.program.Fill.{depths_part, bottom_part, strakes_part, answers}
use Rattle.answers.proofs.Demand.{silo_fits, reached}

module _ (s : List ℕ) where
  -- the list has room for its parts
  pub room : (n : ℕ) → n ≡ length_due s → n ≡ 8 * depth_count s + 10 + strake_count s
  unfolding length_due
  room n e = e

  -- the three parts
  pub whole_list : {columns bottom strakes : List ℕ} → columns ≡ depths_part s → bottom ≡ bottom_part s → strakes ≡ strakes_part s
      → columns ++ (bottom ++ strakes) ≡ answers s
  unfolding answers
  whole_list e₁ e₂ e₃ = rw (e₁, e₂, e₃) refl

  -- the silo described, as its loads see it, is the sheet's
  abbrev silo_in : Described → Silo
  silo_in d =
      record {
        section = d.section;
        product = product_read d.product;
        eccentricity = max d.eccentricities.inlet d.eccentricities.outlet;
        height = d.bottom.height;
        run = d.bottom.run;
        foot = d.wall.foot;
        headroom = d.headroom;
      }

  pub silo_described : (d : Described) → d ≡ described_of s → silo_in d ≡ silo_of s
  unfolding product_of wall_of
  silo_described d e = ap silo_in e

  pub fits_described : (d : Described) → d ≡ described_of s → refusal_of s ≡ 0 → Fits (silo_in d)
  fits_described d e h = subst Fits (sym (silo_described d e)) (silo_fits s (accepted s h).measured)

  -- the depth i is read at its place
  pub depth_read : (i at : ℕ) → i < depth_count s → at ≡ payload s 5 + 4 * i → u32 s at ≡ depth s i
  unfolding depths_of
  depth_read i at h e = ap (u32 s) e ∙ sym (numbers_at (u32 s) 4 (payload s 5) (depth_count s) i h)

  module _ (h : refusal_of s ≡ 0) where
    pub strakes_few : strake_count s ≤ 24
    strakes_few = (accepted s h).measured.layout.strakes_few

    -- the depths begin inside the sheet, and are few
    pub depths_near : (payload s 5 ≤ 1024) × (depth_count s ≤ 200)
    unfolding payload
    depths_near =
        let l = (accepted s h).measured.layout in
        (omega (arith, l.present 5 (omega (arith, six_least s)), l.size), l.depths_few)

    -- the wall of the silo described: its places, its strakes and its foot
    pub described_wall : (d : Described) → d ≡ described_of s
        → (d.wall.count ≡ strake_count s) × (length d.wall.heights ≡ 24) × (take d.wall.count d.wall.heights ≡ strakes_of s)
    described_wall d e =
        subst
        (λ (d : Described). (d.wall.count ≡ strake_count s) × (length d.wall.heights ≡ 24) × (take d.wall.count d.wall.heights ≡ strakes_of s))
        (sym e) (wall_counted s, (wall_fits s strakes_few).0, (wall_fits s strakes_few).1)

    pub wall_reached : Reached (silo_of s) (sum (strakes_of s)) × (sum (strakes_of s) < 4294967296)
    unfolding V_of
    wall_reached = (reached s (accepted s h).measured (V_of s) (omega arith), omega (arith, V_most s (accepted s h).measured))

-- The program divides by 20·(H² + r²) what the definition divides by 40·(H² + r²)².
use Prim.Native.Nat.{ℕ, ◌+◌, ◌*◌, ◌≤◌, ◌<◌, ◌^◌}
use mathlib.Core.Path.{◌≡◌, ◌∙◌, ap}
use native.Mathlib.Omega.{arith}
use Rattle.fraction.specs.Fraction.{◌⊘◌, up}
use Rattle.hopper.specs.Hopper.{P_n}
use Rattle.hopper.proofs.Hopper.{P_n_divided, P_n_range}
use Rattle.hopper.proofs.Slope.normal.Goals as goal

-- the sum, and its range
answer : (height run k filling vertical rise across load : ℕ) → 0 < run → k ≤ 4 → filling ≤ 10350000 → vertical < 2 ^ 25 →
    rise ≡ height * height → across ≡ run * run → load ≡ up ((vertical * (24 * across + 5 * k * rise)) ⊘ (20 * (rise + across))) →
    (filling + load ≡ P_n height run k filling vertical) × (filling + load ≤ 2 ^ 26)
answer height run k filling vertical rise across load hr hk hf hv e f h =
    let same = ap (λ (x : ℕ). filling + x) h ∙ P_n_divided height run k filling vertical rise across e f hr in
    let range = P_n_range height run k filling vertical hr hk hf hv in
    (same, omega arith)

pub overflow_add-result : goal.overflow_add-result
overflow_add-result c =
    let r = c.requires in
    omega (arith, answer _ _ _ _ _ _ _ _ c.args.self.run_least r.0 r.1 r.2 c.square-rise.ensures.0 c.square-across.ensures.0 c.quotient_up-load.ensures)

pub overflow_cast-result : goal.overflow_cast-result
overflow_cast-result c =
    let r = c.requires in
    omega (arith, answer _ _ _ _ _ _ _ _ c.args.self.run_least r.0 r.1 r.2 c.square-rise.ensures.0 c.square-across.ensures.0 c.quotient_up-load.ensures)

pub returns : goal.returns
returns c =
    let r = c.requires in
    answer _ _ _ _ _ _ _ _ c.args.self.run_least r.0 r.1 r.2 c.square-rise.ensures.0 c.square-across.ensures.0 c.quotient_up-load.ensures

-- The number divided is n·factor²; it is at most 2,587,500·25,000²·d.
use Prim.Native.Nat.{ℕ, ◌+◌, ◌*◌}
use mathlib.Core.Path.{◌≡◌, ◌∙◌}
use native.Mathlib.Omega.{arith}
use native.Mathlib.Nat.{mul-le-mul, mul_assoc}
use Rattle.fraction.specs.Fraction.{◌⊘◌, up}
use Rattle.fraction.proofs.Up.{up_le}
use Rattle.hopper.proofs.squared_up.Goals as goal

-- from the three quotients, whole, rest and divisor of each
number : (n d factor w r e w' r' e' w'' r'' e'' : ℕ) → w * d + r ≡ n → e ≡ d → w' * e + r' ≡ (w * e + r) * factor → e' ≡ e →
    w'' * e' + r'' ≡ (w' * e' + r') * factor → e'' ≡ e' → up ((w'' * e'' + r'') ⊘ e'') ≡ up ((n * (factor * factor)) ⊘ d)
number n d factor w r e w' r' e' w'' r'' e'' a b h k l m = cc (mul_assoc n factor factor)

pub rounded_up-requires : goal.rounded_up-requires
rounded_up-requires c =
    let a = c.args in
    let p = c.requires in
    let e = number a.n a.d a.factor _ _ _ _ _ _ _ _ _ c.of.ensures.0 c.of.ensures.1 c.times.ensures.0 c.times.ensures.1 c.times-2.ensures.0 c.times-2.ensures.1 in
    omega (arith, e, up_le (a.n * (a.factor * a.factor)) a.d (2587500 * 625000000) p.0 (omega (arith, mul-le-mul p.2 (mul-le-mul p.3 p.3))))

pub returns : goal.returns
returns c =
    let a = c.args in
    c.rounded_up.ensures
    ∙ number a.n a.d a.factor _ _ _ _ _ _ _ _ _ c.of.ensures.0 c.of.ensures.1 c.times.ensures.0 c.times.ensures.1 c.times-2.ensures.0 c.times-2.ensures.1

-- Each refusal has a number, and none is 0: an answer that is not 0 is that of a refusal.
use mathlib.Core.Path.{◌≡◌}
use native.Mathlib.Omega.{arith}
use Rattle.records.specs.Refusal.{number}
use Rattle.records.specs.declared.refusal.Refusal.{Refusal}
use Rattle.records.specs.declared.refusal.Refusal.TheVariants.{SheetTooLong, RecordCutShort, KindNotDue, PayloadLength, BytesLeftOver, Sides, Product, Eccentricity, Bottom, Strake, Depth, TooTall, ListLength, NoSuchMaterial, RecordLength, Headroom, PageRoom, NotCircular, Proportion, Pressures, DepthsLength}

pub no_zero : (e : Refusal) → number e ≡ 0 → ⊥
no_zero SheetTooLong h = omega arith
no_zero RecordCutShort h = omega arith
no_zero KindNotDue h = omega arith
no_zero PayloadLength h = omega arith
no_zero BytesLeftOver h = omega arith
no_zero Sides h = omega arith
no_zero Product h = omega arith
no_zero Eccentricity h = omega arith
no_zero Bottom h = omega arith
no_zero Strake h = omega arith
no_zero Depth h = omega arith
no_zero TooTall h = omega arith
no_zero ListLength h = omega arith
no_zero NoSuchMaterial h = omega arith
no_zero RecordLength h = omega arith
no_zero Headroom h = omega arith
no_zero PageRoom h = omega arith
no_zero NotCircular h = omega arith
no_zero Proportion h = omega arith
no_zero Pressures h = omega arith
no_zero DepthsLength h = omega arith

-- What demand 3 says of the numbers in the lists, for any filling numbers f that meet it.
--     depths_hold, strakes_hold, zeros   every number listed keeps its band or allowance, and nine zeros stand behind a flat floor
--     judged, strakes_judged           by the depth below the grain's surface: every load but z itself, and p_he beside the strakes' numbers
--     down, strakes_down               from one listed depth to a later one, and from one strake to a lower one, no number falls
--     further_down, strakes_further_down   so a place further down, by z, never has the smaller number
--     lists_ordered                    between two lists left for sheets with the same section and product, whatever their headrooms: the filling loads
-- Each number is that of a load at a depth (`Filled`), and the claim orders those.
-- Assumes nothing.
use Prim.Native.Nat.{ℕ, zero, suc, ◌+◌, ◌-◌, ◌≤◌, ◌<◌}
use mathlib.Core.Path.{◌≡◌, refl, ap, sym, subst, ◌∙◌}
use mathlib.Core.Logic.{◌⊎◌, inl, inr, ⊎_elim}
use mathlib.Core.List.{List}
use native.Mathlib.Nat.{add-zero, add-suc, le_antisymm}
use native.Mathlib.Omega.{arith}
use lib.ListN.{get_or, get_or-replicate}
use Rattle.janssen.specs.Filling.{grain_of}
use Rattle.janssen.specs.Filling.Kind.{horizontal, vertical, wall_friction}
use Rattle.janssen.specs.Numbers.{FillingNumbers}
use Rattle.description.specs.Silo.{depth_count, strake_count, strakes_of, edge_of, V_of, headroom_of}
use Rattle.description.proofs.Sums.{sum_under}
use Rattle.sheet.specs.Refusal.{refusal_of}
use Rattle.sheet.specs.Accepted.{Measured}
use Rattle.sheet.proofs.Acceptance.{accepted}
use Rattle.sheet.proofs.Described.{edge_most}
use Rattle.loads.specs.declared.Silo.{Silo}
use Rattle.loads.specs.Load.{Load}
use Rattle.loads.specs.Load.{FillingLoad, load_depth, load_number}
use Rattle.loads.specs.Load.Load.{listed_depth, p_hf, p_wf, p_vf, P_w, p_he, p_we, p_p}
use Rattle.loads.specs.Load.FillingLoad.{of_p_hf, of_p_wf, of_p_vf, of_P_w}
use Rattle.loads.specs.Holds.{Holds}
use Rattle.loads.proofs.LoadLaws.{bottom_flat, load_depth_rises}
use Rattle.answers.specs.Answers.{silo_of, depth, bottom_in, strake_in}
use Rattle.answers.specs.Claim.{SameSectionAndProduct, Claim}
use Rattle.answers.specs.Order.{rank, load_in, LeftFor, Ordered}
use Rattle.answers.proofs.Places.{at_load}
use Rattle.answers.proofs.Demand.{section_equal, product_equal}

ordered_by : {x y n m : ℕ} → (x ≤ y → n ≤ m) → (y ≤ x → m ≤ n) → Ordered x y n m
ordered_by up back = record { rises = up; falls = back; same = λ e. le_antisymm (up (omega arith)) (back (omega arith)) }

-- z itself, or another load
which : (l : Load) → (l ≡ listed_depth) ⊎ (l ≡ listed_depth → ⊥)
which listed_depth = inl refl
which p_hf = inr (λ e. omega (arith, ap rank e))
which p_wf = inr (λ e. omega (arith, ap rank e))
which p_vf = inr (λ e. omega (arith, ap rank e))
which P_w = inr (λ e. omega (arith, ap rank e))
which p_he = inr (λ e. omega (arith, ap rank e))
which p_we = inr (λ e. omega (arith, ap rank e))
which p_p = inr (λ e. omega (arith, ap rank e))

pub p_he_load : p_he ≡ listed_depth → ⊥
p_he_load e = omega (arith, ap rank e)

module _ (s : List ℕ) (a : Measured s) where
  -- the listed depths rise
  depths_rise : (i n : ℕ) → i + n < depth_count s → depth s i ≤ depth s (i + n)
  depths_rise i zero h = rw add-zero (omega arith)
  depths_rise i (suc n) h = rw add-suc (omega (arith, depths_rise i n (omega arith), a.depths_rise (i + n) (omega arith)))

  depths_down : (i j : ℕ) → i ≤ j → j < depth_count s → depth s i ≤ depth s j
  depths_down i j h g =
      let e : i + (j - i) ≡ j = omega arith in
      subst (λ (x : ℕ). depth s i ≤ depth s x) e (depths_rise i (j - i) (omega arith))

edges_down : (s : List ℕ) (k m : ℕ) → k ≤ m → edge_of s k ≤ edge_of s m
unfolding edge_of
edges_down s k m h = sum_under (strakes_of s) k m h

module _ (f : FillingNumbers) (s list : List ℕ) (h : refusal_of s ≡ 0) (claim : Claim f s list) where
  abbrev c : Silo
  c = silo_of s

  depth_under : (i : ℕ) → i < depth_count s → depth s i ≤ V_of s
  depth_under i g = (accepted s h).measured.depths_most i g

  pub depths_hold : (l : Load) (i : ℕ) → i < depth_count s → Holds c l (depth s i) (load_in s list l i)
  depths_hold l i g = subst (Holds c l (depth s i)) (sym (at_load claim.filled l i g)) (claim.holds l (depth s i) (depth_under i g))

  pub strakes_hold : (k : ℕ) → k < strake_count s → Holds c p_he (edge_of s (suc k)) (strake_in s list k)
  strakes_hold k g =
      subst (Holds c p_he (edge_of s (suc k))) (sym (claim.filled.at_strakes k g)) (claim.holds p_he (edge_of s (suc k)) (edge_most s (suc k)))

  pub zeros : c.run ≡ 0 → (k : ℕ) → k < 9 → bottom_in s list (suc k) ≡ 0
  zeros e k g =
      claim.filled.at_bottom (suc k) (omega arith) ∙ ap (λ (l : List ℕ). get_or l (suc k) 0) (bottom_flat f c e) ∙ get_or-replicate {A = ℕ} 9 k 0 0 g

  pub judged : (l : Load) → (l ≡ listed_depth → ⊥) → (i j : ℕ) → i < depth_count s → j < depth_count s
      → Ordered (load_depth c (depth s i)) (load_depth c (depth s j)) (load_in s list l i) (load_in s list l j)
  judged l o i j g n =
      rw (at_load claim.filled l i g, at_load claim.filled l j n)
      (ordered_by (claim.down l o (depth s i) (depth s j) (depth_under j n)) (claim.down l o (depth s j) (depth s i) (depth_under i g)))

  pub strakes_judged : (i k : ℕ) → i < depth_count s → k < strake_count s
      → Ordered (load_depth c (depth s i)) (load_depth c (edge_of s (suc k))) (load_in s list p_he i) (strake_in s list k)
  strakes_judged i k g n =
      rw (at_load claim.filled p_he i g, claim.filled.at_strakes k n)
      (ordered_by (claim.down p_he p_he_load (depth s i) (edge_of s (suc k)) (edge_most s (suc k)))
      (claim.down p_he p_he_load (edge_of s (suc k)) (depth s i) (depth_under i g)))

  pub further_down : (l : Load) (i j : ℕ) → i < depth_count s → j < depth_count s → depth s i ≤ depth s j → load_in s list l i ≤ load_in s list l j
  further_down l i j g n u =
      ⊎_elim
      (λ e. subst (λ (x : Load). load_in s list x i ≤ load_in s list x j) (sym e)
      (rw (at_load claim.filled listed_depth i g, at_load claim.filled listed_depth j n) u))
      (λ o. (judged l o i j g n).rises (load_depth_rises c (depth s i) (depth s j) u)) (which l)

  pub down : (l : Load) (i j : ℕ) → i ≤ j → j < depth_count s → load_in s list l i ≤ load_in s list l j
  down l i j u n = further_down l i j (omega arith) n (depths_down s (accepted s h).measured i j u n)

  pub strakes_down : (k m : ℕ) → k ≤ m → m < strake_count s → strake_in s list k ≤ strake_in s list m
  strakes_down k m u n =
      rw (claim.filled.at_strakes k (omega arith), claim.filled.at_strakes m n)
      (claim.down p_he p_he_load (edge_of s (suc k)) (edge_of s (suc m)) (edge_most s (suc m))
      (load_depth_rises c (edge_of s (suc k)) (edge_of s (suc m)) (edges_down s (suc k) (suc m) (omega arith))))

  pub strakes_further_down : (i k : ℕ) → i < depth_count s → k < strake_count s
      → Ordered (depth s i) (edge_of s (suc k)) (load_in s list p_he i) (strake_in s list k)
  strakes_further_down i k g n =
      let o = strakes_judged i k g n in
      ordered_by (λ u. o.rises (load_depth_rises c (depth s i) (edge_of s (suc k)) u)) (λ u. o.falls (load_depth_rises c (edge_of s (suc k)) (depth s i) u))

-- a filling load in two silos with the same section and product, at one depth below the surface
same_number : (f : FillingNumbers) {l : Load} → FillingLoad l → (c c' : Silo) → c.section ≡ c'.section → c.product ≡ c'.product → (z z' : ℕ)
    → load_depth c z ≡ load_depth c' z' → load_number f c l z ≡ load_number f c' l z'
same_number f of_p_hf c c' es ep z z' e = λ i. f.filling_at horizontal (es i) (grain_of (ep i)) (e i)
same_number f of_p_wf c c' es ep z z' e = λ i. f.filling_at wall_friction (es i) (grain_of (ep i)) (e i)
same_number f of_p_vf c c' es ep z z' e = λ i. f.filling_at vertical (es i) (grain_of (ep i)) (e i)
same_number f of_P_w c c' es ep z z' e = λ i. f.wall_load_at (es i) (grain_of (ep i)) (e i)

not_listed : {l : Load} → FillingLoad l → l ≡ listed_depth → ⊥
not_listed of_p_hf e = omega (arith, ap rank e)
not_listed of_p_wf e = omega (arith, ap rank e)
not_listed of_p_vf e = omega (arith, ap rank e)
not_listed of_P_w e = omega (arith, ap rank e)

-- two lists: a depth of the other sheet is one of this silo, as deep below the surface
module _ (f : FillingNumbers) (s s' list list' : List ℕ) (h : refusal_of s ≡ 0) (claim : Claim f s list) (left : LeftFor f s' list') (same : SameSectionAndProduct s s') where
  back : (l : Load) → FillingLoad l → (z z' : ℕ) → z ≤ V_of s → load_depth (silo_of s') z' ≤ load_depth (silo_of s) z
      → load_number f (silo_of s') l z' ≤ load_number f (silo_of s) l z
  unfolding load_depth
  back l o z z' under u =
      let a = (accepted s h).measured in
      let a' = (accepted s' left.accepted).measured in
      let y : ℕ = load_depth (silo_of s') z' + headroom_of s in
      let e = same_number f o (silo_of s) (silo_of s') (section_equal s s' a a' same) (product_equal s s' a a' same) y z' (omega arith) in
      omega (arith, e, claim.down l (not_listed o) y z under (omega (arith, u)))

  pub lists_ordered : (l : Load) → FillingLoad l → (i j : ℕ) → i < depth_count s → j < depth_count s'
      → Ordered (load_depth (silo_of s) (depth s i)) (load_depth (silo_of s') (depth s' j)) (load_in s list l i) (load_in s' list' l j)
  lists_ordered l o i j g n =
      rw (at_load claim.filled l i g, at_load left.filled l j n)
      (ordered_by (claim.ordered s' left.accepted same l o (depth s i) (depth s' j) ((accepted s' left.accepted).measured.depths_most j n))
      (back l o (depth s i) (depth s' j) ((accepted s h).measured.depths_most i g)))

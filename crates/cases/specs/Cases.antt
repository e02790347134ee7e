-- Document 01, "Cases": those marked (m), as one statement; of document 02 those of C-11, C-13, C-14
-- and C-17. A circle of 5,000, γ 9,000, Ks 50, depths 0 and 5,000.
use Rattle.std.specs.Prelude.{ℕ, List, [], ◌∷◌, ◌++◌, ◌⊎◌, true, false, ◌≡◌, take, Ok}
use Rattle.fraction.specs.Fraction.{whole, ◌⪯◌}
use Rattle.janssen.specs.Section.{d_c}
use Rattle.janssen.specs.declared.Section.TheVariants.{Circle}
use Rattle.janssen.specs.declared.Product.{Product}
use Rattle.janssen.specs.Filling.{grain_of, P}
use Rattle.janssen.specs.Filling.Kind.{horizontal}
use Rattle.janssen.specs.Numbers.{FillingNumbers}
use Rattle.records.specs.Rules.{first_unmet}
use Rattle.records.specs.Format.{two_bytes, four_bytes, record_bytes, layout_rules}
use Rattle.description.specs.Silo.{section_of, product_of, h_of}
use Rattle.loads.specs.declared.Silo.{Silo}
use Rattle.loads.specs.Load.{Load}
use Rattle.loads.specs.Load.{load_number}
use Rattle.loads.specs.Load.Load.{listed_depth, p_hf, p_wf, p_vf, P_w, p_he, p_we, p_p}
use Rattle.loads.specs.Holds.{Holds}
use Rattle.sheet.specs.Refusal.{value_rules, refusal_of}
use Rattle.answers.specs.Length.{answers_length}
use Rattle.answers.specs.Answers.{silo_of}
use Rattle.answers.specs.Promise.{Promise}

-- a payload of strakes
abbrev pub heights : List ℕ → List ℕ
heights [] = []
heights (x ∷ l) = two_bytes x ++ heights l

-- the records behind the section, with μ, C0, e_i, e_o, H, r and the strakes given
unfoldable pub behind_section : ℕ → ℕ → ℕ → ℕ → ℕ → ℕ → List ℕ → List ℕ
behind_section friction factor inlet outlet H r strakes =
    record_bytes 3 (four_bytes 9000 ++ two_bytes 50 ++ two_bytes friction ++ two_bytes factor)
    ++ record_bytes 4 (four_bytes inlet ++ four_bytes outlet)
    ++ record_bytes 5 (four_bytes H ++ four_bytes r)
    ++ record_bytes 6 (heights strakes)
    ++ record_bytes 7 (four_bytes 0 ++ four_bytes 5000)

unfoldable pub case_sheet : ℕ → ℕ → ℕ → ℕ → ℕ → ℕ → List ℕ → List ℕ
case_sheet friction factor inlet outlet H r strakes = record_bytes 1 (four_bytes 5000) ++ behind_section friction factor inlet outlet H r strakes

-- five strakes of 2,000
abbrev pub five : List ℕ
five = 2000 ∷ 2000 ∷ 2000 ∷ 2000 ∷ 2000 ∷ []

-- the sheet of the cases over a rectangle in the circle's place
unfoldable pub rectangle_sheet : ℕ → ℕ → List ℕ
rectangle_sheet a b = record_bytes 2 (four_bytes a ++ four_bytes b) ++ behind_section 40 140 0 0 0 0 five

-- the sheet of the cases with another C0
abbrev pub factor_sheet : ℕ → List ℕ
factor_sheet C0 = case_sheet 40 C0 0 0 0 0 five

-- the sheet of the cases with bytes behind its sixth record
abbrev pub followed_by : List ℕ → List ℕ
followed_by t = factor_sheet 140 ++ t

-- a sheet of that h with d_c = 5,000 that no rule before 12 refuses: 1 to 5 on its records, and the first eight on its values
pub record OfHeight (h : ℕ) (s : List ℕ) : Type 0 where
  pub before : first_unmet (layout_rules s ++ take 8 (value_rules false true s)) ≡ 0
  pub width : d_c (section_of s) ≡ 5000
  pub height : h_of s ≡ h

-- what every sheet of that h gets; some strakes make up that h
pub record HeightGives (h answer : ℕ) : Type 0 where
  pub every : (s : List ℕ) → OfHeight h s → refusal_of s ≡ answer
  pub some : (strakes : List ℕ) × OfHeight h (case_sheet 40 140 0 0 0 0 strakes)

-- γ 9,000, Ks 50, μ 40, C0 140
abbrev pub case_product : Product
case_product = record { weight = 9000; ratio = 50; friction = 40; factor = 140 }

-- the silo of the cases, e 0 and flat, its foot at 10,000
abbrev pub case_silo : Silo
case_silo = record { section = Circle 5000; product = case_product; eccentricity = 0; height = 0; run = 0; foot = 10000; headroom = 0 }

-- at 5,000: z, p_hf, p_wf, p_vf, P_w, p_he, p_we, p_p
abbrev pub middle_number : Load → ℕ
middle_number listed_depth = 5000
middle_number p_hf = 17597
middle_number p_wf = 7345
middle_number p_vf = 33119
middle_number P_w = 21541
middle_number p_he = 24636
middle_number p_we = 8080
middle_number p_p = 4928

-- f and t name the filling pressures, P_w and their table, as in the load call's promise
pub record Marked (f : List ℕ → FillingNumbers) (t : List ℕ) : Type 0 where
  -- the silo that the sheet of the cases describes
  pub described : silo_of (factor_sheet 140) ≡ case_silo
  -- P for p_hf is 31,250
  pub deep_limit : (P horizontal (Circle 5000) (grain_of case_product) ⪯ whole 31250) × (whole 31250 ⪯ P horizontal (Circle 5000) (grain_of case_product))
  -- z = 0 gives 0
  pub surface : (l : Load) → load_number (f t) case_silo l 0 ≡ 0
  -- z = 5,000, any number inside its band: p_hf 17,597 or 17,598; p_wf 7,345 or 7,346; p_vf 33,119 or 33,120; P_w 21,541 or 21,542
  pub horizontal_pair : (p : ℕ) → Holds case_silo p_hf 5000 p → (p ≡ 17597) ⊎ (p ≡ 17598)
  pub friction_pair : (p : ℕ) → Holds case_silo p_wf 5000 p → (p ≡ 7345) ⊎ (p ≡ 7346)
  pub vertical_pair : (p : ℕ) → Holds case_silo p_vf 5000 p → (p ≡ 33119) ⊎ (p ≡ 33120)
  pub wall_load_pair : (w : ℕ) → Holds case_silo P_w 5000 w → (w ≡ 21541) ⊎ (w ≡ 21542)
  -- p_hf 17,597 gives p_he 24,636 and p_p 4,928; p_wf 7,345 gives p_we 8,080
  pub discharge : (g : FillingNumbers) → load_number g case_silo p_hf 5000 ≡ 17597 → load_number g case_silo p_he 5000 ≡ 24636
  pub patch : (g : FillingNumbers) → load_number g case_silo p_hf 5000 ≡ 17597 → load_number g case_silo p_p 5000 ≡ 4928
  pub friction_discharge : (g : FillingNumbers) → load_number g case_silo p_wf 5000 ≡ 7345 → load_number g case_silo p_we 5000 ≡ 8080
  -- the numbers that the answer list has: of each pair the first
  pub middle : (l : Load) → load_number (f t) case_silo l 5000 ≡ middle_number l
  -- h 7,500 accepted, and 7,499 (document 02, C-11); 49,999 accepted, 50,000 gives 12
  pub h_7500 : HeightGives 7500 0
  pub h_7499 : HeightGives 7499 0
  pub h_49999 : HeightGives 49999 0
  pub h_50000 : HeightGives 50000 12
  -- at h 7,499, with C0 140: p_hf 17,597 gives p_he 24,633; p_wf 7,345 gives p_we 8,080
  pub squat_discharge : (g : FillingNumbers) (s : List ℕ) → OfHeight 7499 s → (product_of s).factor ≡ 140 → (z : ℕ)
      → load_number g (silo_of s) p_hf z ≡ 17597 → load_number g (silo_of s) p_he z ≡ 24633
  pub squat_friction_discharge : (g : FillingNumbers) (s : List ℕ) → OfHeight 7499 s → (z : ℕ)
      → load_number g (silo_of s) p_wf z ≡ 7345 → load_number g (silo_of s) p_we z ≡ 8080
  -- behind the sixth record (document 02, C-13): one byte gives 2, kind 7 gives 3, eight bytes of payload 4, a byte behind the seventh 5
  pub left_over : refusal_of (followed_by (0 ∷ [])) ≡ 2
  pub seventh_kind : refusal_of (followed_by (record_bytes 7 (four_bytes 300))) ≡ 3
  pub seventh_length : refusal_of (followed_by (record_bytes 8 (four_bytes 300 ++ four_bytes 0))) ≡ 4
  pub behind_seventh : refusal_of (followed_by (record_bytes 8 (four_bytes 300) ++ 0 ∷ [])) ≡ 5
  -- g 9,999 accepted, g 10,000 = V gives 17
  pub g_9999 : refusal_of (followed_by (record_bytes 8 (four_bytes 9999))) ≡ 0
  pub g_10000 : refusal_of (followed_by (record_bytes 8 (four_bytes 10000))) ≡ 17
  -- sides of 5,000 and 15,000 accepted, 5,000 and 15,001 give 20, either side first; the length of their lists is told (document 02, C-17)
  pub three_times : (refusal_of (rectangle_sheet 5000 15000) ≡ 0) × (refusal_of (rectangle_sheet 15000 5000) ≡ 0)
  pub over_three_times : (refusal_of (rectangle_sheet 5000 15001) ≡ 20) × (refusal_of (rectangle_sheet 15001 5000) ≡ 20)
  pub length_told : (answers_length (rectangle_sheet 5000 15001) ≡ Ok 31) × (answers_length (rectangle_sheet 15001 5000) ≡ Ok 31)
  -- e 1,250 accepted, 1,251 gives 8, as e_i and as e_o; r 1,000 with H 364 accepted, H 363 gives 9
  pub e_1250 : (refusal_of (case_sheet 40 140 1250 0 0 0 five) ≡ 0) × (refusal_of (case_sheet 40 140 0 1250 0 0 five) ≡ 0)
  pub e_1251 : (refusal_of (case_sheet 40 140 1251 0 0 0 five) ≡ 8) × (refusal_of (case_sheet 40 140 0 1251 0 0 five) ≡ 8)
  pub H_364 : refusal_of (case_sheet 40 140 0 0 364 1000 five) ≡ 0
  pub H_363 : refusal_of (case_sheet 40 140 0 0 363 1000 five) ≡ 9
  -- μ 10 accepted, 9 and 0 give 7; C0 99 gives 7
  pub friction_10 : refusal_of (case_sheet 10 140 0 0 0 0 five) ≡ 0
  pub friction_9 : refusal_of (case_sheet 9 140 0 0 0 0 five) ≡ 7
  pub friction_0 : refusal_of (case_sheet 0 140 0 0 0 0 five) ≡ 7
  pub factor_99 : refusal_of (factor_sheet 99) ≡ 7
  -- C0 0 acts as 155 (document 02, C-14): accepted; lent the same list, the load call answers the same and leaves the same list
  pub factor_0 : refusal_of (factor_sheet 0) ≡ 0
  pub factor_155 : (lent left left' : List ℕ) (r r' : ℕ) → Promise f t (factor_sheet 0) lent r left → Promise f t (factor_sheet 155) lent r' left'
      → (r ≡ r') × (left ≡ left')
  -- and no longer as 135: p_hf 17,597 gives p_he 27,276 and p_p 5,456, beside 23,756 and 4,752; the lists left differ
  pub blank_discharge : (g : FillingNumbers) → load_number g (silo_of (factor_sheet 0)) p_hf 5000 ≡ 17597
      → (load_number g (silo_of (factor_sheet 0)) p_he 5000 ≡ 27276) × (load_number g (silo_of (factor_sheet 0)) p_p 5000 ≡ 5456)
  pub discharge_135 : (g : FillingNumbers) → load_number g (silo_of (factor_sheet 135)) p_hf 5000 ≡ 17597
      → (load_number g (silo_of (factor_sheet 135)) p_he 5000 ≡ 23756) × (load_number g (silo_of (factor_sheet 135)) p_p 5000 ≡ 4752)
  pub factor_135 : (lent left left' : List ℕ) → Promise f t (factor_sheet 0) lent 0 left → Promise f t (factor_sheet 135) lent 0 left' → left ≡ left' → ⊥

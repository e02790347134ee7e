-- Fields worked out by hand.
-- Assumes nothing.
use mathlib.Core.Path.{◌≡◌, refl}
use mathlib.Core.List.{[], ◌∷◌}
use Rattle.text.specs.Text.{ascii, digits_within, decimal, field}

pub zero_field : field (decimal 0) ≡ ascii (" " ∷ " " ∷ " " ∷ " " ∷ " " ∷ " " ∷ " " ∷ " " ∷ "0" ∷ [])
unfolding digits_within
zero_field = refl

pub eight_field : field (decimal 24206987) ≡ ascii (" " ∷ "2" ∷ "4" ∷ "2" ∷ "0" ∷ "6" ∷ "9" ∷ "8" ∷ "7" ∷ [])
unfolding digits_within
eight_field = refl

pub nine_field : field (decimal 134217728) ≡ ascii ("1" ∷ "3" ∷ "4" ∷ "2" ∷ "1" ∷ "7" ∷ "7" ∷ "2" ∷ "8" ∷ [])
unfolding digits_within
nine_field = refl

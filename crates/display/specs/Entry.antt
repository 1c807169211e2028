-- What the entry for C answers, and what its number says.
use Rattle.std.specs.Prelude.{◌≡◌, ◌⊎◌, ◌↔◌, ℕ, ◌≤◌, ℤ}
use Rattle.plane.specs.Point.{Point}
use Rattle.arrow.specs.Arrow.{arrow}
use Rattle.std.specs.Prelude.{Result, Ok, Err}

-- What is indicated as one number (SPEC 10.4): the number of a refusal, or that of an arrow.
unfoldable pub indication_number : Result ℕ ℕ → ℕ
indication_number (Err n) = n
indication_number (Ok n) = n

-- 8 at most is that arrow, and 13 or more the number of a refusal; there is no other number.
pub record Numbered (display bay : Point) (pitch : ℤ) : Type 0 where
  pub arrow_number : (k : ℕ) → (arrow display bay pitch ≡ Ok k) ↔ ((indication_number (arrow display bay pitch) ≡ k) × (k ≤ 8))
  pub refusal_number : (n : ℕ) → (arrow display bay pitch ≡ Err n) ↔ ((indication_number (arrow display bay pitch) ≡ n) × (13 ≤ n))
  pub one_of_them : (indication_number (arrow display bay pitch) ≤ 8) ⊎ (13 ≤ indication_number (arrow display bay pitch))

-- Refusals (SPEC 8): a list of checks, each a test with the number that is answered where it fails. The first that fails is the refusal.
use Rattle.std.specs.Prelude.{◌≡◌, Bool, List, [], ◌∷◌, ℕ, T}
use Rattle.std.proofs.Math.Option.{Option, none, some}
use Rattle.arrays.specs.Test.{if}

-- The number of a refusal, and the test that must pass. The test is worked out only where all tests before it pass.
pub record Check : Type 0 where
  pub number : ℕ
  pub test : Unit {0} → Bool

abbrev pub check : ℕ → (Unit {0} → Bool) → Check
check n t = record { number = n; test = t }

-- The number of the first check whose test fails, none where all pass.
unfoldable pub first_failed : List Check → Option ℕ
first_failed [] = none
first_failed (c ∷ l) = if (c.test tt) (λ _. first_failed l) (λ _. some c.number)

-- Every test passes.
abbrev pub Pass : List Check → Type 0
Pass [] = Unit {0}
Pass (c ∷ l) = T (c.test tt) × Pass l

-- n is the number of a check whose test fails, and every test before it passes.
pub data FirstFailed (n : ℕ) : List Check → Type 0 where
  here : {c : Check} {l : List Check} → c.number ≡ n → ¬ T (c.test tt) → FirstFailed n (c ∷ l)
  later : {c : Check} {l : List Check} → T (c.test tt) → FirstFailed n l → FirstFailed n (c ∷ l)

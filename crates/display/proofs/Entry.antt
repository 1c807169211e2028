-- What the number of the entry says: arrows are 8 at most, and refusals 13 or 14.
use mathlib.Core.Path.{◌≡◌, sym, ap, ◌∙◌}
use mathlib.Core.Logic.{◌⊎◌, ◌↔◌, inl, inr, ⊎_elim}
use Prim.Native.Nat.{ℕ, ◌≤◌}
use native.Mathlib.Omega.{arith}
use lib.IntN.{ℤ}
use Rattle.plane.specs.Point.{Point}
use Rattle.std.proofs.Common.{Result, Ok, Err}
use Rattle.arrow.specs.Arrow.{arrow}
use Rattle.arrow.proofs.Answers.{same_arrow, same_refusal, arrow_no_refusal}
use Rattle.arrow.proofs.Claim.{arrow-answered}
use Rattle.display.specs.Entry.{indication_number, Numbered}

-- The three clauses of any answer.
abbrev Says : Result ℕ ℕ → Type 0
Says a =
    ((k : ℕ) → (a ≡ Ok k) ↔ ((indication_number a ≡ k) × (k ≤ 8)))
    × ((n : ℕ) → (a ≡ Err n) ↔ ((indication_number a ≡ n) × (13 ≤ n)))
    × ((indication_number a ≤ 8) ⊎ (13 ≤ indication_number a))

says_arrow : (a : Result ℕ ℕ) (k : ℕ) → k ≤ 8 → a ≡ Ok k → Says a
unfolding indication_number
says_arrow a k h e =
    let number : indication_number a ≡ k = ap indication_number e in (
      λ j. (
        λ f. let z = same_arrow (sym e ∙ f) in (number ∙ z, omega (arith, z, h)),
        λ r. e ∙ ap Ok (sym number ∙ r.0),
      ),
      λ n. (λ f. absurd (arrow_no_refusal (sym e ∙ f)), λ r. absurd (omega (arith, h, number, r.0, r.1))),
      inl (omega (arith, h, number)),
    )

says_refusal : (a : Result ℕ ℕ) (n : ℕ) → 13 ≤ n → a ≡ Err n → Says a
unfolding indication_number
says_refusal a n h e =
    let number : indication_number a ≡ n = ap indication_number e in (
      λ k. (λ f. absurd (arrow_no_refusal (sym f ∙ e)), λ r. absurd (omega (arith, h, number, r.0, r.1))),
      λ j. (
        λ f. let z = same_refusal (sym e ∙ f) in (number ∙ z, omega (arith, z, h)),
        λ r. e ∙ ap Err (sym number ∙ r.0),
      ),
      inr (omega (arith, h, number)),
    )

pub numbered : (display bay : Point) (pitch : ℤ) → Numbered display bay pitch
numbered display bay pitch =
    let says = ⊎_elim (λ r. says_arrow (arrow display bay pitch) r.0 r.1 r.2)
    (λ r. says_refusal (arrow display bay pitch) r.0 (⊎_elim (λ e. omega arith) (λ e. omega arith) r.1) r.2)
    (arrow-answered display bay pitch) in
    record { arrow_number = says.0; refusal_number = says.1; one_of_them = says.2 }

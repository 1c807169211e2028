-- Points that are looked at one after the other: that they rise so far, or do not.
use mathlib.Core.Path.{◌≡◌, sym, ◌∙◌, subst}
use mathlib.Core.Bool.{Bool, true, false}
use Prim.Native.Nat.{ℕ, ◌+◌, ◌-◌, ◌≤◌, ◌<◌}
use native.Mathlib.Decide.{dec_lt}
use native.Mathlib.Omega.{arith}
use lib.Dec.{T}
use Rattle.plane.specs.Point.{Point, lower, Lower}
use Rattle.plane.proofs.Order.{lower-order}
use Rattle.tree.specs.Build.{Rises}
use Rattle.test_tree.specs.Answers.{Says}

true_not_false : {b : Bool} {P : Type 0} → b ≡ true → b ≡ false → P
true_not_false p q = absurd (subst T (sym p ∙ q) tt)

-- A test that passed, and one that did not.
pub says_yes : {P : Type 0} {r : Bool} → r ≡ true → P → Says P r
says_yes e p = record { sure = λ _. p; never = λ f. true_not_false e f }

pub says_no : {P : Type 0} {r : Bool} → r ≡ false → ¬ P → Says P r
says_no e n = record { sure = λ t. true_not_false t e; never = λ _. n }

-- No two of one point.
pub rises_one : (at : ℕ → Point) → Rises at 1
rises_one at i j h k = absurd (omega arith)

pub rises_fewer : (at : ℕ → Point) (n i : ℕ) → n ≤ i → Rises at i → Rises at n
rises_fewer at n i h r j k l m = r j k l (omega arith)

-- One point more, that is higher than the last.
pub rises_more : (at : ℕ → Point) (i : ℕ) → 1 ≤ i → Rises at i → Lower (at (i - 1)) (at i) → Rises at (i + 1)
rises_more at i h r last j k l m = go (dec_lt k i) (dec_lt j (i - 1))
  where
    go : Dec (k < i) → Dec (j < i - 1) → Lower (at j) (at k)
    go (yes p) d = r j k l p
    go (no p) (yes q) =
        let e : i ≡ k = omega arith in
        subst (λ (z : ℕ). Lower (at j) (at z)) e (lower-order.trans (at j) (at (i - 1)) (at i) (r j (i - 1) q (omega arith)) last)
    go (no p) (no q) =
        let e : i ≡ k = omega arith in
        let f : i - 1 ≡ j = omega arith in
        subst (λ (z : ℕ). Lower (at z) (at k)) f (subst (λ (z : ℕ). Lower (at (i - 1)) (at z)) e last)

-- A point that is not higher than the last.
pub rises_not : (at : ℕ → Point) (n i : ℕ) → 1 ≤ i → i < n → lower (at (i - 1)) (at i) ≡ false → ¬ Rises at n
rises_not at n i h l e r = subst T e (r (i - 1) i (omega arith) l)

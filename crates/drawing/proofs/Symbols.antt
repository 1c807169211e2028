-- The template of a symbol by its number: the tests on it choose the name.
use mathlib.Core.Path.{◌≡◌, refl, sym, ap}
use Prim.Native.Nat.{ℕ}
use borrow.Author.Tests.{ne_eqb}
use Rattle.arrays.specs.Text.{bytes}
use Rattle.drawing.specs.Elements.{use_template, symbol_name, symbol_template}

-- The symbol of a kind, whose name computes.
pub kind_is : (k n : ℕ) → n ≡ k → use_template (symbol_name k) ≡ symbol_template n
unfolding symbol_template
kind_is k n e = ap (λ (m : ℕ). use_template (symbol_name m)) (sym e)

-- Any other number is that of a tap.
pub tap_is : (n : ℕ) → ¬ (n ≡ 0) → ¬ (n ≡ 1) → ¬ (n ≡ 2) → use_template (bytes "tap") ≡ symbol_template n
unfolding symbol_template
tap_is n a b c = rw (ne_eqb n 0 a) rw (ne_eqb n 1 b) rw (ne_eqb n 2 c) refl

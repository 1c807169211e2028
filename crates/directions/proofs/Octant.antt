-- The line of an octant, by whether there is one.
use mathlib.Core.Path.{◌≡◌, sym, ap, ◌∙◌}
use mathlib.Core.Bool.{Bool}
use mathlib.Core.List.{List}
use Prim.Native.Nat.{ℕ}
use lib.IntN.{ℤ}
use borrow.Author.Tests.{eq-eqb, ne_eqb}
use mir.Syntax.{w32}
use mir.Val.{SFits}
use Rattle.arrays.specs.Test.{if}
use Rattle.arrays.proofs.Signed.{read, read_two}
use Rattle.octants.specs.Octant.{octant}
use Rattle.ascii.specs.Line.{error_word, number_text}
use Rattle.directions.specs.Directions.{octant_word, octant_text}

module _ (x y : ℤ) (k : ℕ) (e : k ≡ octant (read x) (read y)) (fx : SFits w32 x) (fy : SFits w32 y) where
  is_octant : k ≡ octant x y
  is_octant = e ∙ read_two octant x y fx fy

  chosen : ℕ → Bool → List ℕ
  chosen n t = if t (λ _. error_word) (λ _. number_text octant_word n)

  pub octant_none : k ≡ 8 → error_word ≡ octant_text x y
  unfolding chosen
  octant_none h = ap (chosen (octant x y)) (sym (eq-eqb (octant x y) 8 (sym is_octant ∙ h)))

  pub octant_some : ¬ (k ≡ 8) → number_text octant_word k ≡ octant_text x y
  unfolding chosen
  octant_some n = ap (number_text octant_word) is_octant ∙ ap (chosen (octant x y)) (sym (ne_eqb (octant x y) 8 (λ h. n (is_octant ∙ h))))

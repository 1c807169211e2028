-- The checks of the header, by the numbers read from it: each is a test after the other.
use mathlib.Core.Path.{◌≡◌, refl, sym, ap, ap₂, ◌∙◌}
use mathlib.Core.Bool.{false, ◌&&◌}
use mathlib.Core.List.{List}
use Prim.Native.Nat.{ℕ, suc, ◌+◌, ◌*◌, ◌-◌, ◌≤◌, ◌<◌}
use native.Mathlib.Numerals.{add-one}
use native.Mathlib.Omega.{arith}
use lib.Dec.{leb, eqb}
use lib.ListN.{length}
use borrow.Author.Tests.{le-leb, lt-leb, eq-eqb, ne_eqb}
use Rattle.model.specs.Sections.{header_size, section_count, offset, size, follow, laid_out}
use Rattle.arrays.proofs.Test.{and_no, and_yes}

module _ (b : List ℕ) where
  -- Check 2 on a file of n sections: the first k stand one behind the other, up to place `at`, and the others decide.
  pub record Passed (n at k : ℕ) : Type 0 where
    pub within : k ≤ n
    pub few : at ≤ header_size n + 4294967296 * k
    pub left : follow b at k (n - k) ≡ laid_out b

  -- `first` is the place behind the pairs.
  module _ (n first : ℕ) (count : n ≡ section_count b) (behind : first ≡ header_size n) where
    abbrev behind_pairs : ℕ
    behind_pairs = header_size (section_count b)

    pub pairs_missing : length b < first → false ≡ laid_out b
    unfolding laid_out
    pairs_missing h = and_no (leb behind_pairs (length b)) _ (lt-leb behind_pairs (length b) (omega arith))

    pub none_passed : first ≤ length b → Passed n first 0
    unfolding laid_out
    none_passed h =
        let same : first ≡ behind_pairs = omega arith in
        let none : n - 0 ≡ section_count b = omega arith in
        record {
          within = omega arith;
          few = omega arith;
          left =
              ap₂ (λ (z y : ℕ). follow b z 0 y) same none
              ∙ and_yes (leb behind_pairs (length b)) _ _ (le-leb behind_pairs (length b) (omega arith)) refl;
        }

  module _ (n : ℕ) {at k : ℕ} (p : Passed n at k) where
    one_left : k < n → {o : ℕ} → o ≡ offset b k → (eqb o at && follow b (at + size b k) (k + 1) (n - (k + 1))) ≡ laid_out b
    unfolding follow
    one_left h {o} e =
        let more : n - k ≡ suc (n - (k + 1)) = omega arith in
        ap₂ (λ (z y : ℕ). eqb z at && follow b (at + size b k) y (n - (k + 1))) e (add-one k)
        ∙ ap (follow b at k) (sym more) ∙ p.left

    pub next_passed : k < n → {o s : ℕ} → o ≡ offset b k → o ≡ at → s ≡ size b k → s < 4294967296 → Passed n (at + s) (k + 1)
    next_passed h {o} {s} e same f few =
        record {
          within = omega arith;
          few = omega (arith, p.few);
          left =
              ap (λ (z : ℕ). follow b (at + z) (k + 1) (n - (k + 1))) f
              ∙ and_yes (eqb o at) _ _ (eq-eqb o at same) refl ∙ one_left h e;
        }

    pub apart : k < n → {o : ℕ} → o ≡ offset b k → ¬ (o ≡ at) → false ≡ laid_out b
    apart h {o} e other = and_no (eqb o at) _ (ne_eqb o at other) ∙ one_left h e

    pub all_passed : n ≤ k → eqb at (length b) ≡ laid_out b
    unfolding follow
    all_passed h = let none : n - k ≡ 0 = omega (arith, p.within) in ap (follow b at k) (sym none) ∙ p.left

-- Bytes of edges compared one after the other, two at a time.
use mathlib.Core.Path.{◌≡◌, refl, sym, ◌∙◌, subst}
use mathlib.Core.Bool.{true, false}
use mathlib.Core.List.{List, [], ◌∷◌}
use Prim.Native.Nat.{ℕ, zero, suc, ◌+◌, ◌*◌, ◌/◌, ◌%◌, ◌≤◌, ◌<◌}
use native.Mathlib.Omega.{arith}
use lib.ListN.{length, get_or}
use Rattle.arrays.specs.Same.{same_list}
use Rattle.arrays.proofs.Alike.{Alike, alike_none, alike_more, alike_fail, alike_end}
use Rattle.arrays.specs.Paste.{each}
use Rattle.arrays.proofs.paste.Lines.{each-length}
use Rattle.sections.specs.Bytes.{ends_bytes, edge_bytes}

-- The bytes of edges.
first_byte : (l : List ℕ) (i j : ℕ) → j ≡ 2 * i → get_or (edge_bytes l) j 0 ≡ get_or l i 0 / 128 % 256
unfolding each
first_byte [] zero zero e = refl
first_byte [] zero (suc j) e = refl
first_byte [] (suc i) zero e = refl
first_byte [] (suc i) (suc j) e = refl
first_byte (k ∷ l) zero zero e = refl
first_byte (k ∷ l) zero (suc j) e = absurd (omega arith)
first_byte (k ∷ l) (suc i) zero e = absurd (omega arith)
first_byte (k ∷ l) (suc i) (suc zero) e = absurd (omega arith)
first_byte (k ∷ l) (suc i) (suc (suc j)) e = first_byte l i j (omega arith)

second-byte : (l : List ℕ) (i j : ℕ) → j ≡ 2 * i + 1 → get_or (edge_bytes l) j 0 ≡ get_or l i 0 % 128
unfolding each
second-byte [] zero zero e = refl
second-byte [] zero (suc j) e = refl
second-byte [] (suc i) zero e = refl
second-byte [] (suc i) (suc j) e = refl
second-byte (k ∷ l) i zero e = absurd (omega arith)
second-byte (k ∷ l) zero (suc zero) e = refl
second-byte (k ∷ l) zero (suc (suc j)) e = absurd (omega arith)
second-byte (k ∷ l) (suc i) (suc zero) e = absurd (omega arith)
second-byte (k ∷ l) (suc i) (suc (suc j)) e = second-byte l i j (omega arith)

-- The first i edges are those of the bytes.
module _ (b ends : List ℕ) (long : length b ≡ 2 * length ends) where
  pub edges_none : Alike b (edge_bytes ends) (2 * 0)
  edges_none = alike_none (omega (arith, long, each-length ends_bytes 2 (λ _. refl) ends))

  module _ (i : ℕ) (p : Alike b (edge_bytes ends) (2 * i)) (l : i < length ends) where
    half : get_or b (2 * i) 0 ≡ get_or ends i 0 / 128 % 256 → Alike b (edge_bytes ends) (2 * i + 1)
    half e = alike_more p (omega (arith, long)) (e ∙ sym (first_byte ends i (2 * i) refl))

    pub edges_more : get_or b (2 * i) 0 ≡ get_or ends i 0 / 128 % 256 → get_or b (2 * i + 1) 0 ≡ get_or ends i 0 % 128
        → Alike b (edge_bytes ends) (2 * (i + 1))
    edges_more e f =
        let m : 2 * i + 1 + 1 ≡ 2 * (i + 1) = omega arith in
        subst (Alike b (edge_bytes ends)) m (alike_more (half e) (omega (arith, long)) (f ∙ sym (second-byte ends i (2 * i + 1) refl)))

    pub edges_fail_first : ¬ (get_or b (2 * i) 0 ≡ get_or ends i 0 / 128 % 256) → false ≡ same_list b (edge_bytes ends)
    edges_fail_first e = alike_fail p (omega (arith, long)) (λ q. e (q ∙ first_byte ends i (2 * i) refl))

    pub edges_fail_second : get_or b (2 * i) 0 ≡ get_or ends i 0 / 128 % 256 → ¬ (get_or b (2 * i + 1) 0 ≡ get_or ends i 0 % 128)
        → false ≡ same_list b (edge_bytes ends)
    edges_fail_second e f = alike_fail (half e) (omega (arith, long)) (λ q. f (q ∙ second-byte ends i (2 * i + 1) refl))

  pub edges_end : {i : ℕ} → Alike b (edge_bytes ends) (2 * i) → length ends ≤ i → true ≡ same_list b (edge_bytes ends)
  edges_end p l = alike_end p (omega (arith, long))

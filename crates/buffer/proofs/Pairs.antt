-- The pairs of a header, put one behind the other: each offset is that of the first section and the lengths before it.
use mathlib.Core.Path.{◌≡◌, refl, ap, ◌∙◌}
use mathlib.Core.List.{List, [], ◌∷◌, ◌++◌, sum, sum-append}
use Prim.Native.Nat.{ℕ, zero, suc, ◌+◌, ◌≤◌, ◌<◌}
use native.Mathlib.Nat.{zero-add, add_assoc}
use native.Mathlib.Numerals.{add-one}
use native.Mathlib.Omega.{arith}
use lib.ListN.{length, take, get_or}
use lib.Seq.{take-suc, take-length}
use Rattle.arrays.specs.Number.{bytes4}
use Rattle.arrays.specs.Paste.{Pasted}
use Rattle.arrays.proofs.paste.Parts.{pasted_same}
use Rattle.arrays.proofs.paste.Lines.{PutFirst, first_none, first_more, first_end}
use Rattle.model.specs.Sections.{pairs_from, sum_of}

-- One length more.
sum_snoc : (l : List ℕ) (n : ℕ) → sum_of (l ++ (n ∷ [])) ≡ sum_of l + n
unfolding sum
sum_snoc l n = omega (arith, sum-append ◌+◌ 0 zero-add add_assoc l (n ∷ []))

pairs_snoc : (l : List ℕ) (at n : ℕ) → pairs_from at (l ++ (n ∷ [])) ≡ pairs_from at l ++ (bytes4 (at + sum_of l) ++ bytes4 n)
unfolding pairs_from
pairs_snoc [] at n = let e : at ≡ at + 0 = omega arith in ap (λ (z : ℕ). bytes4 z ++ bytes4 n) e
pairs_snoc (m ∷ l) at n =
    let e : at + m + sum_of l ≡ at + (m + sum_of l) = omega arith in
    ap (λ (r : List ℕ). bytes4 at ++ (bytes4 m ++ r))
    (pairs_snoc l (at + m) n ∙ ap (λ (z : ℕ). pairs_from (at + m) l ++ (bytes4 z ++ bytes4 n)) e)

-- The first lengths are no more than all.
sum-take : (k : ℕ) (l : List ℕ) → sum_of (take k l) ≤ sum_of l
sum-take zero l = omega arith
sum-take (suc k) [] = omega arith
sum-take (suc k) (n ∷ l) = omega (arith, sum-take k l)

module _ (sizes : List ℕ) (start : ℕ) (l : List ℕ) (at : ℕ) where
  -- The pairs of the first k sections.
  abbrev pairs : ℕ → List ℕ
  pairs k = pairs_from start (take k sizes)

  one_more : (k : ℕ) → k < length sizes → take (k + 1) sizes ≡ take k sizes ++ (get_or sizes k 0 ∷ [])
  one_more k h = ap (λ (z : ℕ). take z sizes) (add-one k) ∙ take-suc sizes k 0 h

  -- They stand from place `at` on, and the next section starts at `offset`.
  pub record PairsPut (m : List ℕ) (offset next k : ℕ) : Type 0 where
    pub put : PutFirst pairs 8 (length sizes) l m at next k
    pub start_of : offset ≡ start + sum_of (take k sizes)

  pub none_put : PairsPut l start at 0
  unfolding pairs_from
  none_put = record { put = first_none pairs 8 (length sizes) l at refl; start_of = omega arith }

  pub pair_put : {m m' : List ℕ} {offset next next' k : ℕ} → PairsPut m offset next k → k < length sizes → next ≤ length m
      → Pasted (bytes4 offset ++ bytes4 (get_or sizes k 0)) m m' next next' → length m' ≡ length m
      → PairsPut m' (offset + get_or sizes k 0) next' (k + 1)
  pair_put {m} {m'} {offset} {next} {next'} {k} p h fits q size =
      record {
        put =
            first_more pairs 8 (length sizes) l at _ m m' next next' k p.put h
            (ap (pairs_from start) (one_more k h) ∙ pairs_snoc (take k sizes) start (get_or sizes k 0))
            fits (pasted_same (ap (λ (z : ℕ). bytes4 z ++ bytes4 (get_or sizes k 0)) p.start_of) q) (omega (arith, q.next)) size;
        start_of = omega (arith, p.start_of, ap sum_of (one_more k h), sum_snoc (take k sizes) (get_or sizes k 0));
      }

  -- The place behind each section is within the file.
  pub next-within : {m : List ℕ} {offset next k : ℕ} → PairsPut m offset next k → k < length sizes
      → offset + get_or sizes k 0 ≤ start + sum_of sizes
  next-within {k = k} p h =
      omega (arith, p.start_of, sum-take (k + 1) sizes, ap sum_of (one_more k h), sum_snoc (take k sizes) (get_or sizes k 0))

  pub all_put : {m : List ℕ} {offset next k : ℕ} → PairsPut m offset next k → length sizes ≤ k → Pasted (pairs_from start sizes) l m at next
  all_put {m} {offset} {next} {k} p h =
      pasted_same (ap (pairs_from start) (take-length sizes)) (first_end pairs 8 (length sizes) l m at next k p.put h).0

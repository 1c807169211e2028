-- The bytes of a chunk in a loop: a line feed, or another byte, is the definition with one more. What a line does to a state is any function.
use mathlib.Core.Path.{◌≡◌, sym, ap, ◌∙◌}
use mathlib.Core.Bool.{Bool}
use mathlib.Core.List.{List, []}
use Prim.Native.Nat.{ℕ, ◌+◌, ◌≤◌, ◌<◌}
use native.Mathlib.Omega.{arith}
use lib.ListN.{length, take, get_or}
use lib.Seq.{length-take-le}
use borrow.Author.Tests.{eq-eqb, ne_eqb}
use Rattle.arrays.specs.Test.{if}
use Rattle.lines.specs.Lines.{more, last_line, Reading, taken, taken_all, state_after}
use Rattle.lines.proofs.Input.{all_more, last_none, last_some}

module _ {S : Type 0} (f : S → List ℕ → S) where
  module _ (r s : Reading S) (bytes : List ℕ) (i : ℕ) (h : i < length bytes) (t : s ≡ taken_all f r (take i bytes)) where
    chosen : ℕ → Bool → Reading S
    chosen b t = if t (λ _. record { state = f s.state s.line; line = [] }) (λ _. record { state = s.state; line = more b s.line })

    -- A line feed.
    pub taken_feed : get_or bytes i 0 ≡ 10 → {next : S} → next ≡ f s.state s.line → record { state = next; line = [] } ≡ taken_all f r (take (i + 1) bytes)
    unfolding taken chosen
    taken_feed e k =
        (λ i. record { state = k i; line = [] }) ∙ ap (chosen (get_or bytes i 0)) (sym (eq-eqb (get_or bytes i 0) 10 e)) ∙ all_more f r s bytes i h t

    -- Another byte.
    pub taken-byte : ¬ (get_or bytes i 0 ≡ 10) → {line : List ℕ} → line ≡ more (get_or bytes i 0) s.line
        → record { state = s.state; line = line } ≡ taken_all f r (take (i + 1) bytes)
    unfolding taken chosen
    taken-byte n k =
        (λ i. record { state = s.state; line = k i }) ∙ ap (chosen (get_or bytes i 0)) (sym (ne_eqb (get_or bytes i 0) 10 n)) ∙ all_more f r s bytes i h t

  -- What stands behind the last line feed, by its length.
  module _ (s : S) (line : List ℕ) (size : ℕ) (within : size ≤ length line) where
    after : List (List ℕ) → S
    after ls = state_after f s ls

    pub end_none : size ≡ 0 → s ≡ state_after f s (last_line (take size line))
    unfolding state_after after
    end_none e = sym (ap after (last_none (take size line) (length-take-le size line within ∙ e)))

    pub end_some : 0 < size → f s (take size line) ≡ state_after f s (last_line (take size line))
    unfolding state_after after
    end_some n = sym (ap after (last_some (take size line) (omega (arith, length-take-le size line within, n))))

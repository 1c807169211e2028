-- The bytes of an input one after the other do its lines: by recursion over the bytes, from any line so far.
use mathlib.Core.Path.{◌≡◌, refl, sym, ap, ◌∙◌}
use mathlib.Core.Bool.{Bool, true, false}
use mathlib.Core.List.{List, [], ◌∷◌, ◌++◌}
use Prim.Native.Nat.{ℕ, ◌+◌, ◌<◌}
use native.Mathlib.Numerals.{add-one}
use native.Mathlib.Omega.{arith}
use lib.Dec.{eqb}
use lib.ListN.{length, take, get_or}
use lib.Seq.{take-suc}
use Rattle.arrays.specs.Test.{if}
use Rattle.lines.specs.Lines.{Reading, more, lines_from, last_line, taken, taken_all, state_after, LinesTaken, AllLinesTaken, ChunksTaken}

module _ {S : Type 0} (f : S → List ℕ → S) where
  -- Two chunks one behind the other are one.
  pub all_append : (r : Reading S) (l m : List ℕ) → taken_all f r (l ++ m) ≡ taken_all f (taken_all f r l) m
  unfolding taken_all
  all_append r [] m = refl
  all_append r (a ∷ l) m = all_append (taken f r a) l m

  -- One byte more of a chunk.
  pub all_more : (r s : Reading S) (bytes : List ℕ) (i : ℕ) → i < length bytes → s ≡ taken_all f r (take i bytes)
      → taken f s (get_or bytes i 0) ≡ taken_all f r (take (i + 1) bytes)
  unfolding taken_all
  all_more r s bytes i h e =
      ap (λ (z : Reading S). taken f z (get_or bytes i 0)) e ∙ sym (all_append r (take i bytes) (get_or bytes i 0 ∷ []))
      ∙ ap (taken_all f r) (sym (ap (λ (k : ℕ). take k bytes) (add-one i) ∙ take-suc bytes i 0 h))

  -- Lines one behind the other.
  pub after-append : (s : S) (l m : List (List ℕ)) → state_after f s (l ++ m) ≡ state_after f (state_after f s l) m
  unfolding state_after
  after-append s [] m = refl
  after-append s (a ∷ l) m = after-append (f s a) l m

  -- The lines of an input, from a line so far.
  from_line : (s : S) (l input : List ℕ)
      → taken_all f (record { state = s; line = l }) input ≡ record { state = state_after f s (lines_from l input).whole; line = (lines_from l input).rest }
  unfolding taken_all taken lines_from state_after
  from_line s l [] = refl
  from_line s l (b ∷ bs) = go (eqb b 10) (from_line (f s l) [] bs) (from_line s (more b l) bs)
    where
      Is : S → List ℕ → Type 0
      Is s l = taken_all f (record { state = s; line = l }) bs ≡ record { state = state_after f s (lines_from l bs).whole; line = (lines_from l bs).rest }

      go : (t : Bool) → Is (f s l) [] → Is s (more b l)
          → taken_all f (if t (λ _. record { state = f s l; line = [] }) (λ _. record { state = s; line = more b l })) bs
          ≡ (let ls = if t (λ _. record { whole = l ∷ (lines_from [] bs).whole; rest = (lines_from [] bs).rest }) (λ _. lines_from (more b l) bs) in
          record { state = state_after f s ls.whole; line = ls.rest })
      go true p q = p
      go false p q = q

pub lines-taken : LinesTaken
lines-taken S f s input = from_line f s [] input

pub all_lines-taken : AllLinesTaken
all_lines-taken S f s input =
    let ls = lines_from [] input in
    ap (λ (r : Reading S). state_after f r.state (last_line r.line)) (lines-taken S f s input) ∙ sym (after-append f s ls.whole (last_line ls.rest))

-- What stands behind the last line feed, by its length.
pub last_none : (l : List ℕ) → length l ≡ 0 → last_line l ≡ []
last_none [] e = refl
last_none (b ∷ l) e = absurd (omega arith)

pub last_some : (l : List ℕ) → 0 < length l → last_line l ≡ l ∷ []
last_some [] h = absurd (omega arith)
last_some (b ∷ l) h = refl

pub chunks_taken : ChunksTaken
chunks_taken S f = all_append f

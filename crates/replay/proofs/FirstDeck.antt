-- Where a list of calls starts: no bytes, or a file.
use mathlib.Core.Path.{◌≡◌, refl, sym}
use mathlib.Core.List.{List, [], ◌∷◌}
use Prim.Native.Nat.{ℕ}
use native.Mathlib.Omega.{arith}
use lib.Dec.{eqb, eqb→eq}
use Rattle.arrays.proofs.Test.{of_true}
use lib.ListN.{length}
use mathlib.Core.Bool.{true, false}
use Rattle.model.specs.Contents.{empty_contents}
use Rattle.model.specs.File.{deck, read_file}
use Rattle.model.proofs.FileAnswer.{Possible, taken, read_possible}
use Rattle.model.proofs.Session.{empty_contents_lem}
use Rattle.replay.specs.Calls.{start_of}

pub start_possible : (b : List ℕ) → Possible (start_of b)
unfolding start_of
start_possible [] = taken empty_contents_lem
start_possible (a ∷ b) = read_possible (a ∷ b)

pub start_none : (b : List ℕ) → true ≡ eqb (length b) 0 → start_of b ≡ deck empty_contents
unfolding start_of
start_none [] e = refl
start_none (a ∷ b) e = absurd (omega (arith, eqb→eq (length (a ∷ b)) 0 (of_true (sym e))))

pub start-file : (b : List ℕ) → false ≡ eqb (length b) 0 → start_of b ≡ read_file b
unfolding start_of
start-file [] e = let z : ◌≡◌ {A = ℕ} 0 1 = cc in absurd (omega arith)
start-file (a ∷ b) e = refl

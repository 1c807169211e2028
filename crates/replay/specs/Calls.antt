-- A list of calls in bytes (SPEC 6.5), twelve bytes each, and the deck that it starts from.
use Rattle.std.specs.Prelude.{List, [], ◌∷◌, ◌++◌, ℕ, zero, suc, ◌+◌, ◌*◌, ◌/◌, eqb, length, get_or, ℤ}
use Rattle.std.proofs.Math.IntN.{sub_ℕ}
use Rattle.arrays.specs.Number.{number4}
use Rattle.arrays.specs.Test.{if}
use Rattle.plane.specs.Point.{Point}
use Rattle.model.specs.Contents.{empty_contents}
use Rattle.model.specs.Call.{Call, add, withdraw, one_round, run_to_end, set_tail}
use Rattle.model.specs.File.{Read, deck, read_file}

-- The whole number that is n in 32 bits of two's complement: 4,294,967,296 less from 2,147,483,648 on.
unfoldable pub signed32 : ℕ → ℤ
signed32 n = sub_ℕ n (4294967296 * (n / 2147483648))

-- The point of two numbers of 32 bits, each in two's complement.
abbrev pub signed_point : ℕ → ℕ → Point
signed_point u v = record { x = signed32 u; y = signed32 v }

-- The call with this number: 0 adds a device of kind k and 1 withdraws, at the point of u and v; 2 is a round, 3 a run to the end; 4 sets the tail
-- length to u, which has no sign. Any other number is no call.
unfoldable pub call_of : ℕ → ℕ → ℕ → ℕ → List Call
call_of n k u v =
    if (eqb n 0) (λ _. add (signed_point u v) k ∷ [])
    (λ _. if (eqb n 1) (λ _. withdraw (signed_point u v) ∷ [])
    (λ _. if (eqb n 2) (λ _. one_round ∷ [])
    (λ _. if (eqb n 3) (λ _. run_to_end ∷ [])
    (λ _. if (eqb n 4) (λ _. set_tail u ∷ []) (λ _. [])))))

-- The twelve bytes of a call from place i on: its number, a kind, two bytes that are not looked at (for a storey and for nothing yet), then two
-- numbers of four bytes each.
unfoldable pub call_at : List ℕ → ℕ → List Call
call_at b i = call_of (get_or b i 0) (get_or b (i + 1) 0) (number4 b (i + 4)) (number4 b (i + 8))

-- The calls in the first n times twelve bytes.
unfoldable pub first_calls : ℕ → List ℕ → List Call
first_calls zero b = []
first_calls (suc n) b = first_calls n b ++ call_at b (n * 12)

-- All calls of a list of bytes. Fewer than twelve bytes at the end are no call.
unfoldable pub calls_of : List ℕ → List Call
calls_of b = first_calls (length b / 12) b

-- A list starts from the deck of a file, or from an empty deck where there are no bytes (SPEC 10.2).
unfoldable pub start_of : List ℕ → Read
start_of [] = deck empty_contents
start_of (a ∷ b) = read_file (a ∷ b)

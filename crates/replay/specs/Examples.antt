-- An example: a list of calls in bytes, each call with other numbers in its unused bytes, and the calls that it says.
use Rattle.std.specs.Prelude.{◌≡◌, List, [], ◌∷◌, ℕ, pos, negsuc}
use Rattle.plane.specs.Point.{point}
use Rattle.model.specs.Call.{Call, add, withdraw, one_round, run_to_end, set_tail}
use Rattle.replay.specs.Calls.{signed32, call_of, call_at, first_calls, calls_of}

-- The calls of bytes, worked out.
unfoldable pub calls : List ℕ → List Call
unfolding signed32 call_of call_at first_calls calls_of
calls b = calls_of b

-- A controller at (5, −1); (258, −32,768) withdrawn; a round; call 5, which is none; a run to the end; a tail of 500; one of 2 ^ 32 − 1, which has no
-- sign; and three bytes that are no call.
abbrev pub CallsInBytes : Type 0
CallsInBytes =
    calls
    (0 ∷ 2 ∷ 7 ∷ 9 ∷ 5 ∷ 0 ∷ 0 ∷ 0 ∷ 255 ∷ 255 ∷ 255 ∷ 255
    ∷ 1 ∷ 3 ∷ 8 ∷ 6 ∷ 2 ∷ 1 ∷ 0 ∷ 0 ∷ 0 ∷ 128 ∷ 255 ∷ 255
    ∷ 2 ∷ 1 ∷ 0 ∷ 0 ∷ 1 ∷ 0 ∷ 0 ∷ 0 ∷ 2 ∷ 0 ∷ 0 ∷ 0
    ∷ 5 ∷ 0 ∷ 0 ∷ 0 ∷ 0 ∷ 0 ∷ 0 ∷ 0 ∷ 0 ∷ 0 ∷ 0 ∷ 0
    ∷ 3 ∷ 0 ∷ 0 ∷ 0 ∷ 0 ∷ 0 ∷ 0 ∷ 0 ∷ 0 ∷ 0 ∷ 0 ∷ 0
    ∷ 4 ∷ 2 ∷ 7 ∷ 9 ∷ 244 ∷ 1 ∷ 0 ∷ 0 ∷ 5 ∷ 0 ∷ 0 ∷ 0
    ∷ 4 ∷ 0 ∷ 0 ∷ 0 ∷ 255 ∷ 255 ∷ 255 ∷ 255 ∷ 0 ∷ 0 ∷ 0 ∷ 0
    ∷ 0 ∷ 1 ∷ 0 ∷ [])
    ≡ add (point (pos 5) (negsuc 0)) 2 ∷ withdraw (point (pos 258) (negsuc 32767)) ∷ one_round ∷ run_to_end ∷ set_tail 500
    ∷ set_tail 4294967295 ∷ []

-- What an entry answers, from whether it takes its input.
use mathlib.Core.Path.{◌≡◌, refl, sym, ap, ◌∙◌}
use mathlib.Core.List.{List, ◌++◌}
use Prim.Native.Nat.{ℕ, ◌+◌, ◌≤◌}
use native.Mathlib.Omega.{arith}
use lib.ListN.{length, drop}
use Rattle.arrays.specs.Tab.{tab}
use Rattle.tree.specs.Build.{BuildRequires}
use Rattle.arrays.specs.Paste.{Pasted}
use Rattle.arrays.proofs.paste.Parts.{front_of}
use Rattle.arrays.proofs.Tab.{tab-length}
use Rattle.test_tree.specs.Answers.{Points, Answer}

pub answer-taken : {P : Type 0} {l before after : List ℕ} {r : ℕ} → P → Pasted l before after 0 r → Answer P l before after r
answer-taken p f = record { taken = λ _. f; refused = λ n. absurd (n p) }

pub answer-refused : {P : Type 0} {l before : List ℕ} → ¬ P → Answer P l before before 18446744073709551615
answer-refused n = record { taken = λ p. absurd (n p); refused = λ _. record { answer = refl; kept = refl } }

-- What building asks, of points that were checked.
pub build_given : (xs ys : List ℕ) (room : ℕ) → Points xs ys → length xs + 8 ≤ room → BuildRequires xs ys (length xs) room
build_given xs ys room p h =
    record { in_xs = omega arith; in_ys = omega (arith, p.same); few = omega (arith, p.few); fits = h; rises = p.rises }

-- A row of values at the front of an array.
pub row-front : (f : ℕ → ℕ) (c : ℕ) (before after : List ℕ) → after ≡ tab f c ++ drop c before → Pasted (tab f c) before after 0 c
row-front f c before after e =
    front_of (sym (tab-length f c)) (e ∙ ap (λ (k : ℕ). tab f c ++ drop k before) (sym (tab-length f c)))

-- What the entries take, and what they answer. Each answer is whole: it says what is written where the input is taken, and that
-- nothing is written where it is not.
use Rattle.std.specs.Prelude.{◌≡◌, Bool, true, false, List, map, ℕ, ◌+◌, ◌≤◌, ltb, length, get_or}
use Rattle.arrays.specs.Set.{set_of}
use Rattle.keys.specs.Held.{held}
use Rattle.keys.specs.Keys.{tree_keys, ends_of}
use Rattle.arrays.specs.Tab.{tab}
use Rattle.tree.specs.Build.{Rises, length_with}
use Rattle.arrays.specs.Paste.{Pasted}

-- A test says whether something holds.
pub record Says (P : Type 0) (r : Bool) : Type 0 where
  pub sure : r ≡ true → P
  pub never : r ≡ false → ¬ P

-- At most 127 points, each lower than the next.
pub record Points (xs ys : List ℕ) : Type 0 where
  pub same : length xs ≡ length ys
  pub few : length xs ≤ 127
  pub rises : Rises (held xs ys) (length xs)

-- A refusal: the answer is no count, and the array is as it was.
pub record Refused (before after : List ℕ) (r : ℕ) : Type 0 where
  pub answer : r ≡ 18446744073709551615
  pub kept : after ≡ before

-- What is taken has its answer at the front of the array, and what is not is refused.
pub record Answer (Taken : Type 0) (l before after : List ℕ) (r : ℕ) : Type 0 where
  pub taken : Taken → Pasted l before after 0 r
  pub refused : ¬ Taken → Refused before after r

-- The keys of the tree of the points, where there is room for 8 more than there are points.
abbrev pub Builds : List ℕ → List ℕ → List ℕ → List ℕ → ℕ → Type 0
Builds xs ys before after r =
    Answer (Points xs ys × (length xs + 8 ≤ length before)) (tree_keys (held xs ys) (length xs)) before after r

-- The length of the tree of the first n points and the i-th crossing, for each i below c.
abbrev pub lengths_with : List ℕ → List ℕ → ℕ → List ℕ → List ℕ → ℕ → List ℕ
lengths_with xs ys n cx cy c = tab (λ (i : ℕ). length_with xs ys n (get_or cx i 0) (get_or cy i 0)) c

-- The lengths with each of the crossings, where there is room for them.
abbrev pub Measures : List ℕ → List ℕ → List ℕ → List ℕ → List ℕ → List ℕ → ℕ → Type 0
Measures xs ys cx cy before after r =
    Answer (Points xs ys × (length cy ≡ length cx) × (length cx ≤ length before)) (lengths_with xs ys (length xs) cx cy (length cx)) before after r

-- The ends of the keys in the listing order, where there is room for them.
abbrev pub Lists : List ℕ → List ℕ → List ℕ → ℕ → Type 0
Lists keys before after r = Answer (length keys ≤ length before) (set_of ltb (map ends_of keys)) before after r

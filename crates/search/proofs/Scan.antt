-- The search over a list of crossings: part by part it is the search over the whole, and what it finds is what the model's
-- search finds, since a greater gain is a greater saving. A crossing where a point is held gains no more than the tree itself. Tails raise the bar alone.
use mathlib.Core.Path.{◌≡◌, refl, ap, ◌∙◌}
use mathlib.Core.Bool.{Bool, true, false}
use mathlib.Core.Option.{Option, none, some}
use mathlib.Core.List.Memᴰ.{head}
use mathlib.Core.List.Memᴰ.{tail as later}
use mathlib.Core.List.{List, [], ◌∷◌, ◌++◌, Memᴰ}
use Prim.Native.Nat.{ℕ, ◌+◌, ◌*◌, ◌≤◌, ◌<◌}
use native.Mathlib.Decide.{dec_lt}
use native.Mathlib.Omega.{arith}
use lib.Dec.{ltb, ltb→lt, lt→ltb}
use lib.IntN.{pos, sub_ℕ}
use lib.Signed.{lt_z}
use lib.ListN.{length}
use borrow.Author.Tests.{lt-ltb, le-ltb}
use Rattle.arrays.specs.Order.{Sorted}
use Rattle.plane.specs.Point.{Point, lower, Lower}
use Rattle.plane.specs.Stored.{point_at}
use Rattle.plane.proofs.Order.{lower-order}
use Rattle.plane.proofs.Stored.{stored-coordinate}
use Rattle.arrays.proofs.Test.{same_test, by_test}
use Rattle.plane.proofs.Whole.{whole_ext, sub_value}
use Rattle.arrays.specs.Set.{put, has, passing}
use Rattle.model.specs.Tree.{tree_length}
use Rattle.model.specs.Tail.{tree_length_with}
use Rattle.model.proofs.Tail.{one_point_more}
use Rattle.model.specs.Round.{xs_of, ys_of, crossings, not_held, candidates, saving, best_above, best}
use Rattle.model.proofs.Candidate.{not_held_in, save_less, less_save}
use Rattle.arrays.proofs.Set.{has_in, put_same}
use Rattle.regions.specs.Rays.{far}
use Rattle.score.specs.Prepared.{spared_by}
use Rattle.search.specs.declared.found.Greatest.{Greatest}
use Rattle.search.specs.Search.{answer_of, greater, tried, try_all, gain_at, greatest_at}

pub try_append : (ps : List Point) (s : Greatest) (a b : List Point) → try_all ps s (a ++ b) ≡ try_all ps (try_all ps s a) b
unfolding try_all
try_append ps s [] b = refl
try_append ps s (c ∷ a) b = try_append ps (tried ps s c) a b

-- No crossing gains more than `far` and the length of the tree.
pub try_most : (ps : List Point) (g : Greatest) (l : List Point) → g.gain ≤ far + tree_length ps → (try_all ps g l).gain ≤ far + tree_length ps
unfolding try_all tried
try_most ps g [] h = h
try_most ps g (c ∷ l) h =
    try_most ps (tried ps g c) l
    (by_test (λ (r : Greatest). r.gain ≤ far + tree_length ps) (ltb g.gain (spared_by ps c)) _ _ (λ _. omega arith) (λ _. h))

-- A greater saving is a shorter tree.
saves_more : (now m n : ℕ) → lt_z (sub_ℕ now m) (sub_ℕ now n) ≡ ltb n m
saves_more now m n = same_test (lt_z (sub_ℕ now m) (sub_ℕ now n)) (ltb n m) (λ t. lt→ltb n m (save_less now m n t)) (λ t. less_save now m n (ltb→lt n m t))

-- Where the gain is `far` or more, crossings that are held may be left out: they spare nothing.
module _ (ps : List Point) (s : Sorted Lower ps) where
  tried-far : (g : Greatest) (c : Point) → far ≤ g.gain → far ≤ (tried ps g c).gain
  unfolding tried
  tried-far g c h =
      by_test (λ (r : Greatest). far ≤ r.gain) (ltb g.gain (spared_by ps c)) (λ _. record { gain = spared_by ps c; best = answer_of (some c) }) (λ _. g)
      (λ t. omega (arith, ltb→lt g.gain (spared_by ps c) t)) (λ _. h)

  skip_held : (g : Greatest) → far ≤ g.gain → (l : List Point) → try_all ps g l ≡ try_all ps g (not_held ps l)
  unfolding try_all tried not_held passing
  skip_held g h [] = refl
  skip_held g h (c ∷ l) = go (has lower c ps) refl (skip_held g h l) (skip_held (tried ps g c) (tried-far g c h) l)
    where
      go : (b : Bool) → has lower c ps ≡ b → try_all ps g l ≡ try_all ps g (not_held ps l)
          → try_all ps (tried ps g c) l ≡ try_all ps (tried ps g c) (not_held ps l) → try_all ps g (c ∷ l) ≡ try_all ps g (not_held ps (c ∷ l))
      go true e same other =
          let as_long = ap tree_length (put_same lower lower-order c ps s ((has_in lower lower-order c ps).0 (rw e tt))) in
          rw (e, le-ltb g.gain (spared_by ps c) (omega arith)) same
      go false e same other = rw e other

-- The search from what was found before, with tails: the gain of a crossing and the length with it add up to the same for all.
module _ (tail : ℕ) (ps : List Point) (s : Sorted Lower ps) (some-there : 1 ≤ length ps) where
  abbrev whole : ℕ
  whole = tree_length_with tail ps

  -- The length of the tree with the point that was found, or of the tree itself where none was.
  length_at : Option Point → ℕ
  length_at none = tree_length_with tail ps
  length_at (some c) = tree_length_with tail (put lower c ps)

  -- What is known of the point that was found.
  abbrev Agrees : Option Point → Type 0
  Agrees found = gain_at tail ps found + length_at found ≡ far + 2 * tail + whole

  -- A crossing that is not held brings one run more.
  module _ (c : Point) (free : ¬ Memᴰ c ps) where
    reaches : tree_length_with tail (put lower c ps) ≤ far + 2 * tail + whole → Agrees (some c)
    unfolding length_at
    reaches h = omega (arith, one_point_more tail ps s some-there c free)

    loses : (found : Option Point) → Agrees found → length_at found ≤ tree_length_with tail (put lower c ps)
        → ltb (gain_at tail ps found) (spared_by ps c) ≡ false
    loses found a h = le-ltb (gain_at tail ps found) (spared_by ps c) (omega (arith, one_point_more tail ps s some-there c free))

    wins : (found : Option Point) → Agrees found → tree_length_with tail (put lower c ps) < length_at found
        → ltb (gain_at tail ps found) (spared_by ps c) ≡ true
    wins found a h = lt-ltb (gain_at tail ps found) (spared_by ps c) (omega (arith, one_point_more tail ps s some-there c free))

  -- Among points that are not held it finds what the model's search finds from that saving on.
  abbrev Free : List Point → Type 0
  Free l = (c : Point) → Memᴰ c l → ¬ Memᴰ c ps

  best_from : Option Point → List Point → Option Point
  best_from found l = best_above tail whole ps (sub_ℕ whole (length_at found)) found l

  try_free : (found : Option Point) → Agrees found → (l : List Point) → Free l
      → try_all ps (greatest_at tail ps found) l ≡ greatest_at tail ps (best_from found l)
  unfolding try_all tried best_above best_from saving length_at
  try_free found a [] free = refl
  try_free found a (c ∷ l) free =
      go (dec_lt (tree_length_with tail (put lower c ps)) (length_at found)) (try_free found a l (λ d i. free d (later i)))
      (λ q. try_free (some c) q l (λ d i. free d (later i)))
    where
      go : Dec (tree_length_with tail (put lower c ps) < length_at found)
          → try_all ps (greatest_at tail ps found) l ≡ greatest_at tail ps (best_from found l)
          → (Agrees (some c) → try_all ps (greatest_at tail ps (some c)) l ≡ greatest_at tail ps (best_from (some c) l))
          → try_all ps (tried ps (greatest_at tail ps found) c) l ≡ greatest_at tail ps (best_from found (c ∷ l))
      go (yes q) same other =
          rw (
            saves_more whole (length_at found) (tree_length_with tail (put lower c ps)),
            lt-ltb (tree_length_with tail (put lower c ps)) (length_at found) q,
            wins c (free c (head refl)) found a q,
          ) (other (reaches c (free c (head refl)) (omega arith)))
      go (no q) same other =
          rw (
            saves_more whole (length_at found) (tree_length_with tail (put lower c ps)),
            le-ltb (tree_length_with tail (put lower c ps)) (length_at found) (omega arith),
            loses c (free c (head refl)) found a (omega arith),
          ) same

  -- From the bar, among all crossings: the best candidate.
  pub try_crossings : try_all ps (greatest_at tail ps none) (crossings (xs_of ps) (ys_of ps)) ≡ greatest_at tail ps (best tail ps)
  unfolding best candidates length_at best_from
  try_crossings =
      let e : pos 0 ≡ sub_ℕ whole whole = whole_ext _ _ (omega (arith, sub_value whole whole)) in
      let found = try_free none (omega arith) (candidates ps) (λ c i. ((not_held_in ps (crossings (xs_of ps) (ys_of ps)) c).0 i).1) in
      skip_held ps s (greatest_at tail ps none) (omega arith) (crossings (xs_of ps) (ys_of ps)) ∙ rw e found

  -- From a point with a gain, whatever it saves: the first of greatest saving.
  pub try_from : (c : Point) → ¬ Memᴰ c ps → 0 < spared_by ps c → (l : List Point) → Free l
      → try_all ps (greatest_at tail ps (some c)) l ≡ greatest_at tail ps (best_above tail whole ps (saving tail whole ps c) (some c) l)
  unfolding saving length_at best_from
  try_from c free h l others = try_free (some c) (reaches c free (omega (arith, one_point_more tail ps s some-there c free))) l others

-- One crossing, by its gain.
pub tried_is : (ps : List Point) (s : Greatest) (g x y : ℕ) → g ≡ spared_by ps (point_at x y) → greater s g x y ≡ tried ps s (point_at x y)
unfolding tried
tried_is ps s g x y e = rw (← e, stored-coordinate x, stored-coordinate y)

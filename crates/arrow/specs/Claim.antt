-- What is claimed of arrows (SPEC 3.3 to 3.5, 8.5), apart from the definitions that work them out: their numbers stand here once more, so that
-- another number there is refused here.
use Rattle.std.specs.Prelude.{◌≡◌, ◌⊎◌, ◌↔◌, map, [], ◌∷◌, ℕ, ◌+◌, ◌*◌, ◌≤◌, ◌<◌, T, ℤ, pos, nat_abs, ◌-ℤ◌, length, get_or}
use Rattle.std.proofs.Math.IntN.{sub_ℕ}
use Rattle.std.specs.Int.Signed.{le_z}
use Rattle.arrays.specs.Text.{byte}
use Rattle.plane.specs.Point.{Point}
use Rattle.octants.specs.Octant.{in_octant, octant}
use Rattle.std.specs.Prelude.{Ok, Err}
use Rattle.table.specs.Table.{arrow_table}
use Rattle.arrow.specs.Arrow.{arrow, glyph}

-- No difference.
abbrev pub NoDifference : ℤ → ℤ → Type 0
NoDifference dx dy = (dx ≡ pos 0) × (dy ≡ pos 0)

-- The table (SPEC 3.3): dy = j − 15 rises by rows, and within one dx = i − 15. Every entry but one is the octant of its difference; that of no
-- difference is 8.
pub record TableOfOctants : Type 0 where
  pub size : length arrow_table ≡ 961
  pub entries : (i j : ℕ) → i < 31 → j < 31 → ¬ NoDifference (sub_ℕ i 15) (sub_ℕ j 15) → get_or arrow_table (31 * j + i) 0 ≡ octant (sub_ℕ i 15) (sub_ℕ j 15)
  pub here : get_or arrow_table (31 * 15 + 15) 0 ≡ 8

-- q is d divided by n, toward zero: n goes into d as often as q says and no more often, both without their signs, and q is on d's side of zero.
pub record TowardZero (d : ℤ) (n : ℕ) (q : ℤ) : Type 0 where
  pub goes : nat_abs q * n ≤ nat_abs d
  pub most : nat_abs d < nat_abs q * n + n
  pub above : T (le_z (pos 0) d) → T (le_z (pos 0) q)
  pub below : T (le_z d (pos 0)) → T (le_z q (pos 0))

-- The arrow where the pitch is taken and the quotients are qx and qy (SPEC 3.4): refused by 14 exactly if one of them is more than 15 without
-- its sign; else 8 for no difference, and for any other the octant that the difference is in.
pub record ArrowFor (display bay : Point) (pitch qx qy : ℤ) : Type 0 where
  pub too_far : (arrow display bay pitch ≡ Err 14) ↔ ¬ ((nat_abs qx ≤ 15) × (nat_abs qy ≤ 15))
  pub here : NoDifference qx qy → arrow display bay pitch ≡ Ok 8
  pub points : nat_abs qx ≤ 15 → nat_abs qy ≤ 15 → ¬ NoDifference qx qy → (k : ℕ) → (arrow display bay pitch ≡ Ok k) ↔ T (in_octant k qx qy)

-- All of it, for all whole numbers.
pub record Arrows : Type 0 where
  pub table : TableOfOctants
  -- a refusal has the number 13 or 14: 13 exactly if the pitch is not from 1 to 1,000
  pub bad_pitch : (display bay : Point) (pitch : ℤ)
      → (arrow display bay pitch ≡ Err 13) ↔ ¬ (T (le_z (pos 1) pitch) × T (le_z pitch (pos 1000)))
  pub others : (display bay : Point) (pitch : ℤ) (n : ℕ) → arrow display bay pitch ≡ Err n → (n ≡ 13) ⊎ (n ≡ 14)
  -- there is one quotient toward zero, and no other, and the arrow is that of the two quotients
  pub quotient : (d : ℤ) (n : ℕ) → 1 ≤ n → (q : ℤ) × TowardZero d n q × ((r : ℤ) → TowardZero d n r → r ≡ q)
  pub arrow_for : (display bay : Point) (n : ℕ) → 1 ≤ n → n ≤ 1000 → (qx qy : ℤ)
      → TowardZero (bay.x -ℤ display.x) n qx → TowardZero (bay.y -ℤ display.y) n qy → ArrowFor display bay (pos n) qx qy
  -- the glyphs of 0 to 8, and that of every other number
  pub glyphs : map glyph (0 ∷ 1 ∷ 2 ∷ 3 ∷ 4 ∷ 5 ∷ 6 ∷ 7 ∷ 8 ∷ [])
      ≡ byte "E" ∷ byte "N" ∷ byte "n" ∷ byte "W" ∷ byte "w" ∷ byte "S" ∷ byte "s" ∷ byte "e" ∷ byte "." ∷ []
  pub no_arrow : (n : ℕ) → 9 ≤ n → glyph n ≡ byte "?"

-- The eight octants (SPEC 3.1).
use Rattle.std.specs.Prelude.{Bool, false, ◌&&◌, List, [], ◌∷◌, ℕ, suc, get_or, ℤ, pos, neg_ℤ}
use Rattle.std.specs.Int.Signed.{lt_z, le_z}
use Rattle.arrays.specs.Test.{if}

-- The table of SPEC 3.1: the condition of each octant, 0 to 7, on the differences dx and dy.
unfoldable pub conditions : ℤ → ℤ → List Bool
conditions dx dy =
    (lt_z (pos 0) dx && (le_z (pos 0) dy && lt_z dy dx))
    ∷ (lt_z (pos 0) dx && le_z dx dy)
    ∷ (lt_z (pos 0) dy && (le_z (pos 0) (neg_ℤ dx) && lt_z (neg_ℤ dx) dy))
    ∷ (lt_z (pos 0) dy && le_z dy (neg_ℤ dx))
    ∷ (lt_z dx (pos 0) && (le_z (pos 0) (neg_ℤ dy) && lt_z (neg_ℤ dy) (neg_ℤ dx)))
    ∷ (lt_z dx (pos 0) && le_z (neg_ℤ dx) (neg_ℤ dy))
    ∷ (lt_z dy (pos 0) && (le_z (pos 0) dx && lt_z dx (neg_ℤ dy)))
    ∷ (lt_z dy (pos 0) && le_z (neg_ℤ dy) dx)
    ∷ []

-- How many octants there are; as the octant of a difference it stands for none.
abbrev pub octant_count : ℕ
octant_count = 8

-- The difference (dx, dy) is in octant k.
abbrev pub in_octant : ℕ → ℤ → ℤ → Bool
in_octant k dx dy = get_or (conditions dx dy) k false

-- How many conditions stand before the first that holds.
unfoldable pub first_true : List Bool → ℕ
first_true [] = 0
first_true (b ∷ l) = if b (λ _. 0) (λ _. suc (first_true l))

-- The octant of a difference; 8 where no condition holds, which is the difference 0, 0 alone.
unfoldable pub octant : ℤ → ℤ → ℕ
octant dx dy = first_true (conditions dx dy)

-- Keys: their parts, and how they compare.
use mathlib.Core.Path.{◌≡◌}
use Prim.Native.Nat.{ℕ, ◌≤◌, ◌<◌}
use native.Mathlib.Omega.{arith}
use Rattle.keys.specs.Keys.{key, weight, low, high, no_key}

module _ (d i j : ℕ) (hi : i < 128) (hj : j < 128) where
  pub key-weight : weight (key d i j) ≡ d
  key-weight = omega arith

  pub key-low : low (key d i j) ≡ i
  key-low = omega arith

  pub key-high : high (key d i j) ≡ j
  key-high = omega arith

  pub key_below : d ≤ 131070 → key d i j < no_key
  key_below h = omega arith

-- A shorter edge has a smaller key, and so has one to a smaller first number.
pub key-shorter : (d i j d' i' j' : ℕ) → i < 128 → j < 128 → d < d' → key d i j < key d' i' j'
key-shorter d i j d' i' j' hi hj h = omega arith

pub key-first : (d i j i' j' : ℕ) → j < 128 → i < i' → key d i j < key d i' j'
key-first d i j i' j' hj h = omega arith

-- A smaller key is no longer.
pub weight-le : (k k' : ℕ) → k < k' → weight k ≤ weight k'
weight-le k k' h = omega arith

-- What a crossing spares, by its rays and the bottlenecks of the tree.
use Rattle.std.specs.Prelude.{List, [], ◌∷◌, ℕ, ◌+◌, ◌*◌, ◌-◌, min, max, get_or}
use Rattle.regions.specs.Rays.{places, ray_length, ray_point, far}
use Rattle.regions.specs.Nearest.{Side, east, west, north, south, ray_at}

-- The entry of two numbers in a table of 128 rows of 128.
abbrev pub table_at : List ℕ → ℕ → ℕ → ℕ
table_at table u v = get_or table (u * places + v) 0

-- min(rest, max(length of k, bottleneck of k's point and q)): the bottleneck of the crossing and the point q with the ray k, where it is
-- `rest` without it. The function t gives the bottleneck of two held points.
unfoldable pub over : (ℕ → ℕ → ℕ) → ℕ → ℕ → ℕ → ℕ
over t k q rest = min (max (ray_length k) (t (ray_point k) q)) rest

-- The same with all rays of a list: the least of max(length of k, bottleneck of k's point and q), and `far` with no ray.
unfoldable pub bound : (ℕ → ℕ → ℕ) → List ℕ → ℕ → ℕ
bound t [] q = far
bound t (k ∷ ks) q = over t k q (bound t ks q)

-- How much the rays of a list lower the least weight: the sum of max(0, bound of k's point by the rays behind k − length of k).
unfoldable pub gain : (ℕ → ℕ → ℕ) → List ℕ → ℕ
gain t [] = 0
gain t (k ∷ ks) = gain t ks + (bound t ks (ray_point k) - ray_length k)

-- One number for each side.
abbrev pub by_side : (Side → ℕ) → List ℕ
by_side k = k south ∷ k north ∷ k west ∷ k east ∷ []

-- The least rays at a row, from an array of their complements.
abbrev pub rays_at : List ℕ → ℕ → List ℕ
rays_at least r = by_side (λ t. ray_at least t r)

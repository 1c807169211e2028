-- The least keys of the octants with one more point: only the octant that the point is in changes.
use mathlib.Core.Path.{◌≡◌, refl, sym, ap, ap₂, ◌∙◌}
use mathlib.Core.Bool.{Bool, true, false}
use mathlib.Core.List.{List, [], ◌∷◌}
use Prim.Native.Nat.{ℕ, zero, suc, ◌+◌, ◌≤◌, ◌<◌, min}
use native.Mathlib.Numerals.{add-one}
use native.Mathlib.Omega.{arith}
use lib.Dec.{T, T_not}
use lib.ListN.{length, take, get_or, set}
use lib.Seq.{get_or-take}
use lib.IntN.{ℤ, ◌-ℤ◌}
use Rattle.plane.specs.Point.{Point, dist}
use Rattle.plane.specs.Stored.{point_at}
use Rattle.octants.specs.Octant.{conditions, in_octant, first_true, octant}
use Rattle.octants.specs.Nearest.{in_octant_of}
use Rattle.arrays.specs.Test.{if}
use Rattle.arrays.proofs.Test.{by_test}
use Rattle.octants.proofs.OneOctant.{octant_is}
use Rattle.keys.specs.Held.{held}
use Rattle.keys.specs.Keys.{key, least_key, octant_keys}
use Rattle.arrays.specs.Tab.{tab}
use Rattle.arrays.proofs.Tab.{tab_get, tab_same, tab-set}

-- The first condition that holds, holds.
first_holds : (l : List Bool) → first_true l < length l → T (get_or l (first_true l) false)
unfolding first_true
first_holds [] h = absurd (omega arith)
first_holds (true ∷ l) h = tt
first_holds (false ∷ l) h = first_holds l (omega arith)

octant_holds : (dx dy : ℤ) (v : ℕ) → octant dx dy ≡ v → v < 8 → T (in_octant v dx dy)
unfolding octant conditions
octant_holds dx dy v e h = rw e at (first_holds (conditions dx dy) (omega arith))

module _ (at : ℕ → Point) (c : Point) (n j v : ℕ) (is : octant ((at j).x -ℤ c.x) ((at j).y -ℤ c.y) ≡ v) where
  -- Octant v gains the point, and no other.
  least-here : v < 8 → least_key at c n v (suc j) ≡ min (key (dist (at j) c) j n) (least_key at c n v j)
  unfolding least_key
  least-here h =
      by_test (λ (z : ℕ). z ≡ min (key (dist (at j) c) j n) (least_key at c n v j)) (in_octant_of v c (at j)) _ _ (λ t. refl)
      (λ t. absurd (T_not (in_octant_of v c (at j)) t (octant_holds ((at j).x -ℤ c.x) ((at j).y -ℤ c.y) v is h)))

  least_other : (o : ℕ) → ¬ (o ≡ v) → least_key at c n o (suc j) ≡ least_key at c n o j
  unfolding least_key
  least_other o e =
      by_test (λ (z : ℕ). z ≡ least_key at c n o j) (in_octant_of o c (at j)) _ _
      (λ t. absurd (e (sym (octant_is o ((at j).x -ℤ c.x) ((at j).y -ℤ c.y) t) ∙ is))) (λ t. refl)

  -- The table of least keys, with the point in octant v, and with one at the same place.
  pub octants_more : v < 8 → (k b : ℕ) → k ≡ key (dist (at j) c) j n → b ≡ least_key at c n v j
      → set (tab (λ (o : ℕ). least_key at c n o j) 8) v (min k b) ≡ tab (λ (o : ℕ). least_key at c n o (suc j)) 8
  octants_more h k b ek eb =
      tab-set (λ (o : ℕ). least_key at c n o j) (λ (o : ℕ). least_key at c n o (suc j)) 8 v (min k b) h (least-here h ∙ ap₂ min (sym ek) (sym eb))
      (λ i l e. sym (least_other i e))

  pub octants_same : 8 ≤ v → tab (λ (o : ℕ). least_key at c n o j) 8 ≡ tab (λ (o : ℕ). least_key at c n o (suc j)) 8
  octants_same h = tab_same _ _ 8 (λ i l. sym (least_other i (λ e. omega arith)))

-- What is said of the first n points is said by their places alone.
least_same : (at at' : ℕ → Point) (c : Point) (n o j : ℕ) → ((i : ℕ) → i < j → at i ≡ at' i) → least_key at c n o j ≡ least_key at' c n o j
unfolding least_key
least_same at at' c n o zero h = refl
least_same at at' c n o (suc j) h =
    ap₂ (λ (p : Point) (r : ℕ). if (in_octant_of o c p) (λ _. min (key (dist p c) j n) r) (λ _. r)) (h j (omega arith))
    (least_same at at' c n o j (λ i l. h i (omega arith)))

pub octant_keys-first : (xs ys : List ℕ) (c : Point) (n : ℕ) → octant_keys (held (take n xs) (take n ys)) c n ≡ octant_keys (held xs ys) c n
unfolding octant_keys
octant_keys-first xs ys c n =
    tab_same _ _ 8 (λ o _. least_same (held (take n xs) (take n ys)) (held xs ys) c n o n
    (λ i h. ap₂ point_at (get_or-take n xs i 0 h) (get_or-take n ys i 0 h)))

-- One step of the search: the point j is in octant v, with the key k, and the table b becomes b'.
module _ (at : ℕ → Point) (c : Point) (n j v : ℕ) (is : v ≡ octant ((at j).x -ℤ c.x) ((at j).y -ℤ c.y))
    (b b' : List ℕ) (inv : b ≡ tab (λ (o : ℕ). least_key at c n o j) 8) where
  pub point_in-octant : (k r : ℕ) → v < 8 → k ≡ key (dist (at j) c) j n → r ≡ min k (get_or b v 0) → b' ≡ set b v r
      → b' ≡ tab (λ (o : ℕ). least_key at c n o (j + 1)) 8
  point_in-octant k r h ek er e =
      e ∙ ap₂ (λ l x. set l v x) inv (er ∙ ap (min k) (ap (λ l. get_or l v 0) inv ∙ tab_get (λ (o : ℕ). least_key at c n o j) 8 v 0 h))
      ∙ octants_more at c n j v (sym is) h k (least_key at c n v j) ek refl ∙ ap (λ (z : ℕ). tab (λ (o : ℕ). least_key at c n o z) 8) (sym (add-one j))

  pub point_in_none : 8 ≤ v → b' ≡ b → b' ≡ tab (λ (o : ℕ). least_key at c n o (j + 1)) 8
  point_in_none h e = e ∙ inv ∙ octants_same at c n j v (sym is) h ∙ ap (λ (z : ℕ). tab (λ (o : ℕ). least_key at c n o z) 8) (sym (add-one j))

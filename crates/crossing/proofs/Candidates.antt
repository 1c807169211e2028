-- The search over all crossings finds the best candidate: the lines as they are stored are the lines of the points, since a stored
-- coordinate and its whole number come in the same order. And no gain is large.
use mathlib.Core.Path.{◌≡◌, refl, sym, ap, ◌∙◌}
use mathlib.Core.List.{List, [], map}
use Prim.Native.Nat.{ℕ, ◌+◌, ◌*◌, ◌≤◌, ◌<◌}
use native.Mathlib.Omega.{arith}
use lib.Dec.{ltb}
use lib.IntN.{ℤ}
use lib.ListN.{length, get_or}
use lib.Seq.{take_all}
use lib.Signed.{lt_z}
use Rattle.plane.specs.Point.{Point}
use Rattle.plane.specs.Coordinate.{coordinate}
use Rattle.arrays.proofs.Order.{nat_order}
use Rattle.plane.proofs.Stored.{coordinate_less}
use Rattle.arrays.specs.Set.{union, set_of, passing}
use Rattle.model.specs.Round.{crossings, not_held, candidates, best_above, best}
use Rattle.arrays.proofs.SetMap.{union-map}
use Rattle.arrays.proofs.Tab.{tab-length, tab-map}
use Rattle.keys.specs.Held.{held}
use Rattle.arrays.specs.Tab.{tab}
use Rattle.tree.proofs.Sorted.{ps_sorted}
use Rattle.tree.proofs.Size.{Words}
use Rattle.score.proofs.TreeKeys.{tree-short}
use Rattle.regions.specs.Rays.{far}
use Rattle.search.specs.declared.found.Greatest.{Greatest}
use Rattle.std.specs.Prelude.{None}
use Rattle.search.specs.Search.{TreeGiven, points_of, answer_of, try_all, nothing_found, most_gain}
use Rattle.search.proofs.Scan.{try_crossings, try_most}

-- One coordinate of the points, f, which is stored in the list l.
module _ (at : ℕ → Point) (f : Point → ℤ) (l : List ℕ) (e : (i : ℕ) → f (at i) ≡ coordinate (get_or l i 0)) where
  pub lines_are : (n : ℕ) → n ≡ length l → {lines : List ℕ} → lines ≡ set_of ltb l → map coordinate lines ≡ set_of lt_z (map f (tab at n))
  lines_are n h p =
      ap (map coordinate) p
      ∙ union-map coordinate ltb lt_z (λ _. Unit {0}) (λ a b _ _. sym (coordinate_less a b)) nat_order l [] (λ a i. tt) (λ a i. tt)
      ∙ ap (set_of lt_z) (sym (tab-map at f coordinate l e n (omega arith) ∙ ap (map coordinate) (take_all n l (omega arith))))

-- From the bar, over all crossings, the best candidate is found.
pub best_found : (tail : ℕ) {xs ys keys columns rows : List ℕ} → TreeGiven xs ys keys → 0 < length xs
    → columns ≡ set_of ltb xs → rows ≡ set_of ltb ys → {r : Greatest}
    → r ≡ try_all (points_of xs ys) (record { gain = far + 2 * tail; best = None }) (crossings (map coordinate columns) (map coordinate rows))
    → r.best ≡ answer_of (best tail (points_of xs ys))
best_found tail {xs} {ys} p some cs rs e =
    let cx = lines_are (held xs ys) (λ (q : Point). q.x) xs (λ i. refl) (length xs) refl cs in
    let ry = lines_are (held xs ys) (λ (q : Point). q.y) ys (λ i. refl) (length xs) p.same rs in
    ap (λ (s : Greatest). s.best) ((rw (cx, ry) at e) ∙ try_crossings tail (points_of xs ys) (ps_sorted (held xs ys) (length xs) (omega arith) p.rises)
    (omega (arith, tab-length (held xs ys) (length xs))))

-- With no point there is no crossing.
pub none_best : (tail : ℕ) (xs ys : List ℕ) → length xs ≡ 0 → None ≡ answer_of (best tail (points_of xs ys))
unfolding best candidates not_held passing crossings best_above tab union
none_best tail xs ys e = rw e refl

-- What is found from nothing has no large gain, as the tree of points stored in 16 bits is not long.
pub found_fits : {xs ys keys : List ℕ} → TreeGiven xs ys keys → Words xs → Words ys → (l : List Point) {r : Greatest}
    → r ≡ try_all (points_of xs ys) nothing_found l → r.gain ≤ most_gain
found_fits {xs} {ys} p wx wy l e =
    omega (
      arith,
      ap (λ (g : Greatest). g.gain) e,
      try_most (points_of xs ys) nothing_found l (omega arith),
      tree-short xs ys (length xs) p.few wx wy p.rises,
    )

-- The edges in a file: how many there are, and that their bytes are the runs section. A tree has one edge less than points, and the
-- numbers of points are below 128.
use mathlib.Core.Path.{◌≡◌, refl, ap, ◌∙◌}
use mathlib.Core.List.Memᴰ.{head}
use mathlib.Core.List.Memᴰ.{tail}
use mathlib.Core.List.{List, [], ◌∷◌, map, Memᴰ}
use Prim.Native.Nat.{ℕ, ◌+◌, ◌-◌, ◌*◌, ◌/◌, ◌%◌, ◌≤◌, ◌<◌}
use native.Mathlib.Omega.{arith}
use lib.ListN.{length, take, length-map}
use Rattle.plane.specs.Point.{Point}
use Rattle.plane.specs.Edge.{Edge, listed_before, planar}
use Rattle.plane.proofs.Order.{listed-order}
use Rattle.model.specs.State.{State, points, Valid}
use Rattle.model.specs.Question.{listed, tree_of}
use Rattle.model.specs.File.{number_of, run_bytes, run_section}
use Rattle.arrays.proofs.Set.{set_of_in}
use Rattle.model.proofs.Tree.{mst-run-tree, tree-edges}
use Rattle.model.proofs.Prune.{points-rise}
use Rattle.model.proofs.Bounds.{points-count, points-few}
use Rattle.model.proofs.FileSize.{listed-count, number-below, runs-length}
use Rattle.tree.specs.Ends.{ends_at}
use Rattle.points.specs.Coded.{places}
use Rattle.points.proofs.Codes.{padded-take}
use Rattle.points.proofs.Coded.{pins-count, steiner_count_lem}
use Rattle.working.specs.declared.Working.{Working}
use Rattle.working.specs.InOrder.{state_of}
use Rattle.edges.specs.Edges.{edge_numbers, edge_row}
use Rattle.edges.proofs.Numbers.{listed-length}
use Rattle.arrays.specs.Paste.{each}
use Rattle.sections.specs.Bytes.{edge_bytes}

pub edge_count_lem : (s : State) → Valid s → length (listed s) ≡ length s.pins + length s.steiner - 1
edge_count_lem s v =
    omega (arith, listed-count s v.placed, tree-edges (points s) (points-rise s v.placed.steiner_rise), points-count s v)

-- An edge as one number, in bytes.
edge_bytes_lem : (ps : List Point) (l : List Edge) → length ps ≤ 128 → ((e : Edge) → Memᴰ e l → Memᴰ e.lo ps × Memᴰ e.hi ps)
    → edge_bytes (map (ends_at ps) l) ≡ run_bytes ps l
unfolding each run_bytes
edge_bytes_lem ps [] h ends = refl
edge_bytes_lem ps (e ∷ l) h ends =
    let b = ends e (head refl) in
    let m : number_of ps e.lo < length ps = number-below ps e.lo b.0 in
    let n : number_of ps e.hi < length ps = number-below ps e.hi b.1 in
    go (number_of ps e.lo) (number_of ps e.hi) (omega arith) (omega arith) (edge_bytes_lem ps l h (λ f i. ends f (tail i)))
  where
    go : (m n : ℕ) → m < 128 → n < 128 → edge_bytes (map (ends_at ps) l) ≡ run_bytes ps l
        → (m * 128 + n) / 128 % 256 ∷ (m * 128 + n) % 128 ∷ edge_bytes (map (ends_at ps) l) ≡ m ∷ n ∷ run_bytes ps l
    go m n p q r =
        let x : (m * 128 + n) / 128 % 256 ≡ m = omega arith in
        let y : (m * 128 + n) % 128 ≡ n = omega arith in
        cc

section-edges : (s : State) → Valid s → edge_bytes (edge_numbers s) ≡ run_section s
unfolding listed planar
section-edges s v =
    edge_bytes_lem (points s) (listed s) (omega (arith, points-few s v))
    (λ e i. (mst-run-tree (points s) (points-rise s v.placed.steiner_rise)).tree.ends e ((set_of_in listed_before listed-order (tree_of s) e).0 i))

-- The edges of a working form.
module _ (w : Working) (v : Valid (state_of w)) where
  pub count_is : w.nkeys ≡ w.points.npins + w.points.nsteiner - 1
  count_is =
      omega (
        arith,
        listed-length w,
        edge_count_lem (state_of w) v,
        pins-count w.points w.in_order.arranged,
        steiner_count_lem w.points w.in_order.arranged,
      )

  pub edges_are : edge_bytes (take w.nkeys (edge_row (state_of w))) ≡ run_section (state_of w)
  edges_are =
      ap edge_bytes (padded-take places (edge_numbers (state_of w)) w.nkeys
      (length-map (listed (state_of w)) (ends_at (points (state_of w))) ∙ listed-length w))
      ∙ section-edges (state_of w) v

  pub edges-long : length (run_section (state_of w)) ≡ 2 * w.nkeys
  edges-long = omega (arith, runs-length (points (state_of w)) (listed (state_of w)), listed-length w)

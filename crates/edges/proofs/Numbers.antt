-- The edges of a working form as numbers: the ends of its keys are those of the state's edges in the listing order, and the number
-- of a point is where its code stands among the codes of all points.
use mathlib.Core.Path.{◌≡◌, refl, sym, ap, ap₂, ◌∙◌, subst, subst⁻¹}
use mathlib.Core.Logic.{⊎_elim}
use mathlib.Core.Option.{some}
use mathlib.Core.List.Memᴰ.{head}
use mathlib.Core.List.Memᴰ.{tail as later}
use mathlib.Core.List.{List, [], ◌∷◌, ◌++◌, map, Memᴰ}
use mathlib.Core.List.Memᴰ.{cases_cons as cases}
use mathlib.Core.List.Memᴰ.{not-nil}
use Prim.Native.Nat.{ℕ, zero, suc, ◌+◌, ◌*◌, ◌-◌, ◌/◌, ◌%◌, ◌≤◌, ◌<◌}
use native.Mathlib.Omega.{arith}
use native.Mathlib.Numerals.{add-one}
use lib.Dec.{T, ltb}
use lib.ListN.{length, take, get_or, get_elem?, replicate, length-map}
use lib.Seq.{get_or-take}
use Rattle.arrays.specs.Paste.{Pasted}
use Rattle.spanning.specs.Graph.{total}
use Rattle.arrays.specs.Set.{tie, set_of}
use Rattle.arrays.proofs.Set.{tie-eq, no_tie, set_of_in}
use Rattle.arrays.proofs.Test.{by_test}
use Rattle.sorted.proofs.Rise.{get_in}
use Rattle.arrays.proofs.paste.Parts.{front_is}
use Rattle.plane.specs.Point.{Point, lower, dist}
use Rattle.plane.specs.Edge.{Edge, listed_before, planar}
use Rattle.plane.specs.Code.{x_of, y_of, point_of, is_code}
use Rattle.plane.proofs.Order.{lower-order, listed-order}
use Rattle.model.specs.Tree.{mst, tree_length}
use Rattle.model.specs.State.{State, points}
use Rattle.model.specs.Tail.{longest_tail, run_length, tree_length_with}
use Rattle.model.specs.Question.{listed, edge_count}
use Rattle.model.specs.Session.{longest_tree}
use Rattle.model.specs.File.{number_of}
use Rattle.model.proofs.Tree.{mst-run-tree}
use Rattle.model.proofs.Tail.{length_with_lem}
use Rattle.model.proofs.Prune.{points_in_lem, points-rise}
use Rattle.model.proofs.Bounds.{length-bound}
use Rattle.model.proofs.FileSize.{listed-count, number-below}
use Rattle.keys.specs.Held.{held}
use Rattle.keys.specs.Keys.{edge_of as edgeOfKey, weight, tree_keys, ends_of}
use Rattle.tree.specs.Ends.{ends_at}
use Rattle.tree.proofs.Lengths.{rising-total}
use Rattle.tree.proofs.Numbers.{ends-listed}
use Rattle.tree.proofs.Size.{near_words}
use Rattle.tree.proofs.Sorted.{tree_keys-mst}
use Rattle.points.specs.Coded.{padded, places}
use Rattle.points.proofs.Codes.{drop_zeros}
use Rattle.working.specs.declared.Working.{Working}
use Rattle.edges.specs.declared.CodedEdge.{CodedEdge}
use Rattle.working.specs.InOrder.{state_of}
use Rattle.edges.specs.Edges.{edge_numbers, edge_row, edge_of, EdgeAt}
use Rattle.working.proofs.InOrder.{all_codes_lem, all_points, arranged-placed}

-- A point among those of a list of codes, from its number.
number-point : (l : List ℕ) (q : Point) → Memᴰ q (map point_of l) → point_of (get_or l (number_of (map point_of l) q) 0) ≡ q
unfolding number_of
number-point [] q i = absurd (not-nil i)
number-point (k ∷ l) q i =
    by_test (λ (n : ℕ). point_of (get_or (k ∷ l) n 0) ≡ q) (tie lower q (point_of k)) _ _ (λ t. sym (tie-eq lower lower-order q (point_of k) t))
    (λ n. number-point l q (⊎_elim (λ e. absurd (no_tie lower lower-order q (point_of k) n e)) (λ j. j) (cases i)))

-- The points of any two codes are at most this far from each other.
pub near-codes : (n a b : ℕ) → n ≡ dist (point_of a) (point_of b) → n ≤ 131070
near-codes n a b e = omega (arith, e, near_words (x_of a) (y_of a) (x_of b) (y_of b) (omega arith) (omega arith) (omega arith) (omega arith))

-- An item of a list by its place, and its image among the images of all.
item_at : {A : Type 0} (f : A → ℕ) (l : List A) (r : List ℕ) (i : ℕ) → i < length l
    → (a : A) × (get_elem? l i ≡ some a) × Memᴰ a l × (get_or (map f l ++ r) i 0 ≡ f a)
item_at f [] r i h = absurd (omega arith)
item_at f (a ∷ l) r zero h = (a, refl, head refl, refl)
item_at f (a ∷ l) r (suc i) h = let m = item_at f l r i (omega arith) in (m.0, m.1, later m.2, m.3)

module _ (w : Working) where
  -- The ends of the keys, least first.
  ends_are : set_of ltb (map ends_of (take w.nkeys w.keys)) ≡ edge_numbers (state_of w)
  unfolding listed
  ends_are =
      ap (λ (l : List ℕ). set_of ltb (map ends_of l)) w.in_order.tree
      ∙ sym (ends-listed (held w.xs w.ys) w.npoints (omega (arith, w.in_order.few)) w.in_order.rises)
      ∙ ap (λ l. map (ends_at l) (set_of listed_before (mst l))) w.in_order.points

  pub row_is : (ends : List ℕ) (r : ℕ) → Pasted (set_of ltb (map ends_of (take w.nkeys w.keys))) (replicate places 0) ends 0 r
      → ends ≡ edge_row (state_of w)
  row_is ends r f =
      let l = set_of ltb (map ends_of (take w.nkeys w.keys)) in
      front_is f ∙ ap (λ (z : List ℕ). l ++ z) (drop_zeros (length l) places) ∙ ap (padded places) ends_are

  -- The total of the keys is the length of the tree without tails.
  total_is : total weight (take w.nkeys w.keys) ≡ tree_length (points (state_of w))
  total_is =
      ap (total weight) w.in_order.tree ∙ rising-total (held w.xs w.ys) w.npoints (omega (arith, w.in_order.few)) w.in_order.rises
      ∙ ap tree_length w.in_order.points

  -- How many edges there are.
  pub edge_count_lem : w.nkeys ≡ edge_count (state_of w)
  edge_count_lem =
      let at = held w.xs w.ys in
      w.in_order.key_count ∙ sym (length-map (tree_keys at w.npoints) (edgeOfKey at))
      ∙ ap length (tree_keys-mst at w.npoints (omega (arith, w.in_order.few)) w.in_order.rises) ∙ ap (λ l. length (mst l)) w.in_order.points

  -- With two tails for each key it is the length, which fits.
  pub length_is_lem : (tail : ℕ) → total weight (take w.nkeys w.keys) + 2 * tail * w.nkeys ≡ tree_length_with tail (points (state_of w))
  unfolding tree_length tree_length_with
  length_is_lem tail =
      ap₂ (λ (a b : ℕ). a + 2 * tail * b) total_is edge_count_lem ∙ sym (length_with_lem tail (mst (points (state_of w))))

  pub length-fits : (tail : ℕ) → tail ≤ longest_tail → tree_length_with tail (points (state_of w)) ≤ longest_tree
  length-fits tail h =
      let placed = arranged-placed w.points w.in_order.arranged in
      length-bound tail h (points (state_of w)) (points-rise (state_of w) placed.steiner_rise) (omega (arith, w.in_order.few, w.in_order.count))
      (λ q i. ⊎_elim (placed.pins_range q) (placed.steiner_range q) ((points_in_lem (state_of w) q).0 i))

  pub listed-length : length (listed (state_of w)) ≡ w.nkeys
  listed-length = listed-count (state_of w) (arranged-placed w.points w.in_order.arranged) ∙ sym edge_count_lem

  -- What stands at the number of a point is a code.
  held-code : (n : ℕ) → n < w.npoints → T (is_code (get_or w.codes n 0))
  held-code n h =
      let codes = take w.npoints w.codes in
      let here : map point_of codes ≡ points (state_of w) = ap (map point_of) w.in_order.codes ∙ all_points w.points w.in_order.arranged in
      let long : length codes ≡ w.npoints = sym (length-map codes point_of) ∙ ap length here ∙ sym w.in_order.count in
      subst (λ (k : ℕ). T (is_code k)) (get_or-take w.npoints w.codes n 0 h)
      (all_codes_lem w.points w.in_order.arranged _
      (subst (λ (l : List ℕ). Memᴰ (get_or codes n 0) l) w.in_order.codes (get_in codes n (omega (arith, long, h)))))

  -- The code of a point stands at its number.
  below : (q : Point) → Memᴰ q (points (state_of w)) → number_of (points (state_of w)) q < w.npoints
  below q m = omega (arith, number-below (points (state_of w)) q m, w.in_order.count)

  code_at : (q : Point) → Memᴰ q (points (state_of w)) → point_of (get_or w.codes (number_of (points (state_of w)) q) 0) ≡ q
  code_at q m =
      let codes = take w.npoints w.codes in
      let here : map point_of codes ≡ points (state_of w) = ap (map point_of) w.in_order.codes ∙ all_points w.points w.in_order.arranged in
      ap point_of (sym (get_or-take w.npoints w.codes (number_of (points (state_of w)) q) 0 (below q m)))
      ∙ ap (λ (ps : List Point). point_of (get_or codes (number_of ps q) 0)) (sym here)
      ∙ number-point codes q (subst⁻¹ (λ (ps : List Point). Memᴰ q ps) here m)

  -- An edge of the tree, from the numbers of its ends.
  module _ (e : Edge) (i : Memᴰ e (listed (state_of w))) (both : ℕ) (is : both ≡ ends_at (points (state_of w)) e) where
    ends : Memᴰ e.lo (points (state_of w)) × Memᴰ e.hi (points (state_of w))
    unfolding planar listed
    ends =
        (mst-run-tree (points (state_of w)) (points-rise (state_of w) (arranged-placed w.points w.in_order.arranged).steiner_rise)).tree.ends e
        ((set_of_in listed_before listed-order (mst (points (state_of w))) e).0 i)

    low : both / 128 ≡ number_of (points (state_of w)) e.lo
    low = omega (arith, is, below e.lo ends.0, below e.hi ends.1, w.in_order.few)

    high : both % 128 ≡ number_of (points (state_of w)) e.hi
    high = omega (arith, is, below e.lo ends.0, below e.hi ends.1, w.in_order.few)

    within : (both / 128 < w.npoints) × (both % 128 < w.npoints)
    within = (omega (arith, low, below e.lo ends.0), omega (arith, high, below e.hi ends.1))

    between : ◌≡◌ {A = Edge} (record { lo = point_of (get_or w.codes (both / 128) 0); hi = point_of (get_or w.codes (both % 128) 0) }) e
    between =
        λ j. record {
          lo = (ap (λ (k : ℕ). point_of (get_or w.codes k 0)) low ∙ code_at e.lo ends.0) j;
          hi = (ap (λ (k : ℕ). point_of (get_or w.codes k 0)) high ∙ code_at e.hi ends.1) j;
        }

  -- The edge at a place of the listing order.
  module _ (row : List ℕ) (are : row ≡ edge_row (state_of w)) (i : ℕ) (h : i < w.nkeys) where
    item : (e : Edge) × (get_elem? (listed (state_of w)) i ≡ some e) × Memᴰ e (listed (state_of w))
        × (get_or (edge_row (state_of w)) i 0 ≡ ends_at (points (state_of w)) e)
    item =
        item_at (ends_at (points (state_of w))) (listed (state_of w)) (replicate (places - length (edge_numbers (state_of w))) 0) i
        (omega (arith, listed-length))

    both_is : get_or row i 0 ≡ ends_at (points (state_of w)) item.0
    both_is = ap (λ (l : List ℕ). get_or l i 0) are ∙ item.3

    pub both-within : (get_or row i 0 / 128 < w.npoints) × (get_or row i 0 % 128 < w.npoints)
    both-within = within item.0 item.2 (get_or row i 0) both_is

    pub edge_found : (tail n : ℕ) (e : CodedEdge)
        → e ≡ record { low = get_or w.codes (get_or row i 0 / 128) 0; high = get_or w.codes (get_or row i 0 % 128) 0; length = n }
        → n ≡ run_length tail (edge_of e) → EdgeAt tail (state_of w) i e
    edge_found tail n e same long =
        record {
          there = item.1 ∙ ap some (sym (ap edge_of same ∙ between item.0 item.2 (get_or row i 0) both_is));
          measured = ap (λ (z : CodedEdge). z.length) same ∙ long;
          coded = subst⁻¹ (λ (z : CodedEdge). T (is_code z.low) × T (is_code z.high)) same
              (held-code _ both-within.0, held-code _ both-within.1);
        }

-- The edges up to a place, and the edge there.
next_item : {A : Type 0} (l : List A) (i : ℕ) (a : A) → get_elem? l i ≡ some a → take (suc i) l ≡ take i l ++ (a ∷ [])
next_item [] i a e = absurd (let z : ◌≡◌ {A = ℕ} 0 1 = cc in omega arith)
next_item (b ∷ l) zero a e = let q : b ≡ a = cc in ap (λ z. z ∷ []) q
next_item (b ∷ l) (suc i) a e = ap (λ t. b ∷ t) (next_item l i a e)

pub edges_more : (tail : ℕ) (s : State) (i : ℕ) (e : CodedEdge) → EdgeAt tail s i e → take (i + 1) (listed s) ≡ take i (listed s) ++ (edge_of e ∷ [])
edges_more tail s i e f = ap (λ (k : ℕ). take k (listed s)) (add-one i) ∙ next_item (listed s) i (edge_of e) f.there

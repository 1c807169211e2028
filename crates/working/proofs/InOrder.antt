-- From arranged codes to a working form in order: the codes merged are the points of the state, their coordinates rise, and the
-- keys built are those of the tree.
use mathlib.Core.Path.{◌≡◌, sym, ap, ap₂, ◌∙◌, subst, subst⁻¹}
use mathlib.Core.Logic.{⊎_elim}
use mathlib.Core.Bool.{true}
use mathlib.Core.List.{List, map, Memᴰ}
use Prim.Native.Nat.{ℕ, ◌+◌, ◌≤◌, ◌<◌}
use native.Mathlib.Omega.{arith}
use lib.Dec.{T, ltb, lt→ltb}
use lib.ListN.{length, take, get_or, length-map, get_or-map}
use lib.Seq.{ext_get_or}
use Rattle.arrays.specs.Order.{Sorted}
use Rattle.plane.specs.Point.{Point, in_range, lower, Lower}
use Rattle.arrays.proofs.Order.{nat_order}
use Rattle.plane.proofs.Order.{lower-order}
use Rattle.arrays.specs.Set.{has, rising}
use Rattle.model.specs.State.{points, Placed}
use Rattle.arrays.proofs.Set.{union_in, union-sorted, rising-sorted, union-length}
use Rattle.model.proofs.Candidate.{map_in}
use Rattle.arrays.specs.Paste.{Pasted}
use Rattle.sorted.proofs.Rise.{get_in, get_rises}
use Rattle.keys.specs.Held.{held}
use Rattle.keys.specs.Keys.{tree_keys}
use Rattle.arrays.specs.Tab.{tab}
use Rattle.tree.specs.Build.{Rises, BuildRequires}
use Rattle.arrays.proofs.Tab.{tab-length, tab_get, tab_same}
use Rattle.arrays.proofs.paste.Parts.{front-take, front-count}
use Rattle.tree.proofs.Size.{keys_most}
use Rattle.plane.specs.Code.{code, point_of, is_code}
use Rattle.points.specs.declared.Points.{Points}
use Rattle.points.specs.Coded.{Arranged, state_of}
use Rattle.points.proofs.Codes.{codes-sorted, codes_full}
use Rattle.working.specs.declared.Working.{Working}
use Rattle.working.specs.Held.{all_codes, HeldInOrder}
use Rattle.working.specs.InOrder.{InOrder}
use Rattle.working.specs.InOrder as work
use Rattle.plane.proofs.codes.Points.{AllCodes, code-point, code-order, code-in_range}
use Rattle.plane.proofs.codes.Sets.{points-union, points-rising, points_has}

abbrev Less : ℕ → ℕ → Type 0
Less a b = T (ltb a b)

-- A table of a list's images is the list of images.
pub tab-list : (f : ℕ → Point) (l : List ℕ) → tab (λ (i : ℕ). f (get_or l i 0)) (length l) ≡ map f l
tab-list f l =
    let at : ℕ → Point = λ i. f (get_or l i 0) in
    ext_get_or (f 0) (tab at (length l)) (map f l) (tab-length at (length l) ∙ sym (length-map l f))
    (λ i h. tab_get at (length l) i (f 0) (omega (arith, h, tab-length at (length l))) ∙ sym (get_or-map f l i 0))

module _ (q : Points) (a : Arranged q) where
  abbrev all : List ℕ
  all = all_codes q

  all_sorted : Sorted Less all
  all_sorted = union-sorted ltb nat_order (take q.npins q.pins) (take q.nsteiner q.steiner) (codes-sorted a.steiner_codes)

  pub all_codes_lem : AllCodes (all_codes q)
  all_codes_lem k i =
      ⊎_elim (a.pin_codes.codes k) (a.steiner_codes.codes k)
      ((union_in ltb nat_order (take q.npins q.pins) (take q.nsteiner q.steiner) k).0 i)

  pub all_count : length (all_codes q) ≡ q.npins + q.nsteiner
  all_count =
      union-length ltb nat_order (take q.npins q.pins) (take q.nsteiner q.steiner) (codes-sorted a.pin_codes) a.apart
      ∙ ap₂ ◌+◌ (codes_full a.pin_codes) (codes_full a.steiner_codes)

  pub all_points : map point_of (all_codes q) ≡ points (state_of q)
  unfolding points
  all_points = points-union (take q.npins q.pins) (take q.nsteiner q.steiner) a.pin_codes.codes a.steiner_codes.codes

  -- The state is placed.
  pub arranged-placed : Placed (state_of q)
  arranged-placed =
      record {
        pins_range = range (take q.npins q.pins) a.pin_codes.codes;
        steiner_range = range (take q.nsteiner q.steiner) a.steiner_codes.codes;
        pins_rise = rise (take q.npins q.pins) a.pin_codes.codes a.pin_codes.rise;
        steiner_rise = rise (take q.nsteiner q.steiner) a.steiner_codes.codes a.steiner_codes.rise;
        apart = λ z i j. let x = (map_in point_of (take q.npins q.pins) z).0 i in
            let y = (map_in point_of (take q.nsteiner q.steiner) z).0 j in
            let e = sym (code-point x.0 (a.pin_codes.codes x.0 x.1)) ∙ ap code (sym x.2 ∙ y.2)
            ∙ code-point y.0 (a.steiner_codes.codes y.0 y.1) in
            a.apart x.0 x.1 (subst⁻¹ (λ (k : ℕ). Memᴰ k (take q.nsteiner q.steiner)) e y.1);
      }
    where
      range : (l : List ℕ) → AllCodes l → (q : Point) → Memᴰ q (map point_of l) → T (in_range q)
      range l h q i = let x = (map_in point_of l q).0 i in subst⁻¹ (λ (z : Point). T (in_range z)) x.2 (code-in_range x.0 (h x.0 x.1))

      rise : (l : List ℕ) → AllCodes l → rising ltb l ≡ true → Sorted Lower (map point_of l)
      rise l c e = (rising-sorted lower lower-order (map point_of l)).0 (subst T (sym e ∙ points-rising l c) tt)

  -- Codes merged and unpacked.
  module _ (codes₀ codes xs ys : List ℕ) (n : ℕ) (w : Pasted all codes₀ codes 0 n)
      (u : (i : ℕ) → i < length (take n codes) → held xs ys i ≡ point_of (get_or (take n codes) i 0)) where
    merged : take n codes ≡ all
    merged = front-take w

    count_is : n ≡ length all
    count_is = front-count w

    held_is : (i : ℕ) → i < n → held xs ys i ≡ point_of (get_or all i 0)
    held_is i h = u i (omega (arith, h, ap length merged, count_is)) ∙ ap (λ (l : List ℕ). point_of (get_or l i 0)) merged

    code_at : (i : ℕ) → i < n → T (is_code (get_or all i 0))
    code_at i h = all_codes_lem (get_or all i 0) (get_in all i (omega (arith, count_is)))

    pub held-rises : Rises (held xs ys) n
    held-rises i j l m =
        subst⁻¹ (λ (z : Point). Lower z (held xs ys j)) (held_is i (omega arith))
        (subst⁻¹ (λ (z : Point). Lower (point_of (get_or all i 0)) z) (held_is j m)
        (subst T (code-order (get_or all i 0) (get_or all j 0) (code_at i (omega arith)) (code_at j m))
        (lt→ltb (get_or all i 0) (get_or all j 0) (get_rises all all_sorted i j l (omega (arith, count_is))))))

    held-points : tab (held xs ys) n ≡ points (state_of q)
    held-points =
        tab_same (held xs ys) (λ (i : ℕ). point_of (get_or all i 0)) n held_is ∙ ap (tab (λ (i : ℕ). point_of (get_or all i 0))) count_is
        ∙ tab-list point_of all ∙ all_points

    few : n ≤ 127
    few = omega (arith, count_is, all_count, a.room)

    pub build_allowed : (room : ℕ) → room ≡ 136 → n ≤ length xs → n ≤ length ys → BuildRequires xs ys n room
    build_allowed room e hx hy =
        record { in_xs = hx; in_ys = hy; few = omega (arith, few); fits = omega (arith, few); rises = held-rises }

    pub order_of : (keys₀ keys : List ℕ) (m : ℕ) → Pasted (tree_keys (held xs ys) n) keys₀ keys 0 m
        → HeldInOrder q codes xs ys n keys m
    order_of keys₀ keys m f =
        record {
          arranged = a;
          codes = merged;
          count = sym (tab-length (held xs ys) n) ∙ ap length held-points;
          few = few;
          points = held-points;
          rises = held-rises;
          tree = front-take f;
          key_count = front-count f;
          keys_few = omega (arith, front-count f, few, keys_most (held xs ys) n (omega (arith, few)) held-rises);
        }

-- In a working form in order a code is held exactly if its point is.
pub held_has : (w : Working) (k : ℕ) → T (is_code k) → has ltb k (take w.npoints w.codes) ≡ has lower (point_of k) (points (work.state_of w))
held_has w k t =
    ap (has ltb k) w.in_order.codes ∙ points_has k t _ (all_codes_lem w.points w.in_order.arranged)
    ∙ ap (has lower (point_of k)) (all_points w.points w.in_order.arranged)

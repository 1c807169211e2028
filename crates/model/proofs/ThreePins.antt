-- A state of three pins on which a round is finished has the length of the half perimeter of the box around them (SPEC 6.6), and without a tap one
-- round leads there. No tree over the pins is shorter. Nor is the tree of the state longer: without a tap, joining the middle point to the three
-- pins would give that length. Else there is one tap, with all three edges; were it not the middle point, joining another point to it and to two
-- of the pins would be shorter. The three pins need not be different, but then there are fewer, and no tap.
use mathlib.Core.Path.{◌≡◌, refl, sym, ap, ◌∙◌, subst, subst⁻¹}
use mathlib.Core.Logic.{◌↔◌, ◌⊎◌, inl, inr, ⊎_elim}
use mathlib.Core.List.Memᴰ.{cases_cons as cases}
use mathlib.Core.List.Memᴰ.{head}
use mathlib.Core.List.Memᴰ.{tail}
use mathlib.Core.List.{List, [], ◌∷◌, Memᴰ}
use mathlib.Core.List.Memᴰ.{not-nil}
use Prim.Native.Nat.{◌+◌, ◌≤◌}
use native.Mathlib.Nat.{le_trans, le_antisymm}
use native.Mathlib.Omega.{arith}
use lib.ListN.{length}
use Rattle.arrays.specs.Order.{Sorted}
use Rattle.arrays.specs.Set.{put, Each}
use Rattle.arrays.proofs.Members.{mem-each, Distinct, sorted_distinct}
use Rattle.arrays.proofs.Set.{put_in, put-sorted}
use Rattle.spanning.specs.Graph.{Conn, stop, fwd, bwd, In, total}
use Rattle.spanning.proofs.Degree.{degree_all}
use Rattle.spanning.proofs.Totals.{same_members-length, total_some_members, some_members-length}
use Rattle.plane.specs.Point.{Point, lower, Lower, dist}
use Rattle.plane.specs.Edge.{Edge, planar}
use Rattle.plane.specs.Box.{half_perimeter}
use Rattle.plane.proofs.Order.{lower-order}
use Rattle.plane.proofs.Axis.{connected_perimeter}
use Rattle.plane.proofs.Three.{MiddlePoint, middle_point, NoShorterOver, settled_point}
use Rattle.model.specs.Tree.{mst, tree_length}
use Rattle.model.specs.Tail.{no_tail}
use Rattle.model.specs.State.{State, points, Valid}
use Rattle.model.specs.Round.{finished, round, finish}
use Rattle.model.specs.Session.{RoundsTo}
use Rattle.model.proofs.Tree.{mst-run-tree, tree-edges}
use Rattle.model.proofs.Tail.{no_tails, tree_no_tails}
use Rattle.model.proofs.Hub.{by_hub, by_two}
use Rattle.model.proofs.Prune.{points_in_lem, points-rise, few-steiner}
use Rattle.model.proofs.Replace.{star, edge-star, star-length}
use Rattle.model.proofs.Round.{round-finished, finished-least, round-best, round-valid, round-pins}
use Rattle.model.proofs.Round.{finish-rounds, rounds-valid, rounds-pins, rounds-finished}

-- The members of a short list, one behind the other.
first : {a : Point} {l : List Point} → Memᴰ a (a ∷ l)
first = head refl

second : {a b : Point} {l : List Point} → Memᴰ b (a ∷ b ∷ l)
second = tail first

third : {a b c : Point} {l : List Point} → Memᴰ c (a ∷ b ∷ c ∷ l)
third = tail second

same_members : {k l : List Point} {z : Point} → Each (In l) k → Each (In k) l → Memᴰ z k ↔ Memᴰ z l
same_members {k} {l} f g = (mem-each (In l) k f, mem-each (In k) l g)

-- What a round without tails says of the distances.
finished_flat : (s : State) → Valid s → (round no_tail s).answer ≡ finished → (c : Point) → tree_length (points s) ≤ tree_length (put lower c (points s))
finished_flat s v e c = omega (arith, finished-least no_tail s v e c, tree_no_tails (points s), tree_no_tails (put lower c (points s)))

round-best_flat : (s : State) → Valid s → (d : Point) → (a : Point) × Memᴰ a (points s) × (d.x ≡ a.x)
    → (b : Point) × Memᴰ b (points s) × (d.y ≡ b.y) → tree_length (points (round no_tail s).next) ≤ tree_length (put lower d (points s))
round-best_flat s v d on_x on_y =
    omega (arith, round-best no_tail s v d on_x on_y, tree_no_tails (points (round no_tail s).next), tree_no_tails (put lower d (points s)))

module _ (s : State) (v : Valid s) (p q r : Point) (pins : (u : Point) → Memᴰ u s.pins ↔ Memᴰ u (p ∷ q ∷ r ∷ [])) where
  held : (u : Point) → Memᴰ u (p ∷ q ∷ r ∷ []) → Memᴰ u (points s)
  held u i = (points_in_lem s u).1 (inl ((pins u).1 i))

  rise : Sorted Lower (points s)
  rise = points-rise s v.placed.steiner_rise

  -- No tree over the pins is shorter than the half perimeter, so that a tree which is at most as long is exactly as long.
  exactly : tree_length (points s) ≤ half_perimeter (p ∷ q ∷ r ∷ []) → tree_length (points s) ≡ half_perimeter (p ∷ q ∷ r ∷ [])
  unfolding tree_length
  exactly h =
      le_antisymm h
      (connected_perimeter (p ∷ q ∷ r ∷ []) (mst (points s)) (λ a b i j. (mst-run-tree (points s) rise).tree.spans a b (held a i) (held b j)))

  -- Without a tap: the middle point joined to the three pins has that length.
  module _ (bare : s.steiner ≡ []) where
    pin : (u : Point) → Memᴰ u (points s) → Memᴰ u (p ∷ q ∷ r ∷ [])
    pin u i =
        ⊎_elim (λ j. (pins u).0 j) (λ j. absurd (not-nil (subst (λ (l : List Point). Memᴰ u l) bare j))) ((points_in_lem s u).0 i)

    with_middle : tree_length (put lower (middle_point p q r).at (points s)) ≤ half_perimeter (p ∷ q ∷ r ∷ [])
    unfolding total
    with_middle =
        let m = middle_point p q r in
        omega (
          arith,
          m.near,
          by_hub (put lower m.at (points s)) (put-sorted lower lower-order m.at (points s) rise) m.at (p ∷ q ∷ r ∷ [])
              ((put_in lower lower-order m.at m.at (points s)).1 (inl refl))
              (λ u i. (put_in lower lower-order m.at u (points s)).1 (inr (held u i)))
              (λ u i. ⊎_elim inl (λ j. inr (pin u j)) ((put_in lower lower-order m.at u (points s)).0 i)),
        )

    bare_finished : (round no_tail s).answer ≡ finished → tree_length (points s) ≡ half_perimeter (p ∷ q ∷ r ∷ [])
    bare_finished e = exactly (le_trans (finished_flat s v e (middle_point p q r).at) with_middle)

  -- With one tap, c.
  module _ (c : Point) (tapped : s.steiner ≡ c ∷ []) where
    tap-there : Memᴰ c s.steiner
    tap-there = subst⁻¹ (λ (l : List Point). Memᴰ c l) tapped (head refl)

    four-points : (u : Point) → Memᴰ u (points s) ↔ Memᴰ u (c ∷ p ∷ q ∷ r ∷ [])
    four-points u = (
      λ i. ⊎_elim (λ j. tail ((pins u).0 j))
          (λ j. ⊎_elim head (λ k. absurd (not-nil k)) (cases (subst (λ (l : List Point). Memᴰ u l) tapped j))) ((points_in_lem s u).0 i),
      λ i. ⊎_elim (λ e. subst⁻¹ (λ (z : Point). Memᴰ z (points s)) e ((points_in_lem s c).1 (inr tap-there))) (held u) (cases i),
    )

    -- A tap takes three pins, so that p, q and r are different, and different from it.
    many : (l : List Point) → Each (In l) (p ∷ q ∷ r ∷ []) → 3 ≤ length l
    many l h =
        let fewer = some_members-length s.pins l (sorted_distinct lower-order s.pins v.placed.pins_rise)
        (λ u i. mem-each (In l) (p ∷ q ∷ r ∷ []) h ((pins u).0 i)) in
        ⊎_elim (λ k. absurd (omega (arith, ap length tapped))) (λ k. omega (arith, ap length tapped, fewer)) (few-steiner s v)

    different : Distinct (p ∷ q ∷ r ∷ [])
    different = (
      λ u. mem-each (λ w. ¬ (p ≡ w)) (q ∷ r ∷ []) (
        λ e. omega (arith, many (q ∷ r ∷ []) (head e, (first, (second, tt)))),
        (λ e. omega (arith, many (q ∷ r ∷ []) (tail (head e), (first, (second, tt)))), tt),
      ),
      (
        λ u. mem-each (λ w. ¬ (q ≡ w)) (r ∷ []) (λ e. omega (arith, many (p ∷ r ∷ []) (first, (tail (head e), (second, tt)))), tt),
        (λ u i. absurd (not-nil i), tt),
      ),
    )

    all_different : Distinct (c ∷ p ∷ q ∷ r ∷ [])
    all_different = (λ u i e. v.placed.apart c ((pins c).1 (subst⁻¹ (λ (z : Point). Memᴰ z (p ∷ q ∷ r ∷ [])) e i)) tap-there, different)

    -- Four points, three edges, and three at the tap: so every edge is at the tap, and every pin is its neighbour.
    at_tap : (e : Edge) → Memᴰ e (mst (points s)) → (c ≡ e.lo) ⊎ (c ≡ e.hi)
    unfolding planar
    at_tap =
        degree_all planar c (mst (points s))
        (omega (
          arith,
          v.branching c tap-there,
          tree-edges (points s) rise,
          same_members-length (points s) (c ∷ p ∷ q ∷ r ∷ []) (sorted_distinct lower-order (points s) rise) all_different four-points,
        ))

    neighbour : (u : Point) → Memᴰ u (p ∷ q ∷ r ∷ []) → Memᴰ u (star c (mst (points s)))
    unfolding planar
    neighbour u i = go ((mst-run-tree (points s) rise).tree.spans u c (held u i) ((four-points c).1 first))
      where
        apart : ¬ (u ≡ c)
        apart e = all_different.0 u i (sym e)

        go : Conn planar (In (mst (points s))) c u → Memᴰ u (star c (mst (points s)))
        go (stop e) = absurd (apart e)
        go (fwd e m h w) =
            edge-star c u (mst (points s)) e m (⊎_elim (λ k. absurd (apart (h ∙ sym k))) (λ k. inr (k, h)) (at_tap e m))
        go (bwd e m h w) =
            edge-star c u (mst (points s)) e m (⊎_elim (λ k. inl (k, h)) (λ k. absurd (apart (h ∙ sym k))) (at_tap e m))

    edges_at-tap : dist c p + dist c q + dist c r ≤ tree_length (points s)
    unfolding total tree_length
    edges_at-tap =
        omega (
          arith,
          total_some_members (λ (n : Point). dist c n) (p ∷ q ∷ r ∷ []) (star c (mst (points s))) different neighbour,
          star-length c (mst (points s)),
        )

    -- Joining another point d to the tap and to two of the pins, u and w, is no shorter: the edge from the tap to the third pin, x, stays.
    no_shorter-over : (round no_tail s).answer ≡ finished → (d u w x : Point) → dist c u + dist c w + dist c x ≡ dist c p + dist c q + dist c r
        → ((z : Point) → Memᴰ z (x ∷ u ∷ w ∷ []) ↔ Memᴰ z (p ∷ q ∷ r ∷ [])) → NoShorterOver d c u w
    unfolding total
    no_shorter-over e d u w x sum order =
        omega (
          arith,
          sum,
          edges_at-tap,
          finished_flat s v e d,
          by_two (put lower d (points s)) (put-sorted lower lower-order d (points s) rise) d c x (c ∷ u ∷ w ∷ [])
              ((put_in lower lower-order d d (points s)).1 (inl refl)) (within x (tail ((order x).0 first))) first
              (λ z i. within z (⊎_elim head (λ j. tail ((order z).0 (tail j))) (cases i)))
              (λ z i. ⊎_elim inl (λ j. inr (⊎_elim (λ k. tail (head k)) (λ k. in_front ((order z).1 k)) (cases ((four-points z).0 j))))
              ((put_in lower lower-order d z (points s)).0 i)),
        )
      where
        within : (z : Point) → Memᴰ z (c ∷ p ∷ q ∷ r ∷ []) → Memᴰ z (put lower d (points s))
        within z i = (put_in lower lower-order d z (points s)).1 (inr ((four-points z).1 i))

        in_front : {z : Point} → Memᴰ z (x ∷ u ∷ w ∷ []) → Memᴰ z (x ∷ c ∷ u ∷ w ∷ [])
        in_front i = ⊎_elim head (λ j. tail (tail j)) (cases i)

    tapped_finished : (round no_tail s).answer ≡ finished → tree_length (points s) ≡ half_perimeter (p ∷ q ∷ r ∷ [])
    unfolding total
    tapped_finished e =
        exactly (omega (
          arith,
          by_hub (points s) rise c (p ∷ q ∷ r ∷ []) ((four-points c).1 first) held (λ u i. cases ((four-points u).0 i)),
          settled_point c p q r (λ d. (
            no_shorter-over e d p q r (omega arith) (λ z. same_members (third, (first, (second, tt))) (second, (third, (first, tt)))),
            no_shorter-over e d q r p (omega arith) (λ z. same_members (first, (second, (third, tt))) (first, (second, (third, tt)))),
            no_shorter-over e d p r q (omega arith) (λ z. same_members (second, (first, (third, tt))) (second, (first, (third, tt)))),
          )),
        ))

  -- Finished, whatever taps there are: they are two fewer than pins at most, so that there is none or one.
  pub finished_perimeter : (round no_tail s).answer ≡ finished → tree_length (points s) ≡ half_perimeter (p ∷ q ∷ r ∷ [])
  finished_perimeter e = go s.steiner refl
    where
      few : length s.pins ≤ 3
      few =
          some_members-length s.pins (p ∷ q ∷ r ∷ []) (sorted_distinct lower-order s.pins v.placed.pins_rise) (λ u i. (pins u).0 i)

      go : (l : List Point) → s.steiner ≡ l → tree_length (points s) ≡ half_perimeter (p ∷ q ∷ r ∷ [])
      go [] h = bare_finished h e
      go (c ∷ []) h = tapped_finished c h e
      go (c ∷ b ∷ l) h = absurd (⊎_elim (λ k. omega (arith, ap length h)) (λ k. omega (arith, ap length h, few)) (few-steiner s v))

  -- The other way round: a state of that length is finished, since no further point can make its tree shorter.
  pub perimeter_finished : tree_length (points s) ≡ half_perimeter (p ∷ q ∷ r ∷ []) → (round no_tail s).answer ≡ finished
  perimeter_finished e =
      (round-finished no_tail s v).1 (λ d far t tree. omega (
        arith,
        e,
        tree_no_tails (points s),
        no_tails t,
        connected_perimeter (p ∷ q ∷ r ∷ []) t (λ a b i j. tree.spans a b (tail (held a i)) (tail (held b j))),
      ))

-- Where rounds lead from three pins, which they keep.
module _ (s : State) (v : Valid s) (p q r : Point) (pins : (u : Point) → Memᴰ u s.pins ↔ Memᴰ u (p ∷ q ∷ r ∷ [])) where
  keeps_pins : (t : State) → t.pins ≡ s.pins → (u : Point) → Memᴰ u t.pins ↔ Memᴰ u (p ∷ q ∷ r ∷ [])
  keeps_pins t e u = subst⁻¹ (λ (l : List Point). Memᴰ u l ↔ Memᴰ u (p ∷ q ∷ r ∷ [])) e (pins u)

  -- A run to the end comes to the half perimeter.
  pub end_perimeter : tree_length (points (finish no_tail s).final) ≡ half_perimeter (p ∷ q ∷ r ∷ [])
  end_perimeter =
      finished_perimeter (finish no_tail s).final (rounds-valid f v) p q r (keeps_pins (finish no_tail s).final (rounds-pins f v)) (rounds-finished f)
    where
      f : RoundsTo no_tail s (finish no_tail s).count (finish no_tail s).final
      f = (finish-rounds no_tail s v).0

  -- Without a tap one round does: no candidate saves more than the one chosen, nor does the middle point.
  pub round_perimeter : s.steiner ≡ [] → tree_length (points (round no_tail s).next) ≡ half_perimeter (p ∷ q ∷ r ∷ [])
  round_perimeter bare =
      exactly (round no_tail s).next (round-valid no_tail s v) p q r (keeps_pins (round no_tail s).next (round-pins no_tail s v))
      (le_trans (round-best_flat s v m.at (line m.on_x) (line m.on_y)) (with_middle s v p q r pins bare))
    where
      m : MiddlePoint p q r
      m = middle_point p q r

      line : {P : Point → Type 0} → (a : Point) × Memᴰ a (p ∷ q ∷ r ∷ []) × P a → (a : Point) × Memᴰ a (points s) × P a
      line h = (h.0, held s v p q r pins h.0 h.1, h.2)

-- The candidates with one x: those of SPEC 4.4 that have it, lower first. Where a point has that x, they are the crossings of its line with all y, but for
-- those that are held; else there are none. By the members of rising lists.
use mathlib.Core.Path.{◌≡◌, refl, sym, ap, ◌∙◌, subst⁻¹}
use mathlib.Core.Logic.{◌↔◌}
use mathlib.Core.List.Memᴰ.{head}
use mathlib.Core.List.{List, [], ◌∷◌, map, Memᴰ}
use lib.Dec.{T}
use lib.IntN.{ℤ}
use lib.Signed.{lt_z}
use Rattle.arrays.specs.Order.{Sorted}
use Rattle.arrays.specs.Set.{tie}
use Rattle.arrays.proofs.Members.{sorted_ext}
use Rattle.arrays.proofs.Set.{passing_in, passing-sorted, tie-eq, tie_self, set_of_in, set_of-sorted}
use Rattle.plane.specs.Point.{Point, Lower}
use Rattle.plane.proofs.Order.{lower-order, whole-order}
use Rattle.model.specs.Round.{xs_of, ys_of, column, not_held, candidates}
use Rattle.model.specs.Choice.{Candidate}
use Rattle.model.proofs.Candidate.{map_in, not_held_in, not_held-rises, column-rises, candidates_are, candidates-rise}
use Rattle.columns.specs.Column.{has_x, candidates_at}

-- The candidates with an x, lower first.
pub candidates_at_lem : (x : ℤ) (ps : List Point) (c : Point) → Memᴰ c (candidates_at x ps) ↔ (Candidate ps c × (c.x ≡ x))
unfolding candidates_at
candidates_at_lem x ps c =
    let there = passing_in (has_x x) (candidates ps) c in (
      λ i. let r = there.0 i in ((candidates_are ps c).0 r.0, tie-eq lt_z whole-order c.x x r.1),
      λ h. there.1 ((candidates_are ps c).1 h.0, subst⁻¹ (λ (z : ℤ). T (tie lt_z z x)) h.1 (tie_self lt_z whole-order x)),
    )

pub candidates_at-rise : (x : ℤ) (ps : List Point) → Sorted Lower (candidates_at x ps)
unfolding candidates_at
candidates_at-rise x ps = passing-sorted Lower (has_x x) (candidates ps) (candidates-rise ps)

-- The column of a line.
pub column_is : (x : ℤ) (ps : List Point) → Memᴰ x (xs_of ps) → candidates_at x ps ≡ not_held ps (column x (ys_of ps))
unfolding column
column_is x ps line =
    sorted_ext lower-order (candidates_at x ps) (not_held ps (column x (ys_of ps))) (candidates_at-rise x ps)
    (not_held-rises ps (column x (ys_of ps)) (column-rises x (ys_of ps) (set_of-sorted lt_z whole-order (map (λ (p : Point). p.y) ps)))) onto from
  where
    at : ℤ → Point
    at y = record { x = x; y = y }

    onto : (c : Point) → Memᴰ c (candidates_at x ps) → Memᴰ c (not_held ps (column x (ys_of ps)))
    onto c i =
        let h = (candidates_at_lem x ps c).0 i in
        let y = (set_of_in lt_z whole-order (map (λ (p : Point). p.y) ps) c.y).1 ((map_in (λ (p : Point). p.y) ps c.y).1 h.0.on_y) in
        (not_held_in ps (column x (ys_of ps)) c).1 ((map_in at (ys_of ps) c).1 (c.y, y, λ k. record { x = h.1 k; y = c.y }), h.0.free)

    from : (c : Point) → Memᴰ c (not_held ps (column x (ys_of ps))) → Memᴰ c (candidates_at x ps)
    from c i =
        let r = (not_held_in ps (column x (ys_of ps)) c).0 i in
        let m = (map_in at (ys_of ps) c).0 r.0 in
        let a = (map_in (λ (p : Point). p.x) ps x).0 ((set_of_in lt_z whole-order (map (λ (p : Point). p.x) ps) x).0 line) in
        let b = (map_in (λ (p : Point). p.y) ps m.0).0 ((set_of_in lt_z whole-order (map (λ (p : Point). p.y) ps) m.0).0 m.1) in
        let ex = ap (λ (p : Point). p.x) m.2 in
        let ey = ap (λ (p : Point). p.y) m.2 in
        (candidates_at_lem x ps c).1
        (record { on_x = (a.0, a.1, ex ∙ a.2); on_y = (b.0, b.1, ey ∙ b.2); free = r.1 }, ex)

-- A list with no member is empty.
no_member : (l : List Point) → ((c : Point) → ¬ Memᴰ c l) → l ≡ []
no_member [] f = refl
no_member (c ∷ l) f = absurd (f c (head refl))

-- No column where no point has the x.
pub no_line : (x : ℤ) (ps : List Point) → ((p : Point) → Memᴰ p ps → ¬ (p.x ≡ x)) → candidates_at x ps ≡ []
no_line x ps f =
    no_member (candidates_at x ps) (λ c i.
    let h = (candidates_at_lem x ps c).0 i in
    f h.0.on_x.0 h.0.on_x.1 (sym h.0.on_x.2 ∙ h.1))

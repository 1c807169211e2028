-- What each question answers: the working form and its edges in the listing order give what the model's questions give.
use mathlib.Core.Path.{◌≡◌, refl, sym, ap, ◌∙◌, subst, subst⁻¹}
use mathlib.Core.Logic.{⊎_elim, ◌↔◌}
use mathlib.Core.Bool.{false}
use mathlib.Core.Option.{none, some}
use mathlib.Core.List.{List, [], ◌∷◌, Memᴰ}
use Prim.Native.Nat.{ℕ, zero, suc, ◌-◌, ◌≤◌, ◌<◌}
use native.Mathlib.Decide.{dec_le}
use native.Mathlib.Omega.{arith}
use lib.Dec.{T, ltb}
use lib.ListN.{length, take, get_elem?}
use Rattle.arrays.specs.Order.{Sorted}
use Rattle.spanning.specs.Graph.{degree}
use Rattle.spanning.proofs.Degree.{degree-zero}
use Rattle.plane.specs.Point.{Point, in_range, lower, Lower}
use Rattle.plane.specs.Edge.{Edge as PlaneEdge, planar}
use Rattle.plane.proofs.Order.{lower-order}
use Rattle.arrays.specs.Set.{has}
use Rattle.model.specs.Tree.{mst, edges_at}
use Rattle.model.specs.State.{State, points, Placed}
use Rattle.model.specs.Contents.{Contents}
use Rattle.model.specs.Question as question
use Rattle.arrays.proofs.Set.{has_in}
use Rattle.model.proofs.Tree.{mst-run-tree, tree-edges}
use Rattle.model.proofs.FileSize.{listed-count}
use Rattle.model.proofs.Prune.{points_in_lem, points-rise}
use Rattle.keys.specs.Keys.{key_graph}
use Rattle.arrays.specs.Array.{index_of}
use Rattle.plane.specs.Code.{point_of, is_code}
use Rattle.working.specs.declared.Working.{Working}
use Rattle.working.specs.InOrder.{state_of}
use Rattle.working.proofs.InOrder.{arranged-placed, held_has}
use Rattle.prune.proofs.Sweep.{held-degree}
use Rattle.edges.proofs.Numbers.{listed-length}
use Rattle.edges.specs.declared.CodedEdge.{CodedEdge}
use Rattle.edges.specs.Edges.{edge_of, EdgeAt}
use Rattle.questions.specs.declared.Answer.TheVariants.{Counts, Edge, NoEdge, Degree}
use Rattle.questions.specs.Answers.{counts_answer, coded_answer, edge_answer, edge_or_none, edge_at_answer, degree_answer}

-- No edge is at a point that is not held.
pub none_at : (s : State) → Sorted Lower s.steiner → (p : Point) → ¬ Memᴰ p (points s) → edges_at p (mst (points s)) ≡ 0
unfolding planar
none_at s rise p n =
    degree-zero planar p (mst (points s))
    (λ e i. ⊎_elim (other (ends e i).0) (other (ends e i).1))
  where
    other : {q : Point} → Memᴰ q (points s) → ¬ (p ≡ q)
    other i e = n (subst⁻¹ (λ (z : Point). Memᴰ z (points s)) e i)

    ends : (e : PlaneEdge) → Memᴰ e (mst (points s)) → Memᴰ e.lo (points s) × Memᴰ e.hi (points s)
    ends e i = unfold planar in (mst-run-tree (points s) (points-rise s rise)).tree.ends e i

pub none_beyond : (c : Contents) → Placed c.state → (p : Point) → in_range p ≡ false → 0 ≡ question.edge_count_at p c.state
none_beyond c h p e =
    sym (none_at c.state h.steiner_rise p (λ i. subst T e (⊎_elim (h.pins_range p) (h.steiner_range p) ((points_in_lem c.state p).0 i))))

-- A working form: the edges at a code.
module _ (w : Working) where
  pub degree_none : (k : ℕ) → T (is_code k) → has ltb k (take w.npoints w.codes) ≡ false → 0 ≡ question.edge_count_at (point_of k) (state_of w)
  degree_none k t e =
      sym (none_at (state_of w) (arranged-placed w.points w.in_order.arranged).steiner_rise (point_of k)
      (λ i. subst T (sym (held_has w k t) ∙ e) ((has_in lower lower-order (point_of k) (points (state_of w))).1 i)))

  pub degree-there : (k i n : ℕ) → T (has ltb k (take w.npoints w.codes)) → i ≡ index_of k (take w.npoints w.codes)
      → n ≡ degree key_graph i (take w.nkeys w.keys) → n ≡ question.edge_count_at (point_of k) (state_of w)
  degree-there k i n h e f = f ∙ ap (λ (z : ℕ). degree key_graph z (take w.nkeys w.keys)) e ∙ held-degree w k h

-- The edge at a place of the listing order, or none beyond the last.
beyond : {A : Type 0} (l : List A) (i : ℕ) → length l ≤ i → get_elem? l i ≡ none
beyond [] i h = refl
beyond (a ∷ l) zero h = absurd (omega arith)
beyond (a ∷ l) (suc i) h = beyond l i (omega arith)

pub no_edge : (tail : ℕ) (w : Working) (i : ℕ) → w.nkeys ≤ i → NoEdge ≡ edge_or_none tail (question.edge_at_place i (state_of w))
unfolding edge_or_none
no_edge tail w i h = ap (edge_or_none tail) (sym (beyond (question.listed (state_of w)) i (omega (arith, listed-length w, h))))

pub edge-there : (tail : ℕ) (s : State) (i : ℕ) (e : CodedEdge) → EdgeAt tail s i e → coded_answer e ≡ edge_or_none tail (question.edge_at_place i s)
unfolding edge_or_none
edge-there tail s i e f =
    let p = edge_of e in
    ap (Edge p.lo.x p.lo.y p.hi.x p.hi.y) f.measured ∙ ap (edge_or_none tail) (sym f.there)

-- The counts, the places that have an edge, and a point that is not held, by the points alone: a tree has one edge less than points.
module _ (c : Contents) (p : Placed c.state) where
  abbrev s : State
  s = c.state

  edge-number : question.edge_count s ≡ length (points s) - 1
  edge-number = tree-edges (points s) (points-rise s p.steiner_rise)

  pub counts_are : counts_answer c ≡ Counts (length s.pins) (length s.steiner) (length (points s) - 1)
  counts_are = ap (Counts (length s.pins) (length s.steiner)) edge-number

  pub beyond_last : (i : ℕ) → (edge_at_answer i c ≡ NoEdge) ↔ (length (points s) - 1 ≤ i)
  unfolding edge_or_none
  beyond_last i = (
    λ e. go (dec_le (length (question.listed s)) i) e,
    λ h. ap (edge_or_none c.tail) (beyond (question.listed s) i (omega (arith, listed-count s p, edge-number, h))),
  )
    where
      within : {A : Type 0} (l : List A) (i : ℕ) → i < length l → (a : A) × (get_elem? l i ≡ some a)
      within [] i h = absurd (omega arith)
      within (a ∷ l) zero h = (a, refl)
      within (a ∷ l) (suc i) h = within l i (omega arith)

      go : Dec (length (question.listed s) ≤ i) → edge_at_answer i c ≡ NoEdge → length (points s) - 1 ≤ i
      go (yes h) e = omega (arith, listed-count s p, edge-number, h)
      go (no n) e =
          let m = within (question.listed s) i (omega arith) in
          let q : edge_answer c.tail m.0 ≡ NoEdge = sym (ap (edge_or_none c.tail) m.1) ∙ e in
          absurd (let z : ◌≡◌ {A = ℕ} 0 1 = cc in omega arith)

  pub none_held : (q : Point) → ¬ Memᴰ q (points s) → degree_answer q c ≡ Degree 0
  none_held q n = ap Degree (none_at s p.steiner_rise q n)

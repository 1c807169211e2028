-- The sweep on working forms follows the definition: each turn takes out the point that the definition takes out.
use mathlib.Core.Path.{◌≡◌, refl, sym, ap, ap₂, ◌∙◌, subst, subst⁻¹}
use mathlib.Core.Logic.{inr}
use mathlib.Core.Bool.{Bool, true, false}
use mathlib.Core.Option.{Option, none, some}
use mathlib.Core.List.Memᴰ.{head}
use mathlib.Core.List.Memᴰ.{tail}
use mathlib.Core.List.{List, [], ◌∷◌, map, Memᴰ}
use Prim.Native.Nat.{ℕ, suc, ◌≤◌, ◌<◌}
use native.Mathlib.Omega.{arith}
use lib.Dec.{T, leb, ltb}
use lib.ListN.{length, take, get_or, length-map, get_or-map}
use lib.Seq.{get_or-take}
use Rattle.spanning.specs.Graph.{degree}
use Rattle.arrays.specs.Array.{index_of}
use Rattle.arrays.specs.Set.{has}
use Rattle.arrays.specs.Test.{if}
use Rattle.arrays.proofs.Order.{nat_order}
use Rattle.arrays.proofs.Set.{out-length, has_in, union_in}
use Rattle.sorted.proofs.Results.{index_has, index_at}
use Rattle.sorted.proofs.Rise.{get_in}
use Rattle.plane.specs.Code.{point_of, is_code}
use Rattle.plane.specs.Edge.{Edge}
use Rattle.plane.specs.Point.{Point, lower}
use Rattle.plane.proofs.Order.{lower-order}
use Rattle.model.specs.Tree.{mst, edges_at}
use Rattle.model.specs.State.{State, points, lowest_weak, without, prune_from, prune}
use Rattle.model.proofs.Candidate.{map_in}
use Rattle.model.proofs.Prune.{prune-step, prune-stop}
use Rattle.keys.specs.Held.{held}
use Rattle.keys.specs.Keys.{key_graph}
use Rattle.tree.proofs.Sorted.{tree_keys-degree}
use Rattle.arrays.proofs.Tab.{tab_get}
use Rattle.points.specs.declared.Points.{Points}
use Rattle.points.specs.Coded as coded
use Rattle.points.specs.Coded.{Codes, places}
use Rattle.points.proofs.Codes.{codes_full}
use Rattle.points.proofs.Coded.{steiner_count_lem}
use Rattle.prune.specs.Weak.{first_weak, weak_at}
use Rattle.working.specs.declared.Working.{Working}
use Rattle.working.specs.InOrder.{all_codes, state_of}
use Rattle.working.proofs.InOrder.{all_points, arranged-placed}

-- What the search finds, as the definition does: none, or the point at a place.
pub data Found (l : List ℕ) : Option Point → ℕ → Type 0 where
  none_weak : Found l none (length l)
  at : (r : ℕ) → r < length l → Found l (some (point_of (get_or l r 0))) r

pub found : (all keys : List ℕ) (t : List Edge) (l : List ℕ) → ((q : ℕ) → Memᴰ q l → degree key_graph (index_of q all) keys ≡ edges_at (point_of q) t)
    → Found l (lowest_weak t (map point_of l)) (first_weak all keys l)
unfolding lowest_weak first_weak
found all keys t [] h = none_weak
found all keys t (q ∷ l) h =
    go (leb 3 (edges_at (point_of q) t)) (leb 3 (degree key_graph (index_of q all) keys)) (ap (leb 3) (h q (head refl)))
    (found all keys t l (λ z i. h z (tail i)))
  where
    up : {o : Option Point} {r : ℕ} → Found l o r → Found (q ∷ l) o (suc r)
    up none_weak = none_weak
    up (at r k) = at (suc r) (omega arith)

    go : (a b : Bool) → b ≡ a → Found l (lowest_weak t (map point_of l)) (first_weak all keys l)
        → Found (q ∷ l) (if a (λ _. lowest_weak t (map point_of l)) (λ _. some (point_of q))) (if b (λ _. suc (first_weak all keys l)) (λ _. 0))
    go true true e f = up f
    go true false e f = absurd (let z : ◌≡◌ {A = ℕ} 0 1 = cc in omega arith)
    go false true e f = absurd (let z : ◌≡◌ {A = ℕ} 0 1 = cc in omega arith)
    go false false e f = at 0 (omega arith)

-- In a working form the number of keys at a code's place is that of the edges at its point.
pub held-degree : (w : Working) (q : ℕ) → T (has ltb q (take w.npoints w.codes))
    → degree key_graph (index_of q (take w.npoints w.codes)) (take w.nkeys w.keys) ≡ edges_at (point_of q) (mst (points (state_of w)))
held-degree w q h =
    ap₂ (λ (z : ℕ) (k : List ℕ). degree key_graph z k) (ap (index_of q) w.in_order.codes) w.in_order.tree
    ∙ tree_keys-degree (held w.xs w.ys) w.npoints (omega (arith, w.in_order.few)) w.in_order.rises (index_of q all) below
    ∙ ap₂ edges_at at_place (ap mst w.in_order.points)
  where
    all : List ℕ
    all = all_codes w.points

    member : T (has ltb q all)
    member = subst (λ (l : List ℕ). T (has ltb q l)) w.in_order.codes h

    listed : points (state_of w) ≡ map point_of all
    listed = sym (all_points w.points w.in_order.arranged)

    counted : w.npoints ≡ length all
    counted = w.in_order.count ∙ ap length listed ∙ length-map all point_of

    below : index_of q all < w.npoints
    below = omega (arith, (index_has q all).0 member, counted)

    at_place : held w.xs w.ys (index_of q all) ≡ point_of q
    at_place =
        sym (tab_get (held w.xs w.ys) w.npoints (index_of q all) (point_of 0) below)
        ∙ ap (λ (l : List Point). get_or l (index_of q all) (point_of 0)) (w.in_order.points ∙ listed) ∙ get_or-map point_of all (index_of q all) 0
        ∙ ap point_of (index_at q all ((index_has q all).0 member))

pub order-degree : (w : Working) (q : ℕ) → Memᴰ q (take w.points.nsteiner w.points.steiner)
    → degree key_graph (index_of q (take w.npoints w.codes)) (take w.nkeys w.keys) ≡ edges_at (point_of q) (mst (points (state_of w)))
order-degree w q i =
    held-degree w q
    (subst⁻¹ (λ (l : List ℕ). T (has ltb q l)) w.in_order.codes
    ((has_in ltb nat_order q (all_codes w.points)).1
    ((union_in ltb nat_order (take w.points.npins w.points.pins) (take w.points.nsteiner w.points.steiner) q).1 (inr i))))

-- The sweep so far: a working form whose sweep is the one asked for, and where its first weak point stands.
pub record Sweeping (q : Points) (w : Working) (j : ℕ) : Type 0 where
  pub weak : j ≡ weak_at w
  pub follows : prune (state_of w) ≡ prune (coded.state_of q)

pub sweeping_start : (q : Points) (w : Working) (j : ℕ) → w.points ≡ q → j ≡ weak_at w → Sweeping q w j
sweeping_start q w j e f = record { weak = f; follows = ap (λ (z : Points). prune (coded.state_of z)) e }

module _ (q : Points) (w : Working) (j : ℕ) (s : Sweeping q w j) where
  abbrev rest : List ℕ
  rest = take w.points.nsteiner w.points.steiner

  codes : Codes w.points.steiner w.points.nsteiner places
  codes = w.in_order.arranged.steiner_codes

  search : Found rest (lowest_weak (mst (points (state_of w))) (map point_of rest)) j
  search =
      subst⁻¹ (Found rest (lowest_weak (mst (points (state_of w))) (map point_of rest))) s.weak
      (found (take w.npoints w.codes) (take w.nkeys w.keys) (mst (points (state_of w))) rest (order-degree w))

  member : (k : ℕ) → j < w.points.nsteiner → k ≡ get_or w.points.steiner j 0 → Memᴰ k rest
  member k h e =
      subst⁻¹ (λ (z : ℕ). Memᴰ z rest) (e ∙ sym (get_or-take w.points.nsteiner w.points.steiner j 0 h))
      (get_in rest j (omega (arith, codes_full codes)))

  pub sweeping_code : (k : ℕ) → j < w.points.nsteiner → k ≡ get_or w.points.steiner j 0 → T (is_code k)
  sweeping_code k h e = codes.codes k (member k h e)

  -- One point is taken out: the lowest weak one.
  module _ (k : ℕ) (h : j < w.points.nsteiner) (e : k ≡ get_or w.points.steiner j 0)
      (r : Points) (left : coded.Arranged r × (coded.state_of r ≡ without (point_of k) (state_of w))) where
    fewer : suc (length (without (point_of k) (state_of w)).steiner) ≡ length (state_of w).steiner
    fewer =
        out-length lower lower-order (point_of k) (state_of w).steiner (arranged-placed w.points w.in_order.arranged).steiner_rise
        ((map_in point_of rest (point_of k)).1 (k, member k h e, refl))

    pub sweeping_less : suc r.nsteiner ≡ w.points.nsteiner
    sweeping_less =
        ap suc (sym (steiner_count_lem r left.0) ∙ ap (λ (z : State). length z.steiner) left.1) ∙ fewer ∙ steiner_count_lem w.points w.in_order.arranged

    pub sweeping_more : (w' : Working) (j' : ℕ) → w'.points ≡ r → j' ≡ weak_at w' → Sweeping q w' j'
    unfolding prune
    sweeping_more w' j' p f =
        record {
          weak = f;
          follows =
              ap (λ (z : Points). prune (coded.state_of z)) p ∙ ap prune left.1
              ∙ sym (prune-step (length (without (point_of k) (state_of w)).steiner) (state_of w) (point_of k) (chosen refl search))
              ∙ ap (λ (z : ℕ). prune_from z (state_of w)) fewer ∙ s.follows;
        }
      where
        chosen : {o : Option Point} {i : ℕ} → i ≡ j → Found rest o i → o ≡ some (point_of k)
        chosen c none_weak = absurd (omega (arith, codes_full codes))
        chosen c (at n l) =
            ap (λ (z : ℕ). some (point_of z)) (ap (λ (z : ℕ). get_or rest z 0) c ∙ get_or-take w.points.nsteiner w.points.steiner j 0 h ∙ sym e)

  pub sweeping_end : w.points.nsteiner ≤ j → state_of w ≡ prune (coded.state_of q)
  unfolding prune
  sweeping_end h = sym (prune-stop (length (state_of w).steiner) (state_of w) (stopped refl search)) ∙ s.follows
    where
      stopped : {o : Option Point} {i : ℕ} → i ≡ j → Found rest o i → o ≡ none
      stopped c none_weak = refl
      stopped c (at n l) = absurd (omega (arith, codes_full codes))

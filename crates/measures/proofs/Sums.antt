-- The lengths of the edges passed, kind by kind: one edge more is added to the sum of its kind, which is looked up by the codes of its ends.
use mathlib.Core.Path.{◌≡◌, refl, sym, ap, ◌∙◌}
use mathlib.Core.List.{List, [], ◌∷◌}
use Prim.Native.Nat.{ℕ, zero, suc, ◌+◌, ◌*◌, ◌≤◌, max}
use native.Mathlib.Nat.{add-zero}
use native.Mathlib.Omega.{arith}
use lib.Dec.{T, ltb, eqb}
use lib.ListN.{take, get_or, set}
use lib.Seq.{take_all}
use Rattle.arrays.specs.Beside.{beside}
use Rattle.arrays.proofs.Test.{by_test}
use Rattle.plane.specs.Code.{point_of, is_code}
use Rattle.plane.specs.Edge.{Edge, edge_length}
use Rattle.plane.proofs.codes.Sets.{points-beside}
use Rattle.model.specs.DeviceKinds.{sensor, largest_kind}
use Rattle.model.specs.Contents.{Contents, kind_at, ValidContents}
use Rattle.model.specs.Question.{listed}
use Rattle.model.specs.KindLength.{run_kind, length_in, kind_lengths}
use Rattle.model.proofs.KindLength.{share, length_none, length_behind, run_kind-known}
use Rattle.working.specs.declared.deck.WorkingDeck.{WorkingDeck}
use Rattle.edges.specs.declared.CodedEdge.{CodedEdge}
use Rattle.working.specs.InOrder.{state_of}
use Rattle.working.specs.WorkingDeck.{contents_of}
use Rattle.edges.specs.Edges.{edge_of, EdgeAt}
use Rattle.edges.proofs.Numbers.{near-codes, edges_more, listed-length}
use Rattle.measures.specs.Measures.{coded_kind}

-- The sums over some edges.
abbrev sums_of : Contents → List Edge → List ℕ
sums_of c l = length_in c l 0 ∷ length_in c l 1 ∷ length_in c l 2 ∷ []

-- Numbers for the three kinds: one of them looked up, and one more added to one of them.
look_up : (f : ℕ → ℕ) (r : ℕ) → r ≤ largest_kind → get_or (f 0 ∷ f 1 ∷ f 2 ∷ []) r 0 ≡ f r
look_up f zero h = refl
look_up f (suc zero) h = refl
look_up f (suc (suc zero)) h = refl
look_up f (suc (suc (suc r))) h = absurd (omega arith)

add_to : (f : ℕ → ℕ) (r n : ℕ) → r ≤ largest_kind
    → set (f 0 ∷ f 1 ∷ f 2 ∷ []) r (get_or (f 0 ∷ f 1 ∷ f 2 ∷ []) r 0 + n) ≡ (f 0 + share r n 0) ∷ (f 1 + share r n 1) ∷ (f 2 + share r n 2) ∷ []
add_to f zero n h = λ i. (f 0 + n) ∷ sym (add-zero (f 1)) i ∷ sym (add-zero (f 2)) i ∷ []
add_to f (suc zero) n h = λ i. sym (add-zero (f 0)) i ∷ (f 1 + n) ∷ sym (add-zero (f 2)) i ∷ []
add_to f (suc (suc zero)) n h = λ i. sym (add-zero (f 0)) i ∷ sym (add-zero (f 1)) i ∷ (f 2 + n) ∷ []
add_to f (suc (suc (suc r))) n h = absurd (omega arith)

-- The first i edges are added up, and no edge is longer than 132,070.
pub record SumsTo (d : WorkingDeck) (sums : List ℕ) (i : ℕ) : Type 0 where
  pub are : sums ≡ sums_of (contents_of d) (take i (listed (state_of d.form)))
  pub most : (k : ℕ) → length_in (contents_of d) (take i (listed (state_of d.form))) k ≤ 132070 * i

module _ (d : WorkingDeck) where
  abbrev c : Contents
  c = contents_of d

  abbrev runs : List Edge
  runs = listed (state_of d.form)

  pub sums_none : SumsTo d (0 ∷ 0 ∷ 0 ∷ []) 0
  sums_none =
      record {
        are = λ i. sym (length_none c 0) i ∷ sym (length_none c 1) i ∷ sym (length_none c 2) i ∷ [];
        most = λ k. omega (arith, length_none c k);
      }

  -- The kind by the codes of the ends is that of the edge.
  pub kind_is : (v : ValidContents c) {i r : ℕ} {e : CodedEdge}
      → EdgeAt d.tail (state_of d.form) i e → r ≡ coded_kind e (take d.form.points.npins d.form.points.pins) (take d.form.points.npins d.kinds)
      → (r ≡ run_kind c (edge_of e)) × (r ≤ largest_kind)
  unfolding run_kind
  kind_is v {e = e} at is =
      let same = is ∙ (λ j. max (end e.low at.coded.0 j) (end e.high at.coded.1 j)) in
      (same, omega (arith, same, run_kind-known c v (edge_of e)))
    where
      end : (k : ℕ) → T (is_code k)
          → beside ltb sensor k (take d.form.points.npins d.form.points.pins) (take d.form.points.npins d.kinds) ≡ kind_at c (point_of k)
      end k t = points-beside sensor k t _ d.form.in_order.arranged.pin_codes.codes _

  module _ (v : ValidContents c) (sums : List ℕ) (i r : ℕ) (e : CodedEdge) (so : SumsTo d sums i) (at : EdgeAt d.tail (state_of d.form) i e)
      (is : r ≡ run_kind c (edge_of e)) (known : r ≤ largest_kind) where
    short : e.length ≤ 132070
    short = omega (arith, at.measured, near-codes (edge_length (edge_of e)) e.low e.high refl, v.tailed)

    pub sum_fits : get_or sums r 0 + e.length ≤ 132070 * (i + 1)
    sum_fits =
        let here = ap (λ (l : List ℕ). get_or l r 0) so.are ∙ look_up (length_in c (take i runs)) r known in
        omega (arith, here, so.most r, short)

    -- One edge more.
    more : (k : ℕ) → length_in c (take (i + 1) runs) k ≡ length_in c (take i runs) k + share r e.length k
    more k =
        ap (λ (l : List Edge). length_in c l k) (edges_more d.tail (state_of d.form) i e at) ∙ length_behind c k (take i runs) (edge_of e)
        ∙ (λ j. length_in c (take i runs) k + share (sym is j) (sym at.measured j) k)

    share_most : (k : ℕ) → share r e.length k ≤ e.length
    share_most k = by_test (λ (n : ℕ). n ≤ e.length) (eqb r k) _ _ (λ t. omega arith) (λ t. omega arith)

    pub sums_more : SumsTo d (set sums r (get_or sums r 0 + e.length)) (i + 1)
    sums_more =
        record {
          are = ap (λ (l : List ℕ). set l r (get_or l r 0 + e.length)) so.are ∙ add_to (length_in c (take i runs)) r e.length known
              ∙ (λ j. sym (more 0) j ∷ sym (more 1) j ∷ sym (more 2) j ∷ []);
          most = λ k. omega (arith, more k, so.most k, share_most k, short);
        }

  pub sums_all : {sums : List ℕ} {i : ℕ} → SumsTo d sums i → d.form.nkeys ≤ i → sums ≡ kind_lengths c
  sums_all {i = i} so h = so.are ∙ ap (sums_of c) (take_all i runs (omega (arith, listed-length d.form, h)))

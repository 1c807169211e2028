-- The search for the first Steiner point of at most two edges: what it passed, and what it finds in terms of the state.
use mathlib.Core.Path.{◌≡◌, sym, ap, ◌∙◌}
use mathlib.Core.List.{List, [], ◌∷◌}
use Prim.Native.Nat.{ℕ, suc, ◌+◌, ◌≤◌, ◌<◌}
use native.Mathlib.Numerals.{add-one}
use native.Mathlib.Omega.{arith}
use lib.Dec.{leb, leb→le, nleb→lt}
use lib.ListN.{length, drop, get_or, drop_of_length-le}
use lib.Seq.{drop-cons}
use Rattle.spanning.specs.Graph.{degree}
use Rattle.arrays.proofs.Test.{by_test}
use Rattle.keys.specs.Keys.{key_graph}
use Rattle.arrays.specs.Array.{index_of}
use Rattle.prune.specs.Weak.{first_weak}

-- The points before place j have three edges or more, j of them.
abbrev pub Strong : (all keys steiner : List ℕ) (j : ℕ) → Type 0
Strong all keys steiner j = first_weak all keys steiner ≡ j + first_weak all keys (drop j steiner)

module _ (all keys steiner : List ℕ) where
  pub strong_none : Strong all keys steiner 0
  strong_none = omega arith

  next : (j : ℕ) → j < length steiner → drop j steiner ≡ get_or steiner j 0 ∷ drop (suc j) steiner
  next j h = drop-cons steiner j 0 h

  -- The point at place j has d edges.
  module _ (j i d : ℕ) (p : Strong all keys steiner j) (h : j < length steiner)
      (ei : i ≡ index_of (get_or steiner j 0) all) (ed : d ≡ degree key_graph i keys) where
    abbrev edges : ℕ
    edges = degree key_graph (index_of (get_or steiner j 0) all) keys

    counted : d ≡ edges
    counted = ed ∙ ap (λ (z : ℕ). degree key_graph z keys) ei

    pub strong_more : 3 ≤ d → Strong all keys steiner (j + 1)
    unfolding first_weak
    strong_more three =
        p ∙ ap (λ (l : List ℕ). j + first_weak all keys l) (next j h)
        ∙ by_test (λ (z : ℕ). j + z ≡ (j + 1) + first_weak all keys (drop (j + 1) steiner)) (leb 3 edges) _ _
        (λ u. omega (arith, ap (λ (z : ℕ). first_weak all keys (drop z steiner)) (add-one j)))
        (λ u. absurd (omega (arith, nleb→lt 3 edges u, counted)))

    pub strong_found : d ≤ 2 → j ≡ first_weak all keys steiner
    unfolding first_weak
    strong_found two =
        sym (p ∙ ap (λ (l : List ℕ). j + first_weak all keys l) (next j h)
        ∙ by_test (λ (z : ℕ). j + z ≡ j) (leb 3 edges) _ _ (λ u. absurd (omega (arith, leb→le 3 edges u, counted))) (λ u. omega arith))

  pub strong_end : (j : ℕ) → Strong all keys steiner j → j ≡ length steiner → length steiner ≡ first_weak all keys steiner
  unfolding first_weak
  strong_end j p h =
      let none_left : drop j steiner ≡ [] = drop_of_length-le steiner {i = j} (omega arith) in
      sym (p ∙ ap (λ (l : List ℕ). j + first_weak all keys l) none_left ∙ omega arith)

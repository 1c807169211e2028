-- Kruskal's pass over a list of keys: the keys kept so far stand at the front of the array, the labels are those of these keys, and what
-- is kept, with what Kruskal's method keeps of the rest, is all that it keeps.
use mathlib.Core.Path.{◌≡◌, refl, sym, ap, ◌∙◌}
use mathlib.Core.List.{List, [], ◌∷◌, ◌++◌, append-nil}
use Prim.Native.Nat.{ℕ, ◌+◌, ◌≤◌, ◌<◌}
use native.Mathlib.Numerals.{add-one}
use native.Mathlib.Omega.{arith}
use lib.ListN.{length, drop, get_or, set, length-set, drop_of_length-le}
use lib.Seq.{drop-cons, append_snoc}
use Rattle.arrays.specs.Paste.{Pasted}
use Rattle.arrays.proofs.paste.Parts.{pasted_same, pasted_none, pasted_one, pasted_then}
use Rattle.spanning.specs.Kruskal.{kruskal}
use Rattle.spanning.proofs.Component.{kruskal_skip, kruskal_keep}
use Rattle.keys.specs.Keys.{places, key_graph, low, high}
use Rattle.kruskal.specs.Labels.{moved}
use Rattle.kruskal.proofs.Labels.{Labelled, labels_closed, labels_merged}

-- After the first i keys: `kept` has those that were kept in their order, and `seen` latest first.
pub record Pass (keys old new labels : List ℕ) (n i : ℕ) : Type 0 where
  pub kept : List ℕ
  pub seen : List ℕ
  pub few : n ≤ i
  pub size : length new ≡ length old
  pub labelled : Labelled labels seen
  pub front : Pasted kept old new 0 n
  pub rest : kept ++ kruskal key_graph seen (drop i keys) ≡ kruskal key_graph [] keys

kruskal-nil : (F : List ℕ) → kruskal key_graph F [] ≡ []
unfolding kruskal
kruskal-nil F = refl

module _ {keys old : List ℕ} where
  pub pass_none : {labels : List ℕ} → Labelled labels [] → Pass keys old old labels 0 0
  pass_none l = record {
    kept = [];
    seen = [];
    few = omega arith;
    size = refl;
    labelled = l;
    front = pasted_none old 0;
    rest = refl;
  }

  module _ {new labels : List ℕ} {n i : ℕ} (r : Pass keys old new labels n i) where
    pub pass_end : length keys ≤ i → Pasted (kruskal key_graph [] keys) old new 0 n
    pass_end h =
        pasted_same
        (sym (append-nil r.kept) ∙ sym (ap (λ (l : List ℕ). r.kept ++ l) (rw (drop_of_length-le keys h) (kruskal-nil r.seen))) ∙ r.rest) r.front

    -- The next key k, between the labels of lo and hi.
    module _ (h : i < length keys) (k : ℕ) {lo hi : ℕ} (hk : k ≡ get_or keys i 0) (el : lo ≡ low k) (eh : hi ≡ high k) where
      others : List ℕ
      others = drop (i + 1) keys

      next : kruskal key_graph r.seen (drop i keys) ≡ kruskal key_graph r.seen (k ∷ others)
      unfolding others
      next = ap (kruskal key_graph r.seen) (drop-cons keys i 0 h ∙ rw (add-one, hk))

      pub pass_skip : get_or labels lo 0 ≡ get_or labels hi 0 → Pass keys old new labels n (i + 1)
      unfolding others
      pass_skip e = record {
        kept = r.kept;
        seen = r.seen;
        few = omega arith;
        size = r.size;
        labelled = r.labelled;
        front = r.front;
        rest = ap (λ (l : List ℕ). r.kept ++ l)
            (sym (next ∙ kruskal_skip key_graph r.seen k others ((labels_closed r.labelled k el eh).0 e))) ∙ r.rest;
      }

      pub pass_keep :
          length keys ≤ length old → ¬ (get_or labels lo 0 ≡ get_or labels hi 0) → {labels' : List ℕ} → length labels' ≡ length labels
          → ((u : ℕ) → u < places → get_or labels' u 0 ≡ moved (get_or labels lo 0) (get_or labels hi 0) (get_or labels u 0))
          → Pass keys old (set new n k) labels' (n + 1) (i + 1)
      unfolding others
      pass_keep room m same e = record {
        kept = r.kept ++ k ∷ [];
        seen = k ∷ r.seen;
        few = omega arith;
        size = length-set new n k ∙ r.size;
        labelled = labels_merged r.labelled k el eh same e;
        front = pasted_then r.front (omega arith) (pasted_one new n k (omega arith));
        rest = append_snoc r.kept k (kruskal key_graph (k ∷ r.seen) others)
            ∙ ap (λ (l : List ℕ). r.kept ++ l)
            (sym (next ∙ kruskal_keep key_graph r.seen k others (λ q. m ((labels_closed r.labelled k el eh).1 q)))) ∙ r.rest;
      }

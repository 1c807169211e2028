-- The labels of Kruskal's pass: each number's label is the representative of its component by the keys kept so far. One law for each
-- step: no key yet, a key within a label, and a key between two labels, which are merged.
use mathlib.Core.Path.{◌≡◌, refl, sym, ap, ◌∙◌}
use mathlib.Core.Logic.{◌↔◌, dite}
use mathlib.Core.List.{List, [], ◌∷◌}
use Prim.Native.Nat.{ℕ, ◌<◌}
use native.Mathlib.Decide.{ℕ_discrete}
use native.Mathlib.Omega.{arith}
use borrow.Author.Tests.{eq-eqb, ne_eqb}
use lib.ListN.{length, get_or}
use Rattle.spanning.specs.Graph.{Conn, In}
use Rattle.spanning.specs.Kruskal.{comp, Closed}
use Rattle.spanning.proofs.Component.{comp_hit, comp_miss, comp_conn}
use Rattle.keys.specs.Keys.{places, key_graph, low, high}
use Rattle.kruskal.specs.Labels.{moved}

-- The two outcomes of the test in `moved`.
pub moved_hit : (a b c : ℕ) → c ≡ a → moved a b c ≡ b
moved_hit a b c e = rw (eq-eqb c a e)

pub moved_miss : (a b c : ℕ) → ¬ (c ≡ a) → moved a b c ≡ c
moved_miss a b c n = rw (ne_eqb c a n)

pub record Labelled (labels seen : List ℕ) : Type 0 where
  pub size : length labels ≡ places
  pub label : (u : ℕ) → u < places → get_or labels u 0 ≡ comp key_graph seen u

pub labels_none : {labels : List ℕ} → length labels ≡ places → ((u : ℕ) → u < places → get_or labels u 0 ≡ u) → Labelled labels []
unfolding comp
labels_none h e = record { size = h; label = e }

-- Two numbers have one label exactly if the keys connect them.
pub labels_connect :
    {labels seen : List ℕ} → Labelled labels seen → (u v : ℕ) → u < places → v < places
    → (get_or labels u 0 ≡ get_or labels v 0) ↔ Conn key_graph (In seen) v u
labels_connect {seen = seen} r u v hu hv =
    let p = r.label u hu in
    let q = r.label v hv in
    (λ e. (comp_conn key_graph seen u v).0 (sym p ∙ e ∙ q), λ c. p ∙ (comp_conn key_graph seen u v).1 c ∙ sym q)

-- The next key k, whose ends have the labels a and b.
module _ {labels seen : List ℕ} (r : Labelled labels seen) (k : ℕ) {lo hi : ℕ} (el : lo ≡ low k) (eh : hi ≡ high k) where
  a : ℕ
  a = get_or labels lo 0

  b : ℕ
  b = get_or labels hi 0

  a_is : a ≡ comp key_graph seen (low k)
  unfolding a
  a_is = ap (λ (u : ℕ). get_or labels u 0) el ∙ r.label (low k) (omega arith)

  b_is : b ≡ comp key_graph seen (high k)
  unfolding b
  b_is = ap (λ (u : ℕ). get_or labels u 0) eh ∙ r.label (high k) (omega arith)

  -- The labels agree exactly if the keys connect the ends of k already.
  pub labels_closed : (get_or labels lo 0 ≡ get_or labels hi 0) ↔ Closed key_graph seen k
  unfolding key_graph a b
  labels_closed = (λ e. sym a_is ∙ e ∙ b_is, λ q. a_is ∙ q ∙ sym b_is)

  pub labels_merged :
      {labels' : List ℕ} → length labels' ≡ length labels
      → ((u : ℕ) → u < places → get_or labels' u 0 ≡ moved (get_or labels lo 0) (get_or labels hi 0) (get_or labels u 0)) → Labelled labels' (k ∷ seen)
  unfolding key_graph a b
  labels_merged {labels'} same e = record { size = same ∙ r.size; label = λ u h. e u h ∙ now u (get_or labels u 0) (r.label u h) }
    where
      now : (u c : ℕ) → c ≡ comp key_graph seen u → moved a b c ≡ comp key_graph (k ∷ seen) u
      now u c q =
          dite (ℕ_discrete c a)
          (λ p. moved_hit a b c p ∙ b_is ∙ sym (comp_hit key_graph seen k u (sym q ∙ p ∙ a_is)))
          (λ m. moved_miss a b c m ∙ q ∙ sym (comp_miss key_graph seen k u (λ p. m (q ∙ p ∙ sym a_is))))

  pub labels_same : get_or labels lo 0 ≡ get_or labels hi 0 → Labelled labels (k ∷ seen)
  unfolding a b
  labels_same e = labels_merged refl (λ u h. sym (still (get_or labels u 0)))
    where
      still : (c : ℕ) → moved a b c ≡ c
      still c = dite (ℕ_discrete c a) (λ p. moved_hit a b c p ∙ sym e ∙ sym p) (moved_miss a b c)

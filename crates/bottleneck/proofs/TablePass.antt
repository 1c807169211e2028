-- Kruskal's pass that fills the table: the labels are those of the keys seen so far, and the table has the bottlenecks, over these, of the
-- numbers that they connect. A key within a label changes nothing, and one between two labels is the bottleneck of the numbers that it
-- connects, since it is the heaviest so far.
use mathlib.Core.Path.{◌≡◌, sym, ap, ◌∙◌, subst, subst⁻¹}
use mathlib.Core.Logic.{◌↔◌, inl, inr, ⊎_elim}
use mathlib.Core.List.Memᴰ.{cases_cons as cases}
use mathlib.Core.List.Memᴰ.{head}
use mathlib.Core.List.Memᴰ.{tail}
use mathlib.Core.List.{List, [], ◌∷◌, Memᴰ}
use mathlib.Core.List.Memᴰ.{not-nil}
use Prim.Native.Nat.{ℕ, ◌+◌, ◌≤◌, ◌<◌}
use native.Mathlib.Omega.{arith}
use lib.Dec.{T, ltb, ltb→lt}
use lib.ListN.{length, take, get_or}
use lib.Seq.{take_all}
use Rattle.spanning.specs.Graph.{Conn, stop, In}
use Rattle.spanning.specs.Bottleneck.{Bottleneck}
use Rattle.spanning.proofs.Conn.{conn_mono, conn_none}
use Rattle.keys.specs.Keys.{places, key_graph, weight, low, high}
use Rattle.kruskal.specs.Labels.{moved}
use Rattle.keys.proofs.Parts.{weight-le}
use Rattle.kruskal.proofs.Labels.{Labelled, labels_connect, labels_merged, labels_same}
use Rattle.bottleneck.specs.Table.{entries, entry, LabelsMerged, FillRequires, Bottlenecks}
use Rattle.bottleneck.proofs.FirstKeys.{first_at, first-before, first_more}
use Rattle.bottleneck.proofs.HeaviestEdge.{same_bottleneck, new_bottleneck}
use Rattle.bottleneck.proofs.Rows.{merged_cases}

-- After the first i keys, which are in `seen`, latest first.
pub record TablePass (keys : List ℕ) (n : ℕ) (table labels : List ℕ) (i : ℕ) : Type 0 where
  pub seen : List ℕ
  pub given : FillRequires keys n entries
  pub size : length table ≡ entries
  pub labelled : Labelled labels seen
  pub same : (k : ℕ) → Memᴰ k seen ↔ Memᴰ k (take i keys)
  pub right : (u v : ℕ) → u < n → v < n → Conn key_graph (In seen) v u → Bottleneck key_graph weight seen u v (entry table u v)

pub pass_none :
    {keys : List ℕ} {n size : ℕ} → FillRequires keys n size → {table labels : List ℕ} → length table ≡ size → Labelled labels []
    → ((u : ℕ) → u < n → entry table u u ≡ 0) → TablePass keys n table labels 0
pass_none {keys} {n} given {table} full l z = record {
  seen = [];
  given = rw given.room at given;
  size = full ∙ given.room;
  labelled = l;
  same = λ k. (λ f. f, λ f. f);
  right = λ u v hu hv c x.
      let p = conn_none (λ e. not-nil) c in
      (λ g. stop p, λ d. subst (λ (b : ℕ). b ≤ x) (sym (z u hu) ∙ ap (entry table u) p) (omega arith));
}

module _ {keys : List ℕ} {n : ℕ} {table labels : List ℕ} {i : ℕ} (r : TablePass keys n table labels i) where
  given : FillRequires keys n entries
  given = r.given

  pub pass_end : length keys ≤ i → Bottlenecks keys n table
  pass_end h u v hu hv x =
      let b = r.right u v hu hv (conn_mono from (given.joins u v hu hv)) x in
      (λ l. conn_mono (λ k f. (into k f.0, f.1)) (b.0 l), λ c. b.1 (conn_mono (λ k f. (from k f.0, f.1)) c))
    where
      all : take i keys ≡ keys
      all = take_all i keys h

      into : (k : ℕ) → Memᴰ k r.seen → Memᴰ k keys
      into k f = rw all at ((r.same k).0 f)

      from : (k : ℕ) → Memᴰ k keys → Memᴰ k r.seen
      from k f = (r.same k).1 (rw all f)

  module _ (h : i < length keys) where
    -- The next key is short enough for an entry.
    pub next-short : weight (get_or keys i 0) < 4294967296
    next-short = given.short (get_or keys i 0) (first_at keys i h)

    -- The next key k, between the labels of lo and hi.
    module _ (k : ℕ) {lo hi : ℕ} (hk : k ≡ get_or keys i 0) (el : lo ≡ low k) (eh : hi ≡ high k) where
      heaviest : (f : ℕ) → In r.seen f → weight f ≤ weight k
      heaviest f g =
          weight-le f k (rw hk
          (ltb→lt f (get_or keys i 0) (first-before (λ (x y : ℕ). T (ltb x y)) keys i h given.sorted f ((r.same f).0 g))))

      -- The bottleneck of numbers connected before stays.
      old : (u v : ℕ) → u < n → v < n → get_or labels u 0 ≡ get_or labels v 0 → Bottleneck key_graph weight (k ∷ r.seen) u v (entry table u v)
      old u v hu hv e =
          let c = (labels_connect r.labelled u v (omega arith) (omega arith)).0 e in
          same_bottleneck key_graph weight r.seen k heaviest c (entry table u v) (r.right u v hu hv c)

      -- Labels and a table that are right with k seen as well.
      step :
          {table' labels' : List ℕ} → length table' ≡ entries → Labelled labels' (k ∷ r.seen)
          → ((u v : ℕ) → u < n → v < n → get_or labels' u 0 ≡ get_or labels' v 0 → Conn key_graph (In (k ∷ r.seen)) v u
          → Bottleneck key_graph weight (k ∷ r.seen) u v (entry table' u v))
          → TablePass keys n table' labels' (i + 1)
      step full l right = record {
        seen = k ∷ r.seen;
        given = given;
        size = full;
        labelled = l;
        same = λ f. (
          λ g. (first_more keys i (omega arith) f).1 (⊎_elim (λ p. inl (p ∙ hk)) (λ j. inr ((r.same f).0 j)) (cases g)),
          λ g. ⊎_elim (λ p. head (p ∙ sym hk)) (λ j. tail ((r.same f).1 j)) ((first_more keys i (omega arith) f).0 g),
        );
        right = λ u v hu hv c. right u v hu hv ((labels_connect l u v (omega arith) (omega arith)).1 c) c;
      }

      pub pass_skip : get_or labels lo 0 ≡ get_or labels hi 0 → TablePass keys n table labels (i + 1)
      pass_skip e = step r.size (labels_same r.labelled k el eh e) (λ u v hu hv p c. old u v hu hv p)

      pub pass_merge :
          ¬ (get_or labels lo 0 ≡ get_or labels hi 0) → {w : ℕ} → w ≡ weight k → {table' labels' : List ℕ} → length table' ≡ length table
          → LabelsMerged labels (get_or labels lo 0) (get_or labels hi 0) w n table table' → length labels' ≡ length labels
          → ((u : ℕ) → u < places → get_or labels' u 0 ≡ moved (get_or labels lo 0) (get_or labels hi 0) (get_or labels u 0))
          → TablePass keys n table' labels' (i + 1)
      pass_merge differ {w} ew {table'} {labels'} full filled long e =
          step (full ∙ r.size) (labels_merged r.labelled k el eh long e) right
        where
          right : (u v : ℕ) → u < n → v < n → get_or labels' u 0 ≡ get_or labels' v 0 → Conn key_graph (In (k ∷ r.seen)) v u
              → Bottleneck key_graph weight (k ∷ r.seen) u v (entry table' u v)
          right u v hu hv p c =
              rw (filled u v hu hv) (⊎_elim (λ s. subst⁻¹ is s.1 (old u v hu hv s.0))
              (λ s. subst⁻¹ is (s.1 ∙ ew) (new_bottleneck key_graph weight r.seen k heaviest (λ f. s.0 ((labels_connect r.labelled u v hu' hv').1 f)) c))
              (merged_cases (get_or labels lo 0) (get_or labels hi 0) w differ (get_or labels u 0) (get_or labels v 0) (entry table u v)
              (sym (e u hu') ∙ p ∙ e v hv')))
            where
              is : ℕ → Type 0
              is = Bottleneck key_graph weight (k ∷ r.seen) u v

              hu' : u < places
              hu' = omega arith

              hv' : v < places
              hv' = omega arith

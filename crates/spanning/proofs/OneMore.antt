-- One edge more lowers the least weight by what it spares: its ends had a bottleneck, and the first kept edge that closes with the
-- new one, whose weight is that bottleneck, is dropped. Kruskal's recursion with a base carries it: the new edge joins the base.
use mathlib.Core.Path.{◌≡◌, refl, sym, ◌∙◌, ap, subst}
use mathlib.Core.Logic.{◌↔◌, ◌⊎◌, inl, inr, ⊎_elim}
use mathlib.Core.List.Memᴰ.{cases_cons as cases}
use mathlib.Core.List.Memᴰ.{head}
use mathlib.Core.List.Memᴰ.{not-nil}
use mathlib.Core.List.Memᴰ.{tail}
use mathlib.Core.List.{List, [], ◌∷◌}
use Prim.Native.Nat.{ℕ, ◌+◌, ◌-◌, ◌≤◌, ◌<◌, max}
use native.Mathlib.Decide.{dec_lt}
use native.Mathlib.Omega.{arith}
use Rattle.spanning.specs.Graph.{Graph, Conn, In, total}
use Rattle.spanning.specs.Kruskal.{kruskal}
use Rattle.arrays.specs.Order.{StrictTotal, Sorted}
use Rattle.spanning.specs.Bottleneck.{Within}
use Rattle.spanning.proofs.Conn.{conn_edge, conn_mono, conn_bind}
use Rattle.spanning.proofs.Component.{kruskal_cases}
use Rattle.arrays.proofs.Members.{mem_shift}
use Rattle.spanning.proofs.Inserted.{Inserted, here, later, inserted}
use Rattle.spanning.proofs.Forest.{exchange}
use Rattle.spanning.proofs.Kruskal.{kruskal_in}
use Rattle.spanning.proofs.Rank.{Spans}

module _ {P E : Type 0} (G : Graph P E) where
  -- Bases that connect the same give the same edges.
  pub same_base : (F F' es : List E) → Spans G F' F → Spans G F F' → kruskal G F es ≡ kruskal G F' es
  unfolding kruskal
  same_base F F' [] h k = refl
  same_base F F' (x ∷ es) h k =
      kruskal_cases G F x es (λ K. K ≡ kruskal G F' (x ∷ es))
      (λ c. kruskal_cases G F' x es (λ K. kruskal G F es ≡ K) (λ _. same_base F F' es h k) (λ n. absurd (n (conn_bind h c))))
      (λ n. kruskal_cases G F' x es (λ K. x ∷ kruskal G (x ∷ F) es ≡ K) (λ c. absurd (n (conn_bind k c)))
      (λ _. ap (λ K. x ∷ K) (same_base (x ∷ F) (x ∷ F') es (more F F' h) (more F' F k))))
    where
      more : (A B : List E) → Spans G B A → Spans G (x ∷ B) (x ∷ A)
      more A B g e m = ⊎_elim (λ p. conn_edge e (head p)) (λ i. conn_mono (λ f j. tail j) (g e i)) (cases m)

  -- Nor does the order of the base matter.
  swap_base : (F es : List E) (a b : E) → kruskal G (a ∷ b ∷ F) es ≡ kruskal G (b ∷ a ∷ F) es
  swap_base F es a b = same_base (a ∷ b ∷ F) (b ∷ a ∷ F) es (swap a b) (swap b a)
    where
      swap : (a b : E) → Spans G (b ∷ a ∷ F) (a ∷ b ∷ F)
      swap a b f m = conn_edge f (⊎_elim (λ p. tail (head p)) (λ j. ⊎_elim head (λ i. tail (tail i)) (cases j)) (cases m))

  -- An edge in the base that nothing closes changes nothing.
  pub bridge : (F es : List E) (e : E) → ¬ Conn G (λ f. In F f ⊎ In es f) (G.hi e) (G.lo e) → kruskal G (e ∷ F) es ≡ kruskal G F es
  unfolding kruskal
  bridge F [] e n = refl
  bridge F (x ∷ es) e n =
      kruskal_cases G F x es (λ K. kruskal G (e ∷ F) (x ∷ es) ≡ K)
      (λ c. kruskal_cases G (e ∷ F) x es (λ K. K ≡ kruskal G F es) (λ _. bridge F es e (λ d. n (conn_mono (λ f. ⊎_elim inl (λ m. inr (tail m))) d)))
      (λ m. absurd (m (conn_mono (λ f j. tail j) c))))
      (λ m. kruskal_cases G (e ∷ F) x es (λ K. K ≡ x ∷ kruskal G (x ∷ F) es)
      (λ c. absurd (n (conn_mono (λ f j. ⊎_elim (λ p. inr (head p)) inl (cases j)) (exchange F e x m c))))
      (λ _. ap (λ K. x ∷ K) (swap_base F es x e ∙ bridge (x ∷ F) es e (λ d. n (conn_mono (λ f. (mem_shift x f F es).0) d)))))

module _ {P E : Type 0} (G : Graph P E) {before : E → E → Type 0} (order : StrictTotal before)
    (w : E → ℕ) (light : (e f : E) → before e f → w e ≤ w f) where
  -- The edges of the base F, and those of S no heavier than x.
  abbrev Upto : List E → List E → ℕ → E → Type 0
  Upto F S x g = In F g ⊎ Within w S x g

  -- The edge `dropped` of S is the first that closes e over the base F, and Kruskal's method keeps it without e and not with e.
  record Drop (F S : List E) (e : E) (without with : List E) : Type 0 where
    dropped : E
    among : In S dropped
    sum : total w with + w dropped ≡ total w without
    joins : Conn G (Upto F S (w dropped)) (G.hi e) (G.lo e)
    first : (x : ℕ) → x < w dropped → ¬ Conn G (Upto F S x) (G.hi e) (G.lo e)

  -- The first edge x of a list is counted to the base, or left out where the base closes it.
  upto_down : (F S : List E) (x g : E) (y : ℕ) → Upto F (x ∷ S) y g → Upto (x ∷ F) S y g
  upto_down F S x g y = ⊎_elim (λ m. inl (tail m)) (λ m. ⊎_elim (λ p. inl (head p)) (λ k. inr (k, m.1)) (cases m.0))

  upto_up : (F S : List E) (x g : E) (y : ℕ) → w x ≤ y → Upto (x ∷ F) S y g → Upto F (x ∷ S) y g
  upto_up F S x g y h =
      ⊎_elim (λ m. ⊎_elim (λ p. inr (head p, subst (λ z. w z ≤ y) (sym p) h)) inl (cases m)) (λ m. inr (tail m.0, m.1))

  upto_tail : (F S : List E) (x g : E) (y : ℕ) → Upto F S y g → Upto F (x ∷ S) y g
  upto_tail F S x g y = ⊎_elim inl (λ m. inr (tail m.0, m.1))

  upto_closed :
      (F S : List E) (x : E) (y : ℕ) {u v : P} → Conn G (In F) (G.hi x) (G.lo x) → Conn G (Upto F (x ∷ S) y) v u → Conn G (Upto F S y) v u
  upto_closed F S x y c =
      conn_bind (λ g. ⊎_elim (λ m. conn_edge g (inl m))
      (λ m. ⊎_elim (λ p. rw p (conn_mono (λ f k. inl k) c)) (λ k. conn_edge g (inr (k, m.1))) (cases m.0)))

  drop :
      (F S : List E) (e : E) → Sorted before S → ¬ Conn G (In F) (G.hi e) (G.lo e)
      → Conn G (λ f. In F f ⊎ In S f) (G.hi e) (G.lo e) → Drop F S e (kruskal G F S) (kruskal G (e ∷ F) S)
  unfolding total
  drop F [] e s n c = absurd (n (conn_mono (λ f. ⊎_elim (λ m. m) (λ m. absurd (not-nil m))) c))
  drop F (x ∷ S) e s n c =
      kruskal_cases G F x S (λ K. Drop F (x ∷ S) e K (kruskal G (e ∷ F) (x ∷ S)))
      (λ a. kruskal_cases G (e ∷ F) x S (Drop F (x ∷ S) e (kruskal G F S)) (λ _. skip a (drop F S e s.1 n (without a)))
      (λ m. absurd (m (conn_mono (λ f k. tail k) a))))
      (λ a. kruskal_cases G (e ∷ F) x S (Drop F (x ∷ S) e (x ∷ kruskal G (x ∷ F) S)) (here_dropped a)
      (λ m. keep (drop (x ∷ F) S e s.1 (λ d. m (exchange F x e n d)) (conn_mono (λ f. (mem_shift x f F S).1) c))))
    where
      without : Conn G (In F) (G.hi x) (G.lo x) → Conn G (λ f. In F f ⊎ In S f) (G.hi e) (G.lo e)
      without a =
          conn_bind (λ g. ⊎_elim (λ m. conn_edge g (inl m)) (λ m. ⊎_elim (λ p. rw p (conn_mono (λ f k. inl k) a)) (λ k. conn_edge g (inr k)) (cases m))) c

      skip : Conn G (In F) (G.hi x) (G.lo x) → Drop F S e (kruskal G F S) (kruskal G (e ∷ F) S) → Drop F (x ∷ S) e (kruskal G F S) (kruskal G (e ∷ F) S)
      skip a r =
          record {
            dropped = r.dropped;
            among = tail r.among;
            sum = r.sum;
            joins = conn_mono (λ g. upto_tail F S x g (w r.dropped)) r.joins;
            first = λ y h d. r.first y h (upto_closed F S x y a d);
          }

      here_dropped : ¬ Conn G (In F) (G.hi x) (G.lo x) → Conn G (In (e ∷ F)) (G.hi x) (G.lo x)
          → Drop F (x ∷ S) e (x ∷ kruskal G (x ∷ F) S) (kruskal G (e ∷ F) S)
      here_dropped a b =
          record {
            dropped = x;
            among = head refl;
            sum = omega (arith, ap (total w) (same_base G (e ∷ F) (x ∷ F) S (to closes) (to b)));
            joins = conn_mono (λ g m. ⊎_elim (λ p. inr (head p, rw p (omega arith))) inl (cases m)) closes;
            first = λ y h d. n (conn_mono (λ g. ⊎_elim (λ m. m) (λ m. absurd (heavier g m.0 y m.1 h))) d);
          }
        where
          closes : Conn G (In (x ∷ F)) (G.hi e) (G.lo e)
          closes = exchange F e x a b

          to : {f g : E} → Conn G (In (g ∷ F)) (G.hi f) (G.lo f) → Spans G (g ∷ F) (f ∷ F)
          to d h m = ⊎_elim (λ p. rw p d) (λ k. conn_edge h (tail k)) (cases m)

          heavier : (g : E) → In (x ∷ S) g → (y : ℕ) → w g ≤ y → y < w x → ⊥
          heavier g m y h k = ⊎_elim (λ p. omega (arith, h, k, ap w p)) (λ j. omega (arith, h, k, light x g (s.0 g j))) (cases m)

      keep : Drop (x ∷ F) S e (kruskal G (x ∷ F) S) (kruskal G (e ∷ x ∷ F) S) → Drop F (x ∷ S) e (x ∷ kruskal G (x ∷ F) S) (x ∷ kruskal G (x ∷ e ∷ F) S)
      keep r =
          record {
            dropped = r.dropped;
            among = tail r.among;
            sum = omega (arith, r.sum, ap (total w) (swap_base G F S x e));
            joins = conn_mono (λ g. upto_up F S x g (w r.dropped) (light x r.dropped (s.0 r.dropped r.among))) r.joins;
            first = λ y h d. r.first y h (conn_mono (λ g. upto_down F S x g y) d);
          }

  -- With e in its place the total falls by the bottleneck of e's ends less the weight of e. Only bounds from e's weight on count.
  one_more_at :
      (e : E) (F S T : List E) (b : ℕ) → Sorted before S → Inserted before e S T
      → ((x : ℕ) → w e ≤ x → (b ≤ x) ↔ Conn G (Upto F S x) (G.hi e) (G.lo e))
      → total w (kruskal G F T) + (b - w e) ≡ total w (kruskal G F S)
  unfolding total
  one_more_at e F S T b s (here ahead) h =
      kruskal_cases G F e S (λ K. total w K + (b - w e) ≡ total w (kruskal G F S))
      (λ c. omega (arith, (h (w e) (omega arith)).1 (conn_mono (λ g m. inl m) c)))
      (λ n. spare (drop F S e s n (conn_mono (λ g. ⊎_elim inl (λ m. inr m.0)) ((h (max b (w e)) (omega arith)).0 (omega arith)))))
    where
      spare : Drop F S e (kruskal G F S) (kruskal G (e ∷ F) S) → w e + total w (kruskal G (e ∷ F) S) + (b - w e) ≡ total w (kruskal G F S)
      spare r = go (dec_lt (max b (w e)) (w r.dropped))
        where
          after : w e ≤ w r.dropped
          after = light e r.dropped (ahead r.dropped r.among)

          go : Dec (max b (w e) < w r.dropped) → w e + total w (kruskal G (e ∷ F) S) + (b - w e) ≡ total w (kruskal G F S)
          go (yes l) = absurd (r.first (max b (w e)) l ((h (max b (w e)) (omega arith)).0 (omega arith)))
          go (no l) = omega (arith, r.sum, after, (h (w r.dropped) after).1 r.joins, l)
  one_more_at e F S T b s (later {x = x} {S = S'} {T = T'} p i) h =
      kruskal_cases G F x T' (λ K. total w K + (b - w e) ≡ total w (kruskal G F (x ∷ S')))
      (λ c. kruskal_cases G F x S' (λ K. total w (kruskal G F T') + (b - w e) ≡ total w K)
      (λ _. one_more_at e F S' T' b s.1 i
      (λ y l. (λ q. upto_closed F S' x y c ((h y l).0 q), λ d. (h y l).1 (conn_mono (λ g. upto_tail F S' x g y) d))))
      (λ n. absurd (n c)))
      (λ n. kruskal_cases G F x S' (λ K. w x + total w (kruskal G (x ∷ F) T') + (b - w e) ≡ total w K) (λ c. absurd (n c))
      (λ _. omega (
        arith,
        one_more_at e (x ∷ F) S' T' b s.1 i
            (λ y l. (
              λ q. conn_mono (λ g. upto_down F S' x g y) ((h y l).0 q),
              λ d. (h y l).1 (conn_mono (λ g. upto_up F S' x g y (omega (arith, l, light x e p))) d),
            )),
      )))

  bridge_at :
      (e : E) (F S T : List E) → Inserted before e S T → ¬ Conn G (λ f. In F f ⊎ In S f) (G.hi e) (G.lo e)
      → total w (kruskal G F T) ≡ w e + total w (kruskal G F S)
  unfolding total
  bridge_at e F S T (here ahead) n =
      kruskal_cases G F e S (λ K. total w K ≡ w e + total w (kruskal G F S)) (λ c. absurd (n (conn_mono (λ g m. inl m) c)))
      (λ _. ap (λ K. w e + total w K) (bridge G F S e n))
  bridge_at e F S T (later {x = x} {S = S'} {T = T'} p i) n =
      kruskal_cases G F x T' (λ K. total w K ≡ w e + total w (kruskal G F (x ∷ S')))
      (λ c. kruskal_cases G F x S' (λ K. total w (kruskal G F T') ≡ w e + total w K)
      (λ _. bridge_at e F S' T' i (λ d. n (conn_mono (λ g. ⊎_elim inl (λ m. inr (tail m))) d))) (λ m. absurd (m c)))
      (λ m. kruskal_cases G F x S' (λ K. w x + total w (kruskal G (x ∷ F) T') ≡ w e + total w K) (λ c. absurd (m c))
      (λ _. omega (arith, bridge_at e (x ∷ F) S' T' i (λ d. n (conn_mono (λ g. (mem_shift x g F S').0) d)))))

  module _ (S T : List E) (e : E) (s : Sorted before S) (t : Sorted before T) (members : (f : E) → In T f ↔ ((f ≡ e) ⊎ In S f)) where
    pub one_more :
        (b : ℕ) → ((x : ℕ) → w e ≤ x → (b ≤ x) ↔ Conn G (Within w S x) (G.hi e) (G.lo e))
        → total w (kruskal G [] T) + (b - w e) ≡ total w (kruskal G [] S)
    one_more b h =
        ⊎_elim
        (λ m. omega (arith, ap (λ l. total w (kruskal G [] l)) m.1, (h (w e) (omega arith)).1 (conn_edge e (m.0, omega arith))))
        (λ i. one_more_at e [] S T b s i
        (λ x l. (λ q. conn_mono (λ g m. inr m) ((h x l).0 q), λ d. (h x l).1 (conn_mono (λ g. ⊎_elim (λ m. absurd (not-nil m)) (λ m. m)) d))))
        (inserted order e S T s t members)

    -- An edge whose ends edges no heavier connect changes no total.
    pub one_more_closed : Conn G (Within w S (w e)) (G.hi e) (G.lo e) → total w (kruskal G [] T) ≡ total w (kruskal G [] S)
    one_more_closed c = omega (arith, one_more (w e) (λ x l. (λ _. conn_mono (λ g m. (m.0, omega (arith, l, m.1))) c, λ _. l)))

    -- An edge whose ends nothing connects adds its weight.
    pub one_more_bridge : ¬ Conn G (In S) (G.hi e) (G.lo e) → total w (kruskal G [] T) ≡ w e + total w (kruskal G [] S)
    one_more_bridge n =
        ⊎_elim (λ m. absurd (n (conn_edge e m.0)))
        (λ i. bridge_at e [] S T i (λ d. n (conn_mono (λ g. ⊎_elim (λ m. absurd (not-nil m)) (λ m. m)) d)))
        (inserted order e S T s t members)

  -- Of the edges no heavier than x, those that Kruskal's method keeps connect all that the others do.
  kept-within :
      (F S : List E) → Sorted before S → (f : E) → In S f → Conn G (Upto F (kruskal G F S) (w f)) (G.hi f) (G.lo f)
  kept-within F [] s f m = absurd (not-nil m)
  kept-within F (x ∷ S) s f m =
      kruskal_cases G F x S (λ K. Conn G (Upto F K (w f)) (G.hi f) (G.lo f))
      (λ c. ⊎_elim (λ p. rw p (conn_mono (λ g k. inl k) c)) (kept-within F S s.1 f) (cases m))
      (λ _. ⊎_elim (λ p. conn_edge f (inr (head p, omega arith)))
      (λ k. conn_mono (λ g. upto_up F (kruskal G (x ∷ F) S) x g (w f) (light x f (s.0 f k))) (kept-within (x ∷ F) S s.1 f k))
      (cases m))

  -- So a bottleneck on the tree is one among all edges.
  pub tree_bottleneck : (S : List E) → Sorted before S → (x : ℕ) {u v : P} → Conn G (Within w (kruskal G [] S) x) v u ↔ Conn G (Within w S x) v u
  tree_bottleneck S s x = (
    conn_mono (λ g m. (kruskal_in G [] S g m.0, m.1)),
    conn_bind (λ g m. conn_mono (λ f. ⊎_elim (λ k. absurd (not-nil k)) (λ k. (k.0, omega (arith, k.1, m.1)))) (kept-within [] S s g m.0)),
  )

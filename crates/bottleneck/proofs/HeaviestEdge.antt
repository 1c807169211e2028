-- One edge more, at least as heavy as those before: the bottleneck of vertices that were connected stays, and that of vertices
-- that it connects is its weight. Under a bound below its weight it is not there, and under any other bound all edges are.
use mathlib.Core.Path.{ap}
use mathlib.Core.Logic.{⊎_elim}
use mathlib.Core.List.Memᴰ.{cases_cons as cases}
use mathlib.Core.List.Memᴰ.{tail}
use mathlib.Core.List.{List, ◌∷◌}
use Prim.Native.Nat.{ℕ, ◌≤◌, ◌<◌}
use native.Mathlib.Decide.{dec_lt}
use native.Mathlib.Omega.{arith}
use Rattle.spanning.specs.Graph.{Graph, Conn, In}
use Rattle.spanning.specs.Bottleneck.{Within, Bottleneck}
use Rattle.spanning.proofs.Conn.{conn_mono}

module _ {P E : Type 0} (G : Graph P E) (w : E → ℕ) (S : List E) (e : E) (heaviest : (f : E) → In S f → w f ≤ w e) where
  -- Under a bound below its weight the new edge is not there.
  without : (x : ℕ) → x < w e → {u v : P} → Conn G (Within w (e ∷ S) x) v u → Conn G (Within w S x) v u
  without x l =
      conn_mono (λ f m. (⊎_elim (λ p. absurd (omega (arith, ap w p))) (λ i. i) (cases m.0), m.1))

  pub same_bottleneck : {u v : P} → Conn G (In S) v u → (b : ℕ) → Bottleneck G w S u v b → Bottleneck G w (e ∷ S) u v b
  same_bottleneck {u} {v} c b h x = (λ l. conn_mono (λ f m. (tail m.0, m.1)) ((h x).0 l), λ d. (h x).1 (go (dec_lt x (w e)) d))
    where
      go : Dec (x < w e) → Conn G (Within w (e ∷ S) x) v u → Conn G (Within w S x) v u
      go (yes l) d = without x l d
      go (no l) d = conn_mono (λ f i. (i, omega (arith, heaviest f i))) c

  pub new_bottleneck : {u v : P} → ¬ Conn G (In S) v u → Conn G (In (e ∷ S)) v u → Bottleneck G w (e ∷ S) u v (w e)
  new_bottleneck {u} {v} n c x = (
    λ l. conn_mono (λ f i. (i, ⊎_elim (λ p. omega (arith, ap w p)) (λ j. omega (arith, heaviest f j)) (cases i))) c,
    λ d. go (dec_lt x (w e)) d,
  )
    where
      go : Dec (x < w e) → Conn G (Within w (e ∷ S) x) v u → w e ≤ x
      go (yes l) d = absurd (n (conn_mono (λ f m. m.0) (without x l d)))
      go (no l) d = omega arith

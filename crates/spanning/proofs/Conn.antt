-- Connectivity is an equivalence that goes along maps of vertices: each fact is one induction on the walk.
use mathlib.Core.Path.{◌≡◌, refl, sym, ◌∙◌, ap}
use Rattle.spanning.specs.Graph.{Graph, Conn, stop, fwd, bwd}

module _ {P E : Type 0} {G : Graph P E} {S : E → Type 0} where
  -- The start of a walk may be replaced by an equal vertex.
  pub conn_cast : {u u' v : P} → u ≡ u' → Conn G S v u' → Conn G S v u
  conn_cast p (stop q) = stop (p ∙ q)
  conn_cast p (fwd e s q c) = fwd e s (p ∙ q) c
  conn_cast p (bwd e s q c) = bwd e s (p ∙ q) c

  pub conn_trans : {v u w : P} → Conn G S w v → Conn G S v u → Conn G S w u
  conn_trans d (stop p) = conn_cast p d
  conn_trans d (fwd e s p c) = fwd e s p (conn_trans d c)
  conn_trans d (bwd e s p c) = bwd e s p (conn_trans d c)

  pub conn_sym : {v u : P} → Conn G S v u → Conn G S u v
  conn_sym (stop p) = stop (sym p)
  conn_sym (fwd e s p c) = conn_trans (bwd e s refl (stop (sym p))) (conn_sym c)
  conn_sym (bwd e s p c) = conn_trans (fwd e s refl (stop (sym p))) (conn_sym c)

  -- An edge connects its ends.
  pub conn_edge : (e : E) → S e → Conn G S (G.hi e) (G.lo e)
  conn_edge e s = fwd e s refl (stop refl)

  -- Without edges only equal vertices are connected.
  pub conn_none : ((e : E) → ¬ S e) → {u v : P} → Conn G S v u → u ≡ v
  conn_none none (stop p) = p
  conn_none none (fwd e s p c) = absurd (none e s)
  conn_none none (bwd e s p c) = absurd (none e s)

-- A map of the vertices that keeps the ends of each edge connected keeps all connected vertices connected.
pub conn_map :
    {P E P' E' : Type 0} {G : Graph P E} {G' : Graph P' E'} {S : E → Type 0} {S' : E' → Type 0} (φ : P → P')
    → ((e : E) → S e → Conn G' S' (φ (G.hi e)) (φ (G.lo e)))
    → {v u : P} → Conn G S v u → Conn G' S' (φ v) (φ u)
conn_map φ h (stop p) = stop (ap φ p)
conn_map φ h (fwd e s p c) = conn_cast (ap φ p) (conn_trans (conn_map φ h c) (h e s))
conn_map φ h (bwd e s p c) = conn_cast (ap φ p) (conn_trans (conn_map φ h c) (conn_sym (h e s)))

module _ {P E : Type 0} {G : Graph P E} {S S' : E → Type 0} where
  -- What connects the ends of every edge of S connects all that S connects.
  pub conn_bind : ((e : E) → S e → Conn G S' (G.hi e) (G.lo e)) → {v u : P} → Conn G S v u → Conn G S' v u
  conn_bind = conn_map (λ u. u)

  pub conn_mono : ((e : E) → S e → S' e) → {v u : P} → Conn G S v u → Conn G S' v u
  conn_mono h = conn_bind (λ e s. conn_edge e (h e s))

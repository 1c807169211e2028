-- Kruskal's method, with a representative for each component.
use Rattle.std.specs.Prelude.{◌≡◌, List, [], ◌∷◌}
use Rattle.std.proofs.Math.Logic.{dite}
use Rattle.spanning.specs.Graph.{Graph}

-- The representative of u's component under the edges of F: each edge, latest first, sends the lower end's component to the higher end's.
unfoldable pub comp : {P E : Type 0} → Graph P E → List E → P → P
comp G [] = λ u. u
comp G (e ∷ F) =
    let r = comp G F in
    let a = r (G.lo e) in
    let b = r (G.hi e) in
    λ u. let c = r u in dite (G.dec c a) (λ _. b) (λ _. c)

-- Whether the edges of F connect the ends of e already.
abbrev pub Closed : {P E : Type 0} → Graph P E → List E → E → Type 0
Closed G F e = comp G F (G.lo e) ≡ comp G F (G.hi e)

-- The same, decided.
abbrev pub closed? : {P E : Type 0} (G : Graph P E) (F : List E) (e : E) → Dec (Closed G F e)
closed? G F e = let r = comp G F in G.dec (r (G.lo e)) (r (G.hi e))

-- Kruskal's method over the base F, whose edges are there already: an edge of the list is kept if its ends are not connected by the base
-- and the edges kept before it.
unfoldable pub kruskal : {P E : Type 0} → Graph P E → List E → List E → List E
kruskal G F [] = []
kruskal G F (e ∷ es) = dite (closed? G F e) (λ _. kruskal G F es) (λ _. e ∷ kruskal G (e ∷ F) es)

-- After any list of calls: the model's claim on the contents, said of the edges that the deck answers. These are the edges of the tree, since
-- a place of the listing has an edge exactly if it is one of the tree's.
use mathlib.Core.Path.{◌≡◌, refl, sym, ap, ◌∙◌}
use mathlib.Core.Logic.{◌↔◌}
use mathlib.Core.Option.{Option, none, some}
use mathlib.Core.List.Memᴰ.{cases_cons as cases}
use mathlib.Core.List.Memᴰ.{head}
use mathlib.Core.List.Memᴰ.{not-nil}
use mathlib.Core.List.Memᴰ.{tail as later}
use mathlib.Core.List.{List, [], ◌∷◌, Memᴰ}
use mathlib.Core.Logic.{⊎_elim}
use Prim.Native.Nat.{ℕ, zero, suc}
use native.Mathlib.Omega.{arith}
use lib.ListN.{get_elem?}
use Rattle.arrays.proofs.Set.{set_of_in}
use Rattle.plane.specs.Edge.{Edge, listed_before}
use Rattle.plane.proofs.Order.{listed-order}
use Rattle.model.specs.Tail.{tree_length_with}
use Rattle.model.specs.State.{State}
use Rattle.model.specs.Contents.{Contents}
use Rattle.model.specs.Question.{tree_of, listed}
use Rattle.model.proofs.Prune.{few-steiner}
use Rattle.questions.specs.Answers.{of_edge, edge_answer, edge_or_none}
use Rattle.deck.specs.declared.Deck.{Deck}
use Rattle.deck.specs.Questions.{asked}
use Rattle.deck.specs.SessionDeck.{SessionDeck}
use Rattle.demands.specs.Sessions.{AfterCalls, Bounds}

-- A member of a list is at some place, and what is at a place is a member.
place_of : {A : Type 0} (l : List A) (a : A) → Memᴰ a l → (i : ℕ) × (get_elem? l i ≡ some a)
place_of [] a m = absurd (not-nil m)
place_of (b ∷ l) a m = ⊎_elim (λ e. (0, ap some (sym e))) (λ j. let p = place_of l a j in (suc p.0, p.1)) (cases m)

member_at : {A : Type 0} (l : List A) (i : ℕ) (a : A) → get_elem? l i ≡ some a → Memᴰ a l
member_at [] i a e = absurd (let z : ◌≡◌ {A = ℕ} 0 1 = cc in omega arith)
member_at (b ∷ l) zero a e = head (let q : a ≡ b = cc in q)
member_at (b ∷ l) (suc i) a e = later (member_at l i a e)

same_edge : (tail : ℕ) (e f : Edge) → edge_answer tail e ≡ edge_answer tail f → e ≡ f
same_edge tail e f q =
    let a : e.lo.x ≡ f.lo.x = cc in
    let b : e.lo.y ≡ f.lo.y = cc in
    let c : e.hi.x ≡ f.hi.x = cc in
    let d : e.hi.y ≡ f.hi.y = cc in
    λ i. record { lo = record { x = a i; y = b i }; hi = record { x = c i; y = d i } }

module _ (d : Deck) (c : Contents) (m : SessionDeck d c) where
  abbrev s : State
  s = c.state

  in_listing : (e : Edge) → Memᴰ e (listed s) ↔ Memᴰ e (tree_of s)
  unfolding listed
  in_listing e = set_of_in listed_before listed-order (tree_of s) e

  edges-answered : (e : Edge) → Memᴰ e (tree_of s) ↔ ((i : ℕ) × (asked d (of_edge i) ≡ edge_answer c.tail e))
  unfolding edge_or_none
  edges-answered e = (
    λ t. let p = place_of (listed s) e ((in_listing e).1 t) in (p.0, m.edge p.0 ∙ ap (edge_or_none c.tail) p.1),
    λ p. (in_listing e).0 (go p.0 (get_elem? (listed s) p.0) refl (sym (m.edge p.0) ∙ p.1)),
  )
    where
      go : (i : ℕ) (o : Option Edge) → get_elem? (listed s) i ≡ o → edge_or_none c.tail o ≡ edge_answer c.tail e → Memᴰ e (listed s)
      go i none f q = absurd (let z : ◌≡◌ {A = ℕ} 0 1 = cc in omega arith)
      go i (some g) f q = member_at (listed s) i e (f ∙ ap some (same_edge c.tail g e q))

  pub after-calls : AfterCalls d c
  unfolding tree_length_with
  after-calls =
      record {
        sound = m.sound;
        holds = m.contents;
        runs = tree_of s;
        answered = edges-answered;
        tree = m.session.state.tree;
        total = m.length_is;
        least = m.session.state.least;
        finished = m.finish_exact;
        count = m.count;
        counted = m.counted;
        ends = m.rounds_end;
        few = m.rounds-few;
      }

  pub bounds : Bounds c.tail s
  bounds =
      record {
        steiner = few-steiner s m.session.valid.state;
        held = m.session.state.points-few;
        joined = m.session.state.round-few;
        long = m.session.state.length-fits;
        longer = m.session.state.round-fits;
      }

-- Storing to n places of an array in turn, u's at the place `at u`: what f says stands there for each u below i, and the rest is as it was.
use mathlib.Core.Path.{◌≡◌, refl, sym, ap, ◌∙◌}
use mathlib.Core.Logic.{dite}
use mathlib.Core.List.{List}
use Prim.Native.Nat.{ℕ, ◌+◌, ◌≤◌, ◌<◌}
use native.Mathlib.Decide.{ℕ_discrete}
use native.Mathlib.Omega.{arith}
use lib.ListN.{length, get_or, set, length-set}
use lib.Seq.{get_or-set_same, get_or-set_other}

pub record Filled (at f : ℕ → ℕ) (n : ℕ) (old new : List ℕ) (i : ℕ) : Type 0 where
  pub within : i ≤ n
  pub size : length new ≡ length old
  pub done : (u : ℕ) → u < i → get_or new (at u) 0 ≡ f u
  pub rest : (p : ℕ) → ((u : ℕ) → u < i → ¬ (p ≡ at u)) → get_or new p 0 ≡ get_or old p 0

pub fill_none : {at f : ℕ → ℕ} {n : ℕ} {old : List ℕ} → Filled at f n old old 0
fill_none = record { within = omega arith; size = refl; done = λ u g. absurd (omega arith); rest = λ p g. refl }

pub fill_more :
    {at f : ℕ → ℕ} {n : ℕ} {old new : List ℕ} {i : ℕ} {v : ℕ} → Filled at f n old new i → i < n → at i < length old
    → ((u : ℕ) → u < i → ¬ (at u ≡ at i)) → v ≡ f i → Filled at f n old (set new (at i) v) (i + 1)
fill_more {at} {f} {n} {old} {new} {i} {v} r h inside apart e = record {
  within = omega arith;
  size = length-set new (at i) v ∙ r.size;
  done = λ u g. dite (ℕ_discrete u i)
      (λ p. ap (λ (w : ℕ). get_or (set new (at i) v) (at w) 0) p ∙ get_or-set_same new (at i) v 0 (omega arith) ∙ e ∙ ap f (sym p))
      (λ d. get_or-set_other new (at i) (at u) v 0 (apart u (omega arith)) ∙ r.done u (omega arith));
  rest = λ p g. get_or-set_other new (at i) p v 0 (g i (omega arith)) ∙ r.rest p (λ u l. g u (omega arith));
}

-- Laws of the tests: a choice by a test, both of two tests, an order by two keys.
use mathlib.Core.Path.{◌≡◌, refl, sym, ap, ◌∙◌, subst⁻¹}
use mathlib.Core.Logic.{◌⊎◌, inl, inr}
use mathlib.Core.Bool.{Bool, true, false, not, ◌&&◌}
use lib.Dec.{T}
use Rattle.arrays.specs.Test.{if, then_by}

-- What holds of both arms holds of a choice by a test.
pub by_test : {B : Type 0} (P : B → Type 0) (b : Bool) (x y : Unit {0} → B) → (T b → P (x tt)) → (T (not b) → P (y tt)) → P (if b x y)
by_test P true x y f g = f tt
by_test P false x y f g = g tt

pub and_parts : (a b : Bool) → T (a && b) → T a × T b
and_parts true b t = (tt, t)
and_parts false b t = absurd t

pub and_both : (a b : Bool) → T a → T b → T (a && b)
and_both true b s t = t
and_both false b s t = absurd s

-- What an order by two keys says.
pub then_by_cases : (l m : Bool) (n : Unit {0} → Bool) → T (then_by l m n) → T l ⊎ (T (not l) × T (not m) × T (n tt))
then_by_cases true m n t = inl tt
then_by_cases false true n t = absurd t
then_by_cases false false n t = inr (tt, tt, t)

pub then_by-first : (l m : Bool) (n : Unit {0} → Bool) → T l → T (then_by l m n)
then_by-first true m n t = tt
then_by-first false m n t = absurd t

pub then_by-next : (l m : Bool) (n : Unit {0} → Bool) → T (not l) → T (not m) → T (n tt) → T (then_by l m n)
then_by-next true m n a b t = absurd a
then_by-next false true n a b t = absurd b
then_by-next false false n a b t = t

-- Two tests that pass together are equal.
pub same_test : (a b : Bool) → (T a → T b) → (T b → T a) → a ≡ b
same_test true true f g = refl
same_test true false f g = absurd (f tt)
same_test false true f g = absurd (g tt)
same_test false false f g = refl

-- A test that passes is true, and one that does not is false.
pub true_of : (b : Bool) → T b → b ≡ true
true_of true t = refl
true_of false t = absurd t

pub of_true : {b : Bool} → b ≡ true → T b
of_true e = subst⁻¹ T e tt

pub false_of : (b : Bool) → ¬ T b → b ≡ false
false_of true n = absurd (n tt)
false_of false n = refl

-- Tests in turn: the first that fails answers, and what comes after one that passed.
pub and_no : (a b : Bool) → a ≡ false → false ≡ a && b
and_no a b e = ap (λ (z : Bool). z && b) (sym e)

pub and_yes : (a b r : Bool) → a ≡ true → r ≡ b → r ≡ a && b
and_yes a b r e f = f ∙ ap (λ (z : Bool). z && b) (sym e)

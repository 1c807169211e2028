-- Tests that compute: a choice by a test, of which only one arm is worked out, by the sign of a number, and the order by several keys.
use Rattle.std.specs.Prelude.{Bool, true, false, ℕ, ℤ, pos, negsuc}

-- The first arm where the test passes, else the second.
abbrev pub if : {A : Type 0} → Bool → (Unit {0} → A) → (Unit {0} → A) → A
if true a b = a tt
if false a b = b tt

-- What is said of a natural number; for a negative one the second.
abbrev pub if_natural : {A : Type 0} → (ℕ → A) → A → ℤ → A
if_natural f a (pos n) = f n
if_natural f a (negsuc n) = a

-- An order by several keys: less or more by the first key, and where it ties, what the next keys say.
abbrev pub then_by : Bool → Bool → (Unit {0} → Bool) → Bool
then_by true more next = true
then_by false true next = false
then_by false false next = next tt

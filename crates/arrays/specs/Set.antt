-- Finite sets as strictly rising lists under an order `less`, given as a test. Two elements of which neither is less are equal.
use Rattle.std.specs.Prelude.{Bool, true, false, not, ◌&&◌, List, [], ◌∷◌}
use Rattle.arrays.specs.Test.{if}

-- Whether neither is less.
abbrev pub tie : {A : Type 0} → (A → A → Bool) → A → A → Bool
tie less a b = not (less a b) && not (less b a)

-- The set with a: put in its place, or as it is where a stands there already.
unfoldable pub put : {A : Type 0} → (A → A → Bool) → A → List A → List A
put less a [] = a ∷ []
put less a (b ∷ l) =
    if (less a b) (λ _. a ∷ (b ∷ l)) (λ _. if (less b a) (λ _. b ∷ put less a l) (λ _. b ∷ l))

-- The set without a.
unfoldable pub out : {A : Type 0} → (A → A → Bool) → A → List A → List A
out less a [] = []
out less a (b ∷ l) = if (tie less a b) (λ _. out less a l) (λ _. b ∷ out less a l)

-- Whether a is in the set.
unfoldable pub has : {A : Type 0} → (A → A → Bool) → A → List A → Bool
has less a [] = false
has less a (b ∷ l) = if (tie less a b) (λ _. true) (λ _. has less a l)

-- The set of the members of l and of m.
unfoldable pub union : {A : Type 0} → (A → A → Bool) → List A → List A → List A
union less [] m = m
union less (a ∷ l) m = put less a (union less l m)

-- The set of the members of a list.
abbrev pub set_of : {A : Type 0} → (A → A → Bool) → List A → List A
set_of less l = union less l []

-- Whether a list is strictly rising: each element is less than the next.
unfoldable pub rising : {A : Type 0} → (A → A → Bool) → List A → Bool
rising less [] = true
rising less (a ∷ []) = true
rising less (a ∷ b ∷ l) = less a b && rising less (b ∷ l)

-- Every element of a list satisfies Q, said one behind the other.
abbrev pub Each : {A : Type 0} → (A → Type 0) → List A → Type 0
Each Q [] = Unit {0}
Each Q (a ∷ l) = Q a × Each Q l

-- Whether every element passes a test.
unfoldable pub all : {A : Type 0} → (A → Bool) → List A → Bool
all f [] = true
all f (a ∷ l) = f a && all f l

-- The members that pass a test, in the same order.
unfoldable pub passing : {A : Type 0} → (A → Bool) → List A → List A
passing f [] = []
passing f (a ∷ l) = if (f a) (λ _. a ∷ passing f l) (λ _. passing f l)

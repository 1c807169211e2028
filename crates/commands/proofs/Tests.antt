-- A word and a name compared: by their lengths, and then byte by byte.
use mathlib.Core.Path.{◌≡◌, refl, ap, ◌∙◌}
use mathlib.Core.Bool.{Bool, true, false, ◌&&◌}
use mathlib.Core.List.{List, [], ◌∷◌}
use Prim.Native.Nat.{ℕ, suc}
use native.Mathlib.Omega.{arith}
use lib.Dec.{eqb}
use lib.ListN.{length, get_or}
use Rattle.std.proofs.lemmas.Bool.Decides.{leb_tells, eqb_tells}
use Rattle.arrays.specs.Same.{same_list}

-- Lists of unequal length are not the same.
pub other_length : (l m : List ℕ) → ¬ (length l ≡ length m) → same_list l m ≡ false
other_length [] [] n = absurd (n refl)
other_length [] (b ∷ m) n = refl
other_length (a ∷ l) [] n = refl
other_length (a ∷ l) (b ∷ m) n = rw (other_length l m (λ e. n (omega arith))) (none (eqb a b))
  where
    none : (t : Bool) → (t && false) ≡ false
    none true = refl
    none false = refl

-- Whether the elements of a list from place k on begin with those of another.
abbrev pub reads : List ℕ → ℕ → List ℕ → Bool
reads l k [] = true
reads l k (b ∷ m) = eqb (get_or l k 0) b && reads l (suc k) m

-- Lists of one length are the same where they read the same.
pub same_reads : (l m : List ℕ) → length l ≡ length m → same_list l m ≡ reads l 0 m
same_reads [] [] h = refl
same_reads [] (b ∷ m) h = absurd (omega arith)
same_reads (a ∷ l) [] h = absurd (omega arith)
same_reads (a ∷ l) (b ∷ m) h = ap (λ (t : Bool). eqb a b && t) (same_reads l m (omega arith) ∙ later l 0 m)
  where
    later : (l : List ℕ) (k : ℕ) (m : List ℕ) → reads l k m ≡ reads (a ∷ l) (suc k) m
    later l k [] = refl
    later l k (c ∷ m) = ap (λ (t : Bool). eqb (get_or l k 0) c && t) (later l (suc k) m)

pub ruleset compared = (other_length, same_reads, leb_tells, eqb_tells)

-- Pairs of hexadecimal digits: the test of all bytes of a word, and the pair that a word begins with.
use mathlib.Core.Path.{◌≡◌, refl, sym, ◌∙◌}
use mathlib.Core.Bool.{Bool, true, false, ◌&&◌}
use mathlib.Core.List.{List, [], ◌∷◌}
use Prim.Native.Nat.{ℕ, ◌+◌, ◌*◌, ◌%◌, ◌<◌}
use native.Mathlib.Omega.{arith}
use lib.Dec.{ltb}
use lib.ListN.{length, drop, get_or}
use borrow.Author.Tests.{ltb-true, ne_eqb}
use Rattle.std.specs.Char.{is_ascii_hexdigit}
use Rattle.std.specs.List.{list_all}
use Rattle.std.proofs.Common.{nat_eq}
use Rattle.std.proofs.lemmas.Bool.Decides.{nat_tests}
use Rattle.words.specs.Hex.{digit_of, is_hex, pairs}

-- A digit by the library's test.
hexdigit-is : (b : ℕ) → is_ascii_hexdigit b ≡ ltb (digit_of b) 16
unfolding digit_of
hexdigit-is b = grind (arith, nat_tests)

-- Pairs of digits are an even number of them.
pub hex_even : (w : List ℕ) → length w % 2 ≡ 0 → list_all is_ascii_hexdigit w ≡ is_hex w
unfolding is_hex
hex_even [] e = refl
hex_even (a ∷ []) e = absurd (omega arith)
hex_even (a ∷ b ∷ l) e = rw (hexdigit-is a, hexdigit-is b, hex_even l (omega arith)) refl

no_hex : (l : List ℕ) → ¬ (length l % 2 ≡ 0) → is_hex l ≡ false
unfolding is_hex
no_hex [] m = absurd (omega arith)
no_hex (a ∷ []) m = refl
no_hex (a ∷ b ∷ l) m = rw (no_hex l (λ e. m (omega arith))) (none (ltb (digit_of a) 16) (ltb (digit_of b) 16))
  where
    none : (p q : Bool) → (p && (q && false)) ≡ false
    none true true = refl
    none true false = refl
    none false q = refl

pub hex_odd : (w : List ℕ) → ¬ (length w % 2 ≡ 0) → nat_eq (length w % 2) 0 ≡ is_hex w
hex_odd w n = ne_eqb (length w % 2) 0 n ∙ sym (no_hex w n)

-- What is left of a word of pairs begins with a pair.
pub record Pair (l : List ℕ) : Type 0 where
  pub long : 1 < length l
  pub high : digit_of (get_or l 0 0) < 16
  pub low : digit_of (get_or l 1 0) < 16
  pub rest : is_hex (drop 2 l) ≡ true
  pub bytes : pairs l ≡ (16 * digit_of (get_or l 0 0) + digit_of (get_or l 1 0)) ∷ pairs (drop 2 l)

pub a_pair : (l : List ℕ) → 0 < length l → is_hex l ≡ true → Pair l
unfolding is_hex pairs
a_pair [] h e = absurd (omega arith)
a_pair (a ∷ []) h e = let z : ◌≡◌ {A = ℕ} 0 1 = cc in absurd (omega arith)
a_pair (a ∷ b ∷ l) h e = go (ltb (digit_of a) 16) (ltb (digit_of b) 16) refl refl e
  where
    go : (p q : Bool) → ltb (digit_of a) 16 ≡ p → ltb (digit_of b) 16 ≡ q → (p && (q && is_hex l)) ≡ true → Pair (a ∷ b ∷ l)
    go false q f g r = let z : ◌≡◌ {A = ℕ} 0 1 = cc in absurd (omega arith)
    go true false f g r = let z : ◌≡◌ {A = ℕ} 0 1 = cc in absurd (omega arith)
    go true true f g r = record { long = omega arith; high = ltb-true (digit_of a) 16 f; low = ltb-true (digit_of b) 16 g; rest = r; bytes = refl }

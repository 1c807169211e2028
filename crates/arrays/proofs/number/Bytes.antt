-- Numbers in bytes: a number that was written is read back, and bytes that were read are written back. By arithmetic on quotients and
-- remainders by powers of 256.
use mathlib.Core.Path.{◌≡◌, refl, ap, ap₂, ◌∙◌}
use mathlib.Core.Logic.{⊎_elim}
use mathlib.Core.List.Memᴰ.{head}
use mathlib.Core.List.Memᴰ.{tail}
use mathlib.Core.List.{List, [], ◌∷◌, ◌++◌, Memᴰ}
use mathlib.Core.List.Memᴰ.{append_cases}
use mathlib.Core.List.Memᴰ.{cases_cons as cases}
use mathlib.Core.List.Memᴰ.{not-nil}
use Prim.Native.Nat.{ℕ, zero, suc, ◌+◌, ◌*◌, ◌/◌, ◌%◌, ◌≤◌, ◌<◌}
use native.Mathlib.Nat.{add-zero, add-suc, add_assoc, div-div-eq-div-mul}
use native.Mathlib.Omega.{arith}
use lib.ListN.{length, drop, get_or}
use lib.Seq.{drop-cons, get_or-drop}
use Rattle.arrays.specs.Number.{bytes2, bytes4, number2, number4}

-- Every number of a list is a byte.
abbrev pub Bytes : List ℕ → Type 0
Bytes b = (x : ℕ) → Memᴰ x b → x < 256

pub bytes_none : Bytes []
bytes_none x i = absurd (not-nil i)

pub bytes-cons : {a : ℕ} {l : List ℕ} → a < 256 → Bytes l → Bytes (a ∷ l)
bytes-cons {a} h r x i = ⊎_elim (λ e. omega arith) (r x) (cases i)

pub bytes-append : (l : List ℕ) {m : List ℕ} → Bytes l → Bytes m → Bytes (l ++ m)
bytes-append l g h x i = ⊎_elim (g x) (h x) (append_cases l i)

pub bytes2-bytes : (n : ℕ) → Bytes (bytes2 n)
bytes2-bytes n = bytes-cons (omega arith) (bytes-cons (omega arith) bytes_none)

pub bytes4-bytes : (n : ℕ) → Bytes (bytes4 n)
bytes4-bytes n =
    bytes-cons (omega arith) (bytes-cons (omega arith) (bytes-cons (omega arith) (bytes-cons (omega arith) bytes_none)))

pub byte_at : (b : List ℕ) (i : ℕ) → Bytes b → get_or b i 0 < 256
byte_at [] zero h = omega arith
byte_at [] (suc i) h = omega arith
byte_at (a ∷ b) zero h = h a (head refl)
byte_at (a ∷ b) (suc i) h = byte_at b i (λ x m. h x (tail m))

-- A number written in bytes is read back.
pub number2-bytes2 : (n : ℕ) (rest : List ℕ) → n < 65536 → number2 (bytes2 n ++ rest) 0 ≡ n
number2-bytes2 n rest h = omega arith

pub number4-bytes4 : (n : ℕ) (rest : List ℕ) → n < 4294967296 → number4 (bytes4 n ++ rest) 0 ≡ n
number4-bytes4 n rest h = go (n / 256) (n / 65536) (n / 16777216) (div-div-eq-div-mul n 256 256) (div-div-eq-div-mul n 65536 256) (omega arith) (omega arith)
  where
    go : (p q r : ℕ) → p / 256 ≡ q → q / 256 ≡ r → n ≡ n % 256 + 256 * p → r < 256
        → n % 256 + 256 * (p % 256) + 65536 * (q % 256 + 256 * (r % 256)) ≡ n
    go p q r e f g k = omega arith

-- The same at a place where its bytes stand.
pub number4_at : (b : List ℕ) (i n : ℕ) (rest : List ℕ) → n < 4294967296 → drop i b ≡ bytes4 n ++ rest → number4 b i ≡ n
number4_at b i n rest h e = moved ∙ ap (λ (l : List ℕ). number4 l 0) e ∙ number4-bytes4 n rest h
  where
    moved : number4 b i ≡ number4 (drop i b) 0
    moved = cc (add-zero i, add_assoc i 2 1, get_or-drop i b 0 0, get_or-drop i b 1 0, get_or-drop i b 2 0, get_or-drop i b 3 0)

-- Bytes read as a number are written back.
pub bytes2_of : (a b : ℕ) → a < 256 → b < 256 → bytes2 (a + 256 * b) ≡ a ∷ b ∷ []
bytes2_of a b h k = ap₂ (λ x y. x ∷ y ∷ []) (omega arith) (omega arith)

pub bytes4_of : (a b c d : ℕ) → a < 256 → b < 256 → c < 256 → d < 256 → bytes4 (a + 256 * b + 65536 * (c + 256 * d)) ≡ a ∷ b ∷ c ∷ d ∷ []
bytes4_of a b c d ha hb hc hd = go (omega arith) (omega arith) (omega arith) (omega arith)
  where
    n : ℕ
    n = a + 256 * b + 65536 * (c + 256 * d)

    go : n % 256 ≡ a → n / 256 % 256 ≡ b → n / 65536 % 256 ≡ c → n / 16777216 % 256 ≡ d → bytes4 n ≡ a ∷ b ∷ c ∷ d ∷ []
    go p q r s = cc

-- The bytes from a place on begin with those of the number there.
from_place : (b : List ℕ) (i k : ℕ) → i + k < length b → drop (i + k) b ≡ get_or b (i + k) 0 ∷ drop (i + suc k) b
from_place b i k h = rw add-suc (drop-cons b (i + k) 0 h)

pub split2 : (b : List ℕ) (i : ℕ) → Bytes b → i + 2 ≤ length b → drop i b ≡ bytes2 (number2 b i) ++ drop (i + 2) b
split2 b i h k =
    cc (
      add-zero i,
      from_place b i 0 (omega arith),
      from_place b i 1 (omega arith),
      bytes2_of (get_or b i 0) (get_or b (i + 1) 0) (byte_at b i h) (byte_at b (i + 1) h),
    )

pub split4 : (b : List ℕ) (i : ℕ) → Bytes b → i + 4 ≤ length b → drop i b ≡ bytes4 (number4 b i) ++ drop (i + 4) b
split4 b i h k =
    cc (
      add-zero i,
      add_assoc i 2 1,
      from_place b i 0 (omega arith),
      from_place b i 1 (omega arith),
      from_place b i 2 (omega arith),
      from_place b i 3 (omega arith),
      bytes4_of (get_or b i 0) (get_or b (i + 1) 0) (get_or b (i + 2) 0) (get_or b (i + 3) 0)
          (byte_at b i h) (byte_at b (i + 1) h) (byte_at b (i + 2) h) (byte_at b (i + 3) h),
    )

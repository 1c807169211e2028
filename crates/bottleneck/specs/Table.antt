-- The table of bottlenecks. What a merge of two labels leaves there, and what filling the table asks and leaves.
use Rattle.std.specs.Prelude.{◌≡◌, ℕ, ◌+◌, ◌*◌, ◌≤◌, ◌<◌, T, ltb, eqb, get_or}
use mathlib.Core.List.{List, Memᴰ}
use Rattle.spanning.specs.Graph.{Conn, In}
use Rattle.arrays.specs.Order.{Sorted}
use Rattle.spanning.specs.Bottleneck.{Bottleneck}
use Rattle.arrays.specs.Test.{if}
use Rattle.keys.specs.Keys.{places, key_graph, weight}

-- The table has a row for each number, and a row an entry for each number.
abbrev pub entries : ℕ
entries = places * places

-- The entry of the numbers u and v.
abbrev pub entry : List ℕ → ℕ → ℕ → ℕ
entry table u v = get_or table (u * places + v) 0

-- The weight w where the label is the one wanted, else the old entry.
abbrev pub chosen : ℕ → ℕ → ℕ → ℕ → ℕ
chosen wanted w label old = if (eqb label wanted) (λ _. w) (λ _. old)

-- The entry of two numbers with the labels c and d, after a key of weight w merges the labels a and b: w where one of c and d
-- is a and the other is b, else the old entry.
abbrev pub merged : ℕ → ℕ → ℕ → ℕ → ℕ → ℕ → ℕ
merged a b w c d old = if (eqb c a) (λ _. chosen b w d old) (λ _. if (eqb c b) (λ _. chosen a w d old) (λ _. old))

-- The n entries from `start` on are chosen by the labels, and the others are as they were.
pub record RowFilled (labels : List ℕ) (wanted w start n : ℕ) (before after : List ℕ) : Type 0 where
  pub inside : (j : ℕ) → j < n → get_or after (start + j) 0 ≡ chosen wanted w (get_or labels j 0) (get_or before (start + j) 0)
  pub outside : (p : ℕ) → ((j : ℕ) → j < n → ¬ (p ≡ start + j)) → get_or after p 0 ≡ get_or before p 0

-- The entries of the first n numbers after the labels a and b are merged.
abbrev pub LabelsMerged : List ℕ → ℕ → ℕ → ℕ → ℕ → List ℕ → List ℕ → Type 0
LabelsMerged labels a b w n before after =
    (u v : ℕ) → u < n → v < n → entry after u v ≡ merged a b w (get_or labels u 0) (get_or labels v 0) (entry before u v)

-- What filling asks: the keys rise, have weights that fit an entry of 32 bits, and connect the first n numbers.
pub record FillRequires (keys : List ℕ) (n size : ℕ) : Type 0 where
  pub few : n ≤ places
  pub room : size ≡ entries
  pub sorted : Sorted (λ (a b : ℕ). T (ltb a b)) keys
  pub short : (k : ℕ) → Memᴰ k keys → weight k < 4294967296
  pub joins : (u v : ℕ) → u < n → v < n → Conn key_graph (In keys) v u

-- The table has the bottleneck of each two of the first n numbers over the keys: the entry is at most x exactly if keys no
-- heavier than x connect the two.
abbrev pub Bottlenecks : List ℕ → ℕ → List ℕ → Type 0
Bottlenecks keys n table = (u v : ℕ) → u < n → v < n → Bottleneck key_graph weight keys u v (entry table u v)

-- Kinds put at the front of an array of zeros, and the kind that stands beside a pin.
use mathlib.Core.Path.{◌≡◌, refl, sym, ap, ap₂, ◌∙◌}
use mathlib.Core.List.{List, [], ◌∷◌, ◌++◌, map}
use Prim.Native.Nat.{ℕ, ◌+◌, ◌<◌}
use native.Mathlib.Omega.{arith}
use lib.Dec.{ltb}
use lib.ListN.{length, take, drop, set, get_or, replicate, length-map}
use lib.Seq.{take-length}
use Rattle.std.proofs.lemmas.List.{length-set, take_more_set, map-append, take_more, drop-set-lt, drop-drop, take-append-drop}
use Rattle.arrays.specs.Array.{index_of}
use Rattle.arrays.specs.Beside.{beside}
use Rattle.arrays.proofs.Beside.{beside_index}
use Rattle.arrays.specs.Paste.{Pasted}
use Rattle.arrays.proofs.paste.Parts.{front_is, front_of}
use Rattle.points.specs.Coded.{padded}
use Rattle.points.proofs.Codes.{drop_zeros}

pub zeros_behind : (room : ℕ) {l out : List ℕ} {r : ℕ} → Pasted l (replicate room 0) out 0 r → out ≡ padded room l
zeros_behind room {l} p = front_is p ∙ ap (λ (z : List ℕ). l ++ z) (drop_zeros (length l) room)

-- The kind at the index of a pin.
pub by_index : (pins kinds : List ℕ) (k other : ℕ) → length pins ≡ length kinds → beside ltb other k pins kinds ≡ get_or kinds (index_of k pins) other
by_index pins kinds k other e = beside_index other k pins kinds (sym e)

-- The numbers of the first i items stand at the front of an array, and behind them what stood there before.
pub record Mapped (f : ℕ → ℕ) (items old out : List ℕ) (i : ℕ) : Type 0 where
  pub size : length out ≡ length old
  pub front : take i out ≡ map f (take i items)
  pub rest : drop i out ≡ drop i old

module _ (f : ℕ → ℕ) (items old : List ℕ) where
  pub mapped_none : Mapped f items old old 0
  mapped_none = record { size = refl; front = refl; rest = refl }

  pub mapped_more : {out : List ℕ} {i v : ℕ} → Mapped f items old out i → i < length items → i < length out → v ≡ f (get_or items i 0)
      → Mapped f items old (set out i v) (i + 1)
  mapped_more {out} {i} {v} m h k e =
      record {
        size = length-set out i v ∙ m.size;
        front =
            take_more_set out i v k ∙ ap₂ (λ (l : List ℕ) (z : ℕ). l ++ z ∷ []) m.front e ∙ sym (map-append f (take i items) (get_or items i 0 ∷ []))
            ∙ ap (map f) (sym (take_more items i 0 h));
        rest = drop-set-lt (i + 1) out i v (omega arith) ∙ sym (drop-drop 1 i out) ∙ ap (drop 1) m.rest ∙ drop-drop 1 i old;
      }

  pub mapped_all : {out : List ℕ} → Mapped f items old out (length items) → out ≡ map f items ++ drop (length items) old
  mapped_all {out} m =
      sym (take-append-drop (length items) out) ∙ ap₂ ◌++◌ (m.front ∙ ap (map f) (take-length items)) m.rest

  -- The numbers of all items are put.
  pub mapped_put : {out : List ℕ} → Mapped f items old out (length items) → Pasted (map f items) old out 0 (length items)
  mapped_put m =
      let e = length-map items f in
      front_of (sym e) (mapped_all m ∙ ap (λ (n : ℕ). map f items ++ drop n old) (sym e))

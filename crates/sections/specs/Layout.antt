-- What checks 1 to 4 leave (SPEC 8.2): where the sections of a file stand.
use Rattle.std.specs.Prelude.{◌≡◌, List, ℕ, zero, suc, ◌+◌, ◌%◌, ◌≤◌, length}
use Rattle.std.specs.Coded.{×_prop, Coded-set, coded_ℕ}
use Rattle.model.specs.Sections.{header_size, section_count, offset, size, Follow}
use Rattle.model.specs.File.{fewest_sections, most_sections, shortest, longest}

-- Section k lies within the file, as its pair does, and consists of whole points.
pub record PointSection (b : List ℕ) (k : ℕ) : Type 0 where
  pub pair : header_size (suc k) ≤ length b
  pub within : offset b k + size b k ≤ length b
  pub whole : size b k % 4 ≡ 0

-- That sections follow has one proof at most, as a field of a struct needs.
pub Follow-prop : (b : List ℕ) (at k n : ℕ) → IsProp (Follow b at k n)
Follow-prop b at k zero = Coded-set coded_ℕ at (length b)
Follow-prop b at k (suc n) = ×_prop (Coded-set coded_ℕ (offset b k) at) (Follow-prop b (at + size b k) (suc k) n)

-- What checks 1 to 3 leave: the places and lengths of the sections.
pub record Sections (b : List ℕ) : Type 0 where
  pub long : shortest ≤ length b
  pub short : length b ≤ longest
  pub fewest : fewest_sections ≤ section_count b
  pub most : section_count b ≤ most_sections
  pub follow : Follow b (header_size (section_count b)) 0 (section_count b)
  pub whole₀ : size b 0 % 4 ≡ 0
  pub whole₁ : size b 1 % 4 ≡ 0
  pub whole₂ : size b 2 % 2 ≡ 0

-- And check 4: at most 64 pins.
abbrev pub FewPins : List ℕ → Type 0
FewPins b = size b 0 ≤ 256

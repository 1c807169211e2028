-- A file of sections, whatever they hold (SPEC 7.1): the four letters, the count of sections, a pair of offset and length for each, and the
-- sections one behind the other.
use Rattle.std.specs.Prelude.{◌≡◌, Bool, ◌&&◌, ℕ, zero, suc, ◌+◌, ◌*◌, leb, eqb, length, take, drop}
use mathlib.Core.List.{List, [], ◌∷◌, ◌++◌, map, flatten, foldr}
use Rattle.arrays.specs.Number.{bytes2, bytes4, number2, number4}
use Rattle.arrays.specs.Text.{bytes}

-- The first four bytes of every file.
abbrev pub magic : List ℕ
magic = bytes "DECK"

-- Where the count of sections stands: behind them.
abbrev pub count_place : ℕ
count_place = 4

-- The bytes of a header of n sections: four letters, two bytes for the count, eight for each pair. The first section starts behind it, and
-- pair k stands where a header of k sections would end.
abbrev pub header_size : ℕ → ℕ
header_size n = 6 + 8 * n

-- The pairs of sections of these lengths, one behind the other, the first of which starts at `at`.
unfoldable pub pairs_from : ℕ → List ℕ → List ℕ
pairs_from at [] = []
pairs_from at (n ∷ sizes) = bytes4 at ++ (bytes4 n ++ pairs_from (at + n) sizes)

-- The header of sections of these lengths.
unfoldable pub header : List ℕ → List ℕ
header sizes = magic ++ (bytes2 (length sizes) ++ pairs_from (header_size (length sizes)) sizes)

-- The file of sections.
unfoldable pub section_file : List (List ℕ) → List ℕ
section_file l = header (map length l) ++ flatten l

-- How long the file of sections of these lengths is: its header, and all of them.
abbrev pub sum_of : List ℕ → ℕ
sum_of sizes = foldr ◌+◌ 0 sizes

abbrev pub file_size : List ℕ → ℕ
file_size sizes = header_size (length sizes) + sum_of sizes

-- The count of sections that a file says.
abbrev pub section_count : List ℕ → ℕ
section_count b = number2 b count_place

-- The offset and the length of section k, from its pair in the header.
abbrev pub offset : List ℕ → ℕ → ℕ
offset b k = number4 b (header_size k)

abbrev pub size : List ℕ → ℕ → ℕ
size b k = number4 b (header_size k + 4)

-- The bytes of section k.
abbrev pub section : List ℕ → ℕ → List ℕ
section b k = take (size b k) (drop (offset b k) b)

-- The n sections from number k on stand one behind the other, from place `at` to the end of the file.
abbrev pub Follow : List ℕ → ℕ → ℕ → ℕ → Type 0
Follow b at k zero = at ≡ length b
Follow b at k (suc n) = (offset b k ≡ at) × Follow b (at + size b k) (suc k) n

-- The same as a test.
unfoldable pub follow : List ℕ → ℕ → ℕ → ℕ → Bool
follow b at k zero = eqb at (length b)
follow b at k (suc n) = eqb (offset b k) at && follow b (at + size b k) (suc k) n

-- Check 2 (SPEC 8.2): bytes for all the pairs, and then the sections follow the header and one another, up to the end of the file.
unfoldable pub laid_out : List ℕ → Bool
laid_out b = leb (header_size (section_count b)) (length b) && follow b (header_size (section_count b)) 0 (section_count b)

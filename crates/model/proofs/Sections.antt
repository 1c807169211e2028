-- A file of sections is read back section by section; and a file whose sections follow one another is made of them. By recursion over the
-- sections: of the pairs that are left the first one says the first section that is left, and what stands behind it the others.
use mathlib.Core.Path.{◌≡◌, refl, sym, ap, ap₂, ◌∙◌, subst}
use mathlib.Core.Logic.{◌↔◌}
use mathlib.Core.List.Memᴰ
use mathlib.Core.List.{List, [], ◌∷◌, ◌++◌, map, flatten, Memᴰ}
use Prim.Native.Nat.{ℕ, zero, suc, ◌+◌, ◌*◌, ◌≤◌, ◌<◌}
use native.Mathlib.Decide.{dec_le}
use native.Mathlib.Omega.{arith}
use lib.Dec.{T, leb, leb→le, le→leb, eqb, eqb→eq}
use lib.Ieee.Fits.{eq→eqb}
use lib.ListN.{length, take, drop, length-append, length-map, length-take, length-drop, take-append-drop, drop_of_length-le}
use lib.Seq.{take-append_seam, drop-append_seam, drop-drop, drop_at}
use Rattle.arrays.specs.Number.{bytes2, bytes4, number4}
use Rattle.arrays.proofs.Test.{and_parts, and_both}
use Rattle.arrays.proofs.number.Bytes.{Bytes, bytes_none, bytes-cons, bytes-append, bytes2-bytes, bytes4-bytes}
use Rattle.arrays.proofs.number.Bytes.{number2-bytes2, number4_at, split2, split4}
use Rattle.model.specs.Sections.{magic, count_place, header_size, pairs_from, header, section_file, section_count, offset, size, section}
use Rattle.model.specs.Sections.{sum_of, file_size, Follow, follow, laid_out}

-- How long pairs, a header and a file are.
pairs-length : (at : ℕ) (sizes : List ℕ) → length (pairs_from at sizes) ≡ 8 * length sizes
unfolding pairs_from
pairs-length at [] = refl
pairs-length at (n ∷ sizes) = omega (arith, pairs-length (at + n) sizes)

pub header-length : (sizes : List ℕ) → length (header sizes) ≡ header_size (length sizes)
unfolding header
header-length sizes = omega (arith, pairs-length (header_size (length sizes)) sizes)

file-long : (l : List (List ℕ)) → length (section_file l) ≡ header_size (length l) + length (flatten l)
unfolding section_file
file-long l = omega (arith, length-append (header (map length l)) (flatten l), header-length (map length l), length-map l length)

flatten_length : (l : List (List ℕ)) → length (flatten l) ≡ sum_of (map length l)
unfolding flatten
flatten_length [] = refl
flatten_length (s ∷ l) = omega (arith, length-append s (flatten l), flatten_length l)

pub sections_length : (l : List (List ℕ)) → length (section_file l) ≡ file_size (map length l)
sections_length l = omega (arith, file-long l, flatten_length l, length-map l length)

-- Their bytes are bytes.
pairs-bytes : (at : ℕ) (sizes : List ℕ) → Bytes (pairs_from at sizes)
unfolding pairs_from
pairs-bytes at [] = bytes_none
pairs-bytes at (n ∷ sizes) = bytes-append (bytes4 at) (bytes4-bytes at) (bytes-append (bytes4 n) (bytes4-bytes n) (pairs-bytes (at + n) sizes))

pub header-bytes : (sizes : List ℕ) → Bytes (header sizes)
unfolding header
header-bytes sizes =
    bytes-append magic
    (bytes-cons (omega arith) (bytes-cons (omega arith) (bytes-cons (omega arith) (bytes-cons (omega arith) bytes_none))))
    (bytes-append (bytes2 (length sizes)) (bytes2-bytes (length sizes)) (pairs-bytes (header_size (length sizes)) sizes))

-- Check 2 as a test and as a type.
follow_is : (b : List ℕ) (n at k : ℕ) → T (follow b at k n) ↔ Follow b at k n
unfolding follow
follow_is b zero at k = (eqb→eq at (length b), eq→eqb {a = at} {b = length b})
follow_is b (suc n) at k =
    let rest = follow_is b n (at + size b k) (suc k) in (
      λ t. let p = and_parts (eqb (offset b k) at) _ t in (eqb→eq (offset b k) at p.0, rest.0 p.1),
      λ f. and_both (eqb (offset b k) at) _ (eq→eqb {a = offset b k} {b = at} f.0) (rest.1 f.1),
    )

pub laid_out_is : (b : List ℕ)
    → T (laid_out b) ↔ ((header_size (section_count b) ≤ length b) × Follow b (header_size (section_count b)) 0 (section_count b))
unfolding laid_out
laid_out_is b =
    let n = header_size (section_count b) in
    let f = follow_is b (section_count b) n 0 in (
      λ t. let p = and_parts (leb n (length b)) _ t in (leb→le n (length b) p.0, f.0 p.1),
      λ p. and_both (leb n (length b)) _ (le→leb n (length b) p.0) (f.1 p.1),
    )

pub follow-within : (b : List ℕ) (n at k : ℕ) → Follow b at k n → at ≤ length b
follow-within b zero at k f = omega (arith, f)
follow-within b (suc n) at k f = omega (arith, follow-within b n (at + size b k) (suc k) f.1)

-- Each of the n sections from number k on starts at `at` or behind it, and ends within the file.
pub section-within : (b : List ℕ) (n at k : ℕ) → Follow b at k n → (i : ℕ) → k ≤ i → i < k + n → (at ≤ offset b i) × (offset b i + size b i ≤ length b)
section-within b zero at k f i h l = absurd (omega arith)
section-within b (suc n) at k f i h l =
    go (λ m. section-within b n (at + size b k) (suc k) f.1 i m (omega arith)) (dec_le (suc k) i)
  where
    go : (suc k ≤ i → (at + size b k ≤ offset b i) × (offset b i + size b i ≤ length b)) → Dec (suc k ≤ i)
        → (at ≤ offset b i) × (offset b i + size b i ≤ length b)
    go rest (yes m) = let r = rest m in (omega (arith, r.0), r.1)
    go rest (no m) =
        let same : k ≡ i = omega arith in
        subst (λ (z : ℕ). (at ≤ offset b z) × (offset b z + size b z ≤ length b)) same
        (omega (arith, f.0), omega (arith, f.0, follow-within b n (at + size b k) (suc k) f.1))

-- The sections l are those of the file from number k on, the first of which starts at `at`, and with them the file ends.
abbrev pub Shows : List ℕ → ℕ → ℕ → List (List ℕ) → Type 0
Shows b k at [] = at ≡ length b
Shows b k at (s ∷ l) = (offset b k ≡ at) × (size b k ≡ length s) × (section b k ≡ s) × Shows b (suc k) (at + length s) l

pub shows-follow : (b : List ℕ) (l : List (List ℕ)) (k at : ℕ) → Shows b k at l → Follow b at k (length l)
shows-follow b [] k at h = h
shows-follow b (s ∷ l) k at h = (h.0, subst (λ (z : ℕ). Follow b (at + z) (suc k) (length l)) (sym h.1) (shows-follow b l (suc k) (at + length s) h.3))

-- Pair k + 1 stands eight bytes behind pair k.
next-pair : (b : List ℕ) (k : ℕ) → drop 8 (drop (header_size k) b) ≡ drop (header_size (suc k)) b
next-pair b k = let e : header_size k + 8 ≡ header_size (suc k) = omega arith in drop-drop 8 (header_size k) b ∙ ap (λ (z : ℕ). drop z b) e

shows : (b : List ℕ) (l : List (List ℕ)) (k at : ℕ) (rest : List ℕ) → drop (header_size k) b ≡ pairs_from at (map length l) ++ rest
    → drop at b ≡ flatten l → at + length (flatten l) ≡ length b → length b < 4294967296 → Shows b k at l
unfolding pairs_from flatten
shows b [] k at rest e f n h = omega (arith, n)
shows b (s ∷ l) k at rest e f n h =
    let long = length-append s (flatten l) in
    let here = number4_at b (header_size k) at _ (omega (arith, n, long)) e in
    let sized = number4_at b (header_size k + 4) (length s) _ (omega (arith, n, long)) (sym (drop-drop 4 (header_size k) b) ∙ ap (drop 4) e) in (
      here,
      sized,
      ap₂ (λ (z y : ℕ). take z (drop y b)) sized here ∙ ap (take (length s)) f ∙ take-append_seam s (flatten l),
      shows b l (suc k) (at + length s) rest (sym (next-pair b k) ∙ ap (drop 8) e)
          (sym (drop-drop (length s) at b) ∙ ap (drop (length s)) f ∙ drop-append_seam s (flatten l)) (omega (arith, n, long)) h,
    )

-- What a file of sections says.
pub record Laid (b : List ℕ) (l : List (List ℕ)) : Type 0 where
  pub letters : take count_place b ≡ magic
  pub count : section_count b ≡ length l
  pub parts : Shows b 0 (header_size (length l)) l

pub file_laid : (l : List (List ℕ)) → length l < 65536 → length (section_file l) < 4294967296 → Laid (section_file l) l
unfolding section_file header
file_laid l few fits =
    let sizes = map length l in
    let same : length (map length l) ≡ length l = length-map l length in
    record {
      letters = refl;
      count = number2-bytes2 (length sizes) [] (omega (arith, same)) ∙ same;
      parts =
          shows (section_file l) l 0 (header_size (length l)) (flatten l) (ap (λ (n : ℕ). pairs_from (header_size n) sizes ++ flatten l) same)
          (drop_at (header sizes) (flatten l) (header_size (length l)) (header-length sizes ∙ ap header_size same)) (sym (file-long l)) fits;
    }

-- The bytes of a part are bytes, and there are as many as are asked for where the list has them.
pub part_bytes : (b : List ℕ) (n c : ℕ) → Bytes b → Bytes (take c (drop n b))
part_bytes b n c h x i =
    h x (subst (λ (l : List ℕ). Memᴰ x l) (take-append-drop n b)
    (Memᴰ.append_right (take n b) (subst (λ (l : List ℕ). Memᴰ x l) (take-append-drop c (drop n b)) (Memᴰ.append_left (drop c (drop n b)) i))))

pub part_length : (b : List ℕ) (n c : ℕ) → n + c ≤ length b → length (take c (drop n b)) ≡ c
part_length b n c h = omega (arith, length-take c (drop n b), length-drop n b)

-- The n sections of a file from number k on.
abbrev pub sections_from : List ℕ → ℕ → ℕ → List (List ℕ)
sections_from b k zero = []
sections_from b k (suc n) = section b k ∷ sections_from b (suc k) n

sections_count : (b : List ℕ) (k n : ℕ) → length (sections_from b k n) ≡ n
sections_count b k zero = refl
sections_count b k (suc n) = ap suc (sections_count b (suc k) n)

-- A number of the header, and a section, and what stands behind it.
field : (b : List ℕ) (i n : ℕ) (rest : List ℕ) → Bytes b → i + 4 ≤ length b → number4 b i ≡ n → drop (i + 4) b ≡ rest → drop i b ≡ bytes4 n ++ rest
field b i n rest h k e f = split4 b i h k ∙ ap₂ (λ m l. bytes4 m ++ l) e f

part : (b : List ℕ) (n k c : ℕ) (rest : List ℕ) → k ≡ n → drop (n + c) b ≡ rest → drop n b ≡ take c (drop k b) ++ rest
part b n k c rest e f = rw e (sym (take-append-drop c (drop n b)) ∙ ap (λ (l : List ℕ). take c (drop n b) ++ l) (drop-drop c n b ∙ f))

-- The pairs and the sections of a file from number k on; `last` is the place behind the pairs.
made : (b : List ℕ) → Bytes b → (n k at last : ℕ) → header_size (k + n) ≡ last → last ≤ length b → Follow b at k n
    → (drop (header_size k) b ≡ pairs_from at (map length (sections_from b k n)) ++ drop last b) × (drop at b ≡ flatten (sections_from b k n))
unfolding pairs_from flatten
made b h zero k at last e room f =
    let same : header_size k ≡ last = omega arith in
    (ap (λ (z : ℕ). drop z b) same, drop_of_length-le b {i = at} (omega (arith, f)))
made b h (suc n) k at last e room f =
    let s = section b k in
    let starts = f.0 in
    let within = follow-within b n (at + size b k) (suc k) f.1 in
    let long : length s ≡ size b k = part_length b (offset b k) (size b k) (omega (arith, starts, within)) in
    let rest =
    made b h n (suc k) (at + length s) last (omega arith) room
    (subst (λ (z : ℕ). Follow b (at + z) (suc k) n) (sym long) f.1) in
    let eight : header_size k + 4 + 4 ≡ header_size (suc k) = omega arith in (
      field b (header_size k) at _ h (omega arith) starts
          (field b (header_size k + 4) (length s) _ h (omega arith) (sym long) (ap (λ (z : ℕ). drop z b) eight ∙ rest.0)),
      part b at (offset b k) (size b k) _ starts (ap (λ (z : ℕ). drop (at + z) b) (sym long) ∙ rest.1),
    )

-- A file whose sections follow its header is made of them.
pub file_made : (b : List ℕ) → Bytes b → take count_place b ≡ magic → header_size (section_count b) ≤ length b
    → Follow b (header_size (section_count b)) 0 (section_count b) → section_file (sections_from b 0 (section_count b)) ≡ b
unfolding section_file header
file_made b h first room f =
    let n = section_count b in
    let l = sections_from b 0 n in
    let sizes = map length l in
    let same : length sizes ≡ n = length-map l length ∙ sections_count b 0 n in
    let last : header_size (0 + n) ≡ header_size n = omega arith in
    let parts = made b h n 0 (header_size n) (header_size n) last room f in
    ap (λ (k : ℕ). (magic ++ (bytes2 k ++ pairs_from (header_size k) sizes)) ++ flatten l) same
    ∙ ap₂ (λ (m k : List ℕ). m ++ (bytes2 n ++ k)) (sym first)
    (sym (parts.0 ∙ ap (λ (m : List ℕ). pairs_from (header_size n) sizes ++ m) parts.1))
    ∙ ap (λ (m : List ℕ). take count_place b ++ m) (sym (split2 b count_place h (omega arith)))
    ∙ take-append-drop count_place b

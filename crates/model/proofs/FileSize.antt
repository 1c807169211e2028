-- How long the file of valid contents is: at most 64 pins, 62 taps and 125 runs, and 64 kinds, make at most 856 bytes. The numbers of points
-- in the runs section are below 126, and every number of a file is a byte.
use mathlib.Core.Path.{◌≡◌, refl, sym, ap, ◌∙◌, subst, subst⁻¹}
use mathlib.Core.Logic.{⊎_elim}
use mathlib.Core.Bool.{Bool, true, false, not}
use mathlib.Core.List.Memᴰ.{cases_cons as cases}
use mathlib.Core.List.Memᴰ.{head}
use mathlib.Core.List.Memᴰ.{tail}
use mathlib.Core.List.{List, [], ◌∷◌, map, flatten, Memᴰ}
use mathlib.Core.List.Memᴰ.{not-nil}
use Prim.Native.Nat.{ℕ, suc, ◌*◌, ◌≤◌, ◌<◌}
use native.Mathlib.Omega.{arith}
use lib.Dec.{T}
use lib.ListN.{length}
use Rattle.arrays.specs.Order.{StrictTotal, Sorted}
use Rattle.arrays.proofs.Members.{Distinct, sorted_distinct}
use Rattle.arrays.specs.Test.{if}
use Rattle.plane.specs.Point.{Point, lower, Lower}
use Rattle.plane.specs.Edge.{Edge, listed_before, planar}
use Rattle.plane.proofs.Order.{lower-order, listed-order, before-order}
use Rattle.arrays.proofs.Test.{by_test}
use Rattle.arrays.specs.Set.{tie, union, set_of}
use Rattle.model.specs.Tree.{RunTree}
use Rattle.model.specs.State.{State, points, Placed, Valid}
use Rattle.model.specs.DeviceKinds.{sensors_only}
use Rattle.model.specs.Contents.{Contents, ValidContents}
use Rattle.model.specs.Question.{listed, tree_of, pin_count, steiner_count, edge_count}
use Rattle.arrays.proofs.number.Bytes.{Bytes, bytes_none, bytes-append}
use Rattle.model.specs.Sections.{header, section_file, file_size}
use Rattle.model.specs.File.{kind_sections, sizes_of, section_of, number_of, run_bytes, run_section, sections_of, file_of}
use Rattle.arrays.proofs.Set.{put-length, set_of_in, tie-eq, no_tie}
use Rattle.model.proofs.Tree.{mst-run-tree}
use Rattle.model.proofs.Prune.{points-rise, few-steiner}
use Rattle.model.proofs.Bounds.{points-few, edges_fewer}
use Rattle.model.proofs.Bytes.{section-length, section-bytes}
use Rattle.model.proofs.Sections.{sections_length, header-bytes}

-- A set is as long as its list, where that has no repeats.
set_of-length : {A : Type 0} (less : A → A → Bool) → StrictTotal (λ (a b : A). T (less a b)) → (l : List A) → Distinct l → length (set_of less l) ≡ length l
unfolding union
set_of-length less order [] d = refl
set_of-length less order (a ∷ l) d =
    put-length less order a (set_of less l) (λ i. d.0 a ((set_of_in less order l a).0 i) refl) ∙ ap suc (set_of-length less order l d.1)

pub tree_of_lem : (s : State) → Placed s → RunTree (points s) (tree_of s)
tree_of_lem s h = mst-run-tree (points s) (points-rise s h.steiner_rise)

pub listed-count : (s : State) → Placed s → length (listed s) ≡ edge_count s
unfolding listed
listed-count s h = set_of-length listed_before listed-order (tree_of s) (sorted_distinct before-order (tree_of s) (tree_of_lem s h).sorted)

-- The most taps and runs.
pub steiner_few_lem : (s : State) → Valid s → steiner_count s ≤ 62
steiner_few_lem s v = ⊎_elim (λ e. omega arith) (λ e. omega (arith, v.few)) (few-steiner s v)

pub edges_few : (s : State) → Valid s → edge_count s ≤ 125
edges_few s v = edges_fewer (points s) 125 (points-rise s v.placed.steiner_rise) (points-few s v)

-- The number of a point held is below the number of points.
pub number-below : (ps : List Point) (p : Point) → Memᴰ p ps → number_of ps p < length ps
unfolding number_of
number-below [] p i = absurd (not-nil i)
number-below (q ∷ l) p i =
    by_test (λ (n : ℕ). n < suc (length l)) (tie lower p q) _ _ (λ t. omega arith)
    (λ n. omega (arith, number-below l p (⊎_elim (λ e. absurd (no_tie lower lower-order p q n e)) (λ j. j) (cases i))))

-- Of two points held the lower has the smaller number, so that the listing order is that of the numbers.
pub number-rises : (ps : List Point) → Sorted Lower ps → (p q : Point) → Memᴰ p ps → Memᴰ q ps → Lower p q → number_of ps p < number_of ps q
unfolding number_of
number-rises [] s p q i j h = absurd (not-nil i)
number-rises (a ∷ l) s p q i j h =
    by_test (λ (n : ℕ). n < if (tie lower q a) (λ _. 0) (λ _. suc (number_of l q))) (tie lower p a) _ _
    (λ t. by_test (λ (n : ℕ). 0 < n) (tie lower q a) _ _
    (λ u. absurd (lower-order.irrefl q (subst (λ (z : Point). Lower z q) (tie-eq lower lower-order p a t ∙ sym (tie-eq lower lower-order q a u)) h)))
    (λ u. omega arith))
    (λ t. by_test (λ (n : ℕ). suc (number_of l p) < n) (tie lower q a) _ _
    (λ u. absurd (lower-order.irrefl q (lower-order.trans q p q (first u t) h)))
    (λ u. let r : number_of l p < number_of l q = number-rises l s.1 p q (later p t i) (later q u j) h in omega arith))
  where
    later : (z : Point) → T (not (tie lower z a)) → Memᴰ z (a ∷ l) → Memᴰ z l
    later z n k = ⊎_elim (λ e. absurd (no_tie lower lower-order z a n e)) (λ m. m) (cases k)

    first : T (tie lower q a) → T (not (tie lower p a)) → Lower q p
    first u t = subst⁻¹ (λ (z : Point). Lower z p) (tie-eq lower lower-order q a u) (s.0 p (later p t i))

pub runs-length : (ps : List Point) (l : List Edge) → length (run_bytes ps l) ≡ 2 * length l
unfolding run_bytes
runs-length ps [] = refl
runs-length ps (e ∷ l) = omega (arith, runs-length ps l)

runs-below : (ps : List Point) (l : List Edge) (n : ℕ) → length ps ≤ n
    → ((e : Edge) → Memᴰ e l → Memᴰ e.lo ps × Memᴰ e.hi ps) → (x : ℕ) → Memᴰ x (run_bytes ps l) → x < n
unfolding run_bytes
runs-below ps [] n h ends x i = absurd (not-nil i)
runs-below ps (e ∷ l) n h ends x i =
    let b = ends e (head refl) in
    ⊎_elim (λ p. omega (arith, number-below ps e.lo b.0))
    (λ j. ⊎_elim (λ p. omega (arith, number-below ps e.hi b.1)) (runs-below ps l n h (λ f k. ends f (tail k)) x) (cases j))
    (cases i)

-- The runs section holds numbers below 126.
pub run_numbers : (s : State) → Valid s → (x : ℕ) → Memᴰ x (run_section s) → x < 126
unfolding listed planar
run_numbers s v =
    runs-below (points s) (listed s) 126 (points-few s v)
    (λ e i. (tree_of_lem s v.placed).tree.ends e ((set_of_in listed_before listed-order (tree_of s) e).0 i))

-- The lengths of the sections, by the counts of pins, taps and runs and by whether all pins are sensors.
abbrev pub sizes_in : Contents → List ℕ
sizes_in c = sizes_of (pin_count c.state) (steiner_count c.state) (edge_count c.state) (sensors_only c.kinds)

pub sizes_are : (c : Contents) → ValidContents c → map length (sections_of c) ≡ sizes_in c
sizes_are c v =
    let s = c.state in
    let runs : length (run_section s) ≡ 2 * edge_count s = omega (arith, runs-length (points s) (listed s), listed-count s v.state.placed) in
    λ i. section-length s.pins i ∷ section-length s.steiner i ∷ runs i ∷ kinds (sensors_only c.kinds) i
  where
    kinds : (bare : Bool) → map length (kind_sections bare c.kinds) ≡ kind_sections bare (pin_count c.state)
    kinds true = refl
    kinds false = λ i. v.kind_count i ∷ []

pub file-length : (c : Contents) → ValidContents c → length (file_of c) ≡ file_size (sizes_in c)
unfolding file_of
file-length c v = sections_length (sections_of c) ∙ ap file_size (sizes_are c v)

pub file_size_lem : (c : Contents) → ValidContents c → (30 ≤ length (file_of c)) × (length (file_of c) ≤ 856)
file_size_lem c v =
    let r = bounds (sensors_only c.kinds) in
    (omega (arith, file-length c v, r.0), omega (arith, file-length c v, r.1))
  where
    bounds : (bare : Bool) → (30 ≤ file_size (sizes_of (pin_count c.state) (steiner_count c.state) (edge_count c.state) bare))
        × (file_size (sizes_of (pin_count c.state) (steiner_count c.state) (edge_count c.state) bare) ≤ 856)
    bounds true = (omega arith, omega (arith, v.state.few, steiner_few_lem c.state v.state, edges_few c.state v.state))
    bounds false = (omega arith, omega (arith, v.state.few, steiner_few_lem c.state v.state, edges_few c.state v.state))

pub file-bytes : (c : Contents) → ValidContents c → Bytes (file_of c)
unfolding file_of section_file flatten
file-bytes c v =
    let s = c.state in
    bytes-append (header (map length (sections_of c))) (header-bytes (map length (sections_of c)))
    (bytes-append (section_of s.pins) (section-bytes s.pins)
    (bytes-append (section_of s.steiner) (section-bytes s.steiner)
    (bytes-append (run_section s) (λ x i. omega (arith, run_numbers s v.state x i)) (kinds (sensors_only c.kinds)))))
  where
    kinds : (bare : Bool) → Bytes (flatten (kind_sections bare c.kinds))
    kinds true = bytes_none
    kinds false = bytes-append c.kinds (λ k i. omega (arith, v.known k i)) bytes_none

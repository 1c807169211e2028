-- The tap lines and the run lines of the first items, then a line more.
use mathlib.Core.Path.{◌≡◌, refl, sym, ap, ◌∙◌}
use mathlib.Core.List.{List, [], ◌∷◌, ◌++◌, map, map-append, append_assoc}
use Prim.Native.Nat.{ℕ, ◌+◌, ◌≤◌, ◌<◌}
use lib.ListN.{length, take, get_or}
use lib.Seq.{take_all}
use Rattle.arrays.proofs.paste.Lines.{one_more}
use Rattle.plane.specs.Point.{Point}
use Rattle.plane.specs.Edge.{Edge}
use Rattle.model.specs.Tail.{run_length}
use Rattle.model.specs.Listing.{tap_lines, run_lines, tap_word, run_word, point_fields, field, decimal, line_feed}
use Rattle.plane.specs.Code.{point_of}
use Rattle.model.specs.State.{State}
use Rattle.model.specs.Question.{listed}
use Rattle.edges.specs.declared.CodedEdge.{CodedEdge}
use Rattle.edges.specs.Edges.{edge_of, EdgeAt}
use Rattle.edges.proofs.Numbers.{edges_more}
use Rattle.rows.specs.Line.{tap_line, run_line}

-- The text of one item more.
taps_more : (l : List Point) (q : Point) → tap_lines (l ++ (q ∷ [])) ≡ tap_lines l ++ tap_line q
unfolding tap_lines
taps_more [] q = refl
taps_more (p ∷ l) q =
    ap (λ (t : List ℕ). tap_word ++ (point_fields p ++ (line_feed ∷ t))) (taps_more l q)
    ∙ ap (λ (t : List ℕ). tap_word ++ t) (sym (append_assoc (point_fields p) (line_feed ∷ tap_lines l) (tap_line q)))
    ∙ sym (append_assoc tap_word (point_fields p ++ (line_feed ∷ tap_lines l)) (tap_line q))

runs_more : (tail : ℕ) (l : List Edge) (e : Edge) → run_lines tail (l ++ (e ∷ [])) ≡ run_lines tail l ++ run_line e (run_length tail e)
unfolding run_lines
runs_more tail [] e = refl
runs_more tail (d ∷ l) e =
    let size = field (decimal (run_length tail d)) in
    let line = run_line e (run_length tail e) in
    ap (λ (t : List ℕ). run_word ++ (point_fields d.lo ++ (point_fields d.hi ++ (size ++ (line_feed ∷ t))))) (runs_more tail l e)
    ∙ ap (λ (t : List ℕ). run_word ++ (point_fields d.lo ++ (point_fields d.hi ++ t))) (sym (append_assoc size (line_feed ∷ run_lines tail l) line))
    ∙ ap (λ (t : List ℕ). run_word ++ (point_fields d.lo ++ t)) (sym (append_assoc (point_fields d.hi) (size ++ (line_feed ∷ run_lines tail l)) line))
    ∙ ap (λ (t : List ℕ). run_word ++ t) (sym (append_assoc (point_fields d.lo) (point_fields d.hi ++ (size ++ (line_feed ∷ run_lines tail l))) line))
    ∙ sym (append_assoc run_word (point_fields d.lo ++ (point_fields d.hi ++ (size ++ (line_feed ∷ run_lines tail l)))) line)

-- The lines of the first i Steiner points and of the first i edges.
abbrev pub tap_text : List ℕ → ℕ → List ℕ
tap_text codes i = tap_lines (map point_of (take i codes))

abbrev pub run_text : ℕ → List Edge → ℕ → List ℕ
run_text tail l i = run_lines tail (take i l)

pub tap_none : (codes : List ℕ) → tap_text codes 0 ≡ []
unfolding tap_lines
tap_none codes = refl

pub run_none : (tail : ℕ) (l : List Edge) → run_text tail l 0 ≡ []
unfolding run_lines
run_none tail l = refl

pub tap_more : (codes : List ℕ) (i : ℕ) → i < length codes → tap_text codes (i + 1) ≡ tap_text codes i ++ tap_line (point_of (get_or codes i 0))
tap_more codes i h =
    ap (λ (l : List ℕ). tap_lines (map point_of l)) (one_more codes i h) ∙ ap tap_lines (map-append point_of (take i codes) (get_or codes i 0 ∷ []))
    ∙ taps_more (map point_of (take i codes)) (point_of (get_or codes i 0))

pub run_more : (tail : ℕ) (s : State) (i : ℕ) (e : CodedEdge) → EdgeAt tail s i e
    → run_text tail (listed s) (i + 1) ≡ run_text tail (listed s) i ++ run_line (edge_of e) e.length
run_more tail s i e f =
    ap (run_lines tail) (edges_more tail s i e f) ∙ runs_more tail (take i (listed s)) (edge_of e)
    ∙ ap (λ (n : ℕ). run_text tail (listed s) i ++ run_line (edge_of e) n) (sym f.measured)

pub run_all : (tail : ℕ) (s : State) (m : ℕ) → length (listed s) ≤ m → run_text tail (listed s) m ≡ run_lines tail (listed s)
run_all tail s m h = ap (run_lines tail) (take_all m (listed s) h)

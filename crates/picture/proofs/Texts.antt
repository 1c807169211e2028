-- The texts of the first runs and of the first points, then one more; and the picture from its parts.
use mathlib.Core.Path.{◌≡◌, refl, sym, ap, ap₂, ◌∙◌}
use mathlib.Core.List.{List, [], ◌∷◌, ◌++◌, map, map-append, append_assoc, append-nil}
use Prim.Native.Nat.{ℕ, ◌+◌, ◌≤◌, ◌<◌}
use native.Mathlib.Omega.{arith}
use lib.ListN.{length, take, get_or, replicate, length-map}
use lib.Seq.{take_all, length-take-le, get_or-take}
use Rattle.arrays.specs.Tab.{tab}
use Rattle.arrays.proofs.Tab.{tab_same}
use Rattle.plane.specs.Stored.{point_at}
use Rattle.frame.specs.Stored.{stored_point}
use Rattle.arrays.specs.Paste.{Pasted, each}
use Rattle.arrays.proofs.paste.Lines.{each_to, one_more, each_snoc}
use Rattle.arrays.proofs.paste.Parts.{pasted_same}
use Rattle.arrays.specs.Text.{bytes}
use Rattle.plane.specs.Point.{Point}
use Rattle.plane.specs.Code.{point_of}
use Rattle.model.specs.State.{State, points}
use Rattle.model.specs.Question.{listed}
use Rattle.frame.specs.Frame.{Box, box_of}
use Rattle.drawing.specs.Elements.{head_text, run_text, symbol_text, foot_text}
use Rattle.edges.specs.declared.CodedEdge.{CodedEdge}
use Rattle.working.specs.declared.deck.WorkingDeck.{WorkingDeck}
use Rattle.edges.specs.Edges.{EdgeAt, edge_of}
use Rattle.working.specs.WorkingDeck.{contents_of}
use Rattle.edges.proofs.Numbers.{edges_more}
use Rattle.measures.specs.declared.Measures.{Measures}
use Rattle.measures.specs.Measures.{measures_of}
use Rattle.picture.specs.Picture.{edge_text, run_texts, symbol_texts, tap_symbol, tap_text, point_texts, picture_of}

-- The points of which only the first n are given.
pub points-taken : (xs ys : List ℕ) (n : ℕ) → n ≤ length xs → n ≤ length ys
    → tab (stored_point (take n xs) (take n ys)) (length (take n xs)) ≡ tab (stored_point xs ys) n
points-taken xs ys n h k =
    ap (tab (stored_point (take n xs) (take n ys))) (length-take-le n xs h)
    ∙ tab_same (stored_point (take n xs) (take n ys)) (stored_point xs ys) n (λ i l. ap₂ point_at (get_or-take n xs i 0 l) (get_or-take n ys i 0 l))

-- The paths of the first i runs, one more, and all.
abbrev pub runs_to : ℕ → Box → State → ℕ → List ℕ
runs_to tail b s i = each_to (edge_text tail b) (listed s) i

pub run_more : (tail : ℕ) (b : Box) (s : State) (i : ℕ) (e : CodedEdge) → EdgeAt tail s i e
    → runs_to tail b s (i + 1) ≡ runs_to tail b s i ++ run_text b (point_of e.low) (point_of e.high) e.length
unfolding edge_text
run_more tail b s i e f =
    ap (each (edge_text tail b)) (edges_more tail s i e f) ∙ each_snoc (edge_text tail b) (take i (listed s)) (edge_of e)
    ∙ ap (λ (n : ℕ). runs_to tail b s i ++ run_text b (point_of e.low) (point_of e.high) n) (sym f.measured)

pub run_all : (tail : ℕ) (b : Box) (s : State) (m : ℕ) → length (listed s) ≤ m → runs_to tail b s m ≡ run_texts tail b (listed s)
run_all tail b s m h = ap (each (edge_text tail b)) (take_all m (listed s) h)

-- The symbols of the first i points, and one more.
abbrev pub symbols_to : Box → List ℕ → List ℕ → ℕ → List ℕ
symbols_to b symbols codes i = symbol_texts b (take i symbols) (map point_of (take i codes))

pub symbol_none : (b : Box) (symbols codes : List ℕ) → symbols_to b symbols codes 0 ≡ []
unfolding symbol_texts
symbol_none b symbols codes = refl

symbols_snoc : (b : Box) (ks : List ℕ) (k : ℕ) (ps : List Point) (p : Point) → length ks ≡ length ps
    → symbol_texts b (ks ++ (k ∷ [])) (ps ++ (p ∷ [])) ≡ symbol_texts b ks ps ++ symbol_text b k p
unfolding symbol_texts
symbols_snoc b [] k [] p e = append-nil (symbol_text b k p)
symbols_snoc b [] k (q ∷ ps) p e = absurd (omega (arith, e))
symbols_snoc b (j ∷ ks) k [] p e = absurd (omega (arith, e))
symbols_snoc b (j ∷ ks) k (q ∷ ps) p e =
    ap (λ (t : List ℕ). symbol_text b j q ++ t) (symbols_snoc b ks k ps p (omega (arith, e)))
    ∙ sym (append_assoc (symbol_text b j q) (symbol_texts b ks ps) (symbol_text b k p))

pub symbol_more : (b : Box) (symbols codes : List ℕ) (i symbol k : ℕ) → i < length symbols → i < length codes
    → symbol ≡ get_or symbols i 0 → k ≡ get_or codes i 0
    → symbols_to b symbols codes (i + 1) ≡ symbols_to b symbols codes i ++ symbol_text b symbol (point_of k)
symbol_more b symbols codes i symbol k h m e f =
    ap₂ (symbol_texts b) (one_more symbols i h ∙ ap (λ (n : ℕ). take i symbols ++ (n ∷ [])) (sym e))
    (ap (map point_of) (one_more codes i m ∙ ap (λ (n : ℕ). take i codes ++ (n ∷ [])) (sym f)) ∙ map-append point_of (take i codes) (k ∷ []))
    ∙ symbols_snoc b (take i symbols) symbol (map point_of (take i codes)) (point_of k)
    (length-take-le i symbols (omega arith) ∙ sym (length-map (take i codes) point_of ∙ length-take-le i codes (omega arith)))

-- The symbols of taps are those of points that all have the symbol of a tap.
tap_texts : (b : Box) (codes : List ℕ)
    → each (tap_text b) codes ≡ symbol_texts b (replicate (length (map point_of codes)) tap_symbol) (map point_of codes)
unfolding each symbol_texts
tap_texts b [] = refl
tap_texts b (k ∷ codes) = ap (λ (t : List ℕ). tap_text b k ++ t) (tap_texts b codes)

pub points-put : (b : Box) (d : WorkingDeck) {before after : List ℕ} {at r : ℕ}
    → (let q = d.form.points in
    Pasted (symbols_to b d.kinds q.pins q.npins ++ each (tap_text b) (take q.nsteiner q.steiner)) before after at r)
    → Pasted (point_texts b (contents_of d)) before after at r
unfolding point_texts
points-put b d p =
    let q = d.form.points in
    let symbols : List ℕ = symbol_texts b (take q.npins d.kinds) (map point_of (take q.npins q.pins)) in
    pasted_same (ap (λ (t : List ℕ). symbols ++ t) (tap_texts b (take q.nsteiner q.steiner))) p

-- The picture, by the box and by what was measured.
pub picture_put : (d : WorkingDeck) (m : Measures) (b : Box) {before after : List ℕ} {at r : ℕ} → m ≡ measures_of (contents_of d)
    → b ≡ box_of (points (contents_of d).state)
    → (let c = contents_of d in Pasted (head_text b
    ++ (run_texts d.tail b (listed c.state) ++ (bytes "</g>\n" ++ (point_texts b c ++ foot_text b m.pins m.steiner m.length)))) before after at r)
    → Pasted (picture_of (contents_of d)) before after at r
unfolding picture_of
picture_put d m b e f p =
    let c = contents_of d in
    pasted_same (λ i. head_text (f i)
    ++ (run_texts d.tail (f i) (listed c.state) ++ (bytes "</g>\n" ++ (point_texts (f i) c ++ foot_text (f i) (e i).pins (e i).steiner (e i).length)))) p

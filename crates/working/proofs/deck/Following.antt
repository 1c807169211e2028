-- The kinds of a deck in working form: those of codes are those of their points, since the order of codes is that of points.
use mathlib.Core.Path.{◌≡◌, refl, ap, ap₂, ◌∙◌}
use mathlib.Core.List.Memᴰ.{head}
use mathlib.Core.List.Memᴰ.{tail}
use mathlib.Core.List.{List, [], ◌∷◌, map, Memᴰ}
use Prim.Native.Nat.{ℕ}
use lib.Dec.{ltb}
use lib.ListN.{length, take, length-map}
use Rattle.arrays.specs.Beside.{beside}
use Rattle.plane.specs.Point.{Point}
use Rattle.plane.specs.Code.{point_of}
use Rattle.plane.proofs.codes.Sets.{points-beside}
use Rattle.model.specs.State.{empty, max_pins}
use Rattle.model.specs.Contents.{kind_or, with_kinds, with_tail, of_state, following, empty_contents}
use Rattle.model.proofs.Session.{empty-valid}
use Rattle.points.specs.declared.Points.{Points}
use Rattle.points.specs.Coded as points
use Rattle.points.specs.Coded.{coded, padded}
use Rattle.points.proofs.Codes.{codes_full, padded-take}
use Rattle.points.proofs.Coded.{state-coded}
use Rattle.working.specs.declared.Working.{Working}
use Rattle.working.specs.declared.deck.WorkingDeck.{WorkingDeck}
use Rattle.working.specs.InOrder.{state_of}
use Rattle.working.specs.WorkingDeck.{contents_of}

map_along : (g : ℕ → ℕ) (h : Point → ℕ) (l : List ℕ) → ((k : ℕ) → Memᴰ k l → g k ≡ h (point_of k)) → map g l ≡ map h (map point_of l)
map_along g h [] e = refl
map_along g h (k ∷ l) e = ap₂ ◌∷◌ (e k (head refl)) (map_along g h l (λ j i. e j (tail i)))

pub empty_contents_lem : (w : Working) (q : Points) → q ≡ coded empty → w.points ≡ q → (zeros : List ℕ)
    → contents_of (record { form = w; kinds = zeros; tail = 0 }) ≡ empty_contents
unfolding coded
empty_contents_lem w q e a zeros =
    ap (λ (z : Points). with_kinds (points.state_of z) (take z.npins zeros)) (a ∙ e) ∙ ap of_state (state-coded empty empty-valid.placed)

module _ (d : WorkingDeck) (w : Working) (k : ℕ) where
  abbrev pins : List ℕ
  pins = take d.form.points.npins d.form.points.pins

  abbrev kinds : List ℕ
  kinds = take d.form.points.npins d.kinds

  abbrev next : List ℕ
  next = take w.points.npins w.points.pins

  kind_of : ℕ → ℕ
  kind_of j = beside ltb k j pins kinds

  pub followed : {row : List ℕ} → row ≡ padded max_pins (map (λ (j : ℕ). beside ltb k j pins kinds) next)
      → contents_of (record { form = w; kinds = row; tail = d.tail }) ≡ following k (contents_of d) (state_of w)
  unfolding kind_of
  followed {row = row} put =
      let count : length (map kind_of next) ≡ w.points.npins = length-map next kind_of ∙ codes_full w.in_order.arranged.pin_codes in
      ap (λ (l : List ℕ). with_tail d.tail (with_kinds (state_of w) l))
      (ap (take w.points.npins) put ∙ padded-take max_pins (map kind_of next) w.points.npins count
      ∙ map_along kind_of (kind_or k (contents_of d)) next
      (λ j i. points-beside k j (w.in_order.arranged.pin_codes.codes j i) pins d.form.in_order.arranged.pin_codes.codes kinds))

-- The kinds follow their pins (SPEC 4.2 to 4.5, 4.8), said of the kind at a point, apart from how contents keep it.
use Rattle.std.specs.Prelude.{◌≡◌, ℕ}
use mathlib.Core.List.{Memᴰ}
use Rattle.plane.specs.Point.{Point}
use Rattle.model.specs.Contents.{Contents, kind_at}
use Rattle.model.specs.Call.{Call, add, withdraw, one_round, run_to_end, set_tail, done, refused, step}

-- The pins of d are those of c, each of the same kind.
pub record SamePins (c d : Contents) : Type 0 where
  pub pins : d.state.pins ≡ c.state.pins
  pub kinds : (q : Point) → kind_at d q ≡ kind_at c q

-- What the calls on the contents c do to kinds.
pub record KindsFollow (c : Contents) : Type 0 where
  -- a pin added, also where a tap stood, has the kind given, and every other pin its own
  pub added : (p : Point) (k : ℕ) → (step c (add p k)).reply ≡ done → kind_at (step c (add p k)).next p ≡ k
  pub besides : (p : Point) (k : ℕ) → (step c (add p k)).reply ≡ done → (q : Point) → Memᴰ q c.state.pins
      → kind_at (step c (add p k)).next q ≡ kind_at c q
  -- every pin that a withdrawal leaves keeps its own
  pub left : (p : Point) → (step c (withdraw p)).reply ≡ done → (q : Point) → Memᴰ q (step c (withdraw p)).next.state.pins
      → kind_at (step c (withdraw p)).next q ≡ kind_at c q
  -- a round, a run to the end, setting the tail and a refused call keep all
  pub rounded : SamePins c (step c one_round).next
  pub ended : SamePins c (step c run_to_end).next
  pub set : (tail : ℕ) → SamePins c (step c (set_tail tail)).next
  pub turned_down : (k : Call) (n : ℕ) → (step c k).reply ≡ refused n → SamePins c (step c k).next

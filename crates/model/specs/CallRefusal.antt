-- When adding, withdrawing and setting the tail length are refused, number by number (SPEC 8.3), apart from the list of checks that works it out.
use Rattle.std.specs.Prelude.{◌≡◌, ◌⊎◌, ◌↔◌, ℕ, ◌≤◌, ◌<◌, T, length}
use mathlib.Core.List.{Memᴰ}
use Rattle.plane.specs.Point.{Point, in_range}
use Rattle.model.specs.Contents.{Contents}
use Rattle.model.specs.Call.{Call, add, withdraw, set_tail, done, refused, step}

-- A call on the contents c is refused by n.
abbrev pub RefusedBy : Contents → Call → ℕ → Type 0
RefusedBy c k n = (step c k).reply ≡ refused n

-- Adding a device of kind k at p: 7 where p is out of range; else 15 where k is above 2; else 8 where a pin is there; else 10 where 64 pins
-- are held, also if p is a Steiner point. The numbers stand here once more, and not as `max_pins` and `largest_kind`, so that other numbers there
-- are refused here.
pub record AddRefusals (c : Contents) (p : Point) (k : ℕ) : Type 0 where
  pub out_of_range : RefusedBy c (add p k) 7 ↔ ¬ T (in_range p)
  pub no_kind : RefusedBy c (add p k) 15 ↔ (T (in_range p) × (3 ≤ k))
  pub pin_there : RefusedBy c (add p k) 8 ↔ (T (in_range p) × (k ≤ 2) × Memᴰ p c.state.pins)
  pub noRoom : RefusedBy c (add p k) 10 ↔ (T (in_range p) × (k ≤ 2) × (¬ Memᴰ p c.state.pins) × (64 ≤ length c.state.pins))
  pub taken : ((step c (add p k)).reply ≡ done)
      ↔ (T (in_range p) × (k ≤ 2) × (¬ Memᴰ p c.state.pins) × (length c.state.pins < 64))
  pub others : (n : ℕ) → RefusedBy c (add p k) n → (n ≡ 7) ⊎ ((n ≡ 15) ⊎ ((n ≡ 8) ⊎ (n ≡ 10)))

-- Withdrawing at p: 9 where no pin is there.
pub record WithdrawRefusals (c : Contents) (p : Point) : Type 0 where
  pub no_pin : RefusedBy c (withdraw p) 9 ↔ ¬ Memᴰ p c.state.pins
  pub taken : ((step c (withdraw p)).reply ≡ done) ↔ Memᴰ p c.state.pins
  pub others : (n : ℕ) → RefusedBy c (withdraw p) n → n ≡ 9

-- Setting the tail length: 16 above 500, which stands here once more for the same reason.
pub record TailRefusals (c : Contents) (tail : ℕ) : Type 0 where
  pub too_long : RefusedBy c (set_tail tail) 16 ↔ (501 ≤ tail)
  pub taken : ((step c (set_tail tail)).reply ≡ done) ↔ (tail ≤ 500)
  pub others : (n : ℕ) → RefusedBy c (set_tail tail) n → n ≡ 16

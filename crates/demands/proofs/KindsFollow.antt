-- The kinds of a deck's pins follow them, from the claim on contents: a call on a sound deck is the call on its contents.
use mathlib.Core.Path.{◌≡◌, sym, ap, ◌∙◌, subst}
use mathlib.Core.List.{Memᴰ}
use Prim.Native.Nat.{ℕ, ◌≤◌}
use native.Mathlib.Omega.{arith}
use Rattle.arrays.proofs.Beside.{beside_one}
use Rattle.plane.specs.Point.{Point, lower}
use Rattle.model.specs.Contents.{Contents, kind_at}
use Rattle.model.specs.Call as call
use Rattle.model.specs.KindsFollow.{SamePins, KindsFollow}
use Rattle.model.proofs.KindsFollow.{kinds-follow}
use Rattle.calls.specs.declared.Reply.TheVariants as reply
use Rattle.deck.specs.declared.Deck.{Deck}
use Rattle.deck.specs.Form.{contents_of, state_of, Sound}
use Rattle.deck.specs.Calls.{called}
use Rattle.demands.specs.KindsFollow.{kind_in, SameDevices, DeckKinds}
use Rattle.demands.proofs.Replies.{done-reply, refused-reply}
use Rattle.demands.proofs.Method.{reply_is, next-contents}

module _ (d : Deck) (s : Sound d) where
  follows : KindsFollow (contents_of d)
  follows = kinds-follow (contents_of d) s.valid

  done : (c : call.Call) → (called d c).reply ≡ reply.Done → (call.step (contents_of d) c).reply ≡ call.done
  done c e = done-reply (call.step (contents_of d) c).reply (sym (reply_is d s c) ∙ e)

  -- The kind at a point of the next deck is that of the next contents.
  next_kind : (c : call.Call) (q : Point) → kind_in (called d c).next q ≡ kind_at (call.step (contents_of d) c).next q
  next_kind c q = ap (λ (z : Contents). kind_at z q) (next-contents d s c)

  same_devices : (c : call.Call) → SamePins (contents_of d) (call.step (contents_of d) c).next → SameDevices d (called d c).next
  same_devices c h =
      record {
        pins = ap (λ (z : Contents). z.state.pins) (next-contents d s c) ∙ h.pins;
        kinds = λ q. next_kind c q ∙ h.kinds q;
      }

  pub deck-kinds : DeckKinds d
  deck-kinds =
      record {
        known = λ q i. beside_one lower (λ (k : ℕ). k ≤ 2) 0 (omega arith) q (state_of d).pins (contents_of d).kinds s.valid.known;
        added = λ p k e. next_kind (call.add p k) p ∙ follows.added p k (done (call.add p k) e);
        besides = λ p k e q i. next_kind (call.add p k) q ∙ follows.besides p k (done (call.add p k) e) q i;
        left = λ p e q i. next_kind (call.withdraw p) q
            ∙ follows.left p (done (call.withdraw p) e) q
            (subst (λ (z : Contents). Memᴰ q z.state.pins) (next-contents d s (call.withdraw p)) i);
        rounded = same_devices call.one_round follows.rounded;
        ended = same_devices call.run_to_end follows.ended;
        set = λ tail. same_devices (call.set_tail tail) (follows.set tail);
        turned_down = λ c n e. same_devices c (follows.turned_down c n (refused-reply (call.step (contents_of d) c).reply n (sym (reply_is d s c) ∙ e)));
      }

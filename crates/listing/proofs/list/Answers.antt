-- `listing::list` meets its contract: the listing where the deck is sound, else the refusal.
use Rattle.deck.proofs.Calls.{checked_valid}
use Rattle.listing.proofs.list.Goals as goal

pub list_working-requires : goal.list_working-requires
list_working-requires c = record { valid_contents = checked_valid _ c.in-Some.w c.in-Some.ensures }

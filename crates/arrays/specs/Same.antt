-- Lists compared.
use Rattle.std.specs.Prelude.{Bool, List, ℕ, nat_eq}
use lib.Pointwise.{pointwise}

-- Whether two lists are the same: what `==` says of two slices of numbers.
abbrev pub same_list : List ℕ → List ℕ → Bool
same_list l m = pointwise nat_eq l m

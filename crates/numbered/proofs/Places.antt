-- The outcome of the call for a placement list by the book that a number names: by that book, or by none.
-- Assumes nothing.
use Rattle.std.specs.Prelude.{None, Option, Some}
use Prim.Native.Nat.{ℕ}
use mathlib.Core.Path.{◌≡◌}
use mathlib.Core.List.{List}
use lib.ListN.{replicate}
use Rattle.book.specs.declared.Book.{Book}
use Rattle.progress.specs.Lent.{Lent}
use Rattle.reader.specs.Reads.{Zeroed}
use Rattle.placement_list.specs.Lists.{answered}
use Rattle.placement_list.specs.declared.Answer.{Answer}
use Rattle.placement_call.specs.Placement.{Work, Places}
use Rattle.numbered.specs.Placing.{PlacesBy}

module _ {c : Option Book} (l l' : Lent) (head : List ℕ) (w : Work) (room : ℕ) (out : List ℕ) (r : Answer) where
  pub places_by : {book : Book} → c ≡ Some book → Places book l l' head w room out r → PlacesBy c l l' head w room out r
  unfolding PlacesBy
  places_by e h = rw e h

  pub places_none : c ≡ None → r ≡ answered 101 0 0 → out ≡ replicate room 0 → Zeroed l l' head → PlacesBy c l l' head w room out r
  unfolding PlacesBy
  places_none e a x z = rw e (record { answer = a; list_zero = x; zeroed = z })

-- Worked: the circles D10, D12 and D11 put into a table of room for three. From record 0 the search for 12 goes low, by its lowest bit, and
-- that for 11 high. D13 finds no room.
-- Assumes nothing.
use Rattle.std.specs.Prelude.{Err, Ok}
use Prim.Native.Nat.{ℕ}
use mathlib.Core.Path.{◌≡◌, refl}
use mathlib.Core.List.{List, [], ◌∷◌}
use lib.ListN.{replicate}
use Rattle.index.specs.First.{first_of}
use Rattle.index.specs.Tree.{link_word, last_link}
use Rattle.index.specs.Numbers.{numbered}
use Rattle.sheet.specs.Records.{stored}
use Rattle.sheet.specs.declared.Aperture.{Aperture}
use Rattle.tables.specs.Added.{has_room, added}
use Rattle.tables.specs.Apertures.{aperture_words}

-- a circle of that number, its diameter the number kept at `first`
abbrev circle : ℕ → ℕ → Aperture
circle number first = record { number = number; kind = 1; first = first; len = 1; items = 0; height = 0 }

abbrev one : List ℕ
one = added (replicate 24 0) 0 6 (aperture_words (circle 10 0))

abbrev two : List ℕ
two = added one 1 6 (aperture_words (circle 12 1))

abbrev three : List ℕ
three = added two 2 7 (aperture_words (circle 11 2))

search_12 : numbered one 1 12 ≡ Err 6
unfolding numbered first_of last_link link_word added has_room stored aperture_words
search_12 = refl

search_11 : numbered two 2 11 ≡ Err 7
unfolding numbered first_of last_link link_word added has_room stored aperture_words
search_11 = refl

three_words : three ≡ 10 ∷ 1 ∷ 0 ∷ 1 ∷ 0 ∷ 0 ∷ 1 ∷ 2 ∷ 12 ∷ 1 ∷ 1 ∷ 1 ∷ 0 ∷ 0 ∷ 0 ∷ 0 ∷ 11 ∷ 1 ∷ 2 ∷ 1 ∷ 0 ∷ 0 ∷ 0 ∷ 0 ∷ []
unfolding added has_room stored aperture_words
three_words = refl

search_11_again : numbered three 3 11 ≡ Ok 2
unfolding numbered first_of last_link link_word added has_room stored aperture_words
search_11_again = refl

search_13 : numbered three 3 13 ≡ Err 22
unfolding numbered first_of last_link link_word added has_room stored aperture_words
search_13 = refl

no_room : added three 3 22 (aperture_words (circle 13 3)) ≡ three
unfolding added has_room stored aperture_words
no_room = refl

-- A designator's record by the number by which it is noted, and the numbers of what an item is noted by.
use Rattle.std.specs.Prelude.{ℕ, zero, suc, ◌+◌, ◌*◌, Bool, false, List, eqb, get_or, set}
use Rattle.index.specs.Tree.{record_width}
use Rattle.law_components.specs.declared.Role.{Role}
use Rattle.law_components.specs.declared.Role.TheVariants.{Main, Pin, Outline, Other}
use Rattle.law_components.specs.Chain.{link_width}
use Rattle.law_components.specs.declared.Met.{Met}
use Rattle.notes.specs.declared.Note.{Note}
use Rattle.seeing.specs.declared.Seen.{Seen}

-- word i of its record; 0 is no designator's number
unfoldable pub word_of : List ℕ → ℕ → ℕ → ℕ
word_of s zero i = 0
word_of s (suc d) i = get_or s (d * record_width + i) 0

unfoldable pub with_word : List ℕ → ℕ → ℕ → ℕ → List ℕ
with_word s zero i v = s
with_word s (suc d) i v = set s (d * record_width + i) v

-- the word that says whether it has a main, and the one that leads to its first pin
abbrev pub main_word : ℕ
main_word = 2

abbrev pub pin_word : ℕ
pin_word = 3

-- the designator of a main, and of a pin; 0 of anything else
unfoldable pub main_as : Role → Note → ℕ
main_as Main n = n.component
main_as Pin n = 0
main_as Outline n = 0
main_as Other n = 0

unfoldable pub pin_as : Role → Note → ℕ
pin_as Main n = 0
pin_as Pin n = n.pin
pin_as Outline n = 0
pin_as Other n = 0

-- what an item lacks, by its note
unfoldable pub lacks_by : Role → Note → Bool
lacks_by Main n = eqb n.component 0
lacks_by Pin n = eqb n.pin 0
lacks_by Outline n = eqb n.component 0
lacks_by Other n = false

unfoldable pub met_by : Seen → Met
met_by s = record { role = s.role; start = s.start; end = s.end; place = s.place; lacks = lacks_by s.role s.note }

-- a link more
unfoldable pub with_link : List ℕ → ℕ → ℕ → ℕ → List ℕ
with_link s links k next = set (set s (links * link_width) k) (links * link_width + 1) next

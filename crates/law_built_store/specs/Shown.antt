-- A store that is built shows a list of marks.
use Rattle.std.specs.Prelude.{ℕ, List, []}
use Rattle.place.specs.Parts.{none}
use Rattle.place.specs.Mark.{Mark, Sheet, top, written}
use Rattle.law_open_store.specs.Open.{Built}
use Rattle.build.specs.declared.Builder.{Builder}

-- nothing is written yet
unfoldable pub blank : Sheet
blank = record { blocks = []; here = none; around = top }

-- the entries e and apertures a, of which n are used, as far as b says, show the sheet s
abbrev pub Holds : Sheet → List ℕ → List ℕ → ℕ → ℕ → Builder → Type 0
Holds s e a room n b = Built s e a room n b.closed b.high b.start b.height b.items

-- they show what the marks so far write out
abbrev pub Shows : List Mark → List ℕ → List ℕ → ℕ → ℕ → Builder → Type 0
Shows ms e a room n b = Holds (written ms blank) e a room n b

-- The attribute call (01, State: "the value of a TO name at a command is that of the last TO of the name before it with no TD of that name,
-- nor bare TD, between. TA likewise, taken at AD or AB opening"; 02 [3]: "at a contour's first D01, an aperture attribute is the last TA of
-- its name before G36, not deleted since, and 23 only if there is none"; decisions 106 to 112, 317 to 319, 512 and 513).
use Rattle.std.specs.Prelude.{ℕ, true, false, List, [], ◌∷◌, eqb}
use Rattle.book.specs.declared.Book.{Book}
use Rattle.base.specs.Choose.{pick, choose}
use Rattle.sequence.specs.Commands.{Sequence, commands_of}
use Rattle.sequence.specs.declared.Placed.{Placed}
use Rattle.outlines.specs.Outlines.{outline_of}
use Rattle.outlines.specs.Regions.{region_after, begins_contour}
use Rattle.outlines.specs.declared.Outline.{Outline}
use Rattle.attribute_call.specs.Sayings.{text_of, saying_of, taken_at}
use Rattle.attribute_call.specs.declared.Answer.{Answer}
use Rattle.attribute_call.specs.declared.Heard.{Heard}
use Rattle.attribute_call.specs.declared.Kind.{Kind}
use Rattle.attribute_call.specs.declared.Saying.{Saying}
use Rattle.attribute_call.specs.declared.Saying.TheVariants.{Silent, Deletes, Sets}

-- 01's number, with place and length 0
abbrev pub refused : ℕ → Answer
refused number = record { number = number; place = 0; length = 0 }

-- the commands before the one that begins at a place, all where none does
unfoldable pub before : ℕ → List Placed → List Placed
before place [] = []
before place (c ∷ cs) = elim (eqb c.place place) [ true ↦ [] | false ↦ c ∷ before place cs ]

-- the command that begins there with those after it, none where none does
unfoldable pub from_on : ℕ → List Placed → List Placed
from_on place [] = []
from_on place (c ∷ cs) = elim (eqb c.place place) [ true ↦ c ∷ cs | false ↦ from_on place cs ]

-- of two sayings the later decides, if it is one
unfoldable pub later : Saying → Saying → Saying
later s Silent = s
later s Deletes = Deletes
later s (Sets place length) = Sets place length

-- a TD deletes what is kept, a TA sets nothing anew
unfoldable pub kept : Saying → Saying → Saying
kept s Silent = s
kept s Deletes = Deletes
kept s (Sets place length) = s

-- no command yet: nothing said, no region open
abbrev pub nothing : Heard
nothing = record { said = Silent; carried = Silent; region = record { inside = false; drawn = false } }

-- what a command does about regions
abbrev pub outline_at : Book → List ℕ → Placed → Outline
outline_at book file c = outline_of book (text_of file c)

-- a command more. Said: the last command that says something of the name decides. Carried by a region: what is said where G36 stands, not
-- deleted since
unfoldable pub heard_with : Book → List ℕ → Kind → List ℕ → Heard → Placed → Heard
heard_with book file kind name h c =
    record {
      said = later h.said (saying_of file kind name c);
      carried = pick (outline_at book file c).opens h.said (kept h.carried (saying_of file kind name c));
      region = region_after h.region (outline_at book file c);
    }

-- these commands more
unfoldable pub heard_in : Book → List ℕ → Kind → List ℕ → Heard → List Placed → Heard
heard_in book file kind name h [] = h
heard_in book file kind name h (c ∷ cs) = heard_in book file kind name (heard_with book file kind name h c) cs

-- the name is held, with its value, or is not
unfoldable pub held : Saying → Answer
held Silent = refused 23
held Deletes = refused 23
held (Sets place length) = record { number = 0; place = place; length = length }

-- at this command, h being what is heard before it. A contour's first D01 has what its region carries, which G36 in the same command opens
unfoldable pub answer_at : Book → List ℕ → Kind → Placed → Heard → Answer
answer_at book file kind c h =
    choose
    ((taken_at kind (text_of file c), held h.said)
    ∷ (begins_contour h.region (outline_at book file c), held (pick (outline_at book file c).opens h.said h.carried))
    ∷ [])
    (refused 23)

-- at the first of these commands, which begins where it is asked
unfoldable pub answer_for : Book → List ℕ → Kind → List Placed → Heard → Answer
answer_for book file kind [] h = refused 22
answer_for book file kind (c ∷ cs) h = answer_at book file kind c h

-- 1 to 4, 30 and 18, then 22, then 23
unfoldable pub answer_in : Book → List ℕ → Kind → ℕ → List ℕ → Sequence → Answer
answer_in book file kind place name l =
    let cs : List Placed = l.commands in
    pick (eqb l.fault.number 0)
    (answer_for book file kind (from_on place cs) (heard_in book file kind name nothing (before place cs)))
    (refused l.fault.number)

unfoldable pub attribute_of : Book → List ℕ → Kind → ℕ → List ℕ → Answer
attribute_of book file kind place name = answer_in book file kind place name (commands_of book file)

-- What a command does about regions and contours, by its text, however long its numbers are (02, [3] and [9]; decisions 317 and 512).
use Rattle.std.specs.Prelude.{ℕ, Bool, false, not, List, eqb}
use Rattle.base.specs.And.{◌and◌}
use Rattle.base.specs.Choose.{pick}
use Rattle.text.specs.Text.{◌is◌, ◌begins◌, ◌ends◌}
use Rattle.book.specs.Books.{is_old}
use Rattle.book.specs.declared.Book.{Book}
use Rattle.films.specs.Words.{word_of}
use Rattle.films.specs.declared.Word.{Word}
use Rattle.films.specs.declared.Word.TheVariants.{NotForm, Note, Halt, End, Code, Select, Operate}
use Rattle.outlines.specs.declared.Outline.{Outline}

-- it opens or closes a region, is or ends in D02, is or ends in D01
abbrev pub outline : Bool → Bool → Bool → Bool → Outline
outline opens closes moves draws = record { opens = opens; closes = closes; moves = moves; draws = draws }

abbrev pub still : Outline
still = outline false false false false

-- in the newer edition; a comment does nothing
unfoldable pub newer_outline : List ℕ → Outline
newer_outline text =
    outline (text is "G36") (text is "G37") (not (text begins "G04") and text ends "D02") (not (text begins "G04") and text ends "D01")

-- in the old book, of what the text is cut into: a code before an operation counts, and so does the operation
unfoldable pub word_outline : Word → Outline
word_outline NotForm = still
word_outline Note = still
word_outline Halt = still
word_outline End = still
word_outline (Code g) = outline (eqb g 36) (eqb g 37) false false
word_outline (Select at) = still
word_outline (Operate g operation from to) = outline (eqb g 36) (eqb g 37) (eqb operation 2) (eqb operation 1)

unfoldable pub outline_of : Book → List ℕ → Outline
outline_of book text = pick (is_old book) (word_outline (word_of text)) (newer_outline text)

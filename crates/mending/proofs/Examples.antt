-- Worked examples, by computation: files, their changes, and what these make of them.
-- Assumes nothing.
use Prim.Native.String.{String}
use mathlib.Core.Path.{◌≡◌, refl}
use mathlib.Core.List.{List, [], ◌∷◌, map}
use Rattle.base.specs.And.{◌and◌}
use Rattle.base.specs.Or.{◌or◌}
use Rattle.base.specs.Bytes.{same_bytes}
use Rattle.base.specs.Trimmed.{kept_before, drop_trailing}
use Rattle.text.specs.First.{first_in}
use Rattle.text.specs.Text.{text}
use Rattle.book.specs.Books.{ascii, film, is_old, is_old_edition}
use Rattle.scan.specs.Permitted.{printable}
use Rattle.mending.specs.Extents.{skips, closes, mark, apart, onto, cut, closing}
use Rattle.mending.specs.Changes.{Change, drop_repeat, add_end, drop_tail, drop_after_end, opens, text_of, first_of, matches, repeats, follows, changes_from, changes}
use Rattle.mending.specs.Rebuilt.{rebuilt_from, rebuilt, mended}

-- a file, its changes in the newer edition, and the mended file
abbrev files : List (String × List Change × String)
files =
    ("M02*", [], "M02*")
    ∷ ("\n%FSLA*%G01*\nM02*\r\n", [], "\n%FSLA*%G01*\nM02*\r\n")
    ∷ ("", add_end 0 ∷ [], "M02*")
    ∷ ("\r\nG01", add_end 0 ∷ drop_tail 0 ∷ [], "M02*")
    ∷ ("G01*", add_end 4 ∷ [], "G01*M02*")
    ∷ ("G01*\n", add_end 4 ∷ drop_tail 4 ∷ [], "G01*M02*")
    ∷ ("G01*\n%FS\u{1}", add_end 4 ∷ drop_tail 4 ∷ [], "G01*M02*")
    ∷ ("G01*\nM02*\nG01*", drop_after_end 9 ∷ [], "G01*\nM02*")
    ∷ ("M02*\n\u{1}G01*", [], "M02*\n\u{1}G01*")
    ∷ ("%FSLA*%\n%FSLA*\r\n%\nM02*", drop_repeat 8 ∷ [], "%FSLA*%\n\nM02*")
    ∷ ("%FSLA*%%FSLB*%%MOMM*%%FSLA*%%MOMM*%G01", drop_repeat 21 ∷ drop_repeat 28 ∷ add_end 35 ∷ drop_tail 35 ∷ [], "%FSLA*%%FSLB*%%MOMM*%M02*")
    ∷ ("%FSLA\n*%%FSLA*%M02*", [], "%FSLA\n*%%FSLA*%M02*")
    ∷ ("%FSLA*%\n%FSLA*%", drop_repeat 8 ∷ add_end 15 ∷ [], "%FSLA*%\nM02*")
    ∷ ("M02*%FSLA*%%FSLA*%", drop_after_end 4 ∷ [], "M02*")
    ∷ []

changes_so : map (λ row. changes ascii (text row.0)) files ≡ map (λ row. row.1) files
unfolding changes changes_from opens text_of first_of matches repeats follows drop_trailing kept_before printable closing is_old is_old_edition cut skips closes mark apart onto same_bytes ◌and◌ ◌or◌
changes_so = refl

mended_so : map (λ row. mended ascii (text row.0)) files ≡ map (λ row. text row.2) files
unfolding mended rebuilt rebuilt_from first_in changes changes_from opens text_of first_of matches repeats follows drop_trailing kept_before printable closing is_old is_old_edition cut skips closes mark apart onto same_bytes ◌and◌ ◌or◌
mended_so = refl

-- M2 ends a file of the old edition, and what is added is M02 in both
old_so : changes film (text "G1*M2*\n") ≡ []
unfolding changes changes_from opens text_of first_of matches repeats follows drop_trailing kept_before printable closing is_old is_old_edition cut skips closes mark apart onto same_bytes ◌and◌ ◌or◌
old_so = refl

new_so : mended ascii (text "G1*M2*\n") ≡ text "G1*M2*M02*"
unfolding mended rebuilt rebuilt_from first_in changes changes_from opens text_of first_of matches repeats follows drop_trailing kept_before printable closing is_old is_old_edition cut skips closes mark apart onto same_bytes ◌and◌ ◌or◌
new_so = refl

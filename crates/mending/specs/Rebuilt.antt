-- What a list of changes makes of a file, and the mended file (02, [13]; decisions 541 and 545).
use Rattle.std.specs.Prelude.{ℕ, ◌+◌, List, [], ◌∷◌, ◌++◌, drop}
use Prim.Native.Char.{code}
use Rattle.std.proofs.Math.Seq.{slice}
use Rattle.text.specs.First.{place}
use Rattle.text.specs.Text.{text}
use Rattle.book.specs.declared.Book.{Book}
use Rattle.mending.specs.Changes.{Change, drop_repeat, add_end, drop_tail, drop_after_end, changes}

-- the bytes from `from` on, with these changes made: a repeat goes from its `%` to the next, a tail from its place on
unfoldable pub rebuilt_from : List ℕ → ℕ → List Change → List ℕ
rebuilt_from file from [] = drop from file
rebuilt_from file from (drop_repeat at ∷ cs) = slice from at file ++ rebuilt_from file (place (code "%") file (at + 1) + 1) cs
rebuilt_from file from (add_end at ∷ cs) = slice from at file ++ text "M02*" ++ rebuilt_from file at cs
rebuilt_from file from (drop_tail at ∷ cs) = slice from at file
rebuilt_from file from (drop_after_end at ∷ cs) = slice from at file

unfoldable pub rebuilt : List ℕ → List Change → List ℕ
rebuilt file cs = rebuilt_from file 0 cs

unfoldable pub mended : Book → List ℕ → List ℕ
mended book file = rebuilt file (changes book file)

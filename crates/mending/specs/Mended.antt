-- The words of a report, and what the pass that mends answers and leaves in what is lent (02, [13]; decision 545).
use Rattle.std.specs.Prelude.{ℕ, ◌-◌, ◌≡◌, Bool, true, cond, List, [], ◌∷◌, ◌++◌, leb, eqb, length, replicate}
use Rattle.book.specs.declared.Book.{Book}
use Rattle.mending.specs.Changes.{Change, drop_repeat, add_end, drop_tail, drop_after_end, changes}
use Rattle.mending.specs.Rebuilt.{mended}
use Rattle.mending.specs.declared.Written.{Written}
use Rattle.mending.specs.declared.Written.TheVariants.{Both, File, Nothing}

-- the report has two words a change, its kind and its place
unfoldable pub words_of : Change → List ℕ
words_of (drop_repeat at) = 1 ∷ at ∷ []
words_of (add_end at) = 2 ∷ at ∷ []
words_of (drop_tail at) = 3 ∷ at ∷ []
words_of (drop_after_end at) = 4 ∷ at ∷ []

unfoldable pub words : List Change → List ℕ
words [] = []
words (c ∷ cs) = words_of c ++ words cs

-- and the words tell the changes
unfoldable pub change_of : ℕ → ℕ → Change
change_of kind at = cond (eqb kind 1) (drop_repeat at) (cond (eqb kind 2) (add_end at) (cond (eqb kind 3) (drop_tail at) (drop_after_end at)))

unfoldable pub changes_in : List ℕ → List Change
changes_in [] = []
changes_in (kind ∷ []) = []
changes_in (kind ∷ at ∷ ws) = change_of kind at ∷ changes_in ws

unfoldable pub report : Book → List ℕ → List ℕ
report book file = words (changes book file)

-- the mended file fits into so many bytes, and the report into so many words
unfoldable pub file_fits : Book → List ℕ → ℕ → Bool
file_fits book file bytes = leb (length (mended book file)) bytes

unfoldable pub report_fits : Book → List ℕ → ℕ → Bool
report_fits book file room = leb (length (report book file)) room

unfoldable pub written_of : Book → List ℕ → ℕ → ℕ → Written
written_of book file bytes room =
    cond (file_fits book file bytes)
    (cond (report_fits book file room) (Both (length (mended book file)) (length (changes book file))) (File (length (mended book file))))
    Nothing

-- in front of zeros, to the full length
unfoldable pub written : ℕ → List ℕ → List ℕ
written room l = l ++ replicate (room - length l) 0

-- lent zeros were filled with the mended file where it fits, and with the report where that fits too
pub record Fills (book : Book) (file : List ℕ) (bytes room : ℕ) (r : Written) (out noted : List ℕ) : Type 0 where
  pub answer : r ≡ written_of book file bytes room
  pub file_left : file_fits book file bytes ≡ true → out ≡ written bytes (mended book file)
  pub report_left : file_fits book file bytes ≡ true → report_fits book file room ≡ true → noted ≡ written room (report book file)
  pub as_long : length out ≡ bytes
  pub as_many : length noted ≡ room

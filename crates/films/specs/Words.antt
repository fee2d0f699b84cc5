-- Word commands of the old book (02, [9]; decisions 484 to 486). A text has no `*`.
use Rattle.std.specs.Prelude.{ℕ, ◌+◌, ◌-◌, Bool, not, List, [], ◌∷◌, eqb, length, take, drop, get_or}
use Prim.Native.Char.{code}
use Rattle.base.specs.And.{◌and◌}
use Rattle.base.specs.Or.{◌or◌}
use Rattle.base.specs.Choose.{pick, choose}
use Rattle.text.specs.Text.{byte, ◌is◌, ◌begins◌, among}
use Rattle.digits.specs.Digits.{is_digit, past_digits}
use Rattle.films.specs.Codes.{code_of, operation_in, operation_length, is_end}
use Rattle.films.specs.declared.Word.{Word}
use Rattle.films.specs.declared.Word.TheVariants.{NotForm, Note, Halt, End, Code, Select, Operate}

-- a comment, in which no `%` stands
unfoldable pub comment_of : List ℕ → Word
comment_of s = pick (among s (code "%")) NotForm Note

-- "a G code before coordinates": an operation of what stands from a place on, after that code; its coordinates end before its own code
unfoldable pub operate_of : ℕ → ℕ → List ℕ → Word → Word
operate_of g from s other =
    let operation : ℕ = operation_in (drop from s) in
    pick (eqb operation 0) other (Operate g operation from (length s - operation_length s))

-- a G code, whose digits end at a place: G54 before Dn and nothing else; any other of the list alone, or directly before an operation
unfoldable pub coded_of : ℕ → ℕ → List ℕ → Word
coded_of g end s =
    choose
    ((eqb g 0, NotForm)
    ∷ (eqb g 54, pick (byte "D" (get_or s end 0)) (Select (end + 1)) NotForm)
    ∷ (eqb end (length s), Code g)
    ∷ [])
    (operate_of g end s NotForm)

-- G: `G04` and its text, or `G4` where no digit follows, is a comment
unfoldable pub general_of : List ℕ → Word
general_of s =
    choose
    ((s begins "G04", comment_of s)
    ∷ (s begins "G4" and not (is_digit (get_or s 2 0)), comment_of s)
    ∷ [])
    (coded_of (code_of (take (past_digits s 1) s)) (past_digits s 1) s)

-- M: "M00 and M01 without effect"
unfoldable pub miscellaneous_of : List ℕ → Word
miscellaneous_of s =
    choose
    ((is_end s, End)
    ∷ ((s is "M00" or s is "M0") or (s is "M01" or s is "M1"), Halt)
    ∷ [])
    NotForm

-- an operation with no code before it, or Dn
unfoldable pub other_of : List ℕ → Word
other_of s = pick (byte "D" (get_or s 0 0)) (operate_of 0 0 s (Select 1)) (operate_of 0 0 s NotForm)

unfoldable pub word_of : List ℕ → Word
word_of s =
    choose
    ((byte "G" (get_or s 0 0), general_of s)
    ∷ (byte "M" (get_or s 0 0), miscellaneous_of s)
    ∷ [])
    (other_of s)

-- The two commands that the signature call knows, by their bytes without CR and LF (02, requests [2] and [9]; decisions 118, 119 and 511). These stand
-- in a command only where 01 lets them: in M02 nowhere, in an extended command after a `*`.
use Rattle.std.specs.Prelude.{ℕ, Bool, List, drop}
use Rattle.std.proofs.Math.Seq.{slice}
use Rattle.base.specs.And.{◌and◌}
use Rattle.base.specs.Or.{◌or◌}
use Rattle.text.specs.Text.{◌is◌, ◌begins◌}
use Rattle.hexadecimal.specs.Digits.{hex_digits}
use Rattle.book.specs.Books.{is_old}
use Rattle.book.specs.declared.Book.{Book}

-- M02, which the old book may write `M2`
unfoldable pub is_end : Book → List ℕ → Bool
is_end book s = s is "M02*" or (is_old book and s is "M2*")

-- the 32 digits of a signature
unfoldable pub digits_of : List ℕ → List ℕ
digits_of s = slice 8 40 s

-- `%TF.MD5,`, 32 hexadecimal digits, `*%`
unfoldable pub is_signature : List ℕ → Bool
is_signature s = s begins "%TF.MD5," and hex_digits (digits_of s) and drop 40 s is "*%"

-- The signature of a file: 02, requests [2] and [9]; decisions 116 to 120 and 511.
use Rattle.std.specs.Prelude.{ℕ, zero, suc, true, false, cond, List, length, replicate}
use Rattle.std.proofs.Math.Seq.{slice}
use Rattle.scan.specs.Scan.{next_command}
use Rattle.scan.specs.Tail.{tail_of}
use Rattle.book.specs.declared.Book.{Book}
use Rattle.scan.specs.declared.Scan.TheVariants.{Command, BadByte, Ended}
use Rattle.scan.specs.declared.Tail.TheVariants.{Clean, Unprintable, More}
use Rattle.digest.specs.Md5.{md5}
use Rattle.digest.specs.Text.{unbroken}
use Rattle.hexadecimal.specs.Hex.{hex_of}
use Rattle.hexadecimal.specs.Digits.{same_digits}
use Rattle.signature.specs.Form.{is_end, is_signature, digits_of}
use Rattle.signature.specs.declared.Answer.{Answer}

-- number and place of a refusal; 0 and 0 with the digest where the file is signed
unfoldable pub refused : ℕ → ℕ → Answer
refused number place = record { number = number; place = place; digest = replicate 16 0 }

unfoldable pub signed : List ℕ → Answer
signed d = record { number = 0; place = 0; digest = d }

-- M02 stands at `place`, the command before it is s, and d is the digest of what stands before that
unfoldable pub judged : ℕ → List ℕ → List ℕ → Answer
judged place s d =
    cond (is_signature s) (cond (same_digits (digits_of s) (hex_of d)) (signed d) (refused 24 place)) (refused 25 place)

-- the bytes from one place up to another, CR and LF left out
unfoldable pub bare : List ℕ → ℕ → ℕ → List ℕ
bare file from to = unbroken (slice from to file)

-- M02 stands from `place` up to `next`, the command before it from `from` up to `to`
unfoldable pub at_end : List ℕ → ℕ → ℕ → ℕ → ℕ → Answer
at_end file from to place next =
    elim (tail_of file next) [
      | Clean ↦ judged place (bare file from to) (md5 (bare file 0 from))
      | More more ↦ judged place (bare file from to) (md5 (bare file 0 from))
      | Unprintable bad ↦ refused 2 bad
    ]

-- the commands from `at` on, up to M02; the one before them stands from `from` up to `at`, which is nothing at the start
unfoldable pub walked : Book → ℕ → List ℕ → ℕ → ℕ → Answer
walked book zero file from at = refused 3 (length file)
walked book (suc n) file from at =
    elim (next_command book file at) [
      | Command kind place text end next ↦ elim (is_end book (bare file place next)) [
        | true ↦ at_end file from at place next
        | false ↦ walked book n file place next
      ]
      | BadByte place ↦ refused 2 place
      | Ended place ↦ refused 3 place
    ]

-- no file has more commands than bytes
unfoldable pub signature_of : Book → List ℕ → Answer
signature_of book file = walked book (suc (length file)) file 0 0

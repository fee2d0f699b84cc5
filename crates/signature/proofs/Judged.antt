-- The cases of `judged` and `at_end`, each by what was found.
-- Assumes nothing.
use Prim.Native.Nat.{ℕ}
use mathlib.Core.Path.{◌≡◌}
use mathlib.Core.Bool.{true, false}
use mathlib.Core.List.{List}
use Rattle.hexadecimal.specs.Hex.{hex_of}
use Rattle.digest.specs.Md5.{md5}
use Rattle.scan.specs.Tail.{tail_of}
use Rattle.scan.specs.declared.Tail.TheVariants.{Clean, Unprintable, More}
use Rattle.signature.specs.declared.Answer.{Answer}
use Rattle.hexadecimal.specs.Digits.{same_digits}
use Rattle.signature.specs.Form.{is_signature, digits_of}
use Rattle.signature.specs.Signature.{signed, refused, judged, bare, at_end}

module _ (place : ℕ) (s d : List ℕ) where
  pub judged_signed : is_signature s ≡ true → same_digits (digits_of s) (hex_of d) ≡ true → judged place s d ≡ signed d
  unfolding judged
  judged_signed e f = rw (e, f)

  pub judged_other : is_signature s ≡ true → same_digits (digits_of s) (hex_of d) ≡ false → judged place s d ≡ refused 24 place
  unfolding judged
  judged_other e f = rw (e, f)

  pub judged_none : is_signature s ≡ false → judged place s d ≡ refused 25 place
  unfolding judged
  judged_none e = rw e

module _ (file : List ℕ) (from to place next : ℕ) where
  abbrev there : Answer
  there = judged place (bare file from to) (md5 (bare file 0 from))

  pub end_clean : tail_of file next ≡ Clean → at_end file from to place next ≡ there
  unfolding at_end
  end_clean e = rw (at_end, e)

  pub end_more : {more : ℕ} → tail_of file next ≡ More more → at_end file from to place next ≡ there
  unfolding at_end
  end_more e = rw (at_end, e)

  pub end_bad : {bad : ℕ} → tail_of file next ≡ Unprintable bad → at_end file from to place next ≡ refused 2 bad
  unfolding at_end
  end_bad e = rw (at_end, e)

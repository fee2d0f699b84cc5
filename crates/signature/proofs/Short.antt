-- M02 and a signature have fewer than 43 bytes, so those that are held of a command tell whether it is one.
-- Assumes nothing.
use Prim.Native.Nat.{ℕ, ◌<◌}
use mathlib.Core.Path.{◌≡◌, refl, ap, sym, ◌∙◌}
use mathlib.Core.Bool.{Bool, true, false}
use mathlib.Core.List.{List}
use native.Mathlib.Omega.{arith}
use lib.Dec.{leb}
use lib.ListN.{length, take, drop, length-take, length-drop}
use lib.Seq.{take_all}
use borrow.Author.Tests.{leb-true, leb-false}
use Rattle.base.specs.Or.{◌or◌}
use Rattle.base.proofs.And.{and_r}
use Rattle.base.proofs.Lists.{same_is}
use Rattle.text.specs.Text.{text, ◌is◌}
use Rattle.book.specs.declared.Book.{Book}
use Rattle.signature.specs.Form.{is_end, is_signature}
use Rattle.signature.specs.Held.{nothing, noted_all, text_of}
use Rattle.signature.specs.Signature.{judged}
use Rattle.signature.proofs.Notes.{text_held}

end_short : (book : Book) (s : List ℕ) → is_end book s ≡ true → length s < 43
unfolding is_end ◌or◌
end_short book s e = go (s is "M02*") refl
  where
    go : (t : Bool) → s is "M02*" ≡ t → length s < 43
    go true f = let n : length s ≡ 4 = ap length (same_is s (text "M02*") f) in omega arith
    go false f = let n : length s ≡ 3 = ap length (same_is s (text "M2*") (and_r _ _ (rw f at e))) in omega arith

signature_short : (s : List ℕ) → is_signature s ≡ true → length s < 43
unfolding is_signature
signature_short s e = let n : length (drop 40 s) ≡ 2 = ap length (same_is (drop 40 s) (text "*%") (and_r _ _ e)) in omega (arith, length-drop 40 s)

-- a test that longer strings do not pass
is_false : (t : Bool) → (t ≡ true → ⊥) → t ≡ false
is_false true h = absurd (h refl)
is_false false h = refl

by_first : (test : List ℕ → Bool) → ((s : List ℕ) → test s ≡ true → length s < 43) → (w : List ℕ) → test (take 43 w) ≡ test w
by_first test short w = go (leb (length w) 43) refl
  where
    go : (t : Bool) → leb (length w) 43 ≡ t → test (take 43 w) ≡ test w
    go true e = rw (take_all 43 w (leb-true _ _ e))
    go false e =
        let k : 43 < length w = leb-false _ _ e in
        let n : length (take 43 w) ≡ 43 = simp length-take (omega arith) in
        is_false _ (λ p. omega (arith, short (take 43 w) p)) ∙ sym (is_false _ (λ p. omega (arith, short w p)))

pub end_held : (book : Book) (w : List ℕ) → is_end book (text_of (noted_all nothing w)) ≡ is_end book w
end_held book w = rw (text_held w) (by_first (is_end book) (end_short book) w)

pub judged_held : (place : ℕ) (w d : List ℕ) → judged place (text_of (noted_all nothing w)) d ≡ judged place w d
unfolding judged
judged_held place w d = rw (text_held w) (go (is_signature w) refl)
  where
    go : (t : Bool) → is_signature w ≡ t → judged place (take 43 w) d ≡ judged place w d
    go true e = rw (take_all 43 w (omega (arith, signature_short w e)))
    go false e = rw (by_first is_signature signature_short w, e)

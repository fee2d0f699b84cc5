-- The signature under the two rules of letters (02, request [8]): what the old rule answers, and is no 2, the new rule answers too; and of a
-- file of bytes below 127 both say the same.
-- Assumes nothing.
use Prim.Native.Nat.{ℕ, zero, suc, ◌<◌}
use mathlib.Core.Path.{◌≡◌, refl, sym, ◌∙◌}
use mathlib.Core.Bool.{Bool, true, false}
use mathlib.Core.List.{List}
use lib.ListN.{length, get_or}
use Rattle.book.specs.Books.{is_old, under}
use Rattle.book.specs.declared.Book.{Book}
use Rattle.book.specs.declared.Letters.TheVariants.{Old, New}
use Rattle.scan.specs.Scan.{next_command}
use Rattle.scan.specs.declared.Scan.{Scan}
use Rattle.scan.specs.declared.Scan.TheVariants.{Command, BadByte, Ended}
use Rattle.scan.proofs.Rules.{kept, kept_end, alike}
use Rattle.signature.specs.Form.{is_end}
use Rattle.signature.specs.Signature.{refused, bare, walked, signature_of}

-- M02 is the same under both
end_same : (book : Book) (s : List ℕ) → is_end (under New book) s ≡ is_end (under Old book) s
unfolding is_end is_old
end_same book s = refl

module _ (book : Book) (file : List ℕ) where
  walked_kept : (n from at : ℕ) → ((walked (under Old book) n file from at).number ≡ 2 → ⊥) → walked (under New book) n file from at ≡ walked (under Old book) n file from at
  unfolding walked refused
  walked_kept zero from at h = refl
  walked_kept (suc n) from at h = go (next_command (under Old book) file at) refl (λ place next. walked_kept n place next)
    where
      go : (r : Scan) → next_command (under Old book) file at ≡ r →
          ((place next : ℕ) → ((walked (under Old book) n file place next).number ≡ 2 → ⊥) → walked (under New book) n file place next ≡ walked (under Old book) n file place next) →
          walked (under New book) (suc n) file from at ≡ walked (under Old book) (suc n) file from at
      go (BadByte place) e rest = absurd (h (rw (walked, e)))
      go (Ended place) e rest = rw (walked, e, kept_end book file at e)
      go (Command kind place text end next) e rest = by_end (is_end (under Old book) (bare file place next)) refl
        where
          by_end : (t : Bool) → is_end (under Old book) (bare file place next) ≡ t → walked (under New book) (suc n) file from at ≡ walked (under Old book) (suc n) file from at
          by_end true f = rw (walked, e, kept book file at e, end_same book (bare file place next), f)
          by_end false f = rw (walked, e, kept book file at e, end_same book (bare file place next), f) (rest place next (λ q. h (rw (walked, e, f) q)))

  pub signature_kept : ((signature_of (under Old book) file).number ≡ 2 → ⊥) → signature_of (under New book) file ≡ signature_of (under Old book) file
  unfolding signature_of
  signature_kept h = walked_kept (suc (length file)) 0 0 h

  module _ (low : (i : ℕ) → get_or file i 0 < 127) where
    walked_alike : (n from at : ℕ) → walked (under Old book) n file from at ≡ walked (under New book) n file from at
    unfolding walked
    walked_alike zero from at = refl
    walked_alike (suc n) from at = go (next_command (under Old book) file at) refl (λ place next. walked_alike n place next)
      where
        go : (r : Scan) → next_command (under Old book) file at ≡ r → ((place next : ℕ) → walked (under Old book) n file place next ≡ walked (under New book) n file place next) →
            walked (under Old book) (suc n) file from at ≡ walked (under New book) (suc n) file from at
        go (BadByte place) e rest = rw (walked, e, sym (alike book file at low) ∙ e)
        go (Ended place) e rest = rw (walked, e, sym (alike book file at low) ∙ e)
        go (Command kind place text end next) e rest = by_end (is_end (under Old book) (bare file place next)) refl
          where
            by_end : (t : Bool) → is_end (under Old book) (bare file place next) ≡ t → walked (under Old book) (suc n) file from at ≡ walked (under New book) (suc n) file from at
            by_end true f = rw (walked, e, sym (alike book file at low) ∙ e, end_same book (bare file place next), f)
            by_end false f = rw (walked, e, sym (alike book file at low) ∙ e, end_same book (bare file place next), f) (rest place next)

    pub signature_alike : signature_of (under Old book) file ≡ signature_of (under New book) file
    unfolding signature_of
    signature_alike = walked_alike (suc (length file)) 0 0

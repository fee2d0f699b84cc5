-- The attribute call under the two rules of letters (02, request [8]): what the old rule answers, and is no 2, the new rule answers too; and
-- of a file of bytes below 127 both say the same.
-- Assumes nothing.
use Prim.Native.Nat.{ℕ, ◌<◌}
use mathlib.Core.Path.{◌≡◌, refl, ap, sym, ◌∙◌}
use mathlib.Core.List.{List, [], ◌∷◌}
use lib.Dec.{eqb}
use lib.ListN.{get_or}
use Rattle.base.specs.Choose.{pick}
use Rattle.book.specs.Books.{is_old, under}
use Rattle.book.specs.declared.Book.{Book}
use Rattle.book.specs.declared.Letters.TheVariants.{Old, New}
use Rattle.sequence.specs.Commands.{Sequence, commands_of}
use Rattle.sequence.specs.declared.Placed.{Placed}
use Rattle.sequence.proofs.Rules.{commands_kept, commands_alike}
use Rattle.attribute_call.specs.declared.Kind.{Kind}
use Rattle.outlines.specs.Outlines.{outline_of}
use Rattle.attribute_call.specs.Attribute.{refused, before, from_on, nothing, heard_with, heard_in, answer_at, answer_for, answer_in, attribute_of}
use Rattle.attribute_call.specs.declared.Answer.{Answer}
use Rattle.attribute_call.specs.declared.Heard.{Heard}

module _ (book : Book) (file : List ℕ) (kind : Kind) (place : ℕ) (name : List ℕ) where
  -- what commands do about regions hangs on no letters
  heard_same : (h : Heard) (cs : List Placed) → heard_in (under New book) file kind name h cs ≡ heard_in (under Old book) file kind name h cs
  unfolding heard_in heard_with outline_of is_old
  heard_same h [] = refl
  heard_same h (c ∷ cs) = heard_same (heard_with (under Old book) file kind name h c) cs

  for_same : (cs : List Placed) {h k : Heard} → h ≡ k → answer_for (under New book) file kind cs h ≡ answer_for (under Old book) file kind cs k
  unfolding answer_for answer_at outline_of is_old
  for_same [] e = refl
  for_same (c ∷ cs) e = ap (answer_at (under Old book) file kind c) e

  answer_same : (l : Sequence) → answer_in (under New book) file kind place name l ≡ answer_in (under Old book) file kind place name l
  unfolding answer_in
  answer_same l =
      ap (λ (a : Answer). pick (eqb l.fault.number 0) a (refused l.fault.number))
      (for_same (from_on place l.commands) (heard_same nothing (before place l.commands)))

  -- a fault of the file is the answer
  faulted : (commands_of (under Old book) file).fault.number ≡ 2 → (attribute_of (under Old book) file kind place name).number ≡ 2
  unfolding attribute_of answer_in pick
  faulted e = rw e

  pub attribute_kept : ((attribute_of (under Old book) file kind place name).number ≡ 2 → ⊥) →
      attribute_of (under New book) file kind place name ≡ attribute_of (under Old book) file kind place name
  unfolding attribute_of
  attribute_kept h = answer_same _ ∙ ap (answer_in (under Old book) file kind place name) (commands_kept book file (λ e. h (faulted e)))

  pub attribute_alike : ((i : ℕ) → get_or file i 0 < 127) → attribute_of (under Old book) file kind place name ≡ attribute_of (under New book) file kind place name
  unfolding attribute_of
  attribute_alike low = ap (answer_in (under Old book) file kind place name) (commands_alike book file low) ∙ sym (answer_same _)

-- The file attributes under the two rules of letters (02, request [8]): what the old rule answers, and is no 2, the new rule answers too; and
-- of a file of bytes below 127 both say the same.
-- Assumes nothing.
use Rattle.std.specs.Prelude.{Option}
use Prim.Native.Nat.{ℕ, ◌<◌}
use mathlib.Core.Path.{◌≡◌, ap}
use mathlib.Core.List.{List}
use lib.ListN.{get_or}
use Rattle.base.specs.Choose.{pick}
use Rattle.book.specs.Books.{under}
use Rattle.book.specs.declared.Book.{Book}
use Rattle.book.specs.declared.Letters.TheVariants.{Old, New}
use Rattle.sequence.specs.Commands.{commands_of}
use Rattle.sequence.proofs.Rules.{commands_kept, commands_alike}
use Rattle.labels.specs.Labels.{refused, nth_in, named_in, judged, answer_in, label_named, label_at}
use Rattle.labels.specs.declared.Label.{Label}

module _ (book : Book) (file : List ℕ) (seek : List Label → Option Label) where
  -- a fault of the file is the answer
  faulted : (commands_of (under Old book) file).fault.number ≡ 2 → (answer_in file seek (commands_of (under Old book) file)).number ≡ 2
  unfolding answer_in judged pick refused
  faulted e = rw e

  answer_kept : ((answer_in file seek (commands_of (under Old book) file)).number ≡ 2 → ⊥) →
      answer_in file seek (commands_of (under New book) file) ≡ answer_in file seek (commands_of (under Old book) file)
  answer_kept h = ap (answer_in file seek) (commands_kept book file (λ e. h (faulted e)))

module _ (book : Book) (file : List ℕ) where
  pub named_kept : (name : List ℕ) → ((label_named (under Old book) file name).number ≡ 2 → ⊥) → label_named (under New book) file name ≡ label_named (under Old book) file name
  unfolding label_named
  named_kept name = answer_kept book file (named_in file name)

  pub nth_kept : (i : ℕ) → ((label_at (under Old book) file i).number ≡ 2 → ⊥) → label_at (under New book) file i ≡ label_at (under Old book) file i
  unfolding label_at
  nth_kept i = answer_kept book file (nth_in i)

  pub named_alike : (name : List ℕ) → ((i : ℕ) → get_or file i 0 < 127) → label_named (under Old book) file name ≡ label_named (under New book) file name
  unfolding label_named
  named_alike name low = ap (answer_in file (named_in file name)) (commands_alike book file low)

  pub nth_alike : (i : ℕ) → ((k : ℕ) → get_or file k 0 < 127) → label_at (under Old book) file i ≡ label_at (under New book) file i
  unfolding label_at
  nth_alike i low = ap (answer_in file (nth_in i)) (commands_alike book file low)

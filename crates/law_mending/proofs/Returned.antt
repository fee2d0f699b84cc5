-- The call that mends gives an accepted file back: its contract says so, since no change applies.
-- Assumes nothing.
use Rattle.std.specs.Prelude.{Ok, Result, ℕ}
use Prim.Native.Nat.{ℕ, ◌-◌, ◌≤◌}
use mathlib.Core.Path.{◌≡◌, ap, ◌∙◌, subst}
use mathlib.Core.List.{List}
use native.Mathlib.Nat.{sub-zero}
use lib.ListN.{length, replicate}
use Rattle.book.specs.declared.Book.{Book}
use Rattle.sequence.specs.Rounded.{rounded_in}
use Rattle.running.specs.Units.{unit_in}
use Rattle.law_reading.specs.State.{State}
use Rattle.law_reading.specs.Reading.{accepted, reading}
use Rattle.progress.specs.Lent.{Lent, room_of}
use Rattle.reader.specs.Leaves.{Leaves}
use Rattle.mending.specs.Mended.{written}
use Rattle.mend_call.specs.Outcome.{Outcome, mending_of}
use Rattle.mend_call.specs.Mends.{Given, Mends}
use Rattle.law_mending.specs.Returned.{Returned}
use Rattle.law_mending.proofs.Intact.{intact}
use Rattle.mend_call.specs.declared.Mended.{Mended}

pub returned : (book : Book) (w w' : Lent) {s : State} → reading book (room_of w) w.file ≡ accepted s →
    (bytes : ℕ) (out : List ℕ) (words : ℕ) (noted head : List ℕ) (r : Result Mended ℕ) → length w.file ≤ bytes →
    Mends book (mending_of book (room_of w) bytes words w.file) w w' bytes out words noted head r →
    Returned book s w w' bytes out words noted head r
unfolding Mends written
returned book w w' {s} e bytes out words noted head r h m =
    let i = intact book (room_of w) w.file e in
    let g : Given book s w w' bytes out words noted head r =
    subst (λ (o : Outcome). Mends book o w w' bytes out words noted head r) (i.the_same bytes words h) m in
    record {
      answer =
          g.answer
          ∙ (λ k. Ok (record { bytes = length (i.unchanged k); changes = length (i.none k); unit = unit_in s.graphics.header; rounded = rounded_in book (i.unchanged k) }));
      file_left = g.file_left ∙ ap (written bytes) i.unchanged;
      report_left = g.report_left ∙ ap (written words) i.empty ∙ ap (λ (n : ℕ). replicate n 0) (sub-zero words);
      as_long = g.as_long;
      sheet = subst (λ (f : List ℕ). Leaves f head w'.entries w'.apertures w'.macros w'.numbers s) i.unchanged g.sheet;
    }

-- The summary of whatever sheet the call for a reading leaves: the rows of the file's own items, whose counts add up to the total.
-- Assumes nothing.
use Rattle.std.specs.Prelude.{Result}
use Prim.Native.Nat.{ℕ}
use mathlib.Core.Path.{◌≡◌, subst}
use mathlib.Core.List.{List, []}
use lib.ListN.{length}
use Rattle.book.specs.declared.Book.{Book}
use Rattle.sequence.specs.Rounded.{rounded_in}
use Rattle.base.proofs.And.{ands}
use Rattle.sheet.specs.Containers.{apertures_used}
use Rattle.summary_rows.proofs.Totals.{counts_add_up}
use Rattle.summary_by_aperture.specs.Answers.{outcome_of, summed}
use Rattle.sequence.specs.declared.Placed.{Placed}
use Rattle.law_reading.specs.State.{Room, State}
use Rattle.law_reading.specs.Reading.{Answer, reading}
use Rattle.progress.specs.Lent.{Lent, room_of}
use Rattle.reader.specs.Leaves.{Leaves}
use Rattle.reader.specs.Reads.{Reads}
use Rattle.law_kept.specs.Kept.{Keeps, nothing, one}
use Rattle.demands.specs.Demands.{Accepts}
use Rattle.law_kept.proofs.Kept.{keeps_accepted}
use Rattle.law_summary.specs.Summarised.{Summarised}
use Rattle.law_summary.proofs.Knowing.{Knows}
use Rattle.law_summary.proofs.Steps.{step_knows, begun_knows}
use Rattle.law_summary.proofs.Plain.{plain_tooled}
use Rattle.law_summary.proofs.Records.{no_row_lem, named, block_untooled}
use Rattle.reader.specs.declared.Accepted.{Accepted}
use Rattle.sequence.specs.declared.Refusal.{Refusal}

-- commands that are accepted, one after the other
kept_knows : {room : Room} {file : List ℕ} {s t : State} {cs : List Placed} → Keeps room file s cs t → Knows s → Knows t
kept_knows nothing k = k
kept_knows {room = room} {s = s} (one {c = c} e w) k = kept_knows w (step_knows room _ c.place c.command s e k)

module _ (book : Book) (w w' : Lent) (head : List ℕ) (r : Result Accepted Refusal) (reads : Reads (rounded_in book w.file) (reading book (room_of w) w.file) w w' head r) (k : Accepts book w) where
  left : Leaves w.file head w'.entries w'.apertures w'.macros w'.numbers k.state
  unfolding Reads
  left = (subst (λ (a : Answer). Reads (rounded_in book w.file) a w w' head r) (keeps_accepted book (room_of w) w.file k.keeps) reads).2

  knows : Knows k.state
  knows = kept_knows k.keeps.commands (begun_knows book)

  pub summarised : Summarised head w'.entries w'.apertures k.state
  unfolding outcome_of summed
  summarised =
      let all = plain_tooled k.state.apertures knows.marks in
      record {
        done = λ words scratch z. simp (left.sheet, z);
        rows = λ words scratch z. simp (left.sheet, z, ands, left.items);
        tooled = all;
        total = rw left.apertures_used_lem (counts_add_up _ 0 (length k.state.apertures) (named w'.apertures (length k.state.apertures) k.state.apertures left.apertures knows.distinct all));
        blocks = λ b l z. no_row_lem _ (block_untooled w'.apertures (length k.state.apertures) k.state.apertures left.apertures b (rw left.apertures_used_lem at l) z knows.distinct) all;
      }

-- Where the first rule broken is broken: a rule's number is that of a command, and the others stand where the scanner found them.
-- Assumes nothing.
use Prim.Native.Nat.{ℕ, ◌≤◌, ◌<◌}
use mathlib.Core.Path.{◌≡◌, sym, ◌∙◌, subst}
use mathlib.Core.List.{List, ◌∷◌, ◌++◌}
use mathlib.Core.Logic.{◌⊎◌, inl, inr, ⊎_elim}
use native.Mathlib.Omega.{arith}
use lib.ListN.{length}
use lib.Seq.{slice}
use Rattle.book.specs.declared.Book.{Book}
use Rattle.formats.specs.Format.{no_format}
use Rattle.sequence.specs.Commands.{commands_of}
use Rattle.law_reading.specs.State.{Room}
use Rattle.law_kept.specs.Kept.{FirstBroken, by, behind}
use Rattle.operation_rules.specs.Order.{order, rank_in, rank}
use Rattle.law_kept.specs.Places.{FirstByte, Stands}
use Rattle.law_kept.proofs.Tables.{fault_known}
use Rattle.law_kept.proofs.Cut.{AllCut, first_byte, commands_known, cut_at}

-- the numbers of commands' rules stand at commands
ruled : {book : Book} {file : List ℕ} {number place : ℕ} → rank number < length order → FirstByte book file place → Stands book file number place
unfolding order rank_in
ruled {number = number} l k = record {
  one = λ e. absurd (let z : rank 1 < length order = subst (λ (x : ℕ). rank x < length order) e l in omega arith);
  two = λ e. absurd (let z : rank 2 < length order = subst (λ (x : ℕ). rank x < length order) e l in omega arith);
  three = λ e. absurd (let z : rank 3 < length order = subst (λ (x : ℕ). rank x < length order) e l in omega arith);
  eighteen = λ e. absurd (let z : rank 18 < length order = subst (λ (x : ℕ). rank x < length order) e l in omega arith);
  command = λ a b c d. k;
}

pub broken_stands : {book : Book} {room : Room} {file : List ℕ} {number place : ℕ} → FirstBroken book room file number place → Stands book file number place
broken_stands {book = book} {room = room} {file = file} {number = number} (by k) =
    let t : List ℕ = slice k.command.from k.command.end file in
    let some = k.some in
    let same = k.fault in
    let l = fault_known room t k.command.place k.command.command k.state (omega arith) in
    let cut = cut_at book file no_format k.before k.command k.after (subst (AllCut book file no_format) k.order (commands_known book file).0) in
    ruled (subst (λ (x : ℕ). rank x < length order) same l) (subst (FirstByte book file) k.stands (first_byte cut.1))
broken_stands {book = book} {file = file} {number = number} {place = place} (behind k) =
    let some = k.some in
    let same = k.fault in
    ⊎_elim (λ z. absurd (omega arith))
    (λ s. subst (Stands book file number) k.stands (subst (λ (x : ℕ). Stands book file x (commands_of book file).fault.place) same s))
    (commands_known book file).1

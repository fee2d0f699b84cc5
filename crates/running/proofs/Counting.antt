-- The rounded decimals counted so far: with those of the commands to come they are the file's, and they are no more than the bytes before.
-- Assumes nothing.
use Rattle.formats.specs.Format.{no_format}
use Rattle.formats.specs.declared.Format.{Format}
use Prim.Native.Nat.{ℕ, ◌+◌, ◌≤◌}
use mathlib.Core.Path.{◌≡◌, refl, ap}
use mathlib.Core.List.{List}
use native.Mathlib.Omega.{arith}
use lib.ListN.{length}
use Rattle.book.specs.declared.Book.{Book}
use Rattle.command.specs.Rounded.{rounded_of}
use Rattle.command.specs.declared.Command.TheVariants.{End}
use Rattle.sequence.specs.Rounded.{rounded_among}
use Rattle.sequence.specs.Turns.{turn_of}
use Rattle.sequence.specs.declared.Placed.{Placed}
use Rattle.sequence.specs.declared.Turn.TheVariants as turn
use Rattle.sequence.proofs.Walk.{walk, walk_last, walk_more}
use Rattle.running.specs.Ends.{walked}

-- those of a file
abbrev pub all_of : Book → List ℕ → ℕ
all_of book file = rounded_among (walked book file).commands

pub record Counted (book : Book) (file : List ℕ) (n : Format) (at rounded : ℕ) : Type 0 where
  pub sum : rounded + rounded_among (walk book n file at).commands ≡ all_of book file
  pub few : rounded ≤ at

pub counted_start : (book : Book) (file : List ℕ) → Counted book file no_format 0 0
counted_start book file = record { sum = omega arith; few = omega arith }

module _ (book : Book) (file : List ℕ) (n : Format) (at rounded : ℕ) (k : Counted book file n at rounded) where
  -- M02 has no decimals
  pub counted_last : {c : Placed} {next : ℕ} → turn_of book n file at ≡ turn.Last c next → c.command ≡ End → rounded ≡ all_of book file
  unfolding rounded_among rounded_of
  counted_last {c} e q =
      let s : rounded + (rounded_of c.command + 0) ≡ all_of book file = rw (walk_last book n file at e) at k.sum in
      let z : rounded_of c.command ≡ 0 = ap rounded_of q in
      omega (arith, s, z)

  pub counted_more : {c : Placed} {m : Format} {next : ℕ} → at ≤ length file → turn_of book n file at ≡ turn.More c m next → at + rounded_of c.command ≤ next →
      Counted book file m next (rounded + rounded_of c.command)
  unfolding rounded_among
  counted_more {c} {m} {next} h e l =
      let s : rounded + (rounded_of c.command + rounded_among (walk book m file next).commands) ≡ all_of book file = rw (walk_more book n file at h e) at k.sum in
      record { sum = omega (arith, s); few = omega (arith, k.few, l) }

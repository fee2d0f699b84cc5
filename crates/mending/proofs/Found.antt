-- The next complete command as a part of the file, and the cut after it.
-- Assumes nothing.
use Rattle.std.specs.Prelude.{None, Option, Some}
use Prim.Native.Nat.{ℕ, suc, ◌+◌, ◌-◌, ◌≤◌}
use mathlib.Core.Path.{◌≡◌, refl, sym, ap, ◌∙◌}
use mathlib.Core.List.{List, [], ◌∷◌, ◌++◌, append_assoc}
use native.Mathlib.Omega.{arith}
use lib.Dec.{eqb}
use lib.ListN.{length, drop, length-append, length-drop}
use lib.Seq.{slice, drop-drop, take-append_seam, drop-append_seam}
use Rattle.base.proofs.Lists.{slice_take}
use Rattle.text.specs.First.{first_in, place}
use Rattle.mending.specs.declared.Extent.{Extent}
use Rattle.mending.specs.Extents.{Site, between, inside, closes, mark, Piece, piece, pieces, extent_of, extent}
use Rattle.mending.proofs.Told.{Breaks, Whole, ended, goes, First, first_told}

-- a command has a byte
pub whole_some : {w : Site} {c : List ℕ} → Whole w c → 1 ≤ length c
whole_some (ended e f) = omega arith
whole_some (goes e f r) = omega arith

-- where a list stands in a file, by what stands from its place on
part_at : (file : List ℕ) (at : ℕ) (a b : List ℕ) → drop at file ≡ a ++ b → a ≡ slice at (at + length a) file
part_at file at a b e =
    let n : at + length a - at ≡ length a = omega arith in
    sym (slice_take at (at + length a) file ∙ rw (n, e) (take-append_seam a b))

behind_at : (file : List ℕ) (at : ℕ) (a b : List ℕ) → drop at file ≡ a ++ b → drop (at + length a) file ≡ b
behind_at file at a b e = sym (drop-drop (length a) at file) ∙ rw e (drop-append_seam a b)

pub record Found (file : List ℕ) (at : ℕ) (gap c : List ℕ) (ps : List Piece) : Type 0 where
  pub breaks : Breaks between gap
  pub whole : Whole between c
  pub before : gap ≡ slice at (at + length gap) file
  pub command : c ≡ slice (at + length gap) (at + length gap + length c) file
  pub behind : drop (at + length gap) file ≡ c ++ drop (at + length gap + length c) file
  pub others : pieces (drop (at + length gap + length c) file) ≡ ps
  pub some : 1 ≤ length c
  pub inside : at + length gap + length c ≤ length file

module _ (file : List ℕ) (at : ℕ) (gap c : List ℕ) (ps : List Piece) (e : pieces (drop at file) ≡ piece gap c ∷ ps) where
  first : First between (drop at file) gap c ps
  first = first_told between (drop at file) gap c ps e

  left : List ℕ
  left = drop (length gap + length c) (drop at file)

  rest_of : drop at file ≡ gap ++ (c ++ left)
  unfolding left
  rest_of = first.bytes ∙ append_assoc gap c (drop (length gap + length c) (drop at file))

  behind_gap : drop (at + length gap) file ≡ c ++ left
  behind_gap = behind_at file at gap (c ++ left) rest_of

  behind_command : drop (at + length gap + length c) file ≡ left
  behind_command = behind_at file (at + length gap) c left behind_gap

  size : length (drop at file) ≡ length gap + (length c + length left)
  size = ap length rest_of ∙ length-append gap (c ++ left) ∙ ap (λ (k : ℕ). length gap + k) (length-append c left)

  pub found : Found file at gap c ps
  unfolding left
  found = record {
    breaks = first.breaks;
    whole = first.whole;
    before = part_at file at gap (c ++ left) rest_of;
    command = part_at file (at + length gap) c left behind_gap;
    behind = behind_gap ∙ ap (λ (s : List ℕ). c ++ s) (sym behind_command);
    others = ap pieces behind_command ∙ first.others;
    some = whole_some first.whole;
    inside = omega (arith, size, length-drop at file, whole_some first.whole);
  }

-- where `extent_at` answers, the cut is known
pub none_cut : (at : ℕ) (ps : List Piece) → None ≡ extent_of at ps → ps ≡ []
unfolding extent_of
none_cut at [] e = refl
none_cut at (piece gap c ∷ ps) e = absurd (let z : ◌≡◌ {A = ℕ} 0 1 = cc in omega arith)

pub record Cuts (file : List ℕ) (at start next : ℕ) : Type 0 where
  pub cut_there : pieces (drop at file) ≡ piece (slice at start file) (slice start next file) ∷ pieces (drop next file)
  pub start_so : at + length (slice at start file) ≡ start
  pub next_so : at + length (slice at start file) + length (slice start next file) ≡ next
  pub low : at ≤ start
  pub some : start + 1 ≤ next
  pub inside : next ≤ length file

-- an extent, where there is one
abbrev read : Option Extent → Extent
read None = record { place = 0; next = 0 }
read (Some e) = e

pub command_cut : (file : List ℕ) (at start next : ℕ) → extent start next ≡ extent_of at (pieces (drop at file)) → Cuts file at start next
unfolding extent_of
command_cut file at start next e = go (pieces (drop at file)) refl e
  where
    go : (ps : List Piece) → pieces (drop at file) ≡ ps → extent start next ≡ extent_of at ps → Cuts file at start next
    go [] p e = absurd (let z : ◌≡◌ {A = ℕ} 0 1 = cc in omega arith)
    go (piece gap c ∷ ps) p e =
        let f = found file at gap c ps p in
        let s : start ≡ at + length gap = ap (λ (o : Option Extent). (read o).place) e in
        let n : next ≡ at + length gap + length c = ap (λ (o : Option Extent). (read o).next) e in
        rw (s, n) (record {
          cut_there = rw (← f.before, ← f.command, f.others) p;
          start_so = rw (← f.before) refl;
          next_so = rw (← f.before, ← f.command) refl;
          low = omega arith;
          some = omega (arith, f.some);
          inside = f.inside;
        })

-- a command that m ends is ended by the first m
whole_closes : {m : ℕ} {c : List ℕ} → Whole (inside m) c → (s : List ℕ) (at : ℕ) → first_in (λ b. eqb b m) (c ++ s) at + 1 ≡ at + length c
unfolding closes mark first_in
whole_closes (ended e f) s at = rw (first_in, f) refl
whole_closes (goes e f r) s at = rw (first_in, f) (whole_closes r s (at + 1) ∙ omega arith)

-- an extended command by its next `%`
extended_closes : {c : List ℕ} → Whole between (37 ∷ c) → (s : List ℕ) (at : ℕ) → first_in (λ b. eqb b 37) (c ++ s) (at + 1) + 1 ≡ at + length (37 ∷ c)
unfolding closes mark
extended_closes (ended e f) s at = absurd (let z : ◌≡◌ {A = ℕ} 0 1 = cc in omega arith)
extended_closes (goes e f r) s at = whole_closes r s (at + 1) ∙ omega arith

pub percent_closes : (file : List ℕ) (at : ℕ) (c : List ℕ) → Whole between (37 ∷ c) → drop at file ≡ 37 ∷ c ++ drop (at + suc (length c)) file →
    place 37 file (at + 1) + 1 ≡ at + suc (length c)
percent_closes file at c w e =
    rw (← drop-drop 1 at file, e) (extended_closes w (drop (at + suc (length c)) file) at)

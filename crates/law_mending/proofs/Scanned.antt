-- What the scanner finds is a complete command by extent: it begins after the line ends, and its text stands between the same places.
-- Assumes nothing.
use Prim.Native.Nat.{ℕ, ◌+◌, ◌-◌, ◌<◌, ◌≤◌}
use mathlib.Core.Path.{◌≡◌, refl, sym, ap, ◌∙◌}
use mathlib.Core.Bool.{Bool, true, false}
use mathlib.Core.List.{List, [], ◌∷◌}
use native.Mathlib.Omega.{arith}
use lib.Dec.{eqb, ltb, leb}
use lib.ListN.{length, drop, take, get_or}
use lib.Seq.{slice, drop-drop, length-slice}
use borrow.Author.Tests.{leb-false, eqb-true, eq-eqb}
use Rattle.book.specs.declared.Book.{Book}
use Rattle.base.specs.Bytes.{same_bytes}
use Rattle.base.proofs.Lists.{drop_next, part_of_part}
use Rattle.text.specs.First.{first_in, skipped}
use Rattle.text.proofs.First.{in_from}
use Rattle.scan.specs.Scan.{kind_of, text_from, end_of, ends, cut_by, command_in, next_command}
use Rattle.scan.specs.declared.Kind.{Kind}
use Rattle.scan.specs.declared.Kind.TheVariants.{Word, Extended, Macro}
use Rattle.scan.specs.declared.Scan.TheVariants as scan
use Rattle.mending.specs.Extents.{pieces, extent_of, extent}
use Rattle.mending.proofs.Next.{extended_found, word_found}
use Rattle.mending.proofs.Found.{Cuts, command_cut}

-- what a cut that is a command says
pub record Scanned (file : List ℕ) (at : ℕ) (kind : Kind) (start from end next : ℕ) : Type 0 where
  pub kind_is : kind_of (drop start file) ≡ kind
  pub start_is : start ≡ skipped file at
  pub from_is : from ≡ text_from kind start
  pub end_is : end ≡ first_in (ends kind) (drop (text_from kind 0) (drop start file)) (text_from kind start)
  pub next_is : next ≡ end + 1
  pub inside : end < length file

cut_tells : (kind : Kind) (n start end bad : ℕ) (k : Kind) (p f e next : ℕ) → cut_by kind n start end bad ≡ scan.Command k p f e next →
    (end < n) × (scan.Command kind start (text_from kind start) end (end + 1) ≡ scan.Command k p f e next)
unfolding cut_by
cut_tells kind n start end bad k p f e next q = go (ltb bad end) refl (leb n end) refl
  where
    go : (t : Bool) → ltb bad end ≡ t → (u : Bool) → leb n end ≡ u → (end < n) × (scan.Command kind start (text_from kind start) end (end + 1) ≡ scan.Command k p f e next)
    go true a u b = absurd (let x : scan.BadByte bad ≡ scan.Command k p f e next = rw a at q in let z : ◌≡◌ {A = ℕ} 0 1 = cc in omega arith)
    go false a true b = absurd (let x : scan.Ended n ≡ scan.Command k p f e next = rw (a, b) at q in let z : ◌≡◌ {A = ℕ} 0 1 = cc in omega arith)
    go false a false b = (leb-false n end b, rw (a, b) at q)

pub scanned : (book : Book) (file : List ℕ) (at : ℕ) {kind : Kind} {start from end next : ℕ} → next_command book file at ≡ scan.Command kind start from end next →
    Scanned file at kind start from end next
unfolding next_command command_in
scanned book file at {kind} {start} {from} {end} {next} q =
    let p : ℕ = skipped file at in
    let k : Kind = kind_of (drop p file) in
    let e : ℕ = first_in (ends k) (drop (text_from k 0) (drop p file)) (text_from k p) in
    let c = cut_tells k (length file) p e _ kind start from end next q in
    let x : k ≡ kind = ap kind_in c.1 in
    let y : p ≡ start = ap start_in c.1 in
    let z : e ≡ end = ap end_in c.1 in
    record {
      kind_is = ap (λ (n : ℕ). kind_of (drop n file)) (sym y) ∙ x;
      start_is = sym y;
      from_is = sym (ap from_in c.1) ∙ (λ i. text_from (x i) (y i));
      end_is = sym z ∙ (λ i. first_in (ends (x i)) (drop (text_from (x i) 0) (drop (y i) file)) (text_from (x i) (y i)));
      next_is = sym (ap next_in c.1) ∙ ap (λ (n : ℕ). n + 1) z;
      inside = rw z at c.0;
    }
  where
    kind_in : scan.the_data → Kind
    kind_in (scan.Command k p f e n) = k
    kind_in (scan.BadByte p) = Word
    kind_in (scan.Ended p) = Word

    start_in : scan.the_data → ℕ
    start_in (scan.Command k p f e n) = p
    start_in (scan.BadByte p) = 0
    start_in (scan.Ended p) = 0

    from_in : scan.the_data → ℕ
    from_in (scan.Command k p f e n) = f
    from_in (scan.BadByte p) = 0
    from_in (scan.Ended p) = 0

    end_in : scan.the_data → ℕ
    end_in (scan.Command k p f e n) = e
    end_in (scan.BadByte p) = 0
    end_in (scan.Ended p) = 0

    next_in : scan.the_data → ℕ
    next_in (scan.Command k p f e n) = n
    next_in (scan.BadByte p) = 0
    next_in (scan.Ended p) = 0

-- a command is an extended one where it begins with `%`
not_word : (b : ℕ) (s : List ℕ) → eqb b 37 ≡ true → kind_of (b ∷ s) ≡ Word → ⊥
unfolding kind_of same_bytes
not_word b s e = rw (eqb-true b 37 e) (go (same_bytes (take 2 s) (65 ∷ 77 ∷ [])) refl)
  where
    go : (t : Bool) → same_bytes (take 2 s) (65 ∷ 77 ∷ []) ≡ t → kind_of (37 ∷ s) ≡ Word → ⊥
    go true q w = let m : Macro ≡ Word = rw q at w in let z : ◌≡◌ {A = ℕ} 0 1 = cc in omega arith
    go false q w = let m : Extended ≡ Word = rw q at w in let z : ◌≡◌ {A = ℕ} 0 1 = cc in omega arith

pub is_word : (b : ℕ) (s : List ℕ) → eqb b 37 ≡ false → kind_of (b ∷ s) ≡ Word
unfolding kind_of same_bytes
is_word b s e = rw (same_bytes, e) refl

module _ {file : List ℕ} {at : ℕ} {kind : Kind} {start from end next : ℕ} (s : Scanned file at kind start from end next) where
  -- the text begins after the command's first place, and before its end
  from_start : start ≤ text_from kind start
  unfolding text_from
  from_start = go kind
    where
      go : (k : Kind) → start ≤ text_from k start
      go Word = omega arith
      go Extended = omega arith
      go Macro = omega arith

  from_end : text_from kind start ≤ end
  from_end = rw s.end_is (in_from (ends kind) (drop (text_from kind 0) (drop start file)) (text_from kind start)).0

  pub start_end : start ≤ end
  start_end = omega (arith, from_start, from_end)

  pub start_inside : start < length file
  start_inside = omega (arith, from_start, from_end, s.inside)

  pub first_byte : drop start file ≡ get_or file start 0 ∷ drop (start + 1) file
  first_byte = drop_next file start start_inside

  pub kind_of_first : kind_of (get_or file start 0 ∷ drop (start + 1) file) ≡ kind
  kind_of_first = ap kind_of (sym first_byte) ∙ s.kind_is

percent_first : (file : List ℕ) (at : ℕ) (kind : Kind) (start from end next : ℕ) → Scanned file at kind start from end next → (kind ≡ Word → ⊥) → get_or file start 0 ≡ 37
percent_first file at kind start from end next s h = go (eqb (get_or file start 0) 37) refl
  where
    go : (t : Bool) → eqb (get_or file start 0) 37 ≡ t → get_or file start 0 ≡ 37
    go true q = eqb-true (get_or file start 0) 37 q
    go false q = absurd (h (sym (kind_of_first s) ∙ is_word (get_or file start 0) (drop (start + 1) file) q))

from_by : (kind : Kind) (start : ℕ) → text_from kind start ≡ start + text_from kind 0
unfolding text_from
from_by Word start = omega arith
from_by Extended start = omega arith
from_by Macro start = omega arith

-- by extent it is the next complete command
found_so : (file : List ℕ) (at : ℕ) (kind : Kind) (start from end next : ℕ) → Scanned file at kind start from end next → extent start (end + 1) ≡ extent_of at (pieces (drop at file))
unfolding text_from end_of
found_so file at Word start from end next s =
    word_found file at s.start_is (start_inside s) (λ q. not_word (get_or file start 0) (drop (start + 1) file) (eq-eqb (get_or file start 0) 37 q) (kind_of_first s)) s.end_is s.inside
found_so file at Extended start from end next s =
    extended_found file at s.start_is (start_inside s) (percent_first file at Extended start from end next s (λ q. let z : ◌≡◌ {A = ℕ} 0 1 = cc in omega arith)) (s.end_is ∙ ap (λ (l : List ℕ). first_in (λ b. eqb b 37) l (start + 1)) (drop-drop 1 start file)) s.inside
found_so file at Macro start from end next s =
    extended_found file at s.start_is (start_inside s) (percent_first file at Macro start from end next s (λ q. let z : ◌≡◌ {A = ℕ} 0 1 = cc in omega arith)) (s.end_is ∙ ap (λ (l : List ℕ). first_in (λ b. eqb b 37) l (start + 1)) (drop-drop 1 start file)) s.inside

pub cuts_so : {file : List ℕ} {at : ℕ} {kind : Kind} {start from end next : ℕ} → Scanned file at kind start from end next → Cuts file at start next
cuts_so {file} {at} {kind} {start} {from} {end} {next} s = rw s.next_is (command_cut file at start (end + 1) (found_so file at kind start from end next s))

-- its text is that of its bytes, without the last and, but for a word command, the first
pub text_so : {file : List ℕ} {at : ℕ} {kind : Kind} {start from end next : ℕ} → Scanned file at kind start from end next →
    slice from end file ≡ slice (text_from kind 0) (length (slice start next file) - 1) (slice start next file)
text_so {file} {at} {kind} {start} {from} {end} {next} s =
    let low : start ≤ end = omega (arith, from_start s, from_end s) in
    let n : length (slice start next file) ≡ next - start = length-slice start next file (omega (arith, s.next_is, s.inside)) in
    let j : length (slice start next file) - 1 ≡ end - start = omega (arith, n, s.next_is) in
    let e : start + (end - start) ≡ end = omega arith in
    let f : start + text_from kind 0 ≡ from = sym (from_by kind start) ∙ sym s.from_is in
    sym (rw (j, part_of_part (text_from kind 0) (end - start) start next file (omega (arith, s.next_is)), e, f) refl)

-- In a command of which no field comes any more, a byte from 32 to 126 that does not end it changes nothing but the last byte. So the
-- walk goes on from after such bytes as from before them.
-- Assumes nothing.
use Prim.Native.Nat.{ℕ, zero, suc, ◌+◌, ◌-◌, ◌<◌, ◌≤◌}
use mathlib.Core.Path.{◌≡◌, refl, ap, sym, ◌∙◌}
use mathlib.Core.Bool.{Bool, true, false}
use mathlib.Core.List.{List}
use native.Mathlib.Omega.{arith}
use lib.Dec.{ltb}
use lib.ListN.{length, get_or}
use borrow.Author.Tests.{ltb-true, ltb-false}
use Rattle.text.proofs.First.{first_at_lem, first_end, first_to}
use Rattle.fields.specs.Parts.{part_after, opens_macro}
use Rattle.fields.specs.declared.Part.TheVariants.{Over}
use Rattle.letters.specs.Table.{is_whole}
use Rattle.scan.specs.Leaps.{walked}
use Rattle.scan.specs.Printable.{stops, printable_to}
use Rattle.scan.specs.Scan.{end_of}
use Rattle.scan.specs.Ways.{idle, kind_after, moved, within, inside, step}
use Rattle.scan.specs.declared.Kind.{Kind}
use Rattle.book.specs.declared.Book.{Book}
use Rattle.scan.specs.declared.Scan.{Scan}
use Rattle.scan.specs.declared.Stand.{Stand}
use Rattle.scan.specs.declared.Way.TheVariants.{Inside}
use Rattle.scan.proofs.Printable.{not_stopped, printable_may}
use Rattle.scan.proofs.Run.{at_inside}

-- one byte
printable_step : (book : Book) (s : Stand) (b at : ℕ) → is_whole s.follow ≡ true → s.part ≡ Over → stops (end_of s.kind) b ≡ false →
    step book (Inside s) b at ≡ Inside (idle s.kind Over b)
unfolding step inside within moved idle kind_after opens_macro part_after
printable_step book s b at w p e =
    let n = not_stopped (end_of s.kind) b e in
    rw (w, n.0, printable_may s.kind s.last b n.1, p, n.1)

-- it goes on from a place: there is a byte, which does not stop it
module _ (end : ℕ) (file : List ℕ) (i : ℕ) {to : ℕ} (q : printable_to end file i ≡ to) (h : i < to) where
  goes_on_lem : (i < length file) × (stops end (get_or file i 0) ≡ false)
  goes_on_lem = by_length (ltb i (length file)) refl
    where
      by_stop : i < length file → (t : Bool) → stops end (get_or file i 0) ≡ t → stops end (get_or file i 0) ≡ false
      by_stop l true e = absurd (let z = first_at_lem (stops end) file i l e in omega arith)
      by_stop l false e = e

      by_length : (t : Bool) → ltb i (length file) ≡ t → (i < length file) × (stops end (get_or file i 0) ≡ false)
      by_length true e = let l = ltb-true i (length file) e in (l, by_stop l (stops end (get_or file i 0)) refl)
      by_length false e = absurd (let z = first_end (stops end) file i (ltb-false i (length file) e) in omega arith)

  next : printable_to end file (i + 1) ≡ to
  next = sym (first_at_lem (stops end) file i goes_on_lem.0 goes_on_lem.1) ∙ q

module _ (book : Book) (file : List ℕ) (place : ℕ) where
  -- the walk after the byte at i
  abbrev behind : Kind → ℕ → Scan
  behind kind i = walked book file place (idle kind Over (get_or file i 0)) (i + 1)

  one : (s : Stand) → is_whole s.follow ≡ true → s.part ≡ Over → (i : ℕ) → (i < length file) × (stops (end_of s.kind) (get_or file i 0) ≡ false) →
      behind s.kind i ≡ walked book file place s i
  one s w p i g = sym (at_inside book file place (Inside s) i g.0 (printable_step book s (get_or file i 0) i w p g.1))

  more : (kind : Kind) (n i to : ℕ) → i + 1 + n ≡ to → printable_to (end_of kind) file (i + 1) ≡ to → behind kind (to - 1) ≡ behind kind i
  unfolding idle
  more kind zero i to h q = let back : to - 1 ≡ i = omega arith in ap (behind kind) back
  more kind (suc n) i to h q =
      more kind n (i + 1) to (omega arith) (next (end_of kind) file (i + 1) q (omega arith))
      ∙ one (idle kind Over (get_or file i 0)) refl refl (i + 1) (goes_on_lem (end_of kind) file (i + 1) q (omega arith))

  pub leap_same : (s : Stand) → is_whole s.follow ≡ true → s.part ≡ Over → (at to : ℕ) → printable_to (end_of s.kind) file at ≡ to → at < to →
      walked book file place (idle s.kind Over (get_or file (to - 1) 0)) to ≡ walked book file place s at
  leap_same s w p at to q h =
      let back : to ≡ to - 1 + 1 = omega arith in
      ap (walked book file place (idle s.kind Over (get_or file (to - 1) 0))) back
      ∙ more s.kind (to - (at + 1)) at to (omega arith) (next (end_of s.kind) file at q h)
      ∙ one s w p at (goes_on_lem (end_of s.kind) file at q h)

-- where it goes on at all, it stops inside the file or at its end
pub leap_inside : (end : ℕ) (file : List ℕ) (at to : ℕ) → printable_to end file at ≡ to → at < to → to ≤ length file
leap_inside end file at to q h =
    let l = (goes_on_lem end file at q h).0 in
    let k = first_to (stops end) file at (omega arith) in
    omega arith

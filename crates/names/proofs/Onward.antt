-- What the reading of a file needs of the names, command by command: at a TF, whether its name was set before; after any command that is no
-- fault, what is known of the names set by then.
-- Assumes nothing.
use Rattle.std.specs.Prelude.{None, Some}
use Prim.Native.Nat.{ℕ, ◌+◌, ◌-◌, ◌≤◌}
use mathlib.Core.Path.{◌≡◌, refl, sym, ap, ◌∙◌}
use mathlib.Core.Bool.{false, not}
use mathlib.Core.List.{List, ◌∷◌}
use native.Mathlib.Omega.{arith}
use lib.Dec.{eqb}
use lib.ListN.{length}
use lib.Seq.{slice, length-slice}
use Rattle.base.proofs.Lists.{part_of_part}
use Rattle.scan.specs.Scan.{next_command}
use Rattle.book.specs.declared.Book.{Book}
use Rattle.scan.specs.declared.Scan.{Scan}
use Rattle.scan.specs.declared.Scan.TheVariants as scan
use Rattle.scan.proofs.Within.{Within, next_within}
use Rattle.command.specs.declared.Span.{Span}
use Rattle.formats.specs.declared.Format.{Format}
use Rattle.recognise.specs.Commands.{command_of}
use Rattle.law_bounds.proofs.Bounds.{bounded}
use Rattle.sequence.specs.Leads.{lead_of}
use Rattle.sequence.specs.Turns.{led, turned, turn_of}
use Rattle.sequence.specs.declared.Lead.{Lead}
use Rattle.sequence.specs.declared.Lead.TheVariants as lead
use Rattle.sequence.specs.declared.Placed.{Placed}
use Rattle.sequence.specs.declared.Turn.TheVariants as turn
use Rattle.law_reading.specs.Apertures.{is_among}
use Rattle.names.specs.Sets.{sets_of}
use Rattle.names.specs.Twice.{seen, looked, look_at, twice_at, first_at}
use Rattle.names.specs.declared.Look.TheVariants.{Naming}
use Rattle.names.proofs.Nameless.{sets_any}
use Rattle.names.proofs.Inside.{Inside, sets_inside}
use Rattle.names.proofs.Known.{Known, known_other, known_naming, by_walk, by_look_lem}

-- the look sees what the turn does, and a name lies in the command's text
pub record Same (book : Book) (file : List ℕ) (at next : ℕ) (c : Placed) : Type 0 where
  pub look : look_at book file at ≡ seen c.place c.from next (sets_of c.command)
  pub ordered : c.from ≤ c.end
  pub inside : Inside (c.end - c.from) (sets_of c.command)

module _ (book : Book) (f : Format) (file : List ℕ) (at : ℕ) where
  more_command : (f : Format) (c d : Placed) (way : Lead) (g : Format) (next to : ℕ) → led f c way to ≡ turn.More d g next → (c ≡ d) × (to ≡ next)
  unfolding led
  more_command f c d (lead.Broken number) g next to e = let z : ◌≡◌ {A = ℕ} 0 1 = cc in absurd (omega arith)
  more_command f c d lead.Last g next to e = let z : ◌≡◌ {A = ℕ} 0 1 = cc in absurd (omega arith)
  more_command f c d (lead.Format h) g next to e = (cc, cc)
  more_command f c d lead.Other g next to e = (cc, cc)

  same_scan : (c : Placed) (g : Format) (next : ℕ) (s : Scan) → next_command book file at ≡ s → Within (length file) at s → turned book f file s ≡ turn.More c g next → Same book file at next c
  unfolding turned look_at looked
  same_scan c g next (scan.Command k place from end to) q (h, i, j, p, l) e =
      let t : List ℕ = slice from end file in
      let d : Placed = record { place = place; from = from; end = end; command = command_of book f k t } in
      let same = more_command f d c (lead_of (command_of book f k t)) g next to e in
      let long : length t ≡ end - from = length-slice from end file (omega arith) in
      let here : Same book file at to d = record {
        look = ap (looked book file) q ∙ ap (seen place from to) (sym (sets_any book f k t));
        ordered = j;
        inside = rw long at (sets_inside t (command_of book f k t) (bounded book f k t));
      } in
      rw (same.0, same.1) at here
  same_scan c g next (scan.BadByte place) q w e = let z : ◌≡◌ {A = ℕ} 0 1 = cc in absurd (omega arith)
  same_scan c g next (scan.Ended place) q w e = let z : ◌≡◌ {A = ℕ} 0 1 = cc in absurd (omega arith)

  module _ {c : Placed} {g : Format} {next : ℕ} (h : at ≤ length file) (e : turn_of book f file at ≡ turn.More c g next) where
    same : Same book file at next c
    unfolding turn_of
    same = same_scan c g next (next_command book file at) refl (next_within book file at h) e

    module _ (names : List (List ℕ)) (k : Known book file at names) where
      -- a command that sets no name
      pub known_past : sets_of c.command ≡ None → Known book file next names
      unfolding seen
      known_past q = known_other book file at names h k (rw q at same.look)

      -- one that sets this name
      module _ {name : Span} (q : sets_of c.command ≡ Some name) where
        abbrev part : List ℕ
        part = slice name.from name.to (slice c.from c.end file)

        look : look_at book file at ≡ Naming c.place (c.from + name.from) (c.from + name.to) next
        unfolding seen
        look = rw q at same.look

        here_is : slice (c.from + name.from) (c.from + name.to) file ≡ part
        here_is =
            let i : Inside (c.end - c.from) (Some name) = rw q at same.inside in
            sym (part_of_part name.from name.to c.from c.end file (omega (arith, i.1, same.ordered)))

        pub known_set : is_among part names ≡ false → Known book file next (part ∷ names)
        known_set a = rw here_is at (known_naming book file at names h k look (rw here_is a))

        pub by_first : eqb (first_at book file part) c.place ≡ not (is_among part names)
        by_first = rw here_is at (by_walk book file at names h k look)

        pub by_twice : eqb c.place (twice_at book file) ≡ is_among part names
        by_twice = rw here_is at (by_look_lem book file at names h k look)

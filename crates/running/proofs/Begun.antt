-- Over rooms of zeros, nothing is known before the first command.
-- Assumes nothing.
use Rattle.book.specs.declared.Book.{Book}
use mathlib.Core.Path.{refl}
use mathlib.Core.Bool.{false≢true}
use native.Mathlib.Nat.{sub-zero}
use native.Mathlib.Omega.{arith}
use lib.ListN.{length}
use Rattle.base.specs.Run.{run}
use Rattle.index.proofs.More.{numbered_none, named_none}
use Rattle.place.specs.Mark.{written}
use Rattle.graphics.specs.Graphics as graphics
use Rattle.graphics.specs.Graphics.{origin, unset, no_aperture, no_region}
use Rattle.operation_rules.specs.Counts.{counted}
use Rattle.build.proofs.Clearing.{zeros_read}
use Rattle.law_built_store.proofs.Ends.{starts}
use Rattle.law_reading.specs.State.{outermost, begun}
use Rattle.progress.specs.Lent.{Lent}
use Rattle.progress.specs.Levels.{level_at, level_of}
use Rattle.progress.specs.Around.{Around}
use Rattle.progress.specs.Knows.{Knows}
use Rattle.running.specs.Ends.{start, Empty}

pub knows_start : (book : Book) (w : Lent) → Empty w → Knows w (start book) (begun book)
unfolding start begun outermost graphics.start origin unset no_aperture no_region level_of level_at counted Around run written
knows_start book w z = record {
  graphics = refl;
  point = record { across = omega arith; up = omega arith };
  mode = omega arith;
  inside = λ q. absurd (false≢true q);
  aperture = record {
    unset = λ q. refl;
    known = λ q. absurd (false≢true q);
    is = λ q. absurd (false≢true q);
  };
  level = refl;
  counts = record { within = omega arith; before = omega arith; some = omega arith };
  around = (refl, refl, refl);
  apertures = record {
    indexed = numbered_none w.apertures;
    records = refl;
    few = λ i l. absurd (omega arith);
    low = λ i l. absurd (omega arith);
    unused = λ k l. rw z.apertures (zeros_read 0 (length w.apertures) k);
  };
  macros = record {
    indexed = named_none w.file w.macros;
    records = refl;
    ordered = λ i l. absurd (omega arith);
    inside = λ i l. absurd (omega arith);
    unused = λ k l. rw z.macros (zeros_read 0 (length w.macros) k);
  };
  numbers = record { long = refl; fits = omega arith; is = rw (sub-zero (length w.numbers)) z.numbers };
  entries = refl;
  shows = starts w.entries w.apertures;
  contour = λ q. absurd (false≢true q);
}

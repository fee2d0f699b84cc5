-- The outcome of a leap over bytes of a command: the walk goes on after it as before it.
use Rattle.std.specs.Prelude.{ℕ, ◌≤◌, ◌≡◌, List, length, drop}
use Rattle.scan.specs.Ways.{run}
use Rattle.scan.specs.declared.Landed.{Landed}
use Rattle.book.specs.declared.Book.{Book}
use Rattle.scan.specs.declared.Scan.{Scan}
use Rattle.scan.specs.declared.Stand.{Stand}
use Rattle.scan.specs.declared.Way.TheVariants.{Inside}

-- the outcome of the walk, from inside a command on
abbrev pub walked : Book → List ℕ → ℕ → Stand → ℕ → Scan
walked book file place s at = run book (length file) place (Inside s) (drop at file) at

pub record Leaps (file : List ℕ) (s : Stand) (at : ℕ) (r : Landed) : Type 0 where
  pub on : at ≤ r.at
  pub same : (book : Book) (place : ℕ) → walked book file place r.stand r.at ≡ walked book file place s at

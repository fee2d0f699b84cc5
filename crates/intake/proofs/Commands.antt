-- A command taken byte by byte ends as the scanner's walk says of it: complete, at a byte that is not permitted, or with the file.
-- Assumes nothing.
use Rattle.std.proofs.Common.{◌≡◌, ℕ, zero, suc, ◌+◌, ◌^◌, ◌<◌, ◌≤◌, Bool, true, false, cond, ltb, List, length, get_or, drop, sym, refl, ap, ◌∙◌, arith, ltb-false, ltb-true}
use Rattle.base.specs.Breaks.{is_break}
use Rattle.letters.specs.Table.{is_whole}
use Rattle.scan.specs.Scan.{next_command, number_of, place_of}
use Rattle.scan.specs.Ways as ways
use Rattle.scan.specs.Ways.{step, ended}
use Rattle.book.specs.declared.Book.{Book}
use Rattle.scan.specs.declared.Scan.{Scan}
use Rattle.scan.specs.declared.Scan.TheVariants.{Command, BadByte, Ended}
use Rattle.scan.specs.declared.Stand.{Stand}
use Rattle.scan.specs.declared.Way.{Way}
use Rattle.scan.specs.declared.Way.TheVariants.{Between, Inside, Complete, Bad}
use Rattle.scan.proofs.Between.{inside_goes, opening_goes}
use Rattle.scan.proofs.Run as runs
use Rattle.scan.proofs.Walk.{walk}
use Rattle.signature.specs.declared.Answer.{Answer}
use Rattle.signature.specs.Form.{is_end}
use Rattle.signature.specs.Signature.{refused, bare}
use Rattle.intake.specs.declared.Piece.{Piece}
use Rattle.intake.specs.declared.Stage.{Stage}
use Rattle.intake.specs.declared.Stage.TheVariants.{Cut}
use Rattle.intake.specs.Stages.{settled, stage_after, opens, begins, stopped}
use Rattle.intake.specs.Runs.{taken, answered}
use Rattle.intake.proofs.Stands.{along, between, goes, starts, skips}
use Rattle.intake.proofs.Steps.{taken_end, taken_next, bad_stays}

module _ (book : Book) (file : List ℕ) (short : length file < 2 ^ 64) (from at : ℕ) where
  abbrev byte : ℕ → ℕ
  byte i = get_or file i 0

  -- the answer from here on
  abbrev pub run : Stage → ℕ → ℕ → Answer
  run stage place i = answered (taken (along book file stage from at place i) (drop i file))

  -- and its outcome, by what the scanner says of the command
  abbrev pub outcome : Scan → Answer
  outcome (Command kind place text end next) = run (settled (Complete kind) (is_end book (bare file place next))) place next
  outcome (BadByte place) = refused 2 place
  outcome (Ended place) = refused 3 place

  abbrev walked : ℕ → Way → ℕ → Scan
  walked place way i = ways.run book (length file) place way (drop i file) i

  -- the file ends
  at_end_lem : (way : Way) → stopped (ended (length file) way) ≡ outcome (ended (length file) way)
  unfolding ended stopped number_of place_of
  at_end_lem Between = refl
  at_end_lem (Inside s) = go (is_whole s.follow)
    where
      go : (t : Bool) → stopped (cond t (Ended (length file)) (BadByte s.lead)) ≡ outcome (cond t (Ended (length file)) (BadByte s.lead))
      go true = refl
      go false = refl
  at_end_lem (Complete kind) = refl
  at_end_lem (Bad place) = refl

  ends_here : (place : ℕ) (way : Way) (i : ℕ) → length file ≤ i → i ≤ length file → stopped (ended i way) ≡ outcome (walked place way i)
  ends_here place way i h k =
      let e : i ≡ length file = omega arith in
      ap (λ n. stopped (ended n way)) e ∙ at_end_lem way ∙ ap outcome (sym (runs.at_end_lem book file place way i h))

  -- inside a command
  abbrev Inner : ℕ → Type 0
  Inner i = (s : Stand) (place : ℕ) → place ≤ i → run (Cut (Inside s)) place i ≡ outcome (walked place (Inside s) i)

  -- with the byte at i taken, of a command that begins at `place`
  with_byte : (i : ℕ) → i < length file → (way : Way) (place : ℕ) → place ≤ i → (step book way (byte i) i ≡ Between → ⊥) → Inner (i + 1) →
      run (settled (step book way (byte i) i) (is_end book (bare file place (i + 1)))) place (i + 1) ≡ outcome (walked place way i)
  unfolding settled
  with_byte i h way place l out rest = go (step book way (byte i) i) refl
    where
      go : (next : Way) → step book way (byte i) i ≡ next → run (settled (step book way (byte i) i) (is_end book (bare file place (i + 1)))) place (i + 1) ≡ outcome (walked place way i)
      go Between e = absurd (out e)
      go (Inside s) e = rw (e, runs.at_inside book file place way i h e) (rest s place (omega arith))
      go (Complete kind) e = rw (e, runs.at_complete book file place way i h e)
      go (Bad bad) e = rw (e, runs.at_bad book file place way i h e) (bad_stays (drop (i + 1) file) (along book file (Cut (Bad bad)) from at place (i + 1)) refl)

  inner_end : (i : ℕ) → length file ≤ i → i ≤ length file → Inner i
  unfolding answered
  inner_end i h k s place l = rw (taken_end (along book file (Cut (Inside s)) from at place i) file i h) (ends_here place (Inside s) i h k)

  inner_next : (i : ℕ) → i < length file → Inner (i + 1) → Inner i
  unfolding begins opens stage_after
  inner_next i h rest s place l =
      rw (taken_next (along book file (Cut (Inside s)) from at place i) file i h, goes book file short from at i h (Cut (Inside s)) place l refl)
      (with_byte i h (Inside s) place l (inside_goes book s (byte i) i) rest)

  inner : (n i : ℕ) → length file ≤ i + n → i ≤ length file → Inner i
  inner zero i h k = inner_end i (omega arith) k
  inner (suc n) i h k = go (ltb i (length file)) refl (inner n (i + 1))
    where
      go : (t : Bool) → ltb i (length file) ≡ t → (length file ≤ i + 1 + n → i + 1 ≤ length file → Inner (i + 1)) → Inner i
      go false e rest = inner_end i (ltb-false _ _ e) k
      go true e rest = let m : i < length file = ltb-true _ _ e in inner_next i m (rest (omega arith) (omega arith))

  -- between commands
  abbrev Outer : ℕ → Type 0
  Outer i = (q : Piece) → answered (taken (between book file from at i q) (drop i file)) ≡ outcome (walked i Between i)

  outer_end : (i : ℕ) → length file ≤ i → i ≤ length file → Outer i
  unfolding answered
  outer_end i h k q = rw (taken_end (between book file from at i q) file i h) (ends_here i Between i h k)

  outer_next : (i : ℕ) → i < length file → (t : Bool) → is_break (byte i) ≡ t → Outer (i + 1) → Outer i
  unfolding step
  outer_next i h true e rest q =
      rw (taken_next (between book file from at i q) file i h, skips book file short from at i h q e, runs.at_between book file i Between i h (rw e)) (rest q)
  outer_next i h false e rest q =
      rw (taken_next (between book file from at i q) file i h, starts book file short from at i h q e)
      (with_byte i h Between i (omega arith) (opening_goes book (byte i) i e) (inner (length file) (i + 1) (omega arith) (omega arith)))

  outer : (n i : ℕ) → length file ≤ i + n → i ≤ length file → Outer i
  outer zero i h k = outer_end i (omega arith) k
  outer (suc n) i h k = go (ltb i (length file)) refl (outer n (i + 1))
    where
      go : (t : Bool) → ltb i (length file) ≡ t → (length file ≤ i + 1 + n → i + 1 ≤ length file → Outer (i + 1)) → Outer i
      go false e rest = outer_end i (ltb-false _ _ e) k
      go true e rest = let m : i < length file = ltb-true _ _ e in outer_next i m (is_break (byte i)) refl (rest (omega arith) (omega arith))

  -- from between commands on, the next one ends as `next_command` says
  pub next_run : (i : ℕ) → i ≤ length file → (q : Piece) → answered (taken (between book file from at i q) (drop i file)) ≡ outcome (next_command book file i)
  next_run i k q = outer (length file) i (omega arith) k q ∙ ap outcome (walk book file (drop i file) i refl)

-- Where a file stands between two bytes: what is kept is what the bytes before them say.
-- Assumes nothing.
use Rattle.std.proofs.Common.{◌≡◌, ℕ, ◌+◌, ◌%◌, ◌^◌, ◌<◌, ◌≤◌, true, false, List, [], ◌∷◌, ◌++◌, length, get_or, take, sym, refl, ap, ◌∙◌, add-one, arith, length-take, take-suc}
use lib.Seq.{slice, drop-append-le, slice_empty}
use Rattle.base.specs.Or.{◌or◌}
use Rattle.digest.specs.Runs.{started, fed}
use Rattle.digest.specs.Text.{unbroken}
use Rattle.digest.proofs.Runs.{fed_append}
use Rattle.digest.proofs.Text.{unbroken_append}
use Rattle.base.specs.Breaks.{is_break}
use Rattle.scan.specs.Ways.{step}
use Rattle.book.specs.declared.Book.{Book}
use Rattle.scan.specs.declared.Way.TheVariants.{Between}
use Rattle.signature.specs.declared.Held.{Held}
use Rattle.signature.specs.Held.{nothing, noted, noted_all}
use Rattle.signature.specs.Form.{is_end}
use Rattle.signature.specs.Signature.{bare}
use Rattle.signature.proofs.Short.{end_held}
use Rattle.intake.specs.declared.Intake.{Intake}
use Rattle.intake.specs.declared.Piece.{Piece}
use Rattle.intake.specs.declared.Stage.{Stage}
use Rattle.intake.specs.declared.Stage.TheVariants.{Cut}
use Rattle.intake.specs.Stages.{settled, stage_after, opens, begins}
use Rattle.intake.specs.Runs.{piece, intake, grown, pushed}

noted_append : (h : Held) (a b : List ℕ) → noted_all h (a ++ b) ≡ noted_all (noted_all h a) b
unfolding noted_all
noted_append h [] b = refl
noted_append h (x ∷ a) b = noted_append (noted h x) a b

-- the byte at i more
module _ (file : List ℕ) (place i : ℕ) (from : place ≤ i) (inside : i < length file) where
  bare_next : bare file place (i + 1) ≡ bare file place i ++ unbroken (get_or file i 0 ∷ [])
  unfolding bare
  bare_next =
      let before : place ≤ length (take i file) = simp length-take (omega arith) in
      ap unbroken (rw (add-one, take-suc file i 0 inside) (drop-append-le place (take i file) (get_or file i 0 ∷ []) before))
      ∙ unbroken_append (slice place i file) (get_or file i 0 ∷ [])

pub bare_none : (file : List ℕ) (i : ℕ) → bare file i i ≡ []
unfolding bare unbroken
bare_none file i = rw (slice_empty i file)

-- a command that begins at `place`, as far as `to`
abbrev pub part : List ℕ → ℕ → ℕ → Piece
part file place to = piece place (fed started (bare file 0 place)) (noted_all nothing (bare file place to))

-- in a command that begins at `place`, before the byte at i; the command before it stands from `from` up to `at`
abbrev pub along : Book → List ℕ → Stage → ℕ → ℕ → ℕ → ℕ → Intake
along book file stage from at place i = intake book stage i (fed started (bare file 0 i)) (part file place i) (part file from at)

-- between commands, before the byte at i; the last one stands from `from` up to `at`, and q is what is kept of the one before
abbrev pub between : Book → List ℕ → ℕ → ℕ → ℕ → Piece → Intake
between book file from at i q = intake book (Cut Between) i (fed started (bare file 0 i)) (part file from at) q

module _ (book : Book) (file : List ℕ) (short : length file < 2 ^ 64) (from at i : ℕ) (inside : i < length file) where
  abbrev b : ℕ
  b = get_or file i 0

  counted : (i + 1) % 2 ^ 64 ≡ i + 1
  counted = omega arith

  digested : fed (fed started (bare file 0 i)) (unbroken (b ∷ [])) ≡ fed started (bare file 0 (i + 1))
  digested = rw (bare_next file 0 i (omega arith) inside) (sym (fed_append started (bare file 0 i) (unbroken (b ∷ []))))

  grows : (place : ℕ) → place ≤ i → grown (part file place i) (b ∷ []) ≡ part file place (i + 1)
  unfolding grown
  grows place h =
      ap (piece place (fed started (bare file 0 place)))
      (rw (bare_next file place i h inside) (sym (noted_append nothing (bare file place i) (unbroken (b ∷ [])))))

  -- a byte with which no command begins
  pub goes : (stage : Stage) (place : ℕ) → place ≤ i → begins stage b ≡ false →
      pushed (along book file stage from at place i) b ≡ along book file (stage_after book stage b i (is_end book (bare file place (i + 1)))) from at place (i + 1)
  unfolding pushed
  goes stage place h e = rw (e, grows place h, digested, counted, end_held book (bare file place (i + 1)))

  -- the first byte of a command
  pub starts : (q : Piece) → is_break b ≡ false →
      pushed (between book file from at i q) b ≡ along book file (settled (step book Between b i) (is_end book (bare file i (i + 1)))) from at i (i + 1)
  unfolding pushed begins opens stage_after noted_all
  starts q e =
      let new : grown (piece i (fed started (bare file 0 i)) nothing) (b ∷ []) ≡ part file i (i + 1) = rw (bare_none file i) at (grows i (omega arith)) in
      rw (e, new, digested, counted, end_held book (bare file i (i + 1)))

  -- CR or LF between commands
  pub skips : (q : Piece) → is_break b ≡ true → pushed (between book file from at i q) b ≡ between book file from at (i + 1) q
  unfolding pushed begins opens stage_after step settled grown unbroken noted_all
  skips q e =
      let none : unbroken (b ∷ []) ≡ [] = rw (unbroken, e) in
      rw (e, digested, counted, none)

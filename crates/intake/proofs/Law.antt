-- The answer for a file in runs is `signature_of` of the file, wherever it is cut.
-- Assumes nothing.
use Rattle.std.proofs.Common.{◌≡◌, ℕ, zero, suc, ◌+◌, ◌^◌, ◌<◌, ◌≤◌, Bool, true, false, not, ltb, List, [], ◌∷◌, ◌++◌, length, get_or, drop, sym, refl, ap, ◌∙◌, arith, drop_of_length-le, ltb-false, ltb-true, le-leb}
use mathlib.Core.List.{flatten}
use borrow.Author.Tests.{lt-leb}
use Rattle.text.proofs.First.{first_at_lem, first_end}
use Rattle.digest.specs.Runs.{started, fed, finished}
use Rattle.digest.specs.Md5.{md5}
use Rattle.digest.proofs.Cuts.{finished_md5}
use Rattle.base.specs.Breaks.{is_break}
use Rattle.text.specs.First.{skipped}
use Rattle.scan.specs.Permitted.{printable}
use Rattle.scan.specs.Scan.{next_command}
use Rattle.scan.specs.Tail.{tail_of}
use Rattle.book.specs.declared.Book.{Book}
use Rattle.scan.specs.declared.Scan.{Scan}
use Rattle.scan.specs.declared.Scan.TheVariants.{Command, BadByte, Ended}
use Rattle.scan.specs.declared.Tail.{Tail}
use Rattle.scan.specs.declared.Tail.TheVariants.{Clean, Unprintable, More}
use Rattle.scan.specs.declared.Way.TheVariants.{Bad}
use Rattle.scan.proofs.Within.{Within, next_within}
use Rattle.signature.specs.declared.Answer.{Answer}
use Rattle.signature.specs.Form.{is_end}
use Rattle.signature.specs.Held.{nothing, noted_all, text_of}
use Rattle.signature.specs.Signature.{refused, judged, bare, at_end, walked, signature_of}
use Rattle.signature.proofs.Short.{judged_held}
use Rattle.intake.specs.declared.Intake.{Intake}
use Rattle.intake.specs.declared.Piece.{Piece}
use Rattle.intake.specs.declared.Stage.TheVariants.{Cut, Over, Past}
use Rattle.intake.specs.Stages.{over, settled, stage_after, begins}
use Rattle.intake.specs.Runs.{piece, empty, pushed, taken, in_runs, answered}
use Rattle.intake.proofs.Commands.{run, outcome, next_run}
use Rattle.intake.proofs.Stands.{along, between, part, goes, bare_none}
use Rattle.intake.proofs.Steps.{taken_end, taken_next, bad_stays, past_stays}

module _ (book : Book) (file : List ℕ) (short : length file < 2 ^ 64) where
  abbrev at_break : ℕ → Bool
  at_break i = is_break (get_or file i 0)

  -- CR and LF, and where they end
  skipped_end : (i : ℕ) → length file ≤ i → skipped file i ≡ i
  skipped_end i h = first_end (λ b. not (is_break b)) file i h

  skipped_on : (i : ℕ) → i < length file → at_break i ≡ true → skipped file i ≡ skipped file (i + 1)
  skipped_on i h e = first_at_lem (λ b. not (is_break b)) file i h (ap not e)

  skipped_here : (i : ℕ) → i < length file → at_break i ≡ false → skipped file i ≡ i
  skipped_here i h e = first_at_lem (λ b. not (is_break b)) file i h (ap not e)

  module _ (from at : ℕ) where
    -- after M02
    module _ (place : ℕ) where
      abbrev kept : Answer
      kept = judged place (text_of (noted_all nothing (bare file from at))) (finished (fed started (bare file 0 from)))

      abbrev ending : Tail → Answer
      ending Clean = kept
      ending (More more) = kept
      ending (Unprintable bad) = refused 2 bad

      abbrev Ends : ℕ → Type 0
      Ends i = run book file short from at Over place i ≡ ending (tail_of file i)

      tail_end : (i : ℕ) → length file ≤ i → tail_of file i ≡ Clean
      unfolding tail_of
      tail_end i h = rw (skipped_end i h, le-leb _ _ h)

      tail_on : (i : ℕ) → i < length file → at_break i ≡ true → tail_of file i ≡ tail_of file (i + 1)
      unfolding tail_of
      tail_on i h e = rw (skipped_on i h e)

      tail_more : (i : ℕ) → i < length file → at_break i ≡ false → printable (get_or file i 0) ≡ true → tail_of file i ≡ More i
      unfolding tail_of
      tail_more i h e p = rw (skipped_here i h e, lt-leb _ _ h, p)

      tail_bad : (i : ℕ) → i < length file → at_break i ≡ false → printable (get_or file i 0) ≡ false → tail_of file i ≡ Unprintable i
      unfolding tail_of
      tail_bad i h e p = rw (skipped_here i h e, lt-leb _ _ h, p)

      over_one : (i : ℕ) → place ≤ i → i < length file → (t : Bool) → at_break i ≡ t → (u : Bool) → printable (get_or file i 0) ≡ u → Ends (i + 1) → Ends i
      unfolding begins stage_after over
      over_one i l h true e u p rest =
          rw (taken_next (along book file Over from at place i) file i h, goes book file short from at i h Over place l refl, e, tail_on i h e) rest
      over_one i l h false e true p rest =
          rw (taken_next (along book file Over from at place i) file i h, goes book file short from at i h Over place l refl, e, p, tail_more i h e p)
          (past_stays (drop (i + 1) file) (along book file Past from at place (i + 1)) refl)
      over_one i l h false e false p rest =
          rw (taken_next (along book file Over from at place i) file i h, goes book file short from at i h Over place l refl, e, p, tail_bad i h e p)
          (bad_stays (drop (i + 1) file) (along book file (Cut (Bad i)) from at place (i + 1)) refl)

      over_end : (i : ℕ) → length file ≤ i → Ends i
      unfolding answered
      over_end i h = rw (taken_end (along book file Over from at place i) file i h, tail_end i h)

      over_run : (n i : ℕ) → length file ≤ i + n → i ≤ length file → place ≤ i → Ends i
      over_run zero i h k l = over_end i (omega arith)
      over_run (suc n) i h k l = go (ltb i (length file)) refl (over_run n (i + 1))
        where
          go : (t : Bool) → ltb i (length file) ≡ t → (length file ≤ i + 1 + n → i + 1 ≤ length file → place ≤ i + 1 → Ends (i + 1)) → Ends i
          go false e rest = over_end i (ltb-false _ _ e)
          go true e rest =
              let m : i < length file = ltb-true _ _ e in
              over_one i l m (at_break i) refl (printable (get_or file i 0)) refl (rest (omega arith) (omega arith) (omega arith))

      at_end_lem : (next : ℕ) → ending (tail_of file next) ≡ at_end file from at place next
      unfolding at_end
      at_end_lem next = go (tail_of file next) refl
        where
          same : kept ≡ judged place (bare file from at) (md5 (bare file 0 from))
          same = judged_held place (bare file from at) _ ∙ ap (judged place (bare file from at)) (finished_md5 (bare file 0 from))

          go : (t : Tail) → tail_of file next ≡ t → ending (tail_of file next) ≡ at_end file from at place next
          go Clean e = rw (at_end, e) same
          go (More more) e = rw (at_end, e) same
          go (Unprintable bad) e = rw (at_end, e)

  -- from command to command
  abbrev Walks : ℕ → Type 0
  Walks n = (from at : ℕ) (q : Piece) → at ≤ length file → length file < at + n → answered (taken (between book file from at at q) (drop at file)) ≡ walked book n file from at

  walks_on : (n : ℕ) → Walks n → Walks (suc n)
  unfolding walked settled
  walks_on n rest from at q h k = next_run book file short from at at h q ∙ go (next_command book file at) refl
    where
      go : (r : Scan) → next_command book file at ≡ r → outcome book file short from at (next_command book file at) ≡ walked book (suc n) file from at
      go (BadByte place) e = rw (walked, e)
      go (Ended place) e = rw (walked, e)
      go (Command kind place text end next) e = rw (walked, e) (by_end (is_end book (bare file place next)) refl)
        where
          w : Within (length file) at (Command kind place text end next)
          w = rw e at (next_within book file at h)

          by_end : (t : Bool) → is_end book (bare file place next) ≡ t → outcome book file short from at (Command kind place text end next)
              ≡ elim (is_end book (bare file place next)) [ true ↦ at_end file from at place next | false ↦ walked book n file place next ]
          by_end true f = rw f (over_run from at place (length file) next (omega arith) w.4 (omega (arith, w.1, w.2, w.3)) ∙ at_end_lem from at place next)
          by_end false f = rw f (rest place next (part file from at) w.4 (omega (arith, w.0, w.1, w.2, w.3)))

  walks : (n : ℕ) → Walks n
  walks zero from at q h k = absurd (omega arith)
  walks (suc n) from at q h k = walks_on n (walks n) from at q h k

  -- one run
  pub one_run : answered (taken (empty book) file) ≡ signature_of book file
  unfolding empty signature_of fed noted_all
  one_run = rw (bare_none file 0) at (walks (suc (length file)) 0 0 (piece 0 started nothing) (omega arith) (omega arith))

-- runs taken one after the other are one run
taken_append : (s : Intake) (a b : List ℕ) → taken s (a ++ b) ≡ taken (taken s a) b
unfolding taken
taken_append s [] b = refl
taken_append s (x ∷ a) b = taken_append (pushed s x) a b

pub any_cut : (s : Intake) (ts : List (List ℕ)) → in_runs s ts ≡ taken s (flatten ts)
unfolding in_runs taken flatten
any_cut s [] = refl
any_cut s (t ∷ ts) = any_cut (taken s t) ts ∙ sym (taken_append s t (flatten ts))

-- the answer is that of the whole file, wherever it was cut, through a letter too
pub any_cut_signature : (book : Book) (ts : List (List ℕ)) → length (flatten ts) < 2 ^ 64 → answered (in_runs (empty book) ts) ≡ signature_of book (flatten ts)
any_cut_signature book ts short = ap answered (any_cut (empty book) ts) ∙ one_run book (flatten ts) short

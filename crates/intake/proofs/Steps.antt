-- A run byte by byte.
-- Assumes nothing.
use Rattle.std.proofs.Common.{◌≡◌, ℕ, ◌+◌, ◌<◌, ◌≤◌, List, [], ◌∷◌, length, get_or, drop, ◌∙◌, drop_of_length-le}
use Rattle.base.proofs.Lists.{drop_next}
use Rattle.digest.specs.Runs.{finished}
use Rattle.scan.specs.Scan.{number_of, place_of}
use Rattle.scan.specs.Ways.{step, ended}
use Rattle.scan.specs.declared.Way.TheVariants.{Bad}
use Rattle.signature.specs.Held.{text_of}
use Rattle.signature.specs.Signature.{refused, judged}
use Rattle.intake.specs.declared.Intake.{Intake}
use Rattle.intake.specs.declared.Stage.TheVariants.{Cut, Past}
use Rattle.intake.specs.Stages.{settled, stage_after, begins, stopped}
use Rattle.intake.specs.Runs.{grown, pushed, taken, answered}

module _ (s : Intake) (file : List ℕ) (i : ℕ) where
  pub taken_end : length file ≤ i → taken s (drop i file) ≡ s
  unfolding taken
  taken_end h = rw (drop_of_length-le file h)

  pub taken_next : i < length file → taken s (drop i file) ≡ taken (pushed s (get_or file i 0)) (drop (i + 1) file)
  unfolding taken
  taken_next h = rw (drop_next file i h)

-- after a byte that is not permitted, and after M02 with more than CR and LF, nothing changes the answer
pub bad_stays : (t : List ℕ) (s : Intake) {place : ℕ} → s.stage ≡ Cut (Bad place) → answered (taken s t) ≡ refused 2 place
unfolding answered stopped ended number_of place_of taken pushed stage_after step settled
bad_stays [] s e = rw e
bad_stays (b ∷ t) s e = bad_stays t (pushed s b) (rw e)

pub past_stays : (t : List ℕ) (s : Intake) → s.stage ≡ Past → answered (taken s t) ≡ judged s.this.place (text_of s.last.text) (finished s.last.before)
unfolding answered taken pushed stage_after begins grown
past_stays [] s e = rw e
past_stays (b ∷ t) s e = past_stays t (pushed s b) (rw e) ∙ rw e

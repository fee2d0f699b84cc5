-- The signature of a file that comes in runs: what is kept between two of them, and how it goes on.
use Rattle.std.specs.Prelude.{ℕ, ◌+◌, ◌%◌, ◌^◌, Bool, cond, List, [], ◌∷◌}
use Rattle.book.specs.declared.Book.{Book}
use Rattle.digest.specs.declared.State.{State}
use Rattle.digest.specs.Runs.{started, fed, finished}
use Rattle.digest.specs.Text.{unbroken}
use Rattle.scan.specs.Ways.{ended}
use Rattle.scan.specs.declared.Way.TheVariants.{Between}
use Rattle.signature.specs.declared.Answer.{Answer}
use Rattle.signature.specs.declared.Held.{Held}
use Rattle.signature.specs.Form.{is_end}
use Rattle.signature.specs.Held.{nothing, noted_all, text_of}
use Rattle.signature.specs.Signature.{refused, judged}
use Rattle.intake.specs.declared.Intake.{Intake}
use Rattle.intake.specs.declared.Piece.{Piece}
use Rattle.intake.specs.declared.Stage.{Stage}
use Rattle.intake.specs.declared.Stage.TheVariants.{Cut, Over, Past}
use Rattle.intake.specs.Stages.{stage_after, begins, stopped}

-- a command: its place, the digest of what stands before it, and what is held of it
abbrev pub piece : ℕ → State → Held → Piece
piece place before text = record { place = place; before = before; text = text }

-- the book; how far the file is cut; its length so far, modulo 2 ^ 64, and its digest; the command at hand, or the last one; the one before that
abbrev pub intake : Book → Stage → ℕ → State → Piece → Piece → Intake
intake book stage at digest this last = record { book = book; stage = stage; at = at; digest = digest; this = this; last = last }

unfoldable pub empty : Book → Intake
empty book = intake book (Cut Between) 0 started (piece 0 started nothing) (piece 0 started nothing)

-- a run more of a command
unfoldable pub grown : Piece → List ℕ → Piece
grown p t = piece p.place p.before (noted_all p.text (unbroken t))

-- one byte more
unfoldable pub pushed : Intake → ℕ → Intake
pushed s b =
    let new : Bool = begins s.stage b in
    let this : Piece = grown (cond new (piece s.at s.digest nothing) s.this) (b ∷ []) in
    intake
    s.book
    (stage_after s.book s.stage b s.at (is_end s.book (text_of this.text)))
    ((s.at + 1) % 2 ^ 64)
    (fed s.digest (unbroken (b ∷ [])))
    this
    (cond new s.this s.last)

-- a run more
unfoldable pub taken : Intake → List ℕ → Intake
taken s [] = s
taken s (b ∷ t) = taken (pushed s b) t

-- runs, one after the other
unfoldable pub in_runs : Intake → List (List ℕ) → Intake
in_runs s [] = s
in_runs s (t ∷ ts) = in_runs (taken s t) ts

-- the answer, once there are no more runs
unfoldable pub answered : Intake → Answer
answered s =
    elim s.stage [
      | Cut way ↦ stopped (ended s.at way)
      | Over ↦ judged s.this.place (text_of s.last.text) (finished s.last.before)
      | Past ↦ judged s.this.place (text_of s.last.text) (finished s.last.before)
    ]

-- The parameters of a standard template, one by one: what those from here on leave, after what was left so far, is what all of them leave.
-- Assumes nothing.
use Prim.Native.Nat.{ℕ, ◌+◌, ◌<◌, ◌≤◌}
use Prim.Native.Char.{code}
use mathlib.Core.Path.{◌≡◌, ap, subst, ◌∙◌}
use mathlib.Core.Bool.{Bool, true, false, cond}
use mathlib.Core.List.{List, [], ◌∷◌}
use native.Mathlib.Omega.{arith}
use lib.Dec.{eqb}
use lib.IntN.{ℤ}
use lib.ListN.{length, drop, set}
use lib.Seq.{slice}
use Rattle.text.specs.First.{place}
use Rattle.text.proofs.First.{first_from_lem}
use Rattle.command.specs.Numbers.{size_of}
use Rattle.decimal.specs.declared.answers.Amount.{Amount}
use Rattle.text.proofs.Pieces.{pieces_next, pieces_end}
use Rattle.primitives.specs.Asked.{added}
use Rattle.primitives.specs.declared.Asked.{Asked}
use Rattle.macros.specs.Pen.{penned, pens}
use Rattle.macros.specs.Says.{Told}
use Rattle.macros.specs.Work.{Values, onward, verdict}
use Rattle.macros.specs.declared.Outcome.{Outcome}
use Rattle.macros.specs.declared.Pen.{Pen}
use Rattle.macros.proofs.Gathering.{Gathering, gathering_goes, gathering_ends}
use Rattle.templates.specs.Templates.{keeps}
use Rattle.law_reading.specs.Apertures.{values_of}
use Rattle.definition_steps.specs.Worked.{standard_of, Comes}

-- every parameter has a value
abbrev pub given : List ℕ → Values
given s = record { fine = true; values = values_of s }

module _ (t : List ℕ) (at : ℕ) where
  given_next : at < length t → given (drop at t)
      ≡ record { fine = true; values = (size_of (slice (at + 1) (place (code "X") t (at + 1)) t)).value.millionths ∷ values_of (drop (place (code "X") t (at + 1)) t) }
  unfolding values_of
  given_next h = rw (pieces_next (code "X") t at h)

  given_end : length t ≤ at → given (drop at t) ≡ record { fine = true; values = [] }
  unfolding values_of
  given_end h = rw (pieces_end (code "X") t at h)

module _ (t : List ℕ) (at next : ℕ) (l₀ l : List ℤ) (p₀ p : Pen) (q : Asked) (g : Gathering (given t) (given (drop at t)) l₀ l p₀ p q at) where
  pub standard_step : at < length t → next ≡ place (code "X") t (at + 1) → (a : Amount) → a ≡ (size_of (slice (at + 1) next t)).value
      → (l' : List ℤ) (p' : Pen) (q' : Asked) → l' ≡ set l p.at a.millionths → p' ≡ penned (length l) p → q' ≡ added q a
      → Gathering (given t) (given (drop next t)) l₀ l' p₀ p' q' next
  unfolding onward
  standard_step h en a ea l' p' q' el ep eq =
      let low = first_from_lem (λ b. eqb b (code "X")) t (at + 1) in
      rw (el, ep, eq, ea, en)
      (gathering_goes (given t) l₀ l p₀ p q at (given (drop (place (code "X") t (at + 1)) t)) (size_of (slice (at + 1) (place (code "X") t (at + 1)) t)).value.millionths _ (omega arith) (rw (given_next t at h) at g))

  pub standard_end : length t ≤ at → (kind used : ℕ) → p₀ ≡ record { at = used; over = false } → (kept : Bool) → kept ≡ keeps kind q
      → (fault : ℕ) → fault ≡ verdict true kept → (o : Outcome) → Told fault p o → Comes (standard_of kind t) l₀ l used o
  unfolding standard_of verdict
  standard_end h kind used e₀ kept ek fault ef o eo =
      let f = gathering_ends (given t) l₀ l p₀ p q at true (rw (given_end t at h) at g) in
      record {
        says = subst (λ n. Told n (pens (length l₀) (record { at = used; over = false }) (values_of t)) o) (ef ∙ ap (λ b. cond b 0 10) (ek ∙ ap (keeps kind) f.1)) (subst (λ q. Told fault q o) (rw e₀ at f.2) eo);
        stores = rw e₀ at f.3;
      }

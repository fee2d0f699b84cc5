-- The pass over a file's commands: what is found and heard so far, with the commands that are left, gives the answer.
-- Assumes nothing.
use Rattle.std.specs.Prelude.{None, Option, Some}
use Prim.Native.Nat.{ℕ}
use mathlib.Core.Path.{◌≡◌, refl, ap, ◌∙◌}
use mathlib.Core.Bool.{Bool, true, false}
use mathlib.Core.List.{List, ◌∷◌}
use lib.Dec.{eqb}
use Rattle.base.specs.Choose.{pick}
use Rattle.book.specs.declared.Book.{Book}
use Rattle.sequence.specs.Commands.{Sequence, stopped, followed}
use Rattle.sequence.specs.declared.Placed.{Placed}
use Rattle.sequence.specs.declared.Refusal.{Refusal}
use Rattle.attribute_call.specs.Attribute.{refused, before, from_on, nothing, heard_with, heard_in, held, answer_for, answer_in}
use Rattle.attribute_call.specs.Pass.{met, closing, judged}
use Rattle.attribute_call.specs.declared.Answer.{Answer}
use Rattle.attribute_call.specs.declared.Heard.{Heard}
use Rattle.outlines.specs.declared.Outline.{Outline}
use Rattle.attribute_call.specs.declared.Kind.{Kind}
use Rattle.attribute_call.specs.declared.Saying.{Saying}

module _ (book : Book) (file : List ℕ) (kind : Kind) (place : ℕ) (name : List ℕ) where
  -- with these commands left
  unfoldable pub settled : Option Answer → Heard → List Placed → Answer
  settled (Some a) h cs = a
  settled None h cs = answer_for book file kind (from_on place cs) (heard_in book file kind name h (before place cs))

  unfoldable pub outcome : Option Answer → Heard → Sequence → Answer
  outcome found h l = pick (eqb l.fault.number 0) (settled found h l.commands) (refused l.fault.number)

  pub pass_starts : (l : Sequence) → outcome None nothing l ≡ answer_in book file kind place name l
  unfolding outcome settled answer_in
  pass_starts l = refl

  settled_more : (found : Option Answer) (h : Heard) (c : Placed) (cs : List Placed) →
      settled found h (c ∷ cs) ≡ settled (met book file kind place h c found) (heard_with book file kind name h c) cs
  unfolding settled met pick from_on before answer_for heard_in
  settled_more (Some a) h c cs = refl
  settled_more None h c cs = go (eqb c.place place) refl
    where
      go : (t : Bool) → eqb c.place place ≡ t →
          settled None h (c ∷ cs) ≡ settled (met book file kind place h c None) (heard_with book file kind name h c) cs
      go true e = rw (e, from_on, before, pick)
      go false e = rw (e, from_on, before, pick)

  pub pass_more : (found : Option Answer) (h : Heard) (c : Placed) (l : Sequence) →
      outcome found h (followed c l) ≡ outcome (met book file kind place h c found) (heard_with book file kind name h c) l
  unfolding outcome
  pass_more found h c l = rw (settled_more found h c l.commands)

  pub pass_stops : (found : Option Answer) (h : Heard) (f : Refusal) → outcome found h (stopped f) ≡ judged f.number found
  unfolding outcome settled judged closing from_on answer_for
  pass_stops (Some a) h f = refl
  pass_stops None h f = refl

-- a contour's first D01 has what its region carries: what is said before its own G36, or was before that of the region around it
pub carried_at : {o p : Outline} (said carried : Saying) {s : Saying} {a : Answer} → o ≡ p → s ≡ pick o.opens said carried → a ≡ held s → a ≡ held (pick p.opens said carried)
carried_at said carried e f g = g ∙ ap held f ∙ ap (λ (x : Outline). held (pick x.opens said carried)) e

-- The pass over a file's commands: what is found so far, with the commands that are left, gives the answer.
-- Assumes nothing.
use Rattle.std.specs.Prelude.{None, Option, Some}
use Prim.Native.Nat.{ℕ, ◌-◌}
use mathlib.Core.Path.{◌≡◌, refl}
use mathlib.Core.Bool.{Bool, true, false}
use mathlib.Core.List.{List, ◌∷◌}
use Rattle.base.specs.Choose.{pick}
use Rattle.sequence.specs.Commands.{Sequence, stopped, followed}
use Rattle.sequence.specs.declared.Placed.{Placed}
use Rattle.sequence.specs.declared.Refusal.{Refusal}
use Rattle.labels.specs.Labels.{label_set_by, before, labels_in, judged, answer_in}
use Rattle.labels.specs.Pass.{wants, met, left_after, first_wanted}
use Rattle.labels.specs.declared.Answer.{Answer}
use Rattle.labels.specs.declared.Label.{Label}

module _ (file : List ℕ) (by_name : Bool) (name : List ℕ) where
  -- with these file attributes to come
  unfoldable pub settled : ℕ → Option Label → List Label → Option Label
  settled left (Some l) ls = Some l
  settled left None ls = first_wanted file by_name name left ls

  unfoldable pub outcome : ℕ → Option Label → Sequence → Answer
  outcome left found l = judged l.fault.number (settled left found (labels_in file l.commands))

  pub pass_starts : (i : ℕ) (l : Sequence) → outcome i None l ≡ answer_in file (first_wanted file by_name name i) l
  unfolding outcome settled answer_in
  pass_starts i l = refl

  settled_more : (left : ℕ) (found label : Option Label) (ls : List Label) →
      settled left found (before label ls) ≡ settled (left_after left label) (met file by_name name left label found) ls
  unfolding settled met before left_after first_wanted pick
  settled_more left (Some l) label ls = refl
  settled_more left None None ls = refl
  settled_more left None (Some k) ls = go (wants file by_name name left k) refl
    where
      go : (t : Bool) → wants file by_name name left k ≡ t →
          first_wanted file by_name name left (k ∷ ls) ≡ settled (left - 1) (pick (wants file by_name name left k) (Some k) None) ls
      go true e = rw (e, first_wanted)
      go false e = rw (e, first_wanted)

  pub pass_more : (left : ℕ) (found : Option Label) (c : Placed) (l : Sequence) →
      outcome left found (followed c l) ≡ outcome (left_after left (label_set_by file c)) (met file by_name name left (label_set_by file c) found) l
  unfolding outcome labels_in
  pass_more left found c l = rw (settled_more left found (label_set_by file c) (labels_in file l.commands))

  pub pass_stops : (left : ℕ) (found : Option Label) (f : Refusal) → outcome left found (stopped f) ≡ judged f.number found
  unfolding outcome settled labels_in first_wanted
  pass_stops left (Some l) f = refl
  pass_stops left None f = refl

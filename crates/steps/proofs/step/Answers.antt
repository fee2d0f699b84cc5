-- `steps::step` meets its contract: each role by its function's promise.
-- Assumes nothing.
use mathlib.Core.Path.{◌≡◌, refl, sym, ap, subst, ◌∙◌}
use Rattle.law_bounds.specs.Bounded.{Bounded}
use Rattle.law_reading.specs.Steps.{step_of}
use Rattle.progress.specs.Lent.{Lent, lent_of, with_entries, with_apertures, with_macros, with_numbers}
use Rattle.definition_steps.specs.Lends.{Lends}
use Rattle.state_steps.specs.KeepsRooms.{keeps_rooms}
use Rattle.steps.specs.Steps.{Again}
use Rattle.steps.specs.Coded.{held_in}
use Rattle.steps.proofs.Arms.{known_of}
use Rattle.steps.proofs.Coded.{none_held}
use Rattle.steps.proofs.step.Goals as goal

pub select-requires : goal.select-requires
unfolding lent_of
select-requires c = known_of (λ w. w ≡ lent_of _ _ _ _ _) (λ w. w.apertures ≡ _) _ (λ w q. ap (λ (x : Lent). x.apertures) q) c.requires.known

pub define-requires : goal.define-requires
unfolding lent_of Bounded
define-requires c =
    (known_of (λ w. w ≡ lent_of _ _ _ _ _) (Lends _ _ _ _) _ (λ w q. record { file_is = ap (λ (x : Lent). x.file) q; apertures_are = ap (λ (x : Lent). x.apertures) q; macros_are = ap (λ (x : Lent). x.macros) q; numbers_are = ap (λ (x : Lent). x.numbers) q }) c.requires.known, c.requires.sound.ordered, c.requires.sound.inside, subst (Bounded _) c.in-Define.is c.requires.sound.bounded)

pub contain-requires : goal.contain-requires
unfolding lent_of Bounded
contain-requires c =
    record {
      known = known_of (λ w. w ≡ lent_of _ _ _ _ _) (λ w. (w.entries ≡ _) × (w.apertures ≡ _)) _ (λ w q. (ap (λ (x : Lent). x.entries) q, ap (λ (x : Lent). x.apertures) q)) c.requires.known;
      bracket_bounded = subst (Bounded _) c.in-Contain.is c.requires.sound.bounded;
    }

pub set-requires : goal.set-requires
unfolding keeps_rooms
set-requires c = ap keeps_rooms c.in-Broken.is

pub set-requires-in-Note : goal.set-requires-in-Note
unfolding keeps_rooms
set-requires-in-Note c = ap keeps_rooms c.in-Note.is

pub set-requires-in-End : goal.set-requires-in-End
unfolding keeps_rooms
set-requires-in-End c = ap keeps_rooms c.in-End.is

pub set-requires-in-Set : goal.set-requires-in-Set
unfolding keeps_rooms
set-requires-in-Set c = ap keeps_rooms c.in-Set.is

pub returns-in-Select : goal.returns-in-Select
unfolding lent_of step_of
returns-in-Select c = (refl, refl, refl, refl, λ s k told. rw c.in-Select.is (c.select.ensures (lent_of _ _ _ _ _) s refl k))

pub returns-in-Define : goal.returns-in-Define
unfolding lent_of with_apertures with_macros with_numbers step_of
returns-in-Define c =
    (refl, c.define.ensures.0, c.define.ensures.1, c.define.ensures.2, λ s k told. rw c.in-Define.is (c.define.ensures.3 (lent_of _ _ _ _ _) s (record { file_is = refl; apertures_are = refl; macros_are = refl; numbers_are = refl }) k))

pub returns-in-Contain : goal.returns-in-Contain
unfolding lent_of with_entries with_apertures step_of
returns-in-Contain c =
    (c.contain.ensures.0, c.contain.ensures.1, refl, refl, λ s k told. rw c.in-Contain.is (c.contain.ensures.2 (lent_of _ _ _ _ _) s (refl, refl) k))

pub returns-in-Attribute : goal.returns-in-Attribute
unfolding lent_of Again step_of
returns-in-Attribute c = (refl, refl, refl, refl, λ s k again. rw c.in-Attribute.is (c.attribute.ensures _ (lent_of _ _ _ _ _) s (again _ c.in-Attribute.is) k))

pub returns-in-Broken : goal.returns-in-Broken
unfolding lent_of
returns-in-Broken c = (refl, refl, refl, refl, λ s k again. c.set.ensures _ _ (lent_of _ _ _ _ _) s tt k)

pub returns-in-Note : goal.returns-in-Note
unfolding lent_of
returns-in-Note c = (refl, refl, refl, refl, λ s k again. c.set-in-Note.ensures _ _ (lent_of _ _ _ _ _) s tt k)

pub returns-in-End : goal.returns-in-End
unfolding lent_of
returns-in-End c = (refl, refl, refl, refl, λ s k again. c.set-in-End.ensures _ _ (lent_of _ _ _ _ _) s tt k)

pub returns-in-Set : goal.returns-in-Set
unfolding lent_of
returns-in-Set c = (refl, refl, refl, refl, λ s k again. c.set-in-Set.ensures _ _ (lent_of _ _ _ _ _) s tt k)

pub returns-in-Operate : goal.returns-in-Operate
unfolding held_in
returns-in-Operate c = (refl, refl, refl, refl, λ s k again. absurd (none_held (sym (ap held_in c.in-Operate.is) ∙ c.requires.command_value)))

pub returns-in-Coded : goal.returns-in-Coded
unfolding held_in
returns-in-Coded c = (refl, refl, refl, refl, λ s k again. absurd (none_held (sym (ap held_in c.in-Coded.is) ∙ c.requires.command_value)))

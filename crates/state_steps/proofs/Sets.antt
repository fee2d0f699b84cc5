-- The outcome of a command that keeps the rooms, whatever is known.
-- Assumes nothing.
use Rattle.std.specs.Prelude.{Option, ℤ, Err, Ok}
use Prim.Native.Nat.{ℕ}
use mathlib.Core.Path.{◌≡◌, sym, ap, subst, ◌∙◌}
use mathlib.Core.Bool.{Bool, true}
use mathlib.Core.List.{List}
use Rattle.points.specs.declared.Point.{Point}
use Rattle.faults.specs.Rule.{number_of_rule}
use Rattle.faults.specs.declared.Rule.{Rule}
use Rattle.command.specs.declared.Command.{Command}
use Rattle.graphics.specs.declared.Graphics.{Graphics}
use Rattle.graphics.specs.declared.Level.{Level}
use Rattle.graphics.specs.declared.Region.{Region}
use Rattle.operation_rules.specs.Faults.{move_fault}
use Rattle.changes.specs.After.{target, going_to, ended, after_operation, after}
use Rattle.command_rules.specs.Rules.{file_attribute_fault}
use Rattle.law_reading.specs.State.{State}
use Rattle.law_reading.specs.Steps as state
use Rattle.law_reading.specs.Apertures.{is_among}
use Rattle.law_reading.specs.Steps.{file_attribute_step, move_step, step_of}
use Rattle.progress.specs.Parts.{with_graphics}
use Rattle.progress.specs.Lent.{Lent, room_of}
use Rattle.progress.specs.Levels.{level_of}
use Rattle.progress.specs.Knows.{Knows, Follows, FollowsStroke, StepsTo, StrikesTo}
use Rattle.progress.specs.declared.Progress.{Progress}
use Rattle.progress.specs.declared.Struck.TheVariants as struck
use Rattle.state_steps.specs.KeepsRooms.{keeps_rooms, fault_of}
use Rattle.state_steps.proofs.Keeps.{Keeps, keeps_itself, still_known, move_keeps, after_keeps}
use Rattle.state_steps.proofs.Steps.{state_step}

module _ (p : Progress) (c : Command) (text : List ℕ) (place : ℕ) (q : keeps_rooms c ≡ true) (l : Level) (at : l ≡ level_of p) where
  fault_is : (w : Lent) (s : State) → Knows w p s → (step_of (room_of w) text place c s).fault ≡ fault_of p.graphics l c
  fault_is w s k =
      ap (λ t. t.fault) (state_step (room_of w) text place s c q) ∙ sym (λ i. fault_of (k.graphics i) ((at ∙ k.level) i) c)

  pub set_refuses :
      (n : ℕ)
      → n ≡ fault_of p.graphics l c
      → (rule : Rule)
      → number_of_rule rule ≡ n
      → StepsTo (λ room s. step_of room text place c s) (λ w. Unit) (λ w. w) p (Err rule)
  unfolding Follows
  set_refuses n e rule is w s u k = fault_is w s k ∙ sym e ∙ sym is

  pub set_goes_on :
      (g : Graphics)
      → g ≡ after c p.graphics
      → fault_of p.graphics l c ≡ 0
      → (r : Progress)
      → r ≡ with_graphics g p
      → StepsTo (λ room s. step_of room text place c s) (λ w. Unit) (λ w. w) p (Ok r)
  unfolding Follows
  set_goes_on g a e r r-is w s u k =
      let now : Keeps s.graphics (after c s.graphics) = after_keeps s.graphics (keeps_itself w p s k) c q l (sym (λ i. fault_of (k.graphics i) l c) ∙ e) in
      let known : Knows w (with_graphics (after c s.graphics) p) (state.with_graphics (after c s.graphics) s) = still_known w p s k _ now in
      let same : after c s.graphics ≡ g = sym (a ∙ ap (after c) k.graphics) in (
        fault_is w s k ∙ e,
        subst (λ t. Knows w r t.next) (sym (state_step (room_of w) text place s c q))
            (rw r-is (subst (λ h. Knows w (with_graphics h p) (state.with_graphics (after c s.graphics) s)) same known)),
      )

-- D02
module _ (p : Progress) (x y : Option ℤ) where
  move_fault_lem : (w : Lent) (s : State) → Knows w p s → (move_step x y s).fault ≡ move_fault p.graphics x y
  unfolding move_step
  move_fault_lem w s k = λ i. move_fault (sym k.graphics i) x y

  pub move_refuses : (n : ℕ) → n ≡ move_fault p.graphics x y → (rule : Rule) → number_of_rule rule ≡ n → StrikesTo (λ room s. move_step x y s) (λ w. Unit) (λ w. w) p (struck.Fault rule)
  unfolding FollowsStroke Follows
  move_refuses n e rule is w s u k = move_fault_lem w s k ∙ sym e ∙ sym is

  pub move_goes_on :
      (at : Point) (region : Region)
      → at ≡ target p.graphics x y
      → region ≡ ended p.graphics.region
      → move_fault p.graphics x y ≡ 0
      → StrikesTo (λ room s. move_step x y s) (λ w. Unit) (λ w. w) p (struck.Next (record { at = at; region = region; builder = p.builder; contour = p.contour }))
  unfolding FollowsStroke Follows move_step after_operation going_to
  move_goes_on at region at_is region-is e w s u k =
      let zero : move_fault s.graphics x y ≡ 0 = rw k.graphics at e in
      (zero, rw (at_is, region-is, k.graphics) (still_known w p s k _ (move_keeps s.graphics (keeps_itself w p s k) x y zero)))

-- TF: nothing of its name is kept but that it is set
module _ (p : Progress) (name : List ℕ) (again : Bool) (w : Lent) (s : State) (e : again ≡ is_among name s.names) (k : Knows w p s) where
  name_fault : (file_attribute_step name s).fault ≡ file_attribute_fault p.graphics again
  unfolding file_attribute_step
  name_fault = λ i. file_attribute_fault (sym k.graphics i) (sym e i)

  pub name_refuses : (n : ℕ) → n ≡ file_attribute_fault p.graphics again → (rule : Rule) → number_of_rule rule ≡ n → Follows (Knows w) (file_attribute_step name s) (Err rule)
  unfolding Follows
  name_refuses n f rule is = name_fault ∙ sym f ∙ sym is

  pub name_goes_on : file_attribute_fault p.graphics again ≡ 0 → Follows (Knows w) (file_attribute_step name s) (Ok p)
  unfolding Follows file_attribute_step state.with_names
  name_goes_on f = (
    name_fault ∙ f,
    record {
      graphics = k.graphics;
      point = k.point;
      mode = k.mode;
      inside = k.inside;
      aperture = k.aperture;
      level = k.level;
      counts = k.counts;
      around = k.around;
      apertures = k.apertures;
      macros = k.macros;
      numbers = k.numbers;
      entries = k.entries;
      shows = k.shows;
      contour = k.contour;
    },
  )

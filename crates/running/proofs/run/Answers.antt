-- `running::run` meets its contract: each way round the loop and each way out of it, by what reading knows there.
-- Assumes nothing.
use mathlib.Core.Path.{◌≡◌, refl, sym, ◌∙◌}
use native.Mathlib.Omega.{arith}
use Rattle.sequence.specs.Turns.{turn_of}
use Rattle.sequence.specs.declared.Turn.TheVariants as turn
use Rattle.sequence.proofs.Walk.{more_onward}
use Rattle.progress.specs.Lent.{lent_of, with_entries}
use Rattle.running.specs.Ends.{Ends, Comes}
use Rattle.running.proofs.Runs.{runs_start, known, runs_stops, sound_last, held_last, runs_ends, sound_more, runs_counts, runs_few, runs_asks, runs_refuses, runs_goes, known_entries, stroke_refuses, stroke_goes, stroke_none, longs, longer}
use Rattle.running.proofs.run.Goals as goal

pub loop-f-init : goal.loop-f-init
unfolding lent_of
loop-f-init c =
    rw (c.no_format-format.ensures, c.start-p.ensures) (runs_start _ (lent_of _ _ _ _ _) c.requires.empty)

-- a fault of the bytes
pub returns-in-Fault : goal.returns-in-Fault
unfolding Comes Ends
returns-in-Fault c =
    let i = c.loop-f.invariant in
    (i.long, runs_stops _ _ _ _ _ _ _ _ _ i (sym c.turn_at-t.ensures ∙ c.in-Fault.is))

-- M02
pub step-r-requires : goal.step-r-requires
step-r-requires c =
    let last : turn_of c.args.book c.loop-f.format c.args.file.now c.loop-f.at ≡ turn.Last c.in-Last.command c.in-Last.next =
    sym c.turn_at-t.ensures ∙ c.in-Last.is in
    let i = c.loop-f.invariant in
    record { known = known _ _ _ _ _ _ _ _ _ i; sound = sound_last _ _ _ _ _ _ _ _ _ i last; command_value = held_last _ _ _ _ _ _ _ _ _ i last }

pub returns-in-Last : goal.returns-in-Last
unfolding lent_of Comes
returns-in-Last c =
    let last : turn_of c.args.book c.loop-f.format c.args.file.now c.loop-f.at ≡ turn.Last c.in-Last.command c.in-Last.next =
    sym c.turn_at-t.ensures ∙ c.in-Last.is in
    let s = c.step-r.ensures in (
      longs _ _ _ c.loop-f.invariant.long (longer _ _ _ _ _ _ _ _ _ s.0 s.1 s.2 s.3),
      rw (c.settled.ensures, c.tail_fault.ensures) (runs_ends _ _ _ _ _ _ _ _ _ c.loop-f.invariant last _ _ _ refl s.4),
    )

-- any other command: the fault of its code, and the operation
pub operation-struck-requires : goal.operation-struck-requires
unfolding lent_of
operation-struck-requires c =
    let more : turn_of c.args.book c.loop-f.format c.args.file.now c.loop-f.at ≡ turn.More c.in-More.command c.in-More.carried c.in-More.next =
    sym c.turn_at-t.ensures ∙ c.in-More.is in
    known_entries _ _ _ (lent_of _ _ _ _ _) _ _ _ _ _ c.loop-f.invariant more c.behind_code-p.ensures

pub returns-in-Fault-struck : goal.returns-in-Fault-struck
unfolding lent_of Comes Ends
returns-in-Fault-struck c =
    let more : turn_of c.args.book c.loop-f.format c.args.file.now c.loop-f.at ≡ turn.More c.in-More.command c.in-More.carried c.in-More.next =
    sym c.turn_at-t.ensures ∙ c.in-More.is in
    let o = c.operation-struck.ensures in (
      longs _ _ _ c.loop-f.invariant.long (longer _ _ _ _ _ _ _ _ _ o.0 refl refl refl),
      rw c.from.ensures (stroke_refuses _ _ _ (lent_of _ _ _ _ _) _ _ _ _ _ c.loop-f.invariant more c.operation-struck.new.e c.code_fault-fault.ensures refl c.behind_code-p.ensures o.1 c.in-Fault-struck.is),
    )

pub loop-f-smaller-in-Next : goal.loop-f-smaller-in-Next
loop-f-smaller-in-Next c =
    let more : turn_of c.args.book c.loop-f.format c.args.file.now c.loop-f.at ≡ turn.More c.in-More.command c.in-More.carried c.in-More.next =
    sym c.turn_at-t.ensures ∙ c.in-More.is in
    let o = more_onward _ c.loop-f.format _ c.loop-f.at c.loop-f.invariant.running.within more in
    omega (arith, o.0, o.1)

pub loop-f-preserved-in-Next : goal.loop-f-preserved-in-Next
unfolding lent_of with_entries
loop-f-preserved-in-Next c =
    let more : turn_of c.args.book c.loop-f.format c.args.file.now c.loop-f.at ≡ turn.More c.in-More.command c.in-More.carried c.in-More.next =
    sym c.turn_at-t.ensures ∙ c.in-More.is in
    let o = c.operation-struck.ensures in
    rw c.with_stroke-p.ensures
    (stroke_goes _ _ _ (lent_of _ _ _ _ _) _ _ _ _ _ c.loop-f.invariant more c.operation-struck.new.e c.code_fault-fault.ensures refl c.behind_code-p.ensures o.1 c.in-Next.is o.0)

-- a command that is no operation: nothing has changed before it
pub overflow_add-counted : goal.overflow_add-counted
unfolding lent_of with_entries
overflow_add-counted c =
    let more : turn_of c.args.book c.loop-f.format c.args.file.now c.loop-f.at ≡ turn.More c.in-More.command c.in-More.carried c.in-More.next =
    sym c.turn_at-t.ensures ∙ c.in-More.is in
    let still = (stroke_none _ _ _ (lent_of _ _ _ _ _) _ _ _ _ _ c.loop-f.invariant more c.operation-struck.new.e c.code_fault-fault.ensures refl
    c.behind_code-p.ensures c.operation-struck.ensures.1 c.in-Other.is) in
    omega (arith, c.rounded_of.ensures, runs_counts _ _ _ _ _ _ _ _ _ still.1 more)

pub judge-j-requires : goal.judge-j-requires
unfolding lent_of with_entries
judge-j-requires c =
    let more : turn_of c.args.book c.loop-f.format c.args.file.now c.loop-f.at ≡ turn.More c.in-More.command c.in-More.carried c.in-More.next =
    sym c.turn_at-t.ensures ∙ c.in-More.is in
    let still = (stroke_none _ _ _ (lent_of _ _ _ _ _) _ _ _ _ _ c.loop-f.invariant more c.operation-struck.new.e c.code_fault-fault.ensures refl
    c.behind_code-p.ensures c.operation-struck.ensures.1 c.in-Other.is) in
    runs_few _ _ _ _ _ _ _ _ _ still.1 more

pub returns-in_default : goal.returns-in_default
unfolding lent_of with_entries Comes
returns-in_default c =
    let more : turn_of c.args.book c.loop-f.format c.args.file.now c.loop-f.at ≡ turn.More c.in-More.command c.in-More.carried c.in-More.next =
    sym c.turn_at-t.ensures ∙ c.in-More.is in
    let still = (stroke_none _ _ _ (lent_of _ _ _ _ _) _ _ _ _ _ c.loop-f.invariant more c.operation-struck.new.e c.code_fault-fault.ensures refl
    c.behind_code-p.ensures c.operation-struck.ensures.1 c.in-Other.is) in
    (still.1.long, runs_asks _ _ _ _ _ _ _ _ _ still.1 more _ c.requires.looked (sym c.judge-j.ensures ∙ c.in_default.is))

pub step-r-requires-in-Other : goal.step-r-requires-in-Other
unfolding lent_of with_entries
step-r-requires-in-Other c =
    let more : turn_of c.args.book c.loop-f.format c.args.file.now c.loop-f.at ≡ turn.More c.in-More.command c.in-More.carried c.in-More.next =
    sym c.turn_at-t.ensures ∙ c.in-More.is in
    let still = (stroke_none _ _ _ (lent_of _ _ _ _ _) _ _ _ _ _ c.loop-f.invariant more c.operation-struck.new.e c.code_fault-fault.ensures refl
    c.behind_code-p.ensures c.operation-struck.ensures.1 c.in-Other.is) in
    record { known = known _ _ _ _ _ _ _ _ _ still.1; sound = sound_more _ _ _ _ _ _ _ _ _ still.1 more; command_value = still.0 }

pub returns-in-Err : goal.returns-in-Err
unfolding lent_of with_entries Comes Ends
returns-in-Err c =
    let more : turn_of c.args.book c.loop-f.format c.args.file.now c.loop-f.at ≡ turn.More c.in-More.command c.in-More.carried c.in-More.next =
    sym c.turn_at-t.ensures ∙ c.in-More.is in
    let still = (stroke_none _ _ _ (lent_of _ _ _ _ _) _ _ _ _ _ c.loop-f.invariant more c.operation-struck.new.e c.code_fault-fault.ensures refl
    c.behind_code-p.ensures c.operation-struck.ensures.1 c.in-Other.is) in
    let s = c.step-r-in-Other.ensures in (
      longs _ _ _ still.1.long (longer _ _ _ _ _ _ _ _ _ s.0 s.1 s.2 s.3),
      rw c.from-in-Err.ensures (runs_refuses _ _ _ _ _ _ _ _ _ still.1 more _ c.requires.looked (sym c.judge-j.ensures ∙ c.in-Some.is) _ _ s.4 c.in-Err.is),
    )

pub loop-f-smaller : goal.loop-f-smaller
loop-f-smaller c =
    let more : turn_of c.args.book c.loop-f.format c.args.file.now c.loop-f.at ≡ turn.More c.in-More.command c.in-More.carried c.in-More.next =
    sym c.turn_at-t.ensures ∙ c.in-More.is in
    let o = more_onward _ c.loop-f.format _ c.loop-f.at c.loop-f.invariant.running.within more in
    omega (arith, o.0, o.1)

pub loop-f-preserved : goal.loop-f-preserved
unfolding lent_of with_entries
loop-f-preserved c =
    let more : turn_of c.args.book c.loop-f.format c.args.file.now c.loop-f.at ≡ turn.More c.in-More.command c.in-More.carried c.in-More.next =
    sym c.turn_at-t.ensures ∙ c.in-More.is in
    let still = (stroke_none _ _ _ (lent_of _ _ _ _ _) _ _ _ _ _ c.loop-f.invariant more c.operation-struck.new.e c.code_fault-fault.ensures refl
    c.behind_code-p.ensures c.operation-struck.ensures.1 c.in-Other.is) in
    let s = c.step-r-in-Other.ensures in
    rw c.rounded_of.ensures
    (runs_goes _ _ _ _ _ _ _ _ _ still.1 more _ c.requires.looked (sym c.judge-j.ensures ∙ c.in-Some.is) _ _ s.4 refl (longer _ _ _ _ _ _ _ _ _ s.0 s.1 s.2 s.3) c.in-Ok.is)

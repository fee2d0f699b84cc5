use mathlib.Core.Path.{◌≡◌, sym, ap, ◌∙◌}
use mathlib.Core.Bool.{Bool}
use native.Mathlib.Omega.{arith}
use lib.ListN.{length}
use lib.Seq.{slice}
use Rattle.mending.specs.Extents.{closing}
use Rattle.mending.proofs.Found.{Cuts, command_cut}
use Rattle.mending.specs.Changes.{repeats}
use Rattle.mending.proofs.Laying.{laid_long}
use Rattle.mending.proofs.Running.{running_starts, ends_tail, ends_there, closes_followed, closes_clean, drops, drops_fit, drops_short, keeps, keeps_fit, keeps_short}
use Rattle.mending.proofs.mend_into.Goals as goal

pub loop-found-init : goal.loop-found-init
loop-found-init c = running_starts _ _ _ _ c.requires.0 c.requires.1

pub shape_of-out-then-is_followed : goal.shape_of-out-then-is_followed
shape_of-out-then-is_followed c =
    c.finish.ensures.as_long ∙ c.loop-found.invariant.out_part.long

pub shape_of-noted-then-is_followed : goal.shape_of-noted-then-is_followed
shape_of-noted-then-is_followed c =
    c.finish.ensures.as_many ∙ c.loop-found.invariant.noted_part.many

pub returns-then-is_followed : goal.returns-then-is_followed
returns-then-is_followed c =
    let cutting : Cuts c.args.file.now c.loop-found.at c.in-Some.found.place c.in-Some.found.next =
    command_cut _ _ _ _ (sym c.in-Some.is ∙ c.extent_at-e.ensures) in
    let ending : (b : Bool) → c.is_closing.result ≡ b → closing c.args.book (slice c.in-Some.found.place c.in-Some.found.next c.args.file.now) ≡ b =
    λ b e. ap (closing _) (sym c.part-c.ensures) ∙ sym c.is_closing.ensures ∙ e in
    closes_followed c.loop-found.invariant cutting (ending _ c.if-is_closing.true)
    (sym c.is_followed.ensures ∙ c.if-is_followed.true) c.part.ensures c.finish.ensures

pub shape_of-out-then-is_closing : goal.shape_of-out-then-is_closing
shape_of-out-then-is_closing c =
    c.finish-then-is_closing.ensures.as_long ∙ c.loop-found.invariant.out_part.long

pub shape_of-noted-then-is_closing : goal.shape_of-noted-then-is_closing
shape_of-noted-then-is_closing c =
    c.finish-then-is_closing.ensures.as_many ∙ c.loop-found.invariant.noted_part.many

pub returns-then-is_closing : goal.returns-then-is_closing
returns-then-is_closing c =
    let cutting : Cuts c.args.file.now c.loop-found.at c.in-Some.found.place c.in-Some.found.next =
    command_cut _ _ _ _ (sym c.in-Some.is ∙ c.extent_at-e.ensures) in
    let ending : (b : Bool) → c.is_closing.result ≡ b → closing c.args.book (slice c.in-Some.found.place c.in-Some.found.next c.args.file.now) ≡ b =
    λ b e. ap (closing _) (sym c.part-c.ensures) ∙ sym c.is_closing.ensures ∙ e in
    closes_clean c.loop-found.invariant cutting (ending _ c.if-is_closing.true)
    (sym c.is_followed.ensures ∙ c.if-is_followed.false) c.from_on.ensures c.finish-then-is_closing.ensures

pub overflow_sub-n : goal.overflow_sub-n
overflow_sub-n c =
    let cutting : Cuts c.args.file.now c.loop-found.at c.in-Some.found.place c.in-Some.found.next =
    command_cut _ _ _ _ (sym c.in-Some.is ∙ c.extent_at-e.ensures) in
    cutting.low

pub overflow_add-n : goal.overflow_add-n
overflow_add-n c =
    let cutting : Cuts c.args.file.now c.loop-found.at c.in-Some.found.place c.in-Some.found.next =
    command_cut _ _ _ _ (sym c.in-Some.is ∙ c.extent_at-e.ensures) in
    let ending : (b : Bool) → c.is_closing.result ≡ b → closing c.args.book (slice c.in-Some.found.place c.in-Some.found.next c.args.file.now) ≡ b =
    λ b e. ap (closing _) (sym c.part-c.ensures) ∙ sym c.is_closing.ensures ∙ e in
    let repeating : (b : Bool) → c.is_repeat.result ≡ b →
    let f = c.args.file.now in let l = c.loop-found in
    repeats (slice l.fs.from l.fs.to f) (slice l.mo.from l.mo.to f) (slice c.in-Some.found.place c.in-Some.found.next f) ≡ b =
    λ b e. ap (repeats _ _) (sym c.part-c.ensures) ∙ sym c.is_repeat.ensures ∙ e in
    omega (arith, drops_fit c.loop-found.invariant cutting (ending _ c.if-is_closing.false) (repeating _ c.if-is_repeat.true) c.part-then-is_repeat.ensures c.lay.ensures.1 (sym c.if-lay.true ∙ c.lay.ensures.0))

pub loop-found-smaller-then-lay : goal.loop-found-smaller-then-lay
loop-found-smaller-then-lay c =
    let cutting : Cuts c.args.file.now c.loop-found.at c.in-Some.found.place c.in-Some.found.next =
    command_cut _ _ _ _ (sym c.in-Some.is ∙ c.extent_at-e.ensures) in
    omega (arith, cutting.low, cutting.some, cutting.inside)

pub loop-found-preserved-then-lay : goal.loop-found-preserved-then-lay
loop-found-preserved-then-lay c =
    let cutting : Cuts c.args.file.now c.loop-found.at c.in-Some.found.place c.in-Some.found.next =
    command_cut _ _ _ _ (sym c.in-Some.is ∙ c.extent_at-e.ensures) in
    let ending : (b : Bool) → c.is_closing.result ≡ b → closing c.args.book (slice c.in-Some.found.place c.in-Some.found.next c.args.file.now) ≡ b =
    λ b e. ap (closing _) (sym c.part-c.ensures) ∙ sym c.is_closing.ensures ∙ e in
    let repeating : (b : Bool) → c.is_repeat.result ≡ b →
    let f = c.args.file.now in let l = c.loop-found in
    repeats (slice l.fs.from l.fs.to f) (slice l.mo.from l.mo.to f) (slice c.in-Some.found.place c.in-Some.found.next f) ≡ b =
    λ b e. ap (repeats _ _) (sym c.part-c.ensures) ∙ sym c.is_repeat.ensures ∙ e in
    drops c.loop-found.invariant cutting (ending _ c.if-is_closing.false) (repeating _ c.if-is_repeat.true) c.part-then-is_repeat.ensures c.lay.ensures.1 (sym c.if-lay.true ∙ c.lay.ensures.0) c.note_on-t.ensures

pub shape_of-out-else-lay : goal.shape_of-out-else-lay
shape_of-out-else-lay c =
    ap length c.lay.ensures.1 ∙ laid_long _ _ _ ∙ c.loop-found.invariant.out_part.long

pub shape_of-noted-else-lay : goal.shape_of-noted-else-lay
shape_of-noted-else-lay c =
    c.loop-found.invariant.noted_part.many

pub returns-else-lay : goal.returns-else-lay
returns-else-lay c =
    let cutting : Cuts c.args.file.now c.loop-found.at c.in-Some.found.place c.in-Some.found.next =
    command_cut _ _ _ _ (sym c.in-Some.is ∙ c.extent_at-e.ensures) in
    let ending : (b : Bool) → c.is_closing.result ≡ b → closing c.args.book (slice c.in-Some.found.place c.in-Some.found.next c.args.file.now) ≡ b =
    λ b e. ap (closing _) (sym c.part-c.ensures) ∙ sym c.is_closing.ensures ∙ e in
    let repeating : (b : Bool) → c.is_repeat.result ≡ b →
    let f = c.args.file.now in let l = c.loop-found in
    repeats (slice l.fs.from l.fs.to f) (slice l.mo.from l.mo.to f) (slice c.in-Some.found.place c.in-Some.found.next f) ≡ b =
    λ b e. ap (repeats _ _) (sym c.part-c.ensures) ∙ sym c.is_repeat.ensures ∙ e in
    drops_short c.loop-found.invariant cutting (ending _ c.if-is_closing.false) (repeating _ c.if-is_repeat.true) c.part-then-is_repeat.ensures c.lay.ensures.1 (sym c.if-lay.false ∙ c.lay.ensures.0)

pub overflow_sub-n-then-lay-2 : goal.overflow_sub-n-then-lay-2
overflow_sub-n-then-lay-2 c =
    let cutting : Cuts c.args.file.now c.loop-found.at c.in-Some.found.place c.in-Some.found.next =
    command_cut _ _ _ _ (sym c.in-Some.is ∙ c.extent_at-e.ensures) in
    omega (arith, cutting.low, cutting.some)

pub overflow_add-n-then-lay-2 : goal.overflow_add-n-then-lay-2
overflow_add-n-then-lay-2 c =
    let cutting : Cuts c.args.file.now c.loop-found.at c.in-Some.found.place c.in-Some.found.next =
    command_cut _ _ _ _ (sym c.in-Some.is ∙ c.extent_at-e.ensures) in
    let ending : (b : Bool) → c.is_closing.result ≡ b → closing c.args.book (slice c.in-Some.found.place c.in-Some.found.next c.args.file.now) ≡ b =
    λ b e. ap (closing _) (sym c.part-c.ensures) ∙ sym c.is_closing.ensures ∙ e in
    let repeating : (b : Bool) → c.is_repeat.result ≡ b →
    let f = c.args.file.now in let l = c.loop-found in
    repeats (slice l.fs.from l.fs.to f) (slice l.mo.from l.mo.to f) (slice c.in-Some.found.place c.in-Some.found.next f) ≡ b =
    λ b e. ap (repeats _ _) (sym c.part-c.ensures) ∙ sym c.is_repeat.ensures ∙ e in
    omega (arith, keeps_fit c.loop-found.invariant cutting (ending _ c.if-is_closing.false) (repeating _ c.if-is_repeat.false) c.part-else-is_repeat.ensures c.lay-else-is_repeat.ensures.1 (sym c.if-lay-2.true ∙ c.lay-else-is_repeat.ensures.0))

pub first_of-fs-requires : goal.first_of-fs-requires
first_of-fs-requires c =
    let cutting : Cuts c.args.file.now c.loop-found.at c.in-Some.found.place c.in-Some.found.next =
    command_cut _ _ _ _ (sym c.in-Some.is ∙ c.extent_at-e.ensures) in
    record { some = cutting.some; inside = cutting.inside }

pub first_of-mo-requires : goal.first_of-mo-requires
first_of-mo-requires c =
    let cutting : Cuts c.args.file.now c.loop-found.at c.in-Some.found.place c.in-Some.found.next =
    command_cut _ _ _ _ (sym c.in-Some.is ∙ c.extent_at-e.ensures) in
    record { some = cutting.some; inside = cutting.inside }

pub loop-found-smaller : goal.loop-found-smaller
loop-found-smaller c =
    let cutting : Cuts c.args.file.now c.loop-found.at c.in-Some.found.place c.in-Some.found.next =
    command_cut _ _ _ _ (sym c.in-Some.is ∙ c.extent_at-e.ensures) in
    omega (arith, cutting.low, cutting.some, cutting.inside)

pub loop-found-preserved : goal.loop-found-preserved
loop-found-preserved c =
    let cutting : Cuts c.args.file.now c.loop-found.at c.in-Some.found.place c.in-Some.found.next =
    command_cut _ _ _ _ (sym c.in-Some.is ∙ c.extent_at-e.ensures) in
    let ending : (b : Bool) → c.is_closing.result ≡ b → closing c.args.book (slice c.in-Some.found.place c.in-Some.found.next c.args.file.now) ≡ b =
    λ b e. ap (closing _) (sym c.part-c.ensures) ∙ sym c.is_closing.ensures ∙ e in
    let repeating : (b : Bool) → c.is_repeat.result ≡ b →
    let f = c.args.file.now in let l = c.loop-found in
    repeats (slice l.fs.from l.fs.to f) (slice l.mo.from l.mo.to f) (slice c.in-Some.found.place c.in-Some.found.next f) ≡ b =
    λ b e. ap (repeats _ _) (sym c.part-c.ensures) ∙ sym c.is_repeat.ensures ∙ e in
    keeps c.loop-found.invariant cutting (ending _ c.if-is_closing.false) (repeating _ c.if-is_repeat.false) c.part-else-is_repeat.ensures c.lay-else-is_repeat.ensures.1 (sym c.if-lay-2.true ∙ c.lay-else-is_repeat.ensures.0)
    c.first_of-fs.ensures c.first_of-mo.ensures

pub shape_of-out-else-lay-2 : goal.shape_of-out-else-lay-2
shape_of-out-else-lay-2 c =
    ap length c.lay-else-is_repeat.ensures.1 ∙ laid_long _ _ _ ∙ c.loop-found.invariant.out_part.long

pub shape_of-noted-else-lay-2 : goal.shape_of-noted-else-lay-2
shape_of-noted-else-lay-2 c = c.loop-found.invariant.noted_part.many

pub returns-else-lay-2 : goal.returns-else-lay-2
returns-else-lay-2 c =
    let cutting : Cuts c.args.file.now c.loop-found.at c.in-Some.found.place c.in-Some.found.next =
    command_cut _ _ _ _ (sym c.in-Some.is ∙ c.extent_at-e.ensures) in
    let ending : (b : Bool) → c.is_closing.result ≡ b → closing c.args.book (slice c.in-Some.found.place c.in-Some.found.next c.args.file.now) ≡ b =
    λ b e. ap (closing _) (sym c.part-c.ensures) ∙ sym c.is_closing.ensures ∙ e in
    let repeating : (b : Bool) → c.is_repeat.result ≡ b →
    let f = c.args.file.now in let l = c.loop-found in
    repeats (slice l.fs.from l.fs.to f) (slice l.mo.from l.mo.to f) (slice c.in-Some.found.place c.in-Some.found.next f) ≡ b =
    λ b e. ap (repeats _ _) (sym c.part-c.ensures) ∙ sym c.is_repeat.ensures ∙ e in
    keeps_short c.loop-found.invariant cutting (ending _ c.if-is_closing.false) (repeating _ c.if-is_repeat.false) c.part-else-is_repeat.ensures c.lay-else-is_repeat.ensures.1 (sym c.if-lay-2.false ∙ c.lay-else-is_repeat.ensures.0)

pub shape_of-out-then-at-file : goal.shape_of-out-then-at-file
shape_of-out-then-at-file c =
    c.finish-then-at-file.ensures.as_long ∙ c.loop-found.invariant.out_part.long

pub shape_of-noted-then-at-file : goal.shape_of-noted-then-at-file
shape_of-noted-then-at-file c =
    c.finish-then-at-file.ensures.as_many ∙ c.loop-found.invariant.noted_part.many

pub returns-then-at-file : goal.returns-then-at-file
returns-then-at-file c =
    ends_tail c.loop-found.invariant (sym c.in-None.is ∙ c.extent_at-e.ensures) c.if-at-file.true c.finish-then-at-file.ensures

pub shape_of-out-in-None : goal.shape_of-out-in-None
shape_of-out-in-None c = c.finish-in-None.ensures.as_long ∙ c.loop-found.invariant.out_part.long

pub shape_of-noted-in-None : goal.shape_of-noted-in-None
shape_of-noted-in-None c = c.finish-in-None.ensures.as_many ∙ c.loop-found.invariant.noted_part.many

pub returns-in-None : goal.returns-in-None
returns-in-None c =
    ends_there c.loop-found.invariant (sym c.in-None.is ∙ c.extent_at-e.ensures) c.if-at-file.false c.finish-in-None.ensures

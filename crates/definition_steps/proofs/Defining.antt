-- AD: the aperture that is put is the one that reading adds, its numbers stand after the others, and all else is known as before.
-- Assumes nothing.
use Rattle.std.specs.Prelude.{Err, Ok}
use Prim.Native.Nat.{ℕ, ◌+◌, ◌-◌, ◌≤◌, ◌<◌}
use mathlib.Core.Path.{◌≡◌, refl, sym, ap, ◌∙◌}
use mathlib.Core.Bool.{Bool, true, false, not, cond}
use mathlib.Core.List.{List, ◌++◌}
use native.Mathlib.Nat.{le_refl}
use native.Mathlib.Omega.{arith}
use lib.Dec.{eqb, leb, ltb}
use lib.IntN.{ℤ}
use lib.ListN.{length}
use borrow.Author.Tests.{ltb-true, not-false, ne_eqb}
use Rattle.base.specs.Or.{◌or◌}
use Rattle.base.specs.Choose.{pick}
use Rattle.index.specs.Numbers.{numbered}
use Rattle.sheet.specs.Records.{entry_room, aperture_room}
use Rattle.sheet.specs.declared.Aperture.{Aperture}
use Rattle.tables.specs.Added.{has_room, added}
use Rattle.tables.specs.Apertures.{aperture_words}
use Rattle.faults.specs.Rule.{number_of_rule, number_told}
use Rattle.faults.specs.declared.Rule.{Rule}
use Rattle.macros.specs.declared.Outcome.{Outcome}
use Rattle.templates.specs.Templates.{kind_of}
use Rattle.graphics.specs.declared.Graphics.{Graphics}
use Rattle.command_rules.specs.Rules.{aperture_fault}
use Rattle.law_reading.specs.State.{State}
use Rattle.law_reading.specs.Apertures as reading
use Rattle.law_reading.specs.Apertures.{is_standard, is_among, names_of, outcome_of, defined}
use Rattle.law_reading.specs.Steps.{aperture_step}
use Rattle.law_reading.specs.Steps as steps
use Rattle.base.proofs.Faults.{unbroken}
use Rattle.law_open_store.proofs.Grow.{stays_as_high}
use Rattle.progress.specs.Parts as parts
use Rattle.progress.specs.Lent.{Lent, room_of, with_apertures, with_numbers}
use Rattle.progress.specs.Levels.{level_of}
use Rattle.progress.specs.Tables.{as_stored, ApertureTable, NumberTable}
use Rattle.progress.specs.Knows.{Knows, Follows}
use Rattle.progress.specs.declared.Progress.{Progress}
use Rattle.progress.proofs.Around.{around_kept}
use Rattle.progress.proofs.Outside.{no_contour}
use Rattle.progress.proofs.AsRead.{other_as_read}
use Rattle.progress.proofs.Apertures.{
  taken_at_lem,
  taken_free,
  known_long,
  record_kept,
  table_more,
  shows_more,
  chosen_kept,
}
use Rattle.definition_steps.specs.Lends.{Lends}
use Rattle.definition_steps.specs.Worked.{Comes, Works, WorksOut}
use Rattle.definition_steps.proofs.Passing.{passes_number, room_full}
use Rattle.definition_steps.proofs.Kept.{over_is, kept_inside, behind_kept, numbers_more}

-- ---- the rules

-- its outcome, then room
abbrev tail : ℕ → Bool → ℕ
tail f full = pick (not (eqb f 0)) f (pick full 17 0)

-- 17 of the working out is as good as no room
worked_tail : (f : ℕ) (over full : Bool) → tail (cond (eqb f 0) (cond over 17 0) f) full ≡ tail f (full or over)
unfolding pick ◌or◌
worked_tail f over full = go (eqb f 0) refl over full
  where
    go : (b : Bool) → eqb f 0 ≡ b → (over full : Bool) → tail (cond b (cond over 17 0) f) full ≡ tail f (full or over)
    go true e true true = rw e
    go true e true false = rw e
    go true e false true = rw e
    go true e false false = rw e
    go false e over full = rw e

worked_fault : (g : Graphics) (f : ℕ) (over full : Bool) → aperture_fault g false (cond (eqb f 0) (cond over 17 0) f) full ≡ aperture_fault g false f (full or over)
unfolding aperture_fault
worked_fault g f over full = ap (λ x. pick g.region.on 7 (pick false 8 x)) (worked_tail f over full)

-- an unknown template is as good as a number that is taken, and either decides before all that follows
unknown_fault : (g : Graphics) (full : Bool) (f : ℕ) (full' : Bool) → aperture_fault g true f full' ≡ aperture_fault g false 8 full
unfolding aperture_fault pick
unknown_fault g full f full' = refl

taken_fault : (g : Graphics) (f f' : ℕ) (full full' : Bool) → aperture_fault g true f full ≡ aperture_fault g true f' full'
unfolding aperture_fault pick
taken_fault g f f' full full' = refl

taken_some : (g : Graphics) (f : ℕ) (full : Bool) → 1 ≤ aperture_fault g true f full
unfolding aperture_fault pick
taken_some g f full = go g.region.on
  where
    go : (b : Bool) → 1 ≤ pick b 7 8
    go true = omega arith
    go false = omega arith

-- a working out that answers 0 had room
worked_fits : (f : ℕ) (over : Bool) → cond (eqb f 0) (cond over 17 0) f ≡ 0 → over ≡ false
worked_fits f over = go (eqb f 0) refl over
  where
    go : (b : Bool) → eqb f 0 ≡ b → (over : Bool) → cond b (cond over 17 0) f ≡ 0 → over ≡ false
    go true e true z = absurd (omega arith)
    go true e false z = refl
    go false e over z = absurd (let q : f ≡ 0 = z in let w : true ≡ false = sym (rw q) ∙ e in let y : ◌≡◌ {A = ℕ} 0 1 = cc in omega arith)

-- no template makes a block
pick_low : (b : Bool) (x y : ℕ) → x ≤ 5 → y ≤ 5 → pick b x y ≤ 5
unfolding pick
pick_low true x y h k = h
pick_low false x y h k = k

kind_low : (name : List ℕ) → kind_of name ≤ 5
unfolding kind_of
kind_low name = pick_low _ _ _ (omega arith) (pick_low _ _ _ (omega arith) (pick_low _ _ _ (omega arith) (pick_low _ _ _ (omega arith) (omega arith))))

no_block : (name : List ℕ) → eqb (kind_of name) 6 ≡ false
no_block name = ne_eqb (kind_of name) 6 (λ q. let l = kind_low name in let z : kind_of name ≡ 6 = q in omega arith)

-- ---- the step

module _ (w : Lent) (p : Progress) (s : State) (k : Knows w p s) (file a m : List ℕ) (numbers : List ℤ) (lends : Lends file a m numbers w)
    (n : ℕ) (name parameters : List ℕ) where
  table : ApertureTable a p.apertures s.apertures
  table = rw lends.apertures_are at k.apertures

  numbered_so : NumberTable numbers p.numbers s.numbers
  numbered_so = rw lends.numbers_are at k.numbers

  abbrev e : reading.Outcome
  e = outcome_of name parameters s.macros

  pub aperture_taken : (i : ℕ) → numbered a p.apertures n ≡ Ok i → (K : Progress → State → Type 0) (rule : Rule) → number_of_rule rule ≡ pick p.graphics.region.on 7 8
      → Follows K (aperture_step (room_of w) n name parameters s) (Err rule)
  unfolding Follows aperture_step aperture_fault pick ◌or◌
  aperture_taken i at K rule told = rw (taken_at_lem a p.apertures s.apertures table n i at, ← k.graphics) (sym told)

  module _ (link : ℕ) (free : numbered a p.apertures n ≡ Err link) (l' : List ℤ) (o : Outcome)
      (works : WorksOut file m p.macros name parameters numbers l' p.numbers o) (room : Bool) (er : room ≡ has_room a p.apertures)
      (fault : ℕ) (ef : fault ≡ aperture_fault p.graphics false (number_told o.worked) (not room)) where
    abbrev is_known : Bool
    is_known = is_standard name or is_among name (names_of s.macros)

    works_so : Works is_known e numbers l' p.numbers o
    works_so = works s.macros (rw (lends.file_is, lends.macros_are) at k.macros)

    abbrev over : Bool
    over = ltb (length numbers - p.numbers) (length e.kept)

    -- what is worked out, or 8, is what the rules say
    fault_by : (b : Bool) → Works b e numbers l' p.numbers o → aperture_fault p.graphics (not b) e.fault (not room or over) ≡ fault
    unfolding Works number_told number_of_rule
    fault_by true c =
        let number : number_told o.worked ≡ cond (eqb e.fault 0) (cond over 17 0) e.fault =
        c.says.worked
        ∙ ap (λ x. cond (eqb e.fault 0) (cond x 17 0) e.fault) (over_is (length numbers) p.numbers e.kept numbered_so.fits) in
        sym (worked_fault p.graphics e.fault over (not room)) ∙ ap (λ x. aperture_fault p.graphics false x (not room)) (sym number) ∙ sym ef
    fault_by false c =
        unknown_fault p.graphics (not room) e.fault (not room or over)
        ∙ ap (λ x. aperture_fault p.graphics false x (not room)) (sym (ap (λ x. number_told x.worked) c)) ∙ sym ef

    fault_is : (aperture_step (room_of w) n name parameters s).fault ≡ fault
    unfolding aperture_step room_of has_room ◌or◌
    fault_is =
        let taken = taken_free a p.apertures s.apertures table n link free in
        let full : leb (aperture_room w.apertures) (length s.apertures) ≡ not room = rw (lends.apertures_are, known_long a p.apertures s.apertures table, er) (room_full p.apertures (aperture_room a)) in
        let more : ltb (length w.numbers - length s.numbers) (length e.kept) ≡ over = rw (lends.numbers_are, numbered_so.long) in
        rw (taken, full, more, ← k.graphics) (fault_by is_known works_so)

    pub aperture_refused : (K : Progress → State → Type 0) (rule : Rule) → number_of_rule rule ≡ fault → Follows K (aperture_step (room_of w) n name parameters s) (Err rule)
    unfolding Follows
    aperture_refused K rule is = fault_is ∙ sym is

    -- what a fault of 0 says
    module _ (z : fault ≡ 0) where
      none : aperture_fault p.graphics false (number_told o.worked) (not room) ≡ 0
      none = sym ef ∙ z

      outside : s.graphics.region.on ≡ false
      unfolding aperture_fault
      outside = rw (← k.graphics) (unbroken (omega arith) none).0

      rest : (number_told o.worked ≡ 0) × (pick {A = ℕ} (not room) 17 0 ≡ 0)
      unfolding aperture_fault
      rest = passes_number (number_told o.worked) _ (unbroken (omega arith) (unbroken (omega arith) none).1).1

      there : p.apertures < aperture_room a
      unfolding has_room
      there = ltb-true _ _ (sym er ∙ not-false _ (unbroken (omega arith) rest.1).0)

      comes_by : (b : Bool) → Works b e numbers l' p.numbers o → Comes e numbers l' p.numbers o
      unfolding Works number_told number_of_rule
      comes_by true c = c
      comes_by false c = absurd (let q : number_told o.worked ≡ 8 = ap (λ x. number_told x.worked) c in let y = rest.0 in omega arith)

      comes : Comes e numbers l' p.numbers o
      comes = comes_by is_known works_so

      fits : over ≡ false
      fits =
          sym (over_is (length numbers) p.numbers e.kept numbered_so.fits)
          ∙ worked_fits e.fault _ (sym comes.says.worked ∙ rest.0)

      used_is : o.used ≡ p.numbers + length e.kept
      used_is = comes.says.used ∙ behind_kept (length numbers) p.numbers e.kept numbered_so.fits fits

      more_numbers : NumberTable l' o.used (s.numbers ++ e.kept)
      more_numbers = rw (used_is, comes.stores)
          (numbers_more numbers s.numbers e.kept p.numbers numbered_so (kept_inside (length numbers) p.numbers e.kept numbered_so.fits fits))

      module _ (kind : ℕ) (ek : kind ≡ kind_of name) where
        abbrev r : Aperture
        r = record { number = n; kind = kind; first = p.numbers; len = o.used - p.numbers; items = 0; height = 0 }

        other : eqb kind 6 ≡ false
        other = rw ek (no_block name)

        is_defined : as_stored r ≡ defined n name (length s.numbers) e.kept
        unfolding as_stored defined
        is_defined =
            let u = used_is in
            let len : o.used - p.numbers ≡ length e.kept = omega arith in
            let first = sym numbered_so.long in
            λ i. record { number = n; kind = ek i; first = first i; len = len i; items = 0; height = 0 }

        pub aperture_goes : (a' : List ℕ) → a' ≡ added a p.apertures link (aperture_words r)
            → {next : Progress} → next ≡ parts.with_apertures (p.apertures + 1) (parts.with_numbers o.used p)
            → Follows (Knows (with_apertures a' (with_numbers l' w))) (aperture_step (room_of w) n name parameters s) (Ok next)
        unfolding Follows aperture_step steps.with_apertures steps.with_numbers with_apertures with_numbers level_of
        aperture_goes a' ea next_is =
            let kept = record_kept a p.apertures s.apertures table link r there free in (
              fault_is ∙ z,
              rw next_is (record {
                graphics = k.graphics;
                point = k.point;
                mode = k.mode;
                inside = k.inside;
                aperture = rw ea (chosen_kept a _ p.apertures (p.apertures + 1) s.graphics.aperture kept (omega arith) (rw lends.apertures_are at k.aperture));
                level = k.level;
                counts = k.counts;
                around = rw ea (around_kept w.entries a w.entries _ (entry_room w.entries) p.builder.start p.apertures (λ q some below. refl) (λ i l. sym (kept i l))
                    s.opened p.apertures (p.apertures + 1) p.builder.start _ _ _ _ _ (le_refl _) (le_refl _) (omega arith) (stays_as_high _) (rw lends.apertures_are at k.around));
                apertures = rw ea (rw (other_as_read r other ∙ is_defined) at (table_more a p.apertures s.apertures table link r there free (omega arith) (omega arith)));
                macros = k.macros;
                numbers = more_numbers;
                entries = k.entries;
                shows = rw ea (shows_more a p.apertures s.apertures table link r there free s.marks w.entries p.builder other (rw lends.apertures_are at k.shows));
                contour = λ c. absurd (no_contour w p s k outside c);
              }),
            )

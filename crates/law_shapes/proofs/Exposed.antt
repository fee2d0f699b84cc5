-- Of a store that a reading left, a lookup answers of each AD of the file what AD's rules worked out: its record stays to the end, the links lead to
-- it, and its numbers are cut into the primitives that its macro's blocks make.
-- Assumes nothing.
use Rattle.std.specs.Prelude.{Err}
use Prim.Native.Nat.{ℕ, zero, suc, ◌+◌, ◌-◌, ◌*◌, ◌≤◌, ◌<◌}
use mathlib.Core.Path.{◌≡◌, refl, sym, ap, ◌∙◌}
use mathlib.Core.Bool.{Bool, true, false, cond, not, false≢true}
use mathlib.Core.List.{List, [], ◌∷◌, ◌++◌, map, append_assoc, append-nil}
use native.Mathlib.Nat.{add-zero, zero-add}
use native.Mathlib.Omega.{arith}
use lib.Dec.{eqb, leb, lit≤}
use lib.IntN.{ℤ, pos}
use lib.ListN.{length, get_or, take, drop, replicate, length-append}
use lib.Seq.{slice, get_or-drop, take_at, drop-append_seam}
use borrow.Author.Tests.{eqb-true, eqb-false, le-leb, not-false}
use Rattle.base.specs.And.{◌and◌}
use Rattle.base.specs.Choose.{pick}
use Rattle.base.specs.Run.{run}
use Rattle.base.proofs.And.{and_l, and_r, and_i}
use Rattle.base.proofs.Faults.{unbroken}
use Rattle.book.specs.declared.Book.{Book}
use Rattle.command.specs.declared.Span.{Span}
use Rattle.command.specs.declared.Definition.TheVariants as definition
use Rattle.command.specs.declared.Command.TheVariants.{Define}
use Rattle.sequence.specs.Commands.{commands_of}
use Rattle.sequence.specs.declared.Placed.{Placed}
use Rattle.index.specs.Numbers.{number_of, Numbered}
use Rattle.sheet.specs.Records.{aperture_in, aperture_of, aperture_room}
use Rattle.sheet.specs.Containers.{apertures_used}
use Rattle.sheet.specs.Valid.{ok_head, valid}
use Rattle.sheet.specs.declared.Aperture as store
use Rattle.primitives.specs.Asked.{none, asked}
use Rattle.macros.specs.Given.{variables_of}
use Rattle.macros.specs.Work.{blocks_in, worked_out}
use Rattle.templates.specs.Templates.{kind_of, keeps}
use Rattle.graphics.specs.declared.Graphics.{Graphics}
use Rattle.command_rules.specs.Rules.{aperture_fault}
use Rattle.law_reading.specs.State.{Room, Aperture, Template, State, begun}
use Rattle.law_reading.specs.Apertures.{block, is_taken, is_standard, values_of, blocks_of, Outcome, outcome_of, defined, block_of}
use Rattle.law_reading.specs.Steps.{part, with_apertures, with_numbers, aperture_step, definition_step, step_of}
use Rattle.law_reading.specs.Reading.{step_at}
use Rattle.law_kept.specs.Kept.{Keeps, nothing, one, Reached, KeepsRules}
use Rattle.progress.specs.Tables.{as_stored, as_read}
use Rattle.reader.specs.Leaves.{Leaves}
use Rattle.shapes.specs.Primitives.{primitives_in}
use Rattle.shapes.specs.Shapes.{numbers_used, ok_store, template_fits, judged, found_by, lookup_of}
use Rattle.shapes.specs.declared.Shape.{Shape}
use Rattle.shapes.specs.Runs.{primitives_by}
use Rattle.law_shapes.specs.Figures.{figures_of, figure_at}
use Rattle.law_shapes.specs.Exposes.{Exposes}
use Rattle.law_shapes.proofs.Cuts.{Cuts, slice_from, work_cuts}
use Rattle.law_shapes.proofs.Led.{most_numbers, led_to, led_nowhere}
use Rattle.law_shapes.proofs.Low.{Low, AllLow, commands_low, low_before, low_behind}
use Rattle.law_shapes.proofs.Steps.{ad_free, kept_lasts}
use Rattle.law_shapes.proofs.Stays.{LowNumbers, Tidy, tidy_lasts, Stands, Stays, stays_lasts, stands_new, free_shut}
use Rattle.law_shapes.proofs.Judged.{Given, kind_given, kind_macro, kind_standard, template_fits_lem, judged_macro_lem, judged_template_lem}
use Rattle.shapes.specs.declared.LookupError.TheVariants as lookup_error

-- ---- records as reading knows them

read_number : (r : store.Aperture) → (as_read r).number ≡ r.number
unfolding as_read as_stored block_of
read_number r = go (eqb r.kind block)
  where
    go : (t : Bool) → (let x : Aperture = cond t (block_of r.number r.items r.height) (as_stored r) in x.number ≡ r.number)
    go true = refl
    go false = refl

-- a record that reading knows as no block is stored as it is
read_stored : (r : store.Aperture) (p : Aperture) → as_read r ≡ p → eqb p.kind block ≡ false → as_stored r ≡ p
unfolding as_read block_of
read_stored r p e other = go (eqb r.kind block) e
  where
    go : (t : Bool) → cond t (block_of r.number r.items r.height) (as_stored r) ≡ p → as_stored r ≡ p
    go true e = absurd (let six : p.kind ≡ 6 = ap (λ (x : Aperture). x.kind) (sym e) in let z : eqb 6 6 ≡ false = rw six at other in let w : ◌≡◌ {A = ℕ} 0 1 = cc in omega arith)
    go false e = e

run_low : (f : ℕ → Aperture) (k m : ℕ) → LowNumbers (run (λ j. f j ∷ []) k m) → (j : ℕ) → j < m → (f (k + j)).number < most_numbers
unfolding run
run_low f k zero h j l = absurd (omega (arith, l))
run_low f k (suc m) h zero l = rw (add-zero k) h.0
run_low f k (suc m) h (suc j) l = let e : k + suc j ≡ suc k + j = omega arith in rw e (run_low f (suc k) m h.1 j (omega (arith, l)))

run_stands : (f : ℕ → Aperture) (p : Aperture) (k m i : ℕ) → Stands i p (run (λ j. f j ∷ []) k m) → (i < m) × (f (k + i) ≡ p)
unfolding run
run_stands f p k zero i h = absurd h
run_stands f p k (suc m) zero h = (omega arith, rw (add-zero k) h)
run_stands f p k (suc m) (suc i) h =
    let e : k + suc i ≡ suc k + i = omega arith in
    let rest = run_stands f p (suc k) m i h in
    (omega (arith, rest.0), rw e rest.1)

-- ---- the outcome of an AD

standard_outcome : (name s : List ℕ) (ms : List Template) → is_standard name ≡ true → outcome_of name s ms ≡ record { fault = cond (keeps (kind_of name) (asked none (values_of s))) 0 10; kept = values_of s }
unfolding outcome_of
standard_outcome name s ms e = rw e refl

macro_outcome : (name s : List ℕ) (ms : List Template) → is_standard name ≡ false →
    outcome_of name s ms ≡ record { fault = (worked_out (variables_of s) (blocks_in (blocks_of name ms))).fault; kept = (worked_out (variables_of s) (blocks_in (blocks_of name ms))).written }
unfolding outcome_of
macro_outcome name s ms e = rw e refl

rule_kept : (t : Bool) → ◌≡◌ {A = ℕ} (cond t 0 10) 0 → t ≡ true
rule_kept true e = refl
rule_kept false e = absurd (omega (arith, e))

asked_long : (zs : List ℤ) → (asked none zs).count ≡ length zs
unfolding asked
asked_long zs = refl

standard_fits : (name s : List ℕ) (ms : List Template) → is_standard name ≡ true → (outcome_of name s ms).fault ≡ 0 → template_fits (kind_of name) (length (outcome_of name s ms).kept) ≡ true
standard_fits name s ms std e =
    let o = standard_outcome name s ms std in
    let k = rule_kept (keeps (kind_of name) (asked none (values_of s))) (sym (ap (λ (x : Outcome). x.fault) o) ∙ e) in
    let l : length (outcome_of name s ms).kept ≡ (asked none (values_of s)).count = ap (λ (x : Outcome). length x.kept) o ∙ sym (asked_long (values_of s)) in
    rw l (template_fits_lem (asked none (values_of s)) (kind_of name) k)

-- ---- the store that a reading left

module _ (file head e a m : List ℕ) (n : List ℤ) (t : State) (leaves : Leaves file head e a m n t) where
  numbers_fit : length t.numbers ≤ length n
  numbers_fit = let l = ap length leaves.numbers ∙ length-append t.numbers (replicate (length n - length t.numbers) (pos 0)) in omega (arith, l)

  ok : ok_store head a n ≡ true
  unfolding ok_store valid ok_head
  ok =
      let v = and_l _ _ leaves.sheet in
      and_i _ _ (and_l _ _ v) (and_i _ _ (and_r _ _ (and_r _ _ v)) (le-leb (numbers_used head) (length n) (rw leaves.numbers_used_lem numbers_fit)))

  number_is : (i : ℕ) → (aperture_of a i).number ≡ number_of a i
  unfolding aperture_of aperture_in
  number_is i = let p : i * 8 + 0 ≡ i * 8 = omega arith in rw p at (get_or-drop (i * 8) a 0 0)

  module _ (tidy : LowNumbers t.apertures) where
    numbers_low : (j : ℕ) → j < length t.apertures → number_of a j < most_numbers
    numbers_low j h =
        let l = run_low (λ i. as_read (aperture_of a i)) 0 (length t.apertures) (rw leaves.apertures tidy) j h in
        let k : (as_read (aperture_of a j)).number ≡ number_of a j = read_number (aperture_of a j) ∙ number_is j in
        rw k at (rw (zero-add j) at l)

    lookup_is : (i : ℕ) → i < length t.apertures → lookup_of head a n (number_of a i) ≡ judged (length t.numbers) n (aperture_of a i)
    unfolding lookup_of pick found_by
    lookup_is i h =
        let to = led_to a (length t.apertures) leaves.linked numbers_low i h in
        rw (ok, leaves.apertures_used_lem, to, leaves.numbers_used_lem) refl

    -- a number that no aperture has is 8
    pub unknown_is : (number : ℕ) → ((i : ℕ) → i < length t.apertures → (aperture_of a i).number ≡ number → ⊥) → lookup_of head a n number ≡ Err lookup_error.Unknown
    unfolding lookup_of pick found_by
    unknown_is number other =
        let no = led_nowhere a (length t.apertures) leaves.linked numbers_low number (λ i h q. other i h (number_is i ∙ q)) in
        rw (ok, leaves.apertures_used_lem, no) refl

  -- ---- an AD whose aperture and numbers stand in the state at the end

  module _ (tidy : LowNumbers t.apertures) (number i : ℕ) (name parameters : List ℕ) (ms : List Template) (front more : List ℤ)
      (none-broken : (outcome_of name parameters ms).fault ≡ 0)
      (stands : Stands i (defined number name (length front) (outcome_of name parameters ms).kept) t.apertures)
      (numbers : t.numbers ≡ (front ++ (outcome_of name parameters ms).kept) ++ more) where
    abbrev kept : List ℤ
    kept = (outcome_of name parameters ms).kept

    abbrev first : ℕ
    first = length front

    abbrev end : ℕ
    end = length front + length kept

    abbrev r : store.Aperture
    r = aperture_of a i

    place : (i < length t.apertures) × (as_read r ≡ defined number name first kept)
    place =
        let q = run_stands (λ j. as_read (aperture_of a j)) (defined number name first kept) 0 (length t.apertures) i (rw leaves.apertures stands) in
        (q.0, rw (zero-add i) at q.1)

    stored : as_stored r ≡ defined number name first kept
    unfolding defined
    stored = read_stored r (defined number name first kept) place.1 (kind_given name).six

    number_stored : r.number ≡ number
    unfolding defined as_stored
    number_stored = ap (λ (x : Aperture). x.number) stored

    kind_stored : r.kind ≡ kind_of name
    unfolding defined as_stored
    kind_stored = ap (λ (x : Aperture). x.kind) stored

    first_stored : r.first ≡ first
    unfolding defined as_stored
    first_stored = ap (λ (x : Aperture). x.first) stored

    len_stored : r.len ≡ length kept
    unfolding defined as_stored
    len_stored = ap (λ (x : Aperture). x.len) stored

    abbrev zeros : List ℤ
    zeros = replicate (length n - length t.numbers) (pos 0)

    all : n ≡ front ++ (kept ++ (more ++ zeros))
    all =
        leaves.numbers ∙ ap (λ (l : List ℤ). l ++ zeros) numbers ∙ append_assoc (front ++ kept) more zeros ∙ append_assoc front kept (more ++ zeros)

    behind : drop first n ≡ kept ++ (more ++ zeros)
    behind = ap (drop first) all ∙ drop-append_seam front (kept ++ (more ++ zeros))

    long : length t.numbers ≡ end + length more
    long = ap length numbers ∙ length-append (front ++ kept) more ∙ ap (λ (k : ℕ). k + length more) (length-append front kept)

    used : r.first + r.len ≤ length t.numbers
    used = omega (arith, first_stored, len_stored, long)

    inside : end ≤ length n
    inside = omega (arith, long, numbers_fit)

    parts : slice first end n ≡ kept
    parts = slice_from first (length kept) n (omega (arith, inside)) ∙ rw behind (take_at kept (more ++ zeros) (length kept) refl)

    given : Given r.kind
    given = rw kind_stored (kind_given name)

    looked : lookup_of head a n number ≡ judged (length t.numbers) n r
    looked = ap (lookup_of head a n) (sym number_stored ∙ number_is i) ∙ lookup_is tidy i place.0

    template_rule : is_standard name ≡ true → template_fits r.kind r.len ≡ true
    template_rule std = rw (kind_stored, len_stored) (standard_fits name parameters ms std none-broken)

    template : is_standard name ≡ true → Exposes head a n number name parameters ms
    template std = record {
      shape = record { number = r.number; kind = r.kind; first = r.first; count = r.len; primitives = 0 };
      found = looked ∙ judged_template_lem (length t.numbers) n r given used (rw kind_stored (kind_standard name std)) (template_rule std);
      numbered = number_stored;
      kind = kind_stored;
      kept = rw (first_stored, len_stored) parts;
      figures = λ q. absurd (false≢true (sym q ∙ std));
    }

    cuts : is_standard name ≡ false → Cuts n first end (figures_of (variables_of parameters) (blocks_in (blocks_of name ms)))
    cuts other =
        let o = macro_outcome name parameters ms other in
        let w : kept ≡ (worked_out (variables_of parameters) (blocks_in (blocks_of name ms))).written = ap (λ (x : Outcome). x.kept) o in
        work_cuts (blocks_in (blocks_of name ms)) (variables_of parameters) n first end (more ++ zeros) (sym (ap (λ (x : Outcome). x.fault) o) ∙ none-broken)
        (behind ∙ ap (λ (l : List ℤ). l ++ (more ++ zeros)) w)
        (ap (λ (l : List ℤ). first + length l) (sym w))
        inside

    macro : is_standard name ≡ false → Exposes head a n number name parameters ms
    unfolding primitives_by
    macro other =
        let five : eqb r.kind 5 ≡ true = rw kind_stored (kind_macro name other) in
        let c = cuts other in
        record {
          shape = record { number = r.number; kind = r.kind; first = r.first; count = r.len; primitives = length (primitives_in n r.first (r.first + r.len)).list };
          found = looked ∙ judged_macro_lem (length t.numbers) n r given used five (rw (first_stored, len_stored) c.whole);
          numbered = number_stored;
          kind = kind_stored;
          kept = rw (first_stored, len_stored) parts;
          figures = λ q. rw (five, first_stored, len_stored) c.figures;
        }

    pub exposes : Exposes head a n number name parameters ms
    exposes = go (is_standard name) refl
      where
        go : (b : Bool) → is_standard name ≡ b → Exposes head a n number name parameters ms
        go true e = template e
        go false e = macro e

-- ---- an AD of the file

-- the commands after those that lead to a state lead on from it
keeps_behind : {room : Room} {file : List ℕ} {s u t : State} (xs ys : List Placed) → Keeps room file s xs u → Keeps room file s (xs ++ ys) t → Keeps room file u ys t
keeps_behind [] ys nothing k = k
keeps_behind {room = room} {file = file} {s = s} (x ∷ xs) ys (one e rest) (one f k) = keeps_behind {s = (step_at room file x s).next} xs ys rest k

begun_tidy : (book : Book) → Tidy (begun book).apertures (begun book).opened (begun book).numbers
unfolding begun
begun_tidy book = record { taken = tt; low = tt }

none_worked : (b : Bool) (worked rest : ℕ) → eqb worked 0 ≡ b → pick (not b) worked rest ≡ 0 → worked ≡ 0
unfolding pick
none_worked true worked rest q k = eqb-true worked 0 q
none_worked false worked rest q k = k

ad_worked : (g : Graphics) (taken full : Bool) (worked : ℕ) → aperture_fault g taken worked full ≡ 0 → worked ≡ 0
unfolding aperture_fault
ad_worked g taken full worked e = none_worked (eqb worked 0) worked _ refl (unbroken (lit≤ tt) (unbroken (lit≤ tt) e).1).1

module _ (book : Book) (room : Room) (file head e a m : List ℕ) (n : List ℤ) (t : State) (rules : KeepsRules book room file t) (leaves : Leaves file head e a m n t) where
  tidy_end : Tidy t.apertures t.opened t.numbers
  tidy_end = kept_lasts Tidy tidy_lasts (commands_low book file) rules.commands (begun_tidy book)

  -- AD, its text, and the state in which it is done
  module _ (number : ℕ) (name parameters : List ℕ) (s next : State) (after : List Placed) (tidy : Tidy s.apertures s.opened s.numbers) (free : is_taken number s.apertures ≡ false)
      (worked : (outcome_of name parameters s.macros).fault ≡ 0)
      (known : next.apertures ≡ s.apertures ++ defined number name (length s.numbers) (outcome_of name parameters s.macros).kept ∷ [])
      (same : next.opened ≡ s.opened) (own : next.numbers ≡ s.numbers ++ (outcome_of name parameters s.macros).kept)
      (low : AllLow after) (rest : Keeps room file next after t) where
    abbrev p : Aperture
    p = defined number name (length s.numbers) (outcome_of name parameters s.macros).kept

    starts : Stays p (length s.apertures) (s.numbers ++ (outcome_of name parameters s.macros).kept) next.apertures next.opened next.numbers
    unfolding defined
    starts = record {
      stands = rw known (stands_new p s.apertures);
      shut = rw same (free_shut number s.opened s.apertures free tidy.taken);
      more = [];
      numbers = own ∙ sym (append-nil _);
    }

    defined_exposes : Exposes head a n number name parameters s.macros
    defined_exposes =
        let stays = kept_lasts (Stays p (length s.apertures) (s.numbers ++ (outcome_of name parameters s.macros).kept)) (stays_lasts p (length s.apertures) _) low rest starts in
        exposes file head e a m n t leaves tidy_end.low number (length s.apertures) name parameters s.macros s.numbers stays.more worked stays.stands stays.numbers

  step_exposes : (c : Placed) (s : State) (number rounded : ℕ) (name ps : Span) (after : List Placed) → c.command ≡ Define (definition.Aperture number name ps rounded) →
      Tidy s.apertures s.opened s.numbers → AllLow after → Keeps room file s (c ∷ after) t →
      Exposes head a n number (part (slice c.from c.end file) name) (part (slice c.from c.end file) ps) s.macros
  unfolding step_of definition_step aperture_step with_apertures with_numbers
  step_exposes c s number rounded name ps after is tidy low (one f rest) =
      let text : List ℕ = slice c.from c.end file in
      let none = rw is at f in
      defined_exposes number (part text name) (part text ps) s (step_of room text c.place c.command s).next after tidy
      (ad_free s.graphics (is_taken number s.apertures) _ _ _ none)
      (ad_worked s.graphics _ _ _ none)
      (rw is refl)
      (rw is refl)
      (rw is refl)
      low rest

  -- what the lookup answers of an AD of the file is what AD's rules worked out
  pub aperture_exposes : (c : Placed) (s : State) (number rounded : ℕ) (name ps : Span) → Reached book room file c s → c.command ≡ Define (definition.Aperture number name ps rounded) →
      Exposes head a n number (part (slice c.from c.end file) name) (part (slice c.from c.end file) ps) s.macros
  aperture_exposes c s number rounded name ps reached is =
      let low = rw reached.order at (commands_low book file) in
      let tidy = kept_lasts Tidy tidy_lasts (low_before reached.before (c ∷ reached.after) low) reached.kept (begun_tidy book) in
      step_exposes c s number rounded name ps reached.after is tidy (low_behind reached.before (c ∷ reached.after) low).1
      (keeps_behind reached.before (c ∷ reached.after) reached.kept (rw reached.order at rules.commands))

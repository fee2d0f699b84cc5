-- AM: the macro that is put is the one that reading adds, and all else is known as before.
-- Assumes nothing.
use Rattle.std.specs.Prelude.{Err, Ok}
use Prim.Native.Nat.{ℕ, ◌+◌, ◌≤◌, ◌<◌}
use mathlib.Core.Path.{◌≡◌, refl, sym, ◌∙◌}
use mathlib.Core.Bool.{Bool, true, false, not}
use mathlib.Core.List.{List}
use native.Mathlib.Omega.{arith}
use lib.Dec.{leb}
use lib.ListN.{length}
use lib.Seq.{slice}
use borrow.Author.Tests.{ltb-true, not-false}
use Rattle.base.specs.Or.{◌or◌}
use Rattle.base.specs.Choose.{pick}
use Rattle.faults.specs.Rule.{number_of_rule}
use Rattle.faults.specs.declared.Rule.{Rule}
use Rattle.index.specs.Names.{named}
use Rattle.tables.specs.Added.{has_room, added}
use Rattle.tables.specs.Macros.{macro_room, macro_words}
use Rattle.tables.specs.declared.Macro.{Macro}
use Rattle.templates.specs.Templates.{kind_of}
use Rattle.graphics.specs.declared.Graphics.{Graphics}
use Rattle.command_rules.specs.Rules.{macro_fault}
use Rattle.law_reading.specs.State.{State}
use Rattle.law_reading.specs.Apertures.{is_among, names_of, is_standard}
use Rattle.law_reading.specs.Steps.{macro_step}
use Rattle.law_reading.specs.Steps as steps
use Rattle.base.proofs.Faults.{unbroken}
use Rattle.progress.specs.Parts as parts
use Rattle.progress.specs.Lent.{Lent, room_of, with_macros}
use Rattle.progress.specs.Levels.{level_of}
use Rattle.progress.specs.Tables.{template_of, MacroTable}
use Rattle.progress.specs.Knows.{Knows, Follows}
use Rattle.progress.specs.declared.Progress.{Progress}
use Rattle.progress.proofs.Macros.{among_at, among_free, known_long, table_more}
use Rattle.definition_steps.proofs.Passing.{room_full, or_true, or_false}

module _ (w : Lent) (p : Progress) (s : State) (k : Knows w p s) (file m : List ℕ) (file_is : w.file ≡ file) (macros-is : w.macros ≡ m)
    (name blocks : List ℕ) (deep : Bool) where
  table : MacroTable file m p.macros s.macros
  table = rw (file_is, macros-is) at k.macros

  pub macro_taken : (i : ℕ) → named file m p.macros name ≡ Ok i → (K : Progress → State → Type 0) (rule : Rule) → number_of_rule rule ≡ pick p.graphics.region.on 7 8
      → Follows K (macro_step (room_of w) name blocks deep s) (Err rule)
  unfolding Follows macro_step macro_fault pick
  macro_taken i at K rule told =
      let among : (is_standard name or is_among name (names_of s.macros)) ≡ true = rw (among_at file m p.macros s.macros table name i at) (or_true (is_standard name)) in
      rw (among, ← k.graphics) (sym told)

  module _ (link : ℕ) (free : named file m p.macros name ≡ Err link) (kind : ℕ) (ek : kind ≡ kind_of name) (room : Bool) (er : room ≡ has_room m p.macros)
      (fault : ℕ) (ef : fault ≡ macro_fault p.graphics (leb kind 4) deep (not room)) where
    fault_is : (macro_step (room_of w) name blocks deep s).fault ≡ fault
    unfolding macro_step room_of is_standard has_room
    fault_is =
        let among : (leb (kind_of name) 4 or is_among name (names_of s.macros)) ≡ leb kind 4 = rw (among_free file m p.macros s.macros table name link free, ek) (or_false (leb (kind_of name) 4)) in
        let full : leb (macro_room w.macros) (length s.macros) ≡ not room = rw (macros-is, known_long file m p.macros s.macros table, er) (room_full p.macros (macro_room m)) in
        rw (among, full, ← k.graphics) (sym ef)

    pub macro_refused : (K : Progress → State → Type 0) (rule : Rule) → number_of_rule rule ≡ fault → Follows K (macro_step (room_of w) name blocks deep s) (Err rule)
    unfolding Follows
    macro_refused K rule is = fault_is ∙ sym is

    pub macro_goes : fault ≡ 0 → (r : Macro) → slice r.from r.to file ≡ name → slice r.first r.end file ≡ blocks → r.first ≤ r.end → r.end ≤ length file
        → (m' : List ℕ) → m' ≡ added m p.macros link (macro_words r) → {next : Progress} → next ≡ parts.with_macros (p.macros + 1) p
        → Follows (Knows (with_macros m' w)) (macro_step (room_of w) name blocks deep s) (Ok next)
    unfolding Follows macro_step steps.with_macros with_macros level_of macro_fault has_room template_of
    macro_goes z r en eb ordered inside m' em next_is =
        let f = (unbroken (omega arith) (unbroken (omega arith) (unbroken (omega arith) (sym ef ∙ z)).1).1).1 in
        let has : room ≡ true = not-false _ (unbroken (omega arith) f).0 in
        let there : p.macros < macro_room m = ltb-true _ _ (sym er ∙ has) in
        let more = table_more file m p.macros s.macros table link r there (rw en free) ordered inside in (
          fault_is ∙ z,
          rw next_is (record {
            graphics = k.graphics;
            point = k.point;
            mode = k.mode;
            inside = k.inside;
            aperture = k.aperture;
            level = k.level;
            counts = k.counts;
            around = k.around;
            apertures = k.apertures;
            macros = rw (file_is, em, ← en, ← eb) more;
            numbers = k.numbers;
            entries = k.entries;
            shows = k.shows;
            contour = k.contour;
          }),
        )

-- What closes, and the end: the store is a sheet, and its items are those of the plain expansion.
-- Assumes nothing.
use Prim.Native.Nat.{ℕ, ◌+◌, ◌-◌, ◌*◌, ◌/◌, ◌≤◌, ◌<◌}
use mathlib.Core.Path.{◌≡◌, refl, sym, ap, ◌∙◌}
use mathlib.Core.Bool.{true}
use mathlib.Core.List.{List, []}
use native.Mathlib.Omega.{arith}
use Rattle.base.specs.Run.{sums}
use Rattle.place.specs.Parts.{Parts, items_in, pieces}
use Rattle.place.specs.Mark.{Mark, finish, Around, top, within, block, repeat, Sheet, closed, marked, written, parts_from, plain}
use Rattle.sheet.specs.Records.{entry_width, entry_room, aperture_room}
use Rattle.sheet.specs.Meaning.{sheet_items}
use Rattle.sheet.specs.Valid.{most, valid}
use Rattle.sheet.specs.declared.Aperture.{Aperture}
use Rattle.sheet.proofs.Build.{ok_none}
use Rattle.sheet.specs.Open.{open_parts, stacked}
use Rattle.sheet.proofs.Parts.{sheet_items_lem}
use Rattle.sheet.specs.Parts.{sheet_parts}
use Rattle.law_open_store.specs.Open.{opener, Opened}
use Rattle.law_open_store.proofs.Close.{close_block, close_repeat}
use Rattle.law_open_store.proofs.Finish.{Headed, finish_valid, finish_parts}
use Rattle.build.specs.declared.Builder.{Builder}
use Rattle.build.specs.Closed.{BlockClosed, RepeatClosed, Ended, head_of}
use Rattle.law_built_store.specs.Shown.{blank, Holds, Shows}
use Rattle.law_built_store.proofs.Closed.{block_written, others_kept}

-- nothing is put yet
pub starts : (e a : List ℕ) → Holds blank e a (entry_room e) 0 (record { closed = 0; high = 0; start = 0; height = 10; items = 0 })
unfolding blank Opened open_parts pieces sums
starts e a = record {
  as_long = refl;
  fits = omega arith;
  blocks_ok = λ b l. absurd (omega arith);
  blocks_show = λ b l q. absurd (omega arith);
  distinct = λ b c l m q. absurd (omega arith);
  bodies = 0;
  lengths = refl;
  opened = record {
    starts = refl;
    height = refl;
    level = record { ok = ok_none a 0 10 (stacked e (entry_room e) 0); shows = refl };
    bodies_ok = λ p l q. absurd (omega arith);
    lengths = refl;
  };
}

-- a block closes
pub closes_block : (s : Sheet) (e e' a a' : List ℕ) (n : ℕ) (b r : Builder) → Holds s e a (entry_room e) n b → b.height ≤ 8 → b.items ≤ most → n ≤ aperture_room a →
    BlockClosed e e' a a' b r → Holds (marked finish [] s) e' a' (entry_room e) n r
unfolding marked closed Opened
closes_block s e e' a a' n b r holds low few rooms c = go s.around s.blocks s.here holds
  where
    go : (around : Around) (blocks : List (ℕ × Parts)) (here : Parts) → Holds (record { blocks = blocks; here = here; around = around }) e a (entry_room e) n b →
        Holds (closed around (record { blocks = blocks; here = here; around = around })) e' a' (entry_room e) n r
    go top blocks here h = let ten = h.opened.height in absurd (omega arith)
    go (within (repeat p) before around) blocks here h = let nine = h.opened.0.height in absurd (omega arith)
    go (within (block m) before around) blocks here h =
        let known = h.opened.0.known in
        let i = (opener e (entry_room e) b.start).who in
        let inside : i < aperture_room a = omega arith in
        rw c.next (close_block blocks here before around m e a (entry_room e) n b.closed b.high b.start b.height b.items h e' a'
        c.leaves.moved c.leaves.left
        (rw c.stores (block_written a i b.closed (b.high - b.start) b.items b.height inside ∙ numbered h.opened.0.number))
        (λ j ne. rw c.stores (others_kept a i b.closed (b.high - b.start) b.items b.height inside j ne))
        few)
      where
        numbered : {x : ℕ} → x ≡ m →
            ◌≡◌ {A = Aperture} (record { number = x; kind = 6; first = b.closed; len = b.high - b.start; items = b.items; height = b.height })
            (record { number = m; kind = 6; first = b.closed; len = b.high - b.start; items = b.items; height = b.height })
        numbered q = λ k. record { number = q k; kind = 6; first = b.closed; len = b.high - b.start; items = b.items; height = b.height }

-- a repeat closes, whose copies are `copies`
pub closes_repeat : (s : Sheet) (e e' a : List ℕ) (n : ℕ) (b r : Builder) (copies : ℕ) → Holds s e a (entry_room e) n b → b.height ≡ 9 →
    (opener e (entry_room e) b.start).sx * (opener e (entry_room e) b.start).sy ≡ copies → copies * b.items ≤ most →
    RepeatClosed e e' b copies r → Holds (marked finish [] s) e' a (entry_room e) n r
unfolding marked closed Opened
closes_repeat s e e' a n b r copies holds nine times few c = go s.around s.blocks s.here holds
  where
    go : (around : Around) (blocks : List (ℕ × Parts)) (here : Parts) → Holds (record { blocks = blocks; here = here; around = around }) e a (entry_room e) n b →
        Holds (closed around (record { blocks = blocks; here = here; around = around })) e' a (entry_room e) n r
    go top blocks here h = let ten = h.opened.height in absurd (omega arith)
    go (within (block m) before around) blocks here h = let lower = h.opened.0.lower in absurd (omega arith)
    go (within (repeat p) before around) blocks here h =
        let o = opener e (entry_room e) b.start in
        let same : copies * b.items ≡ o.sx * (o.sy * b.items) = ap (λ x. x * b.items) (sym times) ∙ omega arith in
        rw (c.next, same) (close_repeat blocks here before around p e a (entry_room e) n b.closed b.high b.start b.height b.items h e'
        c.leaves.moved c.leaves.left (rw same at few))

-- the end of the marks
module _ (ms : List Mark) (e e' a : List ℕ) (n : ℕ) (b : Builder) (holds : Shows ms e a (entry_room e) n b) (at_top : b.height ≡ 10)
    (few : b.items ≤ most) (rooms : n ≤ aperture_room a) (ended : Ended e e' b) (unit macros numbers : ℕ) (unit_low : 1 ≤ unit) (unit_high : unit ≤ 2) where
  headed : Headed (head_of unit b n macros numbers) (b.closed + b.high) n b.high b.items
  unfolding head_of
  headed = record { mark = refl; unit_low = unit_low; unit_high = unit_high; entries_are = refl; apertures_are = refl; top_len = refl; total = refl }

  ends : (around : Around) (blocks : List (ℕ × Parts)) (here : Parts) → Holds (record { blocks = blocks; here = here; around = around }) e a (entry_room e) n b →
      (valid (head_of unit b n macros numbers) e' a ≡ true) × (sheet_parts (head_of unit b n macros numbers) e' a ≡ here)
  unfolding Opened
  ends top blocks here h = (
    finish_valid blocks here e a (entry_room e) n b.closed b.high b.start b.height b.items h (head_of unit b n macros numbers) e' headed
        (ap (λ x. x / entry_width) ended.as_long) rooms few ended.same_closed ended.settled,
    finish_parts blocks here e a (entry_room e) n b.closed b.high b.start b.height b.items h (head_of unit b n macros numbers) e' headed
        (ap (λ x. x / entry_width) ended.as_long) rooms few ended.same_closed ended.settled,
  )
  ends (within (block m) before around) blocks here h = let lower = h.opened.0.lower in absurd (omega arith)
  ends (within (repeat r) before around) blocks here h = let nine = h.opened.0.height in absurd (omega arith)

  -- the store is a sheet
  pub is_sheet : valid (head_of unit b n macros numbers) e' a ≡ true
  is_sheet = (ends (written ms blank).around (written ms blank).blocks (written ms blank).here holds).0

  -- on it stands, part by part, what the marks put there
  pub is_from_marks : sheet_parts (head_of unit b n macros numbers) e' a ≡ parts_from ms
  unfolding parts_from blank
  is_from_marks = (ends (written ms blank).around (written ms blank).blocks (written ms blank).here holds).1

  -- and its items are those of the marks, every repeat and nested block written out
  pub is_plain : sheet_items (head_of unit b n macros numbers) e' a ≡ plain ms
  unfolding plain
  is_plain = sym (sheet_items_lem (head_of unit b n macros numbers) e' a) ∙ ap items_in is_from_marks

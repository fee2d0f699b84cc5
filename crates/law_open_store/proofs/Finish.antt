-- The end: once the top level lies after what is closed, the store is a sheet, and its parts are those that were written.
-- Assumes nothing.
use Prim.Native.Nat.{ℕ, suc, ◌+◌, ◌-◌, ◌≤◌, ◌<◌}
use mathlib.Core.Path.{◌≡◌, refl, ◌∙◌}
use mathlib.Core.Bool.{Bool, true, false, cond}
use mathlib.Core.List.{List}
use native.Mathlib.Nat.{zero-add, le_refl}
use native.Mathlib.Omega.{arith}
use lib.Dec.{eqb}
use lib.ListN.{get_or}
use borrow.Author.Tests.{eq-eqb, eqb-true, le-leb}
use Rattle.base.specs.Run.{sums}
use Rattle.base.proofs.And.{and_i}
use Rattle.base.proofs.Run.{sums_cong}
use Rattle.place.specs.Parts.{Parts}
use Rattle.place.specs.Mark.{top}
use Rattle.sheet.specs.Records.{entry_of, role_of, entry_room, aperture_room}
use Rattle.sheet.specs.Containers.{mark_of, unit_of, entries_used, apertures_used, body_of, top_of}
use Rattle.sheet.specs.Valid.{sheet_mark, most, ok_container, ok_block, is_repeat, ok_body, block_length, body_length, ok_lengths, ok_containers, ok_head, valid}
use Rattle.sheet.specs.declared.Container.{Container}
use Rattle.sheet.proofs.Build.{sums_from}
use Rattle.sheet.proofs.Every.{every_all}
use Rattle.sheet.specs.Parts.{sheet_parts}
use Rattle.law_open_store.specs.Open.{Opened, Built}
use Rattle.law_open_store.proofs.Frame.{Agrees, kept_parts, container_same}
use Rattle.law_open_store.proofs.Same.{body_kept}
use Rattle.law_open_store.proofs.Steps.{block_same}
use Rattle.law_open_store.proofs.Settle.{settled_ok, settled_shows}

-- what the head says of the store
pub record Headed (head : List ℕ) (used n len t : ℕ) : Type 0 where
  pub mark : mark_of head ≡ sheet_mark
  pub unit_low : 1 ≤ unit_of head
  pub unit_high : unit_of head ≤ 2
  pub entries_are : entries_used head ≡ used
  pub apertures_are : apertures_used head ≡ n
  pub top_len : get_or head 6 0 ≡ len
  pub total : get_or head 7 0 ≡ t

module _ (blocks : List (ℕ × Parts)) (here : Parts) (e a : List ℕ) (room n closed high start h t : ℕ)
    (built : Built (record { blocks = blocks; here = here; around = top }) e a room n closed high start h t)
    (head e' : List ℕ) (headed : Headed head (closed + high) n high t) (long : entry_room e' ≡ room) (apertures : n ≤ aperture_room a) (few : t ≤ most)
    (same_closed : (i : ℕ) → i < closed → entry_of e i ≡ entry_of e' i)
    (settled : (i : ℕ) → i < high → entry_of e (room - suc i) ≡ entry_of e' (closed + i)) where
  abbrev sheet_top : Container
  sheet_top = record { first = closed; len = high; items = t; height = 10 }

  top_is : top_of head ≡ sheet_top
  unfolding top_of
  top_is =
      let first : closed + high - high ≡ closed = omega arith in
      rw (headed.entries_are, headed.top_len, headed.total, first)

  agree : Agrees room closed 0 n n e a e' a
  agree = record {
    same_closed = same_closed;
    same_stack = λ p l. absurd (omega arith);
    same_blocks = λ b l q. refl;
    same_open = λ b l. refl;
  }

  on_stack : (i : ℕ) → i < high → entry_of e (room - suc (0 + i)) ≡ entry_of e' (closed + i)
  on_stack i l = rw (zero-add i) (settled i l)

  body_ok : (i : ℕ) → i < high → ok_body e' a (closed + high) n (closed + i) ≡ true
  unfolding ok_body is_repeat Opened role_of
  body_ok i l = rw (← settled i l) (go (eqb (entry_of e (room - suc i)).kind 10) refl)
    where
      go : (x : Bool) → eqb (entry_of e (room - suc i)).kind 10 ≡ x → cond x (ok_container e' a (closed + high) n (body_of (entry_of e (room - suc i)))) true ≡ true
      go true q =
          let ten = eqb-true (entry_of e (room - suc i)).kind 10 q in
          container_same e a closed n built.blocks_ok room 0 n n (closed + high) e' a agree (le_refl _) (omega arith) _
          (built.opened.bodies_ok i l (rw (ten, role_of)))
      go false q = refl

  lengths_ok : ok_lengths e' a (closed + high) n sheet_top ≡ true
  unfolding ok_lengths body_length is_repeat Opened
  lengths_ok =
      let bodies : sums (body_length e') closed high ≡ built.bodies =
      sums_from (body_length e') closed high
      ∙ sums_cong (λ i. body_length e' (closed + i)) (λ p. body_length e (room - suc p)) 0 high (λ i l. rw (zero-add i, ← settled i l))
      ∙ built.opened.lengths in
      let lengths = built.lengths in
      let all : high + sums (block_length a) 0 n + sums (body_length e') closed high ≡ closed + high = omega arith in
      eq-eqb _ _ all

  pub finish_valid : valid head e' a ≡ true
  unfolding valid ok_containers ok_head Opened
  finish_valid =
      let fits = built.fits in
      let used : entries_used head ≤ entry_room e' = rw (headed.entries_are, long) fits in
      let n-in : apertures_used head ≤ aperture_room a = rw headed.apertures_are apertures in
      and_i _ _
      (and_i _ _ (and_i _ _ (eq-eqb _ _ headed.mark) (and_i _ _ (le-leb _ _ headed.unit_low) (le-leb _ _ headed.unit_high))) (and_i _ _ (le-leb _ _ used) (le-leb _ _ n-in)))
      (rw (headed.entries_are, headed.apertures_are, top_is)
      (and_i _ _
      (and_i _ _ (and_i _ _ (settled_ok e a room closed 0 n n built.blocks_ok e' a agree 0 high 10 t here built.opened.level on_stack few) lengths_ok)
      (every_all (ok_block e' a (closed + high) n) 0 n (λ b l. rw (zero-add b) (block_same e a room closed 0 n n built.blocks_ok n (closed + high) e' a agree (le_refl _) (omega arith) b l refl))))
      (every_all (ok_body e' a (closed + high) n) closed high body_ok)))

  pub finish_parts : sheet_parts head e' a ≡ here
  unfolding sheet_parts Opened
  finish_parts = rw top_is (settled_shows e a room closed 0 n n built.blocks_ok e' a agree 0 high 10 t here built.opened.level on_stack 9 (le_refl _)
      (λ i l q. kept_parts e a closed n built.blocks_ok room 0 n n closed e' a agree (le_refl _) (le_refl _) _
      (body_kept e a closed n _ (rw (zero-add i) (built.opened.bodies_ok i l (rw (zero-add i) at q)))) 9))

-- An entry more on the stack: the innermost container has the parts that it had, and then that of the entry.
-- Assumes nothing.
use Prim.Native.Nat.{ℕ, suc, ◌+◌, ◌-◌, ◌≤◌, ◌<◌}
use mathlib.Core.Path.{◌≡◌, refl, ◌∙◌}
use mathlib.Core.Bool.{Bool, true, false, cond}
use mathlib.Core.List.{List}
use mathlib.Core.Logic.{⊎_elim}
use native.Mathlib.Nat.{zero-add, le_refl, eq-or-lt_of_le}
use native.Mathlib.Omega.{arith}
use lib.Dec.{eqb}
use borrow.Author.Tests.{eqb-true}
use Rattle.base.proofs.Run.{sums_snoc}
use Rattle.place.specs.Parts.{Parts, ◌then◌}
use Rattle.place.specs.Mark.{Around, top, within, block, repeat}
use Rattle.sheet.specs.Records.{entry_of, role_of}
use Rattle.sheet.specs.Containers.{body_of}
use Rattle.sheet.specs.Valid.{ok_entry, size_of, ok_container, is_repeat, body_length}
use Rattle.sheet.specs.declared.Entry.{Entry}
use Rattle.sheet.specs.declared.Role.TheVariants.{Repeats}
use Rattle.sheet.proofs.Build.{ok_snoc, open_push}
use Rattle.sheet.specs.Open.{stacked}
use Rattle.sheet.specs.Parts.{part_of, parts}
use Rattle.law_open_store.specs.Open.{Level, AtTop, Opened}
use Rattle.law_open_store.proofs.Frame.{open_ok}

-- a container may become higher, if it is a block, and stays one
pub record MayRise (h h' : ℕ) : Type 0 where
  pub rises : h ≤ h'
  pub stays : 9 ≤ h → h' ≡ h
  pub lower : h ≤ 8 → h' ≤ 8

pub stays_as_high : (h : ℕ) → MayRise h h
stays_as_high h = record { rises = le_refl h; stays = λ l. refl; lower = λ l. l }

-- an entry that repeats nothing has no body
pub no_body : (e : List ℕ) (i : ℕ) → (role_of (entry_of e i).kind ≡ Repeats → ⊥) → body_length e i ≡ 0
unfolding body_length is_repeat role_of
no_body e i unlike = go (eqb (entry_of e i).kind 10) refl
  where
    go : (t : Bool) → eqb (entry_of e i).kind 10 ≡ t → cond t (body_of (entry_of e i)).len 0 ≡ 0
    go true q = let ten = eqb-true (entry_of e i).kind 10 q in absurd (unlike (rw (ten, role_of)))
    go false q = refl

module _ (e a : List ℕ) (room n h h' : ℕ) (may : MayRise h h') (r : Entry) (high : ℕ) (at_end_lem : entry_of e (room - suc high) ≡ r)
    (ok : ok_entry a n h' r ≡ true) (ps : Parts) (is : part_of a (parts e a 9) r ≡ ps) where
  level_grow : (start len t : ℕ) (here : Parts) → start + len ≡ high → r.before ≡ t → Level e a room n start len h t here →
      Level e a room n start (suc len) h' (t + size_of a r) (here then ps)
  level_grow start len t here s b l =
      let at : stacked e room start len ≡ r = rw s at_end_lem in
      let o = open_ok a a n n h h' (le_refl _) may.rises (λ q. may.stays (omega arith) ∙ q) (λ b l q. refl) _ len t l.ok in
      record {
        ok = rw at at (ok_snoc a n h' (stacked e room start) len t o (rw at b) (rw at ok));
        shows = open_push a (parts e a 9) (stacked e room start) len ∙ rw (at, l.shows, is);
      }

  pub opened_grow : (around : Around) (here : Parts) (closed start t bodies limit : ℕ) → r.before ≡ t → (role_of r.kind ≡ Repeats → ⊥) →
      Opened e a room n closed limit around here high start h t bodies →
      Opened e a room n closed limit around (here then ps) (suc high) start h' (t + size_of a r) bodies
  unfolding Opened
  opened_grow top here closed start t bodies limit b unlike o =
      let ten = o.height in
      let ten' : h' ≡ 10 = may.stays (omega arith) ∙ ten in
      record {
        starts = o.starts;
        height = ten';
        level = rw ten' at (level_grow 0 high t here (zero-add high) b (rw (← ten) at o.level));
        bodies_ok = λ p l q. ⊎_elim
            (λ (s : suc p ≡ suc high). let same : p ≡ high = omega arith in absurd (unlike (rw (same, at_end_lem) at q)))
            (λ (m : suc p < suc high). o.bodies_ok p (omega arith) q)
            (eq-or-lt_of_le l);
        lengths =
            let none = no_body e (room - suc high) (λ q. unlike (rw at_end_lem at q)) in
            let was = o.lengths in
            let more = rw (zero-add high, none) at (sums_snoc (λ p. body_length e (room - suc p)) 0 high) in
            omega arith;
      }
  opened_grow (within (block m) before around) here closed start t bodies limit b unlike o =
      let k = o.0 in
      let below = k.below in
      let low = k.low in
      let rises = may.rises in
      let len : suc high - start ≡ suc (high - start) = omega arith in (
        record {
          some = k.some;
          below = omega arith;
          low = omega arith;
          lower = may.lower k.lower;
          level = rw len (level_grow start (high - start) t here (omega arith) b k.level);
          early = k.early;
          known = k.known;
          number = k.number;
          not_yet = k.not_yet;
        },
        o.1,
      )
  opened_grow (within (repeat s) before around) here closed start t bodies limit b unlike o =
      let k = o.0 in
      let below = k.below in
      let nine = k.height in
      let nine' : h' ≡ 9 = may.stays (omega arith) ∙ nine in
      let len : suc high - start ≡ suc (high - start) = omega arith in (
        record {
          some = k.some;
          below = omega arith;
          height = nine';
          level = rw len (rw nine' at (level_grow start (high - start) t here (omega arith) b (rw (← nine) at k.level)));
          says = k.says;
          counts = k.counts;
          dx_in = k.dx_in;
          dy_in = k.dy_in;
        },
        o.1,
      )

  -- a repeat more, in the top level
  pub top_grow : (here : Parts) (closed start t bodies : ℕ) → r.before ≡ t → ok_container e a closed n (body_of r) ≡ true → eqb r.kind 10 ≡ true →
      AtTop e a room n closed here high start h t bodies →
      AtTop e a room n closed (here then ps) (suc high) start h' (t + size_of a r) (bodies + (body_of r).len)
  unfolding body_length is_repeat
  top_grow here closed start t bodies b body kind o =
      let ten = o.height in
      let ten' : h' ≡ 10 = may.stays (omega arith) ∙ ten in
      record {
        starts = o.starts;
        height = ten';
        level = rw ten' at (level_grow 0 high t here (zero-add high) b (rw (← ten) at o.level));
        bodies_ok = λ p l q. ⊎_elim
            (λ (s : suc p ≡ suc high). let same : p ≡ high = omega arith in rw (same, at_end_lem) body)
            (λ (m : suc p < suc high). o.bodies_ok p (omega arith) q)
            (eq-or-lt_of_le l);
        lengths = sums_snoc (λ p. body_length e (room - suc p)) 0 high ∙ rw (zero-add high, at_end_lem, kind, o.lengths);
      }

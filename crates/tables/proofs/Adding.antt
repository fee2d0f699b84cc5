-- A record more, word by word: its words are read back, and every other record's stay, links too but the one that is set.
-- Assumes nothing.
use Prim.Native.Nat.{ℕ, zero, suc, ◌+◌, ◌*◌, ◌/◌, ◌≤◌, ◌<◌}
use mathlib.Core.Path.{◌≡◌, refl, sym, ap, ◌∙◌}
use mathlib.Core.Bool.{Bool, true, false, cond}
use mathlib.Core.List.{List}
use native.Mathlib.Omega.{arith}
use lib.ListN.{length, get_or, set, length-set}
use lib.Seq.{get_or-set_other}
use borrow.Author.Tests.{lt-ltb, le-ltb}
use Rattle.index.specs.Tree.{record_width, is_high, link_word, link_of, next, last_link}
use Rattle.index.specs.Indexed.{Indexed}
use Rattle.index.proofs.Seek.{link_words, link_place, link_other, last_is}
use Rattle.sheet.specs.Records.{stored}
use Rattle.sheet.proofs.Stored.{stored_below, stored_above, stored_at, stored_long}
use Rattle.tables.specs.Added.{has_room, added}

-- what the code does, in either case
pub added_room : (s : List ℕ) (used link : ℕ) (w : List ℕ) → used < length s / record_width → added s used link w ≡ set (stored s (used * record_width) w) link used
unfolding added has_room
added_room s used link w h = rw (lt-ltb used (length s / record_width) h)

pub put_room : (s s' s'' : List ℕ) (used link : ℕ) (w : List ℕ) → used < length s / record_width → s' ≡ stored s (used * record_width) w → s'' ≡ set s' link used
    → (true ≡ has_room s used) × (s'' ≡ added s used link w)
unfolding has_room
put_room s s' s'' used link w h p q = (sym (lt-ltb used (length s / record_width) h), q ∙ ap (λ (l : List ℕ). set l link used) p ∙ sym (added_room s used link w h))

pub put_none : (s : List ℕ) (used link : ℕ) (w : List ℕ) → length s / record_width ≤ used → (false ≡ has_room s used) × (s ≡ added s used link w)
unfolding added has_room
put_none s used link w h = let e = le-ltb used (length s / record_width) h in (sym e, rw e)

-- the words of a record that is put after those in use
module _ (s : List ℕ) (used : ℕ) (w : List ℕ) (wide : length w ≡ record_width) (room : used < length s / record_width) where
  fits : used * record_width + length w ≤ length s
  fits = omega arith

  abbrev new : List ℕ
  new = stored s (used * record_width) w

  pub more_long : suc used * record_width ≤ length new
  more_long = omega (arith, stored_long s (used * record_width) w fits)

  pub added_long : (link : ℕ) → length (added s used link w) ≡ length s
  added_long link = rw (added_room s used link w room) (length-set new link used ∙ stored_long s (used * record_width) w fits)

  pub more_below : (k : ℕ) → k < used * record_width → get_or new k 0 ≡ get_or s k 0
  more_below k h = stored_below s (used * record_width) w fits k h

  pub more_at : (m : ℕ) → m < record_width → get_or new (used * record_width + m) 0 ≡ get_or w m 0
  more_at m h = stored_at s (used * record_width) w fits m (omega arith)

  pub more_links : (i key : ℕ) → i < used → next new i key ≡ next s i key
  more_links i key l = let p = link_words i key in more_below (link_of i key) (omega arith)

  -- its own links lead nowhere
  pub more_free : get_or w 6 0 ≡ 0 → get_or w 7 0 ≡ 0 → (key : ℕ) → next new used key ≡ 0
  unfolding link_word
  more_free low high key = go (is_high key)
    where
      go : (b : Bool) → get_or new (used * record_width + cond b 7 6) 0 ≡ 0
      go true = more_at 7 (omega arith) ∙ high
      go false = more_at 6 (omega arith) ∙ low

  -- what the search ended at is a link, so no other word of a record changes with it
  module _ {key_of : ℕ → ℕ} (o : Indexed s key_of used) (key link : ℕ) (ends : last_link s used 0 key ≡ link) where
    link_only : (n : ℕ) → n ≡ used → (j r : ℕ) → r < 6 → j * record_width + r ≡ link → ⊥
    unfolding last_link
    link_only zero q j r h e =
        let p = link_words 0 key in
        let f : last_link s 0 0 key ≡ link = rw (← q) at ends in
        let g : link_of 0 key ≡ link = f in
        omega arith
    link_only (suc n) q j r h e = link_other (last_is o used (omega arith) used 0 key (omega arith) (omega arith)) j r h (e ∙ sym ends)

    put_word : (j r : ℕ) → r < 6 → get_or (added s used link w) (j * record_width + r) 0 ≡ get_or new (j * record_width + r) 0
    put_word j r h = rw (added_room s used link w room) (get_or-set_other new link (j * record_width + r) used 0 (link_only used refl j r h))

    pub word_new : (r : ℕ) → r < 6 → get_or (added s used link w) (used * record_width + r) 0 ≡ get_or w r 0
    word_new r h = put_word used r h ∙ more_at r (omega arith)

    pub word_kept : (j r : ℕ) → j < used → r < 6 → get_or (added s used link w) (j * record_width + r) 0 ≡ get_or s (j * record_width + r) 0
    word_kept j r l h = put_word j r h ∙ more_below (j * record_width + r) (omega arith)

    -- after it nothing changes
    link_inside : (n : ℕ) → n ≡ used → link < suc used * record_width
    unfolding last_link
    link_inside zero q =
        let p = link_words 0 key in
        let f : last_link s 0 0 key ≡ link = rw (← q) at ends in
        let g : link_of 0 key ≡ link = f in
        omega arith
    link_inside (suc n) q = let p = link_place (last_is o used (omega arith) used 0 key (omega arith) (omega arith)) in omega arith

    pub added_behind : (k : ℕ) → suc used * record_width ≤ k → get_or (added s used link w) k 0 ≡ get_or s k 0
    added_behind k h =
        let p = link_inside used refl in
        rw (added_room s used link w room) (get_or-set_other new link k used 0 (λ q. omega arith) ∙ stored_above s (used * record_width) w fits k (omega arith))

-- The entries of the top level: what lies below them is asked for in order, and their items are few enough.
-- Assumes nothing.
use Rattle.std.specs.Prelude.{None, Option, Some, ℕ}
use Prim.Native.Nat.{ℕ, zero, suc, ◌+◌, ◌-◌, ◌*◌, ◌≤◌, ◌<◌}
use mathlib.Core.Path.{◌≡◌, refl, sym, ap}
use mathlib.Core.Bool.{true, false, cond}
use mathlib.Core.List.{List}
use native.Mathlib.Nat.{mul-le-mul_right}
use native.Mathlib.Omega.{arith}
use lib.ListN.{length, get_or, take, drop, length-drop}
use borrow.Author.Tests.{le-leb, lt-leb, ne_eqb}
use Rattle.base.specs.And.{◌and◌}
use Rattle.sheet.specs.Records.{entry_of, role_of, aperture_room}
use Rattle.sheet.specs.Containers.{apertures_used, block_of, body_of, top_of}
use Rattle.sheet.specs.Valid.{most, size_at, valid}
use Rattle.sheet.specs.declared.Entry.{Entry}
use Rattle.sheet.specs.declared.Container.{Container}
use Rattle.sheet.specs.declared.Role.TheVariants.{Draws, Uses, Repeats, Defines, Unknown}
use Rattle.sheet.proofs.Conditions.{entry_use, entry_repeat, copies_count}
use Rattle.base.proofs.Lists.{rest_whole}
use Rattle.sheet.proofs.Every.{sums_grow}
use Rattle.sheet.proofs.Sound.{rooms, top_sound}
use Rattle.law_addresses.specs.Positions.{span_at, spot}
use Rattle.law_addresses.specs.Sought.{further, all_zero, misses, sought_as, sought, sought_top_as, sought_top_at, sought_top}
use Rattle.law_addresses.specs.declared.Spot.{Spot}
use Rattle.law_addresses.proofs.Length.{used_block, body_sound, body_nine, body_count}
use Rattle.law_addresses.proofs.Undo.{undone}
use Rattle.law_addresses.proofs.Matched.{place_is_sought}
use Rattle.address.specs.Answers.{reply_as, reply_of}
use Rattle.address.specs.Looking.{Lower, Fits, Down, Copied, AtTop}
use Rattle.address.proofs.Looks.{meets}

-- a container below, whose items stand after few enough others
pub lower_down : (e a : List ℕ) (b : ℕ) (u : Container) (words : ℕ) (o : Lower e a u) → u.height ≤ words → b ≤ most → Down e a b u words
lower_down e a b u words o high few =
    let one = o.sound.low in
    let small = o.sound.ok.small in
    record {
      some = omega arith;
      asks = λ less s. record { lower = o; high = omega arith };
      fits = λ q rest s j f.
          let w = (undone o.head e a o.ok (suc (length rest)) u o.sound o.low (omega arith)).forth q rest j refl f in
          let l = w.0 in
          omega arith;
    }

module _ (e a : List ℕ) (r : Entry) (t : AtTop e a r) where
  abbrev entry : Entry
  entry = entry_of e ((top_of t.head).first + t.i)

  starts_few : entry.before ≤ most
  starts_few =
      let s = top_sound t.head e a t.ok in
      let before = s.ok.before_is t.i t.i_in in
      let inside = t.i_in in
      let grow = sums_grow (size_at e a) (top_of t.head).first t.i (top_of t.head).len (omega arith) in
      let whole = s.ok.items_are in
      let small = s.ok.small in
      omega arith

  entry_down : role_of entry.kind ≡ Uses → Down e a entry.before (block_of a entry.who) 8
  entry_down q =
      let u = used_block t.head e a t.ok t.i t.i_in q in
      let eight = u.1 in
      lower_down e a _ _ 8 (record { head = t.head; ok = t.ok; sound = u.0; low = omega arith }) eight starts_few

  entry_known : role_of entry.kind ≡ Uses → entry.who ≤ aperture_room a
  entry_known q =
      let u = entry_use a (apertures_used t.head) _ entry ((top_sound t.head e a t.ok).ok.each_ok t.i t.i_in) q in
      let known = u.who_in in
      let room = (rooms t.head e a t.ok).1 in
      omega arith

  entry_copied : role_of entry.kind ≡ Repeats → Copied e a entry 8
  entry_copied q =
      let o = entry_repeat a (apertures_used t.head) _ entry ((top_sound t.head e a t.ok).ok.each_ok t.i t.i_in) q in
      let nine = body_nine t.head e a t.ok entry in
      let count = body_count t.head e a t.ok entry in
      let copies = (copies_count entry o.counts).1 in
      let whole = o.whole in
      record {
        asks = record { lower = record { head = t.head; ok = t.ok; sound = body_sound t.head e a t.ok t.i t.i_in q; low = omega arith }; high = omega arith };
        eight = refl;
        counts = omega arith;
        whole = omega arith;
        starts = starts_few;
        small = omega arith;
      }

  pub top_down : role_of r.kind ≡ Uses → Down e a r.before (block_of a r.who) 8
  top_down q = rw t.here at (entry_down (rw t.here q))

  pub top_known : role_of r.kind ≡ Uses → r.who ≤ aperture_room a
  top_known q = rw t.here at (entry_known (rw t.here q))

  pub top_copied : role_of r.kind ≡ Repeats → Copied e a r 8
  top_copied q = rw t.here at (entry_copied (rw t.here q))

-- an item of a copy
module _ (e a : List ℕ) (r : Entry) (rest : List ℕ) (o : Copied e a r (length rest)) (copy left : ℕ) where
  module _ (some : (copy ≡ 0 → ⊥)) (high : copy ≤ r.sx * r.sy) where
    positive : 1 ≤ copy
    positive = go copy some
      where
        go : (n : ℕ) → (n ≡ 0 → ⊥) → 1 ≤ n
        go zero n = absurd (n refl)
        go (suc n) _ = omega arith

    pub copied_few : (copy - 1) * r.count ≤ most
    copied_few =
        let below : copy - 1 ≤ r.sx * r.sy = omega arith in
        let part = mul-le-mul_right r.count below in
        let whole = o.whole in
        omega arith

    pub copied_fits : Fits (r.before + (copy - 1) * r.count) (sought e a (suc (length rest)) (body_of r) left rest)
    copied_fits j f =
        let s = o.asks.lower in
        let tall = o.asks.high in
        let few = s.sound.ok.small in
        let starts = o.starts in
        let part = copied_few in
        let w = (undone s.head e a s.ok (suc (length rest)) (body_of r) s.sound s.low tall).forth left rest j refl f in
        let l = w.0 in
        omega arith

    pub copy_in : further (r.before + (copy - 1) * r.count) (sought e a (suc (length rest)) (body_of r) left rest) ≡ sought_top_as Repeats e a copy left r rest
    unfolding sought_top_as ◌and◌
    copy_in = rw (o.eight, le-leb 1 copy positive, le-leb copy (r.sx * r.sy) high)

  pub copy_none : copy ≡ 0 → None ≡ sought_top_as Repeats e a copy left r rest
  unfolding sought_top_as ◌and◌
  copy_none z = rw z

  pub copy_past : r.sx * r.sy < copy → None ≡ sought_top_as Repeats e a copy left r rest
  unfolding sought_top_as ◌and◌
  copy_past l = let one : 1 ≤ copy = omega arith in rw (le-leb 1 copy one, lt-leb copy (r.sx * r.sy) l)

-- the entry where a search at the top level ends
pub at_top : (head e a : List ℕ) → valid head e a ≡ true → (q : ℕ) →
    misses (top_of head) q (spot (span_at e) (top_of head).first (top_of head).len q) ≡ false →
    AtTop e a (entry_of e (spot (span_at e) (top_of head).first (top_of head).len q).entry)
at_top head e a v q m =
    let y = meets e a (top_of head) q m in
    record { head = head; ok = v; i = y.i; i_in = y.i_in; here = ap (entry_of e) (sym y.entry_is) }

-- what is named in an entry of the top level, by its role
module _ (e a : List ℕ) (copy left : ℕ) (r : Entry) (rest : List ℕ) where
  pub in_draws : role_of r.kind ≡ Draws → copy ≡ 0 → cond (all_zero rest) (Some r.before) None ≡ sought_top_as (role_of r.kind) e a copy left r rest
  unfolding sought_top_as sought_as
  in_draws q z = rw (q, z)

  pub in_uses : role_of r.kind ≡ Uses → copy ≡ 0 → length rest ≡ 8 →
      further r.before (sought e a (length rest) (block_of a r.who) (get_or rest 0 0) (drop 1 rest)) ≡ sought_top_as (role_of r.kind) e a copy left r rest
  unfolding sought_top_as sought_as
  in_uses q z long = rw (q, z, long)

  pub not_draws : role_of r.kind ≡ Draws → (copy ≡ 0 → ⊥) → None ≡ sought_top_as (role_of r.kind) e a copy left r rest
  unfolding sought_top_as
  not_draws q n = rw (q, ne_eqb copy 0 n)

  pub not_uses : role_of r.kind ≡ Uses → (copy ≡ 0 → ⊥) → None ≡ sought_top_as (role_of r.kind) e a copy left r rest
  unfolding sought_top_as
  not_uses q n = rw (q, ne_eqb copy 0 n)

  pub in_repeats : role_of r.kind ≡ Repeats → sought_top_as Repeats e a copy left r rest ≡ sought_top_as (role_of r.kind) e a copy left r rest
  in_repeats q = rw q

  pub in_defines : role_of r.kind ≡ Defines → None ≡ sought_top_as (role_of r.kind) e a copy left r rest
  unfolding sought_top_as
  in_defines q = rw q

  pub in_unknown : role_of r.kind ≡ Unknown → None ≡ sought_top_as (role_of r.kind) e a copy left r rest
  unfolding sought_top_as
  in_unknown q = rw q

-- the search at the top level, by where it ends
module _ (head e a w : List ℕ) where
  abbrev top_spot : Spot
  top_spot = spot (span_at e) (top_of head).first (top_of head).len (get_or w 1 0)

  pub top_none : misses (top_of head) (get_or w 1 0) top_spot ≡ true → None ≡ sought_top e a (top_of head) w
  unfolding sought_top sought_top_at
  top_none m = rw m

  pub top_some : misses (top_of head) (get_or w 1 0) top_spot ≡ false →
      sought_top_as (role_of (entry_of e top_spot.entry).kind) e a (get_or w 0 0) top_spot.left (entry_of e top_spot.entry) (drop 2 w) ≡ sought_top e a (top_of head) w
  unfolding sought_top sought_top_at
  top_some m = rw m

  pub top_rest : length w ≡ 10 → length (take (length w - 2) (drop 2 w)) ≡ 8
  top_rest ten = rw (rest_whole w 2, length-drop 2 w, ten)

  -- the answers
  pub reply_not : valid head e a ≡ false → record { number = 21; item = 0 } ≡ reply_of head e a w
  unfolding reply_of
  reply_not v = rw v

  pub reply_is : valid head e a ≡ true → length w ≡ 10 → (t : Option ℕ) → t ≡ sought_top e a (top_of head) w → reply_as t ≡ reply_of head e a w
  unfolding reply_of
  reply_is v ten t q = rw (v, place_is_sought head e a v w ten, q)

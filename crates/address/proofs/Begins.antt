-- The entry of the top level that a search finds holds the item; by its role, how the item's address begins.
-- Assumes nothing.
use Prim.Native.Nat.{ℕ, ◌+◌, ◌-◌, ◌*◌, ◌/◌, ◌%◌, ◌≤◌, ◌<◌}
use mathlib.Core.Path.{◌≡◌, sym, ap, ◌∙◌}
use mathlib.Core.List.{List, [], ◌∷◌}
use native.Mathlib.Nat.{mod-lt}
use native.Mathlib.Numerals.{add-one}
use native.Mathlib.Omega.{arith}
use lib.ListN.{get_or, replicate}
use Rattle.base.specs.Run.{sums}
use Rattle.base.proofs.Run.{factor_pos}
use Rattle.sheet.specs.Records.{entry_of, role_of, aperture_room}
use Rattle.sheet.specs.Containers.{apertures_used, block_of, body_of, top_of}
use Rattle.sheet.specs.Valid.{most, size_at, size_of}
use Rattle.sheet.specs.declared.Entry.{Entry}
use Rattle.sheet.specs.declared.Role.TheVariants.{Draws, Uses, Repeats, Defines, Unknown}
use Rattle.sheet.proofs.Conditions.{entry_use}
use Rattle.sheet.proofs.Every.{sums_grow}
use Rattle.sheet.proofs.Sound.{rooms, top_sound}
use Rattle.descend.specs.Search.{Found, Held}
use Rattle.descend.proofs.Located.{located, not_defines, not_unknown}
use Rattle.law_addresses.specs.Positions.{span_at, Spans}
use Rattle.law_addresses.specs.Chains.{chains}
use Rattle.law_addresses.specs.Addresses.{entry_addresses, sheet_addresses}
use Rattle.law_addresses.proofs.Fitting.{spans_top, spans_below}
use Rattle.law_addresses.proofs.Length.{used_block, body_sound, body_nine, body_count, address_at}
use Rattle.law_addresses.proofs.Undo.{size_draws, size_uses, chain_head}
use Rattle.address.specs.Starting.{Asked, InFlash, InCopy}
use Rattle.address.proofs.Words.{draws_words, uses_words, size_repeats, copy_words}

module _ (head e a : List ℕ) (n q : ℕ) (o : Asked head e a n) (f : Found e (top_of head) n q) where
  abbrev r : Entry
  r = entry_of e q

  abbrev i : ℕ
  i = q - (top_of head).first

  abbrev b : ℕ
  b = sums (span_at e) (top_of head).first i

  abbrev j : ℕ
  j = n - r.before

  abbrev held_top : Held e a (top_of head) n
  held_top = record { head = head; ok = o.ok; sound = top_sound head e a o.ok; inside = o.inside }

  placed : (top_of head).first + (q - (top_of head).first) ≡ q
  placed = let l = f.low in omega arith

  inside : q - (top_of head).first < (top_of head).len
  inside = let l = f.low in let h = f.high in omega arith

  pub begins : r.before ≤ n
  begins = f.begins

  starts : r.before ≡ sums (size_at e a) (top_of head).first i
  starts = rw placed at ((top_sound head e a o.ok).ok.before_is i inside)

  holds : j < size_of a r
  holds = (located e a (top_of head) n q held_top f).within

  pub spans_to : Spans e (top_of head).first (q - (top_of head).first)
  spans_to =
      let s = spans_top head e a o.ok in
      let l = inside in
      let within = s.inside in
      let grow = sums_grow (span_at e) (top_of head).first i (top_of head).len (omega arith) in
      let all = s.fits in
      record { inside = omega arith; bodies = λ x m. s.bodies x (omega arith); fits = omega arith }

  address_is : get_or (sheet_addresses head e a) n [] ≡ get_or (entry_addresses e a b r) j []
  address_is =
      let before = begins in
      let start = starts in
      let flat : n ≡ sums (size_at e a) (top_of head).first i + j = omega arith in
      ap (λ m. get_or (sheet_addresses head e a) m []) flat
      ∙ rw placed at (address_at head e a o.ok i j inside (rw placed holds))

  pub alone : role_of r.kind ≡ Draws → get_or (sheet_addresses head e a) n [] ≡ 0 ∷ (b + 1) ∷ replicate 8 0
  alone t =
      let size = size_draws e a 0 0 r t in
      let l = holds in
      let z : j ≡ 0 = omega arith in
      address_is ∙ ap (λ m. get_or (entry_addresses e a b r) m []) z
      ∙ rw placed at (draws_words head e a o.ok i inside b (rw placed t))
      ∙ ap (λ p. 0 ∷ p ∷ replicate 8 0) (sym (add-one b))

  pub flash : role_of r.kind ≡ Uses → InFlash head e a n (b + 1) (block_of a r.who) j
  flash t =
      let u = rw placed at (used_block head e a o.ok i inside (rw placed t)) in
      let size = size_uses e a 0 0 r t in
      let l = holds in
      record {
        held = record { head = head; ok = o.ok; sound = u.0; inside = omega arith };
        low = u.1;
        is =
            address_is
            ∙ rw placed at (uses_words head e a o.ok i inside b (rw placed t) j (rw placed l))
            ∙ ap (λ p. 0 ∷ p ∷ get_or (chains e a 8 (block_of a r.who)) j []) (sym (add-one b));
      }

  pub known : role_of r.kind ≡ Uses → r.who ≤ aperture_room a
  known t =
      let u = entry_use a (apertures_used head) _ r (rw placed at ((top_sound head e a o.ok).ok.each_ok i inside)) t in
      let in_use = u.who_in in
      let room = (rooms head e a o.ok).1 in
      omega arith

  pub defines_not : role_of r.kind ≡ Defines → ⊥
  defines_not t = not_defines head e a o.ok (top_of head) (top_sound head e a o.ok) n r (located e a (top_of head) n q held_top f) t

  pub unknown_not : role_of r.kind ≡ Unknown → ⊥
  unknown_not t = not_unknown head e a o.ok (top_of head) (top_sound head e a o.ok) n r (located e a (top_of head) n q held_top f) t

  some_items : role_of r.kind ≡ Repeats → 0 < r.count
  some_items t =
      let size = rw placed at (size_repeats head e a o.ok i inside b (rw placed t)) in
      let l = holds in
      factor_pos j (r.sx * r.sy) r.count (omega arith)

  pub copies : role_of r.kind ≡ Repeats → (0 < r.count) × (j ≤ most)
  copies t =
      let small = (top_sound head e a o.ok).ok.small in
      let l = o.inside in
      (some_items t, omega arith)

  pub copy : role_of r.kind ≡ Repeats → InCopy head e a n (j / r.count + 1) b (body_of r) (j % r.count)
  copy t =
      let s = rw placed at (body_sound head e a o.ok i inside (rw placed t)) in
      let nine = body_nine head e a o.ok r in
      let count = body_count head e a o.ok r in
      let low = mod-lt j (some_items t) in
      let c = chain_head head e a o.ok 8 (body_of r) s (omega arith) (omega arith) (j % r.count) (omega arith) in
      let high = c.4 in
      let body-fits = (spans_below head e a o.ok (body_of r) s (omega arith)).fits in
      let before-fits = spans_to.fits in
      let first : get_or (get_or (chains e a 9 (body_of r)) (j % r.count) []) 0 0 ≡ c.0 = ap (λ w. get_or w 0 0) c.2 in
      record {
        held = record { head = head; ok = o.ok; sound = s; inside = omega arith };
        low = omega arith;
        is = address_is ∙ rw placed at (copy_words head e a o.ok i inside b (rw placed t) j (rw placed holds));
        some = rw c.2 (omega arith);
        fits = rw first (omega arith);
      }

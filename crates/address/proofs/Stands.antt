-- The entry that a search finds holds the item; by its role the item's chain ends there, or goes on in the block that it flashes.
-- Assumes nothing.
use Prim.Native.Nat.{ℕ, suc, ◌+◌, ◌-◌, ◌≤◌, ◌<◌}
use mathlib.Core.Path.{◌≡◌, sym, ap, ◌∙◌}
use mathlib.Core.List.{List, [], ◌∷◌, append-nil}
use native.Mathlib.Nat.{not-suc-le-zero}
use native.Mathlib.Numerals.{add-one}
use native.Mathlib.Omega.{arith}
use lib.ListN.{length, get_or, take, drop, set, replicate, length-replicate}
use lib.Seq.{drop-length, take-length}
use borrow.Rule.Slice.PartMut.{put_mid}
use Rattle.base.specs.Run.{sums}
use Rattle.sheet.specs.Records.{entry_of, role_of, aperture_room}
use Rattle.sheet.specs.Containers.{block_of}
use Rattle.sheet.specs.Valid.{size_at, size_of}
use Rattle.sheet.specs.declared.Entry.{Entry}
use Rattle.sheet.specs.declared.Container.{Container}
use Rattle.sheet.specs.declared.Role.TheVariants.{Draws, Uses, Repeats, Defines, Unknown}
use Rattle.sheet.proofs.Conditions.{entry_use}
use Rattle.sheet.proofs.Sound.{rooms}
use Rattle.descend.specs.Search.{Found, Held}
use Rattle.descend.proofs.Located.{located, not_defines, not_unknown}
use Rattle.law_addresses.specs.Positions.{span_at, Spans}
use Rattle.law_addresses.specs.Chains.{entry_chains, chains}
use Rattle.law_addresses.proofs.Fitting.{spans_below, no_repeat}
use Rattle.law_addresses.proofs.Length.{used_low, length_chains, chain_at}
use Rattle.law_addresses.proofs.Undo.{chain_draws, chain_uses, size_draws, size_uses}
use Rattle.sheet.proofs.Every.{sums_grow}
use Rattle.address.specs.Writing.{Drawn, Flashed, Writes}

module _ (e a : List ℕ) (k : Container) (n q : ℕ) (o : Held e a k n) (low : k.height ≤ 9) (f : Found e k n q) where
  abbrev r : Entry
  r = entry_of e q

  abbrev i : ℕ
  i = q - k.first

  pub placed : k.first + (q - k.first) ≡ q
  placed = let l = f.low in omega arith

  pub inside : q - k.first < k.len
  inside = let l = f.low in let h = f.high in omega arith

  pub begins : r.before ≤ n
  begins = f.begins

  starts : r.before ≡ sums (size_at e a) k.first i
  starts = rw placed at (o.sound.ok.before_is i inside)

  holds : n - r.before < size_of a r
  holds = (located e a k n q o f).within

  -- the positions before it
  pub spans_to : Spans e k.first (q - k.first)
  spans_to =
      let s = spans_below o.head e a o.ok k o.sound low in
      let l = inside in
      let within = s.inside in
      let grow = sums_grow (span_at e) k.first i k.len (omega arith) in
      let all = s.fits in
      record { inside = omega arith; bodies = λ j m. s.bodies j (omega arith); fits = omega arith }

  abbrev p : ℕ
  p = sums (span_at e) k.first i + 1

  flat : n ≡ sums (size_at e a) k.first i + (n - r.before)
  flat = let b = begins in let s = starts in omega arith

  chain_is : (h : ℕ) → k.height ≤ suc h →
      get_or (chains e a (suc h) k) n [] ≡ get_or (entry_chains a h (chains e a h) p r) (n - r.before) []
  chain_is h high =
      ap (λ m. get_or (chains e a (suc h) k) m []) flat
      ∙ rw placed at (chain_at o.head e a o.ok h k o.sound low high i (n - r.before) inside (rw placed holds))
      ∙ ap (λ m. get_or (entry_chains a h (chains e a h) m r) (n - r.before) []) (sym (add-one (sums (span_at e) k.first i)))

  pub draws_is : role_of r.kind ≡ Draws → Drawn e a k n p
  draws_is t =
      let size = size_draws e a 0 p r t in
      let l = holds in
      let z : n - r.before ≡ 0 = omega arith in
      record { is = λ h high. chain_is h high ∙ ap (λ m. get_or (entry_chains a h (chains e a h) p r) m []) z ∙ chain_draws e a h p r t }

  pub uses_is : role_of r.kind ≡ Uses → Flashed e a k n p (block_of a r.who) (n - r.before)
  uses_is t =
      let u = rw placed at (used_low o.head e a o.ok k o.sound i inside (rw placed t)) in
      let nine = u.1 in
      let under = u.0.lower in
      let size = size_uses e a 0 p r t in
      let l = holds in
      record {
        held = record { head = o.head; ok = o.ok; sound = u.0.sound; inside = omega arith };
        low = nine;
        under = under;
        is = λ h high.
            let long = length_chains o.head e a o.ok h (block_of a r.who) u.0.sound nine (omega arith) in
            chain_is h high ∙ chain_uses e a h p r t (n - r.before) (omega arith);
      }

  pub uses_known : role_of r.kind ≡ Uses → r.who ≤ aperture_room a
  uses_known t =
      let u = entry_use a _ k.height r (rw placed at (o.sound.ok.each_ok i inside)) t in
      let known = u.who_in in
      let room = (rooms o.head e a o.ok).1 in
      omega arith

  pub defines_not : role_of r.kind ≡ Defines → ⊥
  defines_not t = not_defines o.head e a o.ok k o.sound n r (located e a k n q o f) t

  pub unknown_not : role_of r.kind ≡ Unknown → ⊥
  unknown_not t = not_unknown o.head e a o.ok k o.sound n r (located e a k n q o f) t

  pub repeats_not : role_of r.kind ≡ Repeats → ⊥
  repeats_not t = no_repeat o.head e a o.ok k o.sound low i inside (rw placed t)

-- words written one after the other
abbrev behind : ℕ → List ℕ → List ℕ
behind p out = take (length (set out 0 p) - 1) (drop 1 (set out 0 p))

write_here : (p : ℕ) (out : List ℕ) (h : ℕ) → length out ≡ suc h → out ≡ replicate (length out) 0 → set out 0 p ≡ p ∷ replicate h 0
write_here p [] h long z = absurd (let q : 0 ≡ suc h = long in omega arith)
write_here p (x ∷ xs) h long z =
    let n : length xs ≡ h = omega arith in
    ap (λ w. p ∷ drop 1 w) z ∙ ap (λ m. p ∷ replicate m 0) n

write_below : (p : ℕ) (out ys : List ℕ) → 1 ≤ length out → put_mid 1 (length (set out 0 p) - 1) (set out 0 p) ys ≡ p ∷ ys
write_below p [] ys l = absurd (not-suc-le-zero l)
write_below p (x ∷ xs) ys l =
    let n : suc (length xs) - 1 ≡ length xs = omega arith in
    rw (n, drop-length xs) (ap (λ w. p ∷ w) (append-nil ys))

behind_is : (p : ℕ) (out : List ℕ) → 1 ≤ length out → out ≡ replicate (length out) 0 → behind p out ≡ replicate (length out - 1) 0
behind_is p [] l z = absurd (not-suc-le-zero l)
behind_is p (x ∷ xs) l z =
    let n : suc (length xs) - 1 ≡ length xs = omega arith in
    rw (n, take-length xs) (ap (drop 1) z)

module _ (e a : List ℕ) (k : Container) (n : ℕ) (out : List ℕ) (o : Writes e a k n out) where
  pub some_words : 1 ≤ length out
  some_words = let low = o.held.sound.low in let high = o.high in omega arith

  -- what is drawn here is written
  pub here_written_lem : (p : ℕ) → Drawn e a k n p → set out 0 p ≡ get_or (chains e a (length out) k) n []
  here_written_lem p d =
      let some = some_words in
      let long : length out ≡ suc (length out - 1) = omega arith in
      write_here p out (length out - 1) long o.zeros
      ∙ sym (d.is (length out - 1) (let high = o.high in omega arith))
      ∙ ap (λ m. get_or (chains e a m k) n []) (sym long)

  module _ (p : ℕ) (u : Container) (j : ℕ) (f : Flashed e a k n p u j) where
    pub behind_long : suc (length (behind p out)) ≡ length out
    behind_long =
        let some = some_words in
        let q : length (behind p out) ≡ length out - 1 = ap length (behind_is p out some o.zeros) ∙ length-replicate (length out - 1) 0 in
        omega arith

    -- what lies below is written after the position
    pub write_down : Writes e a u j (behind p out)
    write_down =
        let under = f.under in
        let high = o.high in
        let long = behind_long in
        let m : length (behind p out) ≡ length out - 1 = omega arith in
        record { held = f.held; low = f.low; high = omega arith; zeros = behind_is p out some_words o.zeros ∙ ap (λ m. replicate m 0) (sym m) }

    pub below_written : (ys : List ℕ) → ys ≡ get_or (chains e a (length (behind p out)) u) j [] →
        put_mid 1 (length (set out 0 p) - 1) (set out 0 p) ys ≡ get_or (chains e a (length out) k) n []
    below_written ys q =
        let long = behind_long in
        write_below p out ys some_words ∙ ap (λ w. p ∷ w) q
        ∙ sym (f.is (length (behind p out)) (let high = o.high in omega arith))
        ∙ ap (λ m. get_or (chains e a m k) n []) long

-- A block or a repeat that closes keeps what holds while a store is built.
-- Assumes nothing.
use Prim.Native.Nat.{ℕ, suc, ◌+◌, ◌-◌, ◌*◌, ◌/◌, ◌≤◌, ◌<◌}
use mathlib.Core.Path.{◌≡◌, refl, sym, ap, subst, ◌∙◌}
use mathlib.Core.Bool.{Bool, true, false, false≢true}
use mathlib.Core.List.{List, ◌∷◌}
use native.Mathlib.Nat.{add-zero, le_refl, mul-pos, mul-le-mul_right, le-div_iff_mul-le}
use native.Mathlib.Omega.{arith}
use lib.Dec.{eqb}
use borrow.Author.Tests.{eq-eqb, ne_eqb, eqb-true, eqb-false, le-leb}
use Rattle.base.specs.And.{◌and◌}
use Rattle.base.proofs.And.{and_i}
use Rattle.ints.proofs.Bounded.{pos_bits}
use Rattle.place.specs.Parts.{Parts, none, repeated, ◌then◌}
use Rattle.place.specs.declared.Repeat.{Repeat}
use Rattle.place.specs.Mark.{Around, top, within, block, repeat, parts_of}
use Rattle.place.proofs.Parts.{then_none}
use Rattle.sheet.specs.Records.{entry_of, aperture_of, role_of}
use Rattle.sheet.specs.Containers.{block_of, body_of}
use Rattle.sheet.specs.Meaning.{repeat_of}
use Rattle.sheet.specs.Valid.{most, far, is_near, ok_points, ok_words, is_block, ok_counts, ok_repeat, ok_role, ok_entry, size_as, size_of, ok_container, ok_block, block_length}
use Rattle.sheet.specs.declared.Aperture.{Aperture}
use Rattle.sheet.specs.declared.Container.{Container}
use Rattle.sheet.specs.declared.Entry.{Entry}
use Rattle.sheet.specs.declared.Role.TheVariants.{Defines, Repeats}
use Rattle.sheet.proofs.Conditions.{counts_ok}
use Rattle.sheet.specs.Parts.{part_as, part_of, parts}
use Rattle.law_open_store.specs.Open.{Level, opener, Opened, Built}
use Rattle.law_open_store.specs.Closing.{Settled, defines, repeats}
use Rattle.law_open_store.proofs.Frame.{Agrees}
use Rattle.law_open_store.proofs.Same.{opened_same}
use Rattle.law_open_store.proofs.Grow.{stays_as_high, opened_grow, top_grow}
use Rattle.law_open_store.proofs.Steps.{block_is, same_kind, same_block, block_same, block_shows}
use Rattle.law_open_store.proofs.Settle.{sums_raise, settled_ok, settled_low}

-- the entry that a closed block leaves is in order anywhere, and is no part
defines_ok : (a : List ℕ) (n h : ℕ) (o : Entry) → ok_entry a n h (defines o) ≡ true
unfolding ok_entry ok_words ok_points is_near ok_role role_of defines ◌and◌
defines_ok a n h o = refl

defines_none : (a : List ℕ) (o : Entry) → size_of a (defines o) ≡ 0
unfolding size_of size_as role_of defines
defines_none a o = refl

-- the length of a block, and of an aperture that is none
length_block : (a : List ℕ) (b : ℕ) → is_block a b ≡ true → block_length a b ≡ (block_of a b).len
unfolding block_length
length_block a b q = rw q

pub length_none : (a : List ℕ) (b : ℕ) → is_block a b ≡ false → block_length a b ≡ 0
unfolding block_length
length_none a b q = rw q

pub length_same : (a a' : List ℕ) (b : ℕ) → aperture_of a b ≡ aperture_of a' b → block_length a b ≡ block_length a' b
unfolding block_length
length_same a a' b s = rw (same_kind a a' b s, same_block a a' b s)

defines_repeat_not : Defines ≡ Repeats → ⊥
defines_repeat_not q = let z : ◌≡◌ {A = ℕ} 0 1 = cc in omega arith

module _ (blocks : List (ℕ × Parts)) (here before : Parts) (around : Around) (m : ℕ) (e a : List ℕ) (room n closed high start h t : ℕ)
    (built : Built (record { blocks = blocks; here = here; around = within (block m) before around }) e a room n closed high start h t)
    (e' a' : List ℕ) (moved : Settled e e' room closed start high)
    (opens : entry_of e' (room - start) ≡ defines (opener e room start))
    (record_is : aperture_of a' (opener e room start).who ≡ record { number = m; kind = 6; first = closed; len = high - start; items = t; height = h })
    (others : (c : ℕ) → (c ≡ (opener e room start).who → ⊥) → aperture_of a' c ≡ aperture_of a c)
    (few : t ≤ most) where
  abbrev o : Entry
  o = opener e room start

  abbrev b : ℕ
  b = o.who

  abbrev len : ℕ
  len = high - start

  other : (c : ℕ) → is_block a c ≡ true → c ≡ b → ⊥
  unfolding Opened is_block
  other c q same = false≢true (sym built.opened.0.not_yet ∙ ap (is_block a) (sym same) ∙ q)

  agree : Agrees room closed (start - 1) n b e a e' a'
  agree = record {
    same_closed = moved.same_closed;
    same_stack = λ p l. moved.same_stack p (omega arith);
    same_blocks = λ c l q. sym (others c (other c q));
    same_open = λ c l. sym (others c (λ q. let z : c ≡ b = q in absurd (omega arith)));
  }

  pub close_block : Built (record { blocks = (m, here) ∷ blocks; here = before; around = around }) e' a' room n (closed + (high - start)) start
      (opener e room start).sx (opener e room start).sy (opener e room start).before
  unfolding Opened is_block block_of parts_of part_of part_as role_of defines
  close_block =
      let k = built.opened.0 in
      let known = k.known in
      let lengths = built.lengths in
      let below = k.below in
      let fits = built.fits in
      let raised = sums_raise (block_length a) (block_length a') n b len known (lengthened k.not_yet) (λ c l ne. same_length c ne) in
      record {
        as_long = moved.as_long ∙ built.as_long;
        fits = omega arith;
        blocks_ok = λ c l. this_or_other (λ c. ok_block e' a' (closed + len) n c ≡ true) c
            (block_is e' a' (closed + len) n b is_block_lem (rw record_is k.low) (rw record_is k.lower)
            (rw record_is (settled_ok e a room closed (start - 1) n b built.blocks_ok e' a' agree start len h t here k.level moved.settled few)))
            (λ ne. block_same e a room closed (start - 1) n b built.blocks_ok n (closed + len) e' a' agree (le_refl _) (omega arith) c l (sym (others c ne)));
        blocks_show = λ c l. this_or_other
            (λ c. is_block a' c ≡ true → parts e' a' 8 (block_of a' c) ≡ parts_of (aperture_of a' c).number ((m, here) ∷ blocks)) c
            (λ q. this_shows k.level k.lower)
            (λ ne q. other_shows c l ne (same_kind a a' c (sym (others c ne)) ∙ q) k.number known);
        distinct = λ c d lc ld q. built.distinct c d lc ld (sym (number k.number c) ∙ q ∙ number k.number d);
        bodies = built.bodies;
        lengths = omega arith;
        opened = outer k.some known built.opened.1;
      }
    where
      is_block_lem : is_block a' b ≡ true
      is_block_lem = ap (λ (p : Aperture). eqb p.kind 6) record_is

      block_of_lem : block_of a' b ≡ record { first = closed; len = len; items = t; height = h }
      block_of_lem = rw record_is

      this_or_other : (P : ℕ → Type 0) (c : ℕ) → P b → ((c ≡ b → ⊥) → P c) → P c
      this_or_other P c this rest = go (eqb c b) refl
        where
          go : (x : Bool) → eqb c b ≡ x → P c
          go true q = rw (eqb-true c b q) this
          go false q = rest (eqb-false c b q)

      number : (aperture_of a b).number ≡ m → (c : ℕ) → (aperture_of a' c).number ≡ (aperture_of a c).number
      number is c = this_or_other (λ c. (aperture_of a' c).number ≡ (aperture_of a c).number) c
          (ap (λ (p : Aperture). p.number) record_is ∙ sym is)
          (λ ne. ap (λ (p : Aperture). p.number) (others c ne))

      lengthened : is_block a b ≡ false → block_length a' b ≡ block_length a b + len
      lengthened not-block =
          let this : block_length a' b ≡ len = length_block a' b is_block_lem ∙ ap (λ (k : Container). k.len) block_of_lem in
          let was = length_none a b not-block in
          omega arith

      same_length : (c : ℕ) → (c ≡ b → ⊥) → block_length a' c ≡ block_length a c
      same_length c ne = length_same a' a c (others c ne)

      this_shows : Level e a room n start len h t here → h ≤ 8 → parts e' a' 8 (block_of a' b) ≡ parts_of (aperture_of a' b).number ((m, here) ∷ blocks)
      this_shows level low =
          rw (record_is, eq-eqb m m refl)
          (settled_low e a room closed (start - 1) n b built.blocks_ok e' a' agree start len h t here level moved.settled 7 low (omega arith))

      other_shows : (c : ℕ) → c < n → (c ≡ b → ⊥) → is_block a c ≡ true → (aperture_of a b).number ≡ m → b < n →
          parts e' a' 8 (block_of a' c) ≡ parts_of (aperture_of a' c).number ((m, here) ∷ blocks)
      other_shows c l ne q is known =
          block_shows e a room closed (start - 1) n b built.blocks_ok n (closed + len) e' a' agree (le_refl _) (omega arith) c l (sym (others c ne)) q 8
          ∙ built.blocks_show c l q
          ∙ subst (λ (x : Aperture). parts_of (aperture_of a c).number blocks ≡ parts_of x.number ((m, here) ∷ blocks)) (sym (others c ne))
          (rw (ne_eqb (aperture_of a c).number m (λ z. ne (built.distinct c b l known (z ∙ sym is)))))

      outer : 1 ≤ start → b < n → Opened e a room n closed b around before (start - 1) o.sx o.sy o.before built.bodies →
          Opened e' a' room n (closed + len) n around before start o.sx o.sy o.before built.bodies
      outer some known q =
          let one : suc (start - 1) ≡ start = omega arith in
          let grown = opened_grow e' a' room n o.sy o.sy (stays_as_high _) (defines o) (start - 1) (rw one opens) (defines_ok a' n o.sy o) none refl
          around before (closed + len) o.sx o.before built.bodies n refl defines_repeat_not
          (opened_same e a room closed (start - 1) n b built.blocks_ok n (closed + len) e' a' agree (le_refl _) (omega arith)
          around before (start - 1) o.sx o.sy o.before built.bodies b n (le_refl _) (le_refl _) (omega arith) q) in
          rw (one, then_none, defines_none a' o, add-zero) at grown

near : (w : ℕ) → w ≤ most → is_near w ≡ true
unfolding is_near
near w l = rw (pos_bits w (omega arith)) (le-leb w far (omega arith))

-- the entry that a closed repeat leaves is in order in the top level
module _ (a : List ℕ) (n : ℕ) (o : Entry) (first len t : ℕ) (counts : ok_counts o ≡ true) (dx : o.cx ≤ most) (dy : o.cy ≤ most) (few : o.sx * (o.sy * t) ≤ most) where
  repeats_words : ok_words (repeats o first len t) ≡ true
  unfolding ok_words ok_points repeats
  repeats_words =
      let c = counts_ok o counts in
      let nx = c.nx_high in
      let ny = c.ny_high in
      let zero-near = near 0 (omega arith) in
      and_i _ _ (and_i _ _ (and_i true true refl refl) refl)
      (and_i _ _ (and_i _ _ (and_i _ _ (near o.sx (omega arith)) (near o.sy (omega arith))) (and_i _ _ zero-near zero-near)) (and_i _ _ (near o.cx dx) (near o.cy dy)))

  pub repeats_ok : ok_entry a n 10 (repeats o first len t) ≡ true
  unfolding ok_entry ok_role role_of ok_repeat ok_counts repeats
  repeats_ok =
      let c = counts_ok o counts in
      let fit : t * (o.sx * o.sy) ≤ most = omega arith in
      let each : t ≤ most / (o.sx * o.sy) = (le-div_iff_mul-le (mul-pos c.nx_low c.ny_low)).1 fit in
      and_i _ _ repeats_words (and_i _ _ (and_i _ _ (and_i _ _ refl (and_i _ _ (le-leb _ _ dx) (le-leb _ _ dy))) counts) (le-leb _ _ each))

  pub body_few : t ≤ most
  body_few =
      let c = counts_ok o counts in
      let one = mul-le-mul_right (o.sy * t) c.nx_low in
      let two = mul-le-mul_right t c.ny_low in
      omega arith

module _ (blocks : List (ℕ × Parts)) (here before : Parts) (around : Around) (r : Repeat) (e a : List ℕ) (room n closed high start h t : ℕ)
    (built : Built (record { blocks = blocks; here = here; around = within (repeat r) before around }) e a room n closed high start h t)
    (e' : List ℕ) (moved : Settled e e' room closed start high)
    (opens : entry_of e' (room - start) ≡ repeats (opener e room start) closed (high - start) t)
    (few : (opener e room start).sx * ((opener e room start).sy * t) ≤ most) where
  abbrev o' : Entry
  o' = repeats (opener e room start) closed (high - start) t

  agree_repeat : Agrees room closed (start - 1) n n e a e' a
  agree_repeat = record {
    same_closed = moved.same_closed;
    same_stack = λ p l. moved.same_stack p (omega arith);
    same_blocks = λ c l q. refl;
    same_open = λ c l. refl;
  }

  pub close_repeat : Built (record { blocks = blocks; here = before then repeated r here none; around = around }) e' a room n (closed + (high - start)) start
      (opener e room start).who 10 ((opener e room start).before + (opener e room start).sx * ((opener e room start).sy * t))
  unfolding Opened body_of repeats repeat_of part_of part_as role_of size_of size_as
  close_repeat =
      let k = built.opened.0 in
      let lengths = built.lengths in
      let below = k.below in
      let fits = built.fits in
      let few-here = body_few a n (opener e room start) closed (high - start) t k.counts k.dx_in k.dy_in few in
      let some = k.some in
      record {
        as_long = moved.as_long ∙ built.as_long;
        fits = omega arith;
        blocks_ok = λ c l. block_same e a room closed (start - 1) n n built.blocks_ok n (closed + (high - start)) e' a agree_repeat (le_refl _) (omega arith) c l refl;
        blocks_show = λ c l q. block_shows e a room closed (start - 1) n n built.blocks_ok n (closed + (high - start)) e' a agree_repeat (le_refl _) (omega arith) c l refl q 8
            ∙ built.blocks_show c l q;
        distinct = built.distinct;
        bodies = built.bodies + (high - start);
        lengths = omega arith;
        opened = outer around some k.counts k.dx_in k.dy_in k.says
            (settled_ok e a room closed (start - 1) n n built.blocks_ok e' a agree_repeat start (high - start) 9 t here k.level moved.settled few-here)
            (settled_low e a room closed (start - 1) n n built.blocks_ok e' a agree_repeat start (high - start) 9 t here k.level moved.settled 8 (le_refl _) (le_refl _))
            (opened_same e a room closed (start - 1) n n built.blocks_ok n (closed + (high - start)) e' a agree_repeat (le_refl _) (omega arith)
            around before (start - 1) (opener e room start).who 10 (opener e room start).before built.bodies n n (le_refl _) (le_refl _) (le_refl _) built.opened.1);
      }
    where
      outer : (around : Around) → 1 ≤ start → ok_counts (opener e room start) ≡ true → (opener e room start).cx ≤ most → (opener e room start).cy ≤ most → repeat_of (opener e room start) ≡ r →
          ok_container e' a (closed + (high - start)) n (body_of o') ≡ true → parts e' a 9 (body_of o') ≡ here →
          Opened e' a room n (closed + (high - start)) n around before (start - 1) (opener e room start).who 10 (opener e room start).before built.bodies →
          Opened e' a room n (closed + (high - start)) n around (before then repeated r here none) start (opener e room start).who 10
          ((opener e room start).before + (opener e room start).sx * ((opener e room start).sy * t)) (built.bodies + (high - start))
      outer top some counts dx dy says ok shows q =
          let one : suc (start - 1) ≡ start = omega arith in
          rw one at (top_grow e' a room n 10 10 (stays_as_high _) o' (start - 1) (rw one opens) (repeats_ok a n (opener e room start) closed (high - start) t counts dx dy few)
          (repeated r here none) (λ i. repeated (says i) (shows i) none) before (closed + (high - start)) (opener e room start).who (opener e room start).before built.bodies refl ok refl q)
      outer (within (block m) before' around') some counts dx dy says ok shows q = let low = q.0.lower in absurd (omega arith)
      outer (within (repeat r') before' around') some counts dx dy says ok shows q = let nine = q.0.height in absurd (omega arith)

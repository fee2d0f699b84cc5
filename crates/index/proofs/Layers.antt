-- A search goes down layer by layer: the record at hand is as deep as links were followed, and has as many of the key's lowest bits. So one that
-- is as deep as keys have bits has the key itself; and a record linked where the search for its key ended lies one layer deeper.
-- Assumes nothing.
use Prim.Native.Nat.{ℕ, zero, suc, ◌+◌, ◌*◌, ◌^◌, ◌%◌, ◌≤◌, ◌<◌}
use mathlib.Core.Path.{◌≡◌, refl, sym, ap, ◌∙◌}
use mathlib.Core.Bool.{Bool, true, false, cond}
use mathlib.Core.List.{List}
use mathlib.Core.Logic.{⊎_elim}
use native.Mathlib.Nat.{eq-or-lt_of_le, le_of_suc-le-suc}
use native.Mathlib.Omega.{arith}
use lib.Dec.{eqb}
use lib.ListN.{get_or, set}
use lib.Seq.{get_or-set_same, get_or-set_other}
use borrow.Author.Tests.{eqb-true, eqb-false, eq-eqb, ne_eqb}
use Rattle.index.specs.Tree.{record_width, is_high, bits_above, link_word, link_of, next, last_link}
use Rattle.index.specs.Indexed.{Indexed}
use Rattle.index.specs.Layered.{Alike, nothing, bit, above, Layered}
use Rattle.index.proofs.Seek.{LinkBelow, link_words, link_place}

-- ---- keys that are alike

pub alike_turn : {d a b : ℕ} → Alike d a b → Alike d b a
alike_turn nothing = nothing
alike_turn (bit e r) = bit (sym e) (alike_turn r)

pub alike_joins : {d a b c : ℕ} → Alike d a b → Alike d b c → Alike d a c
alike_joins nothing nothing = nothing
alike_joins (bit e r) (bit f q) = bit (e ∙ f) (alike_joins r q)

alike_more : {d a b : ℕ} → Alike d a b → is_high (above d a) ≡ is_high (above d b) → Alike (suc d) a b
unfolding above
alike_more nothing e = bit e nothing
alike_more (bit f r) e = bit f (alike_more r e)

above_on : (d key : ℕ) → bits_above (above d key) ≡ above (suc d) key
unfolding above
above_on zero key = refl
above_on (suc d) key = above_on d (bits_above key)

same_bits : (a b : ℕ) → is_high a ≡ is_high b → a % 2 ≡ b % 2
same_bits a b e = go (eqb (a % 2) 1) refl (eqb (b % 2) 1) refl
  where
    go : (x : Bool) → eqb (a % 2) 1 ≡ x → (y : Bool) → eqb (b % 2) 1 ≡ y → a % 2 ≡ b % 2
    go true p true q = eqb-true _ _ p ∙ sym (eqb-true _ _ q)
    go false p false q = let m = eqb-false (a % 2) 1 p in let n = eqb-false (b % 2) 1 q in omega arith
    go true p false q = absurd (let w : ◌≡◌ {A = ℕ} 0 1 = cc in omega arith)
    go false p true q = absurd (let w : ◌≡◌ {A = ℕ} 0 1 = cc in omega arith)

-- all bits of a key
alike_all : (d a b : ℕ) → Alike d a b → a < 2 ^ d → b < 2 ^ d → a ≡ b
alike_all zero a b nothing h k = omega arith
alike_all (suc d) a b (bit e r) h k =
    let m = same_bits a b e in
    let q = alike_all d (bits_above a) (bits_above b) r (omega arith) (omega arith) in
    omega arith

-- ---- the search

module _ (s : List ℕ) (key_of : ℕ → ℕ) (used : ℕ) (t : Indexed s key_of used) (o : Layered s key_of used) where
  -- the search for a key has come to record i in d links, with the bits above as the key from there on
  pub record Walks (sought i key d : ℕ) : Type 0 where
    pub standing : i < used
    pub rest : key ≡ above d sought
    pub deep : o.depth i ≡ d
    pub alike : Alike d sought (key_of i)

  pub walk_starts : (sought : ℕ) → 0 < used → Walks sought 0 sought 0
  unfolding above
  walk_starts sought h = record { standing = h; rest = refl; deep = o.root; alike = nothing }

  module _ {sought i key d : ℕ} (w : Walks sought i key d) where
    pub walk_on : 0 < next s i key → Walks sought (next s i key) (bits_above key) (suc d)
    walk_on h =
        let f = o.deeper i key w.standing h in
        let a = rw w.deep at (o.alike i key w.standing h) in
        let b = rw w.deep at (o.side i key w.standing h) in
        record {
          standing = (t.later i key w.standing h).1;
          rest = ap bits_above w.rest ∙ above_on d sought;
          deep = f ∙ ap suc w.deep;
          alike = alike_more (alike_joins w.alike (alike_turn a)) (sym (b ∙ ap is_high w.rest));
        }

    -- past all bits of the keys the record is the one sought
    pub walk_deep : sought < 2 ^ d → key_of i < 2 ^ d → sought ≡ key_of i
    walk_deep h k = alike_all d sought (key_of i) w.alike h k

  -- where the search for the last link ends
  pub record Ends (sought w : ℕ) : Type 0 where
    pub of : ℕ
    pub for : ℕ
    pub depth : ℕ
    pub walks : Walks sought of for depth
    pub is : w ≡ link_of of for

  pub last_ends : (n sought i key d : ℕ) → Walks sought i key d → used ≤ i + n → Ends sought (last_link s n i key)
  unfolding last_link
  last_ends zero sought i key d w h = absurd (let l = w.standing in omega arith)
  last_ends (suc n) sought i key d w h =
      go (eqb (next s i key) 0) refl
      (λ p. let l = t.later i key w.standing p in last_ends n sought (next s i key) (bits_above key) (suc d) (walk_on w p) (omega arith))
    where
      go : (b : Bool) → eqb (next s i key) 0 ≡ b → (0 < next s i key → Ends sought (last_link s n (next s i key) (bits_above key))) →
          Ends sought (elim b [ true ↦ link_of i key | false ↦ last_link s n (next s i key) (bits_above key) ])
      go true e rest = record { of = i; for = key; depth = d; walks = w; is = refl }
      go false e rest = rest (let q = eqb-false (next s i key) 0 e in omega arith)

-- ---- a record more

-- two links that are one word are of one record, and to one side
link_of_lem : (i j : ℕ) (a b : ℕ) → link_of i a ≡ link_of j b → i ≡ j
link_of_lem i j a b e = let p = link_words i a in let q = link_words j b in omega arith

link_side : (i j : ℕ) (a b : ℕ) → link_of i a ≡ link_of j b → is_high a ≡ is_high b
unfolding link_word
link_side i j a b e = go (is_high a) refl (is_high b) refl
  where
    go : (x : Bool) → is_high a ≡ x → (y : Bool) → is_high b ≡ y → is_high a ≡ is_high b
    go true p true q = p ∙ sym q
    go false p false q = p ∙ sym q
    go true p false q = absurd (let f : i * record_width + 7 ≡ j * record_width + 6 = rw (p, q) at e in omega arith)
    go false p true q = absurd (let f : i * record_width + 6 ≡ j * record_width + 7 = rw (p, q) at e in omega arith)

module _ (s : List ℕ) (key_of : ℕ → ℕ) (m : ℕ) (t : Indexed s key_of (suc m)) (o : Layered s key_of (suc m)) (free : (key : ℕ) → next s (suc m) key ≡ 0)
    (w : ℕ) (below : LinkBelow (suc m) w) (e : Ends s key_of (suc m) t o (key_of (suc m)) w) where
  abbrev new : ℕ
  new = suc m

  abbrev depth' : ℕ → ℕ
  depth' x = cond (eqb x new) (suc e.depth) (o.depth x)

  depth_old : (x : ℕ) → x < new → depth' x ≡ o.depth x
  depth_old x h = rw (ne_eqb x new (λ q. omega arith))

  depth_new : depth' new ≡ suc e.depth
  depth_new = rw (eq-eqb new new refl)

  -- what a link leads to: to the new record where it was set, else to where it led
  record Leading (i key : ℕ) : Type 0 where
    deeper : depth' (next (set s w new) i key) ≡ suc (depth' i)
    alike : Alike (depth' i) (key_of (next (set s w new) i key)) (key_of i)
    side : is_high (above (depth' i) (key_of (next (set s w new) i key))) ≡ is_high key

  leading : (i key : ℕ) → i < suc new → (b : Bool) → eqb (link_of i key) w ≡ b → 0 < next (set s w new) i key → Leading i key
  leading i key l true q h =
      let p = link_place below in
      let r = eqb-true (link_of i key) w q in
      let f : next (set s w new) i key ≡ new = ap (λ x. get_or (set s w new) x 0) r ∙ get_or-set_same s w new 0 (omega (arith, t.inside)) in
      let same : i ≡ e.of = link_of_lem i e.of key e.for (r ∙ e.is) in
      let turn : is_high key ≡ is_high e.for = link_side i e.of key e.for (r ∙ e.is) in
      let k = e.walks in
      let low : i < new = let z = k.standing in omega arith in
      let d : depth' i ≡ e.depth = depth_old i low ∙ ap o.depth same ∙ k.deep in
      record {
        deeper = rw (f, d) depth_new;
        alike = rw (f, d, same) k.alike;
        side = rw (f, d) (ap is_high (sym k.rest) ∙ sym turn);
      }
  leading i key l false q h =
      let f : next (set s w new) i key ≡ next s i key = get_or-set_other s w (link_of i key) new 0 (eqb-false (link_of i key) w q) in
      ⊎_elim
      (λ (z : i ≡ new). absurd (let y : next s i key ≡ 0 = rw z (free key) in omega arith))
      (λ (k : i < new).
      let g : 0 < next s i key = omega arith in
      let v = t.later i key k g in
      let x = depth_old (next s i key) v.1 in
      let y = depth_old i k in
      record {
        deeper = rw (f, x, y) (o.deeper i key k g);
        alike = rw (f, y) (o.alike i key k g);
        side = rw (f, y) (o.side i key k g);
      })
      (eq-or-lt_of_le (le_of_suc-le-suc l))

  pub layered_set : Layered (set s w new) key_of (suc new)
  layered_set = record {
    depth = depth';
    root = depth_old 0 (omega arith) ∙ o.root;
    deeper = λ i key l h. (leading i key l (eqb (link_of i key) w) refl h).deeper;
    alike = λ i key l h. (leading i key l (eqb (link_of i key) w) refl h).alike;
    side = λ i key l h. (leading i key l (eqb (link_of i key) w) refl h).side;
  }

-- the first record, to which no link leads
pub layered_first : (s : List ℕ) (key_of : ℕ → ℕ) (used : ℕ) → ((i key : ℕ) → i < used → next s i key ≡ 0) → Layered s key_of used
layered_first s key_of used free = record {
  depth = λ x. 0;
  root = refl;
  deeper = λ i key l h. absurd (let z = free i key l in omega arith);
  alike = λ i key l h. absurd (let z = free i key l in omega arith);
  side = λ i key l h. absurd (let z = free i key l in omega arith);
}

-- the same layers where links and keys are the same
pub layered_agree : (s t : List ℕ) (key_of key_of' : ℕ → ℕ) (used : ℕ) → Indexed s key_of used → ((i key : ℕ) → i < used → next t i key ≡ next s i key)
    → ((j : ℕ) → j < used → key_of j ≡ key_of' j) → Layered s key_of used → Layered t key_of' used
layered_agree s t key_of key_of' used x links same o = record {
  depth = o.depth;
  root = o.root;
  deeper = λ i key l h. let f = links i key l in rw f (o.deeper i key l (rw f at h));
  alike = λ i key l h.
      let f = links i key l in
      let g : 0 < next s i key = rw f at h in
      rw (f, ← same (next s i key) (x.later i key l g).1, ← same i l) (o.alike i key l g);
  side = λ i key l h.
      let f = links i key l in
      let g : 0 < next s i key = rw f at h in
      rw (f, ← same (next s i key) (x.later i key l g).1) (o.side i key l g);
}

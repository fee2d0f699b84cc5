-- A step of the search is a step of its definition, and where it goes down the items stay few.
-- Assumes nothing.
use Rattle.std.specs.Prelude.{None, Option, ℕ}
use Prim.Native.Nat.{ℕ, suc, ◌+◌, ◌-◌, ◌≤◌, ◌<◌}
use mathlib.Core.Path.{◌≡◌, refl, ap, ◌∙◌}
use mathlib.Core.Bool.{Bool, true, false, cond}
use mathlib.Core.List.{List}
use native.Mathlib.Omega.{arith}
use borrow.Author.Tests.{eq-eqb, ne_eqb}
use Rattle.base.proofs.Or.{ors}
use lib.ListN.{length, get_or, take, drop}
use Rattle.sheet.specs.Records.{entry_of, role_of, entry_room, aperture_room}
use Rattle.sheet.specs.Containers.{block_of}
use Rattle.sheet.specs.Valid.{most, size_at}
use Rattle.sheet.specs.declared.Entry.{Entry}
use Rattle.sheet.specs.declared.Container.{Container}
use Rattle.sheet.specs.declared.Role.{Role}
use Rattle.sheet.specs.declared.Role.TheVariants.{Draws, Uses, Repeats, Defines, Unknown}
use Rattle.sheet.proofs.Conditions.{entry_use}
use Rattle.base.proofs.Lists.{rest_whole}
use Rattle.sheet.proofs.Every.{sums_grow}
use Rattle.sheet.proofs.Sound.{rooms, use_under}
use Rattle.law_addresses.specs.Positions.{span_at, spot, Spans}
use Rattle.law_addresses.specs.Sought.{further, misses, sought_as, sought_at, sought}
use Rattle.law_addresses.specs.declared.Spot.{Spot}
use Rattle.law_addresses.proofs.Spots.{spotted}
use Rattle.law_addresses.proofs.Fitting.{spans_below}
use Rattle.law_addresses.proofs.Lies.{misses_told, length_rest}
use Rattle.law_addresses.proofs.Undo.{undone}
use Rattle.address.specs.Looking.{look_as, look_at, look_of, Lower, Seeks, Down}
use Rattle.address.specs.declared.Look.{Look}
use Rattle.address.specs.declared.Look.TheVariants.{Is, Below}

-- the outcome of a step, where `below` searches what lies under it
abbrev pub On : (Container → ℕ → List ℕ → Option ℕ) → List ℕ → Look → Option ℕ
On below rest (Is t) = t
On below rest (Below b u) = further b (below u (get_or rest 0 0) (drop 1 rest))

on_as : (role : Role) (a : List ℕ) (below : Container → ℕ → List ℕ → Option ℕ) (r : Entry) (rest : List ℕ) →
    On below rest (look_as role a r rest) ≡ sought_as role a below r rest
unfolding look_as sought_as
on_as Draws a below r rest = refl
on_as Uses a below r rest = refl
on_as Repeats a below r rest = refl
on_as Defines a below r rest = refl
on_as Unknown a below r rest = refl

on_cond : (m : Bool) (below : Container → ℕ → List ℕ → Option ℕ) (rest : List ℕ) (l : Look) → On below rest (cond m (Is None) l) ≡ cond m None (On below rest l)
on_cond true below rest l = refl
on_cond false below rest l = refl

pub look_on : (e a : List ℕ) (h : ℕ) (k : Container) (q : ℕ) (rest : List ℕ) → On (sought e a h) rest (look_of e a k q rest) ≡ sought e a (suc h) k q rest
unfolding sought sought_at look_of look_at
look_on e a h k q rest =
    let s = spot (span_at e) k.first k.len q in
    on_cond (misses k q s) (sought e a h) rest _
    ∙ ap (cond (misses k q s) None) (on_as (role_of (entry_of e s.entry).kind) a (sought e a h) (entry_of e s.entry) rest)

-- whether a search misses, by its two tests
module _ (k : Container) (q : ℕ) (s : Spot) where
  pub misses_none : q ≡ 0 → misses k q s ≡ true
  unfolding misses
  misses_none e = simp (eq-eqb q 0 e, ors)

  pub misses_past : (q ≡ 0 → ⊥) → s.entry ≡ k.first + k.len → misses k q s ≡ true
  unfolding misses
  misses_past n e = simp (ne_eqb q 0 n, eq-eqb s.entry (k.first + k.len) e, ors)

  pub misses_not : (q ≡ 0 → ⊥) → (s.entry ≡ k.first + k.len → ⊥) → misses k q s ≡ false
  unfolding misses
  misses_not n m = simp (ne_eqb q 0 n, ne_eqb s.entry (k.first + k.len) m, ors)

-- a look at the entry that holds the position
pub record Meets (e a : List ℕ) (k : Container) (s : Spot) : Type 0 where
  pub i : ℕ
  pub i_in : i < k.len
  pub entry_is : s.entry ≡ k.first + i

pub meets : (e a : List ℕ) (k : Container) (q : ℕ) → misses k q (spot (span_at e) k.first k.len q) ≡ false → Meets e a k (spot (span_at e) k.first k.len q)
meets e a k q m =
    let t = misses_told k q (spot (span_at e) k.first k.len q) m in
    let y = spotted (span_at e) k.first k.len q t.0 t.1 in
    record { i = y.i; i_in = y.i_in; entry_is = y.entry_is }

module _ (e a : List ℕ) (k : Container) (o : Lower e a k) where
  pub look_spans : Spans e k.first k.len
  look_spans = spans_below o.head e a o.ok k o.sound o.low

  pub look_inside : k.first + k.len ≤ entry_room e
  look_inside = let inside = o.sound.ok.inside in let room = (rooms o.head e a o.ok).0 in omega arith

  -- the block that an entry uses
  pub uses_known : (i : ℕ) → i < k.len → role_of (entry_of e (k.first + i)).kind ≡ Uses → (entry_of e (k.first + i)).who ≤ aperture_room a
  uses_known i l q =
      let u = entry_use a _ k.height _ (o.sound.ok.each_ok i l) q in
      let known = u.who_in in
      let room = (rooms o.head e a o.ok).1 in
      omega arith

  -- where the search goes down
  pub record Going (b : ℕ) (u : Container) : Type 0 where
    pub lower : Lower e a u
    pub under : u.height < k.height
    pub few : b ≤ most
    pub small : u.items ≤ most

  going : (i : ℕ) → i < k.len → role_of (entry_of e (k.first + i)).kind ≡ Uses → Going (entry_of e (k.first + i)).before (block_of a (entry_of e (k.first + i)).who)
  going i l q =
      let u = use_under o.head e a o.ok k o.sound i l q in
      let under = u.lower in
      let high = o.sound.high in
      let low = o.low in
      let before = o.sound.ok.before_is i l in
      let grow = sums_grow (size_at e a) k.first i k.len (omega arith) in
      let whole = o.sound.ok.items_are in
      let small = o.sound.ok.small in
      record {
        lower = record { head = o.head; ok = o.ok; sound = u.sound; low = omega arith };
        under = under;
        few = omega arith;
        small = u.sound.ok.small;
      }

  not_is : {t : Option ℕ} {b : ℕ} {u : Container} → ◌≡◌ {A = Look} (Is t) (Below b u) → ⊥
  not_is q = let z : ◌≡◌ {A = ℕ} 0 1 = cc in omega arith

  going_as : (i : ℕ) (l : i < k.len) (rest : List ℕ) (b : ℕ) (u : Container) (role : Role) → role_of (entry_of e (k.first + i)).kind ≡ role →
      look_as role a (entry_of e (k.first + i)) rest ≡ Below b u → Going b u
  unfolding look_as
  going_as i l rest b u Draws q t = absurd (not_is t)
  going_as i l rest b u Uses q t =
      let g = going i l q in
      let x : (entry_of e (k.first + i)).before ≡ b = cc in
      let y : block_of a (entry_of e (k.first + i)).who ≡ u = cc in
      rw (← x, ← y) g
  going_as i l rest b u Repeats q t = absurd (not_is t)
  going_as i l rest b u Defines q t = absurd (not_is t)
  going_as i l rest b u Unknown q t = absurd (not_is t)

  pub look_below : (q : ℕ) (rest : List ℕ) (b : ℕ) (u : Container) → look_of e a k q rest ≡ Below b u → Going b u
  unfolding look_of look_at
  look_below q rest b u t = go (misses k q (spot (span_at e) k.first k.len q)) refl t
    where
      go : (m : Bool) → misses k q (spot (span_at e) k.first k.len q) ≡ m →
          cond m (Is None) (look_as (role_of (entry_of e (spot (span_at e) k.first k.len q).entry).kind) a (entry_of e (spot (span_at e) k.first k.len q).entry) rest) ≡ Below b u →
          Going b u
      go true f t = absurd (not_is t)
      go false f t = let w = meets e a k q f in going_as w.i w.i_in rest b u _ refl (rw w.entry_is at t)

-- what lies below is asked for with a word less, and what it answers is few enough
pub down : (e a : List ℕ) (k : Container) (words : ℕ) (o : Seeks e a k words) (q : ℕ) (rest : List ℕ) (b : ℕ) (u : Container) →
    look_of e a k q rest ≡ Below b u → Down e a b u words
down e a k words o q rest b u t =
    let g = look_below e a k o.lower q rest b u t in
    let under = g.under in
    let high = o.high in
    let one = g.lower.sound.low in
    let few = g.few in
    let small = g.small in
    record {
      some = omega arith;
      asks = λ less s. record { lower = g.lower; high = omega arith };
      fits = λ q rest s j f.
          let w = (undone g.lower.head e a g.lower.ok (suc (length rest)) u g.lower.sound g.lower.low (omega arith)).forth q rest j refl f in
          let l = w.0 in
          omega arith;
    }

-- the words after the first, as a part of a slice
pub part_words : (w : List ℕ) → 1 ≤ length w → suc (length (take (length w - 1) (drop 1 w))) ≡ length w
part_words w l = rw (rest_whole w 1) (length_rest w l)

pub part_sought : (e a : List ℕ) (u : Container) (x : ℕ) (w : List ℕ) → 1 ≤ length w → x ≡ get_or w 0 0 →
    sought e a (suc (length (take (length w - 1) (drop 1 w)))) u x (take (length w - 1) (drop 1 w)) ≡ sought e a (length w) u (get_or w 0 0) (drop 1 w)
part_sought e a u x w l q = rw (part_words w l, rest_whole w 1, q)

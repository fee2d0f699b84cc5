-- The positions of a sheet's containers are no more than its entries.
-- Assumes nothing.
use Prim.Native.Nat.{ℕ, zero, suc, ◌+◌, ◌≤◌, ◌<◌}
use mathlib.Core.Path.{◌≡◌, refl}
use mathlib.Core.Bool.{true}
use mathlib.Core.List.{List}
use native.Mathlib.Nat.{add-zero}
use native.Mathlib.Omega.{arith}
use borrow.Author.Tests.{eqb-true}
use Rattle.base.specs.Run.{sums}
use Rattle.base.proofs.And.{and_l, and_r}
use Rattle.sheet.specs.Records.{entry_of, role_of, entry_room}
use Rattle.sheet.specs.Containers.{entries_used, apertures_used, body_of, top_of}
use Rattle.sheet.specs.Valid.{is_repeat, body_length, block_length, ok_lengths, ok_containers, valid}
use Rattle.sheet.specs.declared.Entry.{Entry}
use Rattle.sheet.specs.declared.Container.{Container}
use Rattle.sheet.specs.declared.Role.{Role}
use Rattle.sheet.specs.declared.Role.TheVariants.{Draws, Uses, Repeats, Defines, Unknown}
use Rattle.sheet.proofs.Conditions.{container_ok, entry_repeat, repeat_kind}
use Rattle.sheet.proofs.Sound.{rooms, top_sound}
use Rattle.sheet.specs.Sound.{Sound}
use Rattle.law_addresses.specs.Positions.{span_as, span_of, span_at, Spans}
use Rattle.law_addresses.proofs.Spots.{standing_few}

-- numbers that are at most 1 more than others add up to no more than these and their count
sums_over : (F G : ℕ → ℕ) (p n : ℕ) → ((i : ℕ) → i < n → F (p + i) ≤ 1 + G (p + i)) → sums F p n ≤ n + sums G p n
unfolding sums
sums_over F G p zero h = omega arith
sums_over F G p (suc n) h =
    let one = rw (add-zero p) at (h 0 (omega arith)) in
    let rest = sums_over F G (suc p) n (λ i l. let q : p + suc i ≡ suc p + i = omega arith in rw q at (h (suc i) (omega arith))) in
    omega arith

pub sums_few : (F : ℕ → ℕ) (p n : ℕ) → ((i : ℕ) → i < n → F (p + i) ≤ 1) → sums F p n ≤ n
unfolding sums
sums_few F p zero h = omega arith
sums_few F p (suc n) h =
    let one = rw (add-zero p) at (h 0 (omega arith)) in
    let rest = sums_few F (suc p) n (λ i l. let q : p + suc i ≡ suc p + i = omega arith in rw q at (h (suc i) (omega arith))) in
    omega arith

-- an entry that is no repeat takes one position at most
pub span_one : (e : List ℕ) (r : Entry) → (role_of r.kind ≡ Repeats → ⊥) → span_of e r ≤ 1
unfolding span_of span_as
span_one e r other = go (role_of r.kind) refl
  where
    go : (role : Role) → role_of r.kind ≡ role → span_as role e r ≤ 1
    go Draws q = omega arith
    go Uses q = omega arith
    go Repeats q = absurd (other q)
    go Defines q = omega arith
    go Unknown q = omega arith

-- a repeat takes no more than its body is long
body_long : (e : List ℕ) (i : ℕ) → role_of (entry_of e i).kind ≡ Repeats → body_length e i ≡ (entry_of e i).scale
unfolding body_length is_repeat body_of
body_long e i q = simp (repeat_kind (entry_of e i).kind q)

span_over : (e : List ℕ) (i : ℕ) → span_at e i ≤ 1 + body_length e i
unfolding span_of span_as
span_over e i = go (role_of (entry_of e i).kind) refl
  where
    go : (role : Role) → role_of (entry_of e i).kind ≡ role → span_as role e (entry_of e i) ≤ 1 + body_length e i
    go Draws q = omega arith
    go Uses q = omega arith
    go Repeats q = let few = standing_few e (entry_of e i).who (entry_of e i).scale in let long = body_long e i q in omega arith
    go Defines q = omega arith
    go Unknown q = omega arith

module _ (head e a : List ℕ) (v : valid head e a ≡ true) where
  -- below the top level there is no repeat
  pub no_repeat : (k : Container) → Sound head e a k → k.height ≤ 9 → (i : ℕ) → i < k.len → role_of (entry_of e (k.first + i)).kind ≡ Repeats → ⊥
  no_repeat k s low i l q = let ten = (entry_repeat a (apertures_used head) k.height _ (s.ok.each_ok i l) q).at_top in omega arith

  pub spans_below : (k : Container) → Sound head e a k → k.height ≤ 9 → Spans e k.first k.len
  spans_below k s low =
      let room = (rooms head e a v).0 in
      let inside = s.ok.inside in
      let few = sums_few (span_at e) k.first k.len (λ i l. span_one e _ (no_repeat k s low i l)) in
      record {
        inside = omega arith;
        bodies = λ i l q. absurd (no_repeat k s low i l q);
        fits = omega arith;
      }

  lengths : (top_of head).len + sums (block_length a) 0 (apertures_used head) + sums (body_length e) (top_of head).first (top_of head).len ≡ entries_used head
  unfolding valid ok_containers ok_lengths
  lengths = eqb-true _ _ (and_r _ _ (and_l _ _ (and_l _ _ (and_r _ _ v))))

  body_inside : (r : Entry) → (body_of r).first + (body_of r).len ≤ entries_used head → r.who + r.scale ≤ entry_room e
  unfolding body_of
  body_inside r inside = let room = (rooms head e a v).0 in omega arith

  pub spans_top : Spans e (top_of head).first (top_of head).len
  spans_top =
      let s = top_sound head e a v in
      let room = (rooms head e a v).0 in
      let inside = s.ok.inside in
      let all = lengths in
      let over = sums_over (span_at e) (body_length e) (top_of head).first (top_of head).len (λ i l. span_over e ((top_of head).first + i)) in
      record {
        inside = omega arith;
        bodies = λ i l q. body_inside _ (container_ok e a _ _ _ (s.bodies i l q)).inside;
        fits = omega arith;
      }

-- An account: what reading knows of items, blocks and repeats, paired with the sizes of the sheet so far; each mark keeps it.
-- Assumes nothing.
use Rattle.std.specs.Prelude.{Option, ℤ}
use Prim.Native.Nat.{ℕ, ◌+◌, ◌*◌}
use mathlib.Core.Path.{◌≡◌, refl, sym, ap, ◌∙◌, subst}
use mathlib.Core.Bool.{Bool, true, false, cond, false≢true}
use mathlib.Core.List.{List, ◌∷◌, ◌++◌, []}
use native.Mathlib.Nat.{add-zero}
use native.Mathlib.Omega.{arith}
use lib.Dec.{eqb}
use lib.ListN.{length}
use borrow.Author.Tests.{ne_eqb, eqb-true, eqb-false}
use Rattle.base.specs.And.{◌and◌}
use Rattle.place.specs.declared.Repeat.{Repeat}
use Rattle.place.specs.Mark.{Mark}
use Rattle.graphics.specs.Level as level
use Rattle.graphics.specs.declared.Graphics.{Graphics}
use Rattle.graphics.specs.declared.Level.{Level}
use Rattle.graphics.specs.declared.Selected.{Selected}
use Rattle.changes.specs.After.{starts_contour}
use Rattle.operation_rules.specs.Counts.{counted}
use Rattle.operation_rules.specs.Faults.{draw_items, flash_items}
use Rattle.marks.specs.Marks.{draw_marks, flash_marks}
use Rattle.law_reading.specs.State as opened
use Rattle.law_reading.specs.State.{Aperture, Opened, State, begun}
use Rattle.law_reading.specs.Apertures.{block, is_taken, aperture_from, aperture_with, opening, closing}
use Rattle.law_reading.specs.Levels.{with_items, in_block, in_repeat}
use Rattle.law_reading.specs.Steps.{with_level, with_opened, with_apertures, block_ends, repeat_ends}
use Rattle.law_kept.specs.Counted.{put_out, Counts}
use Rattle.law_kept.proofs.Sizes as size
use Rattle.law_kept.proofs.Sizes.{Stack, Size, count_of, more, shut, sizes, sized, sizes_append, out_of, put_out_size}
use Rattle.law_kept.proofs.Found.{found_stays, taken_stays, taken_found, added_found, new_found, new_taken, closing_taken, closing_other, closing_same}
use Rattle.command.specs.declared.Offset.{Offset}

-- what reading knows to be open, with the items before each
abbrev Fits : List Opened → Level → Stack → Type 0
Fits [] l size.none = l.inside ≡ level.top_level
Fits (opened.block n around ∷ os) l (size.in_block m b st) = (l.inside ≡ level.block) × (n ≡ m) × (around.items ≡ b) × Fits os around st
Fits (opened.repeat around ∷ os) l (size.in_repeat r b st) =
    (l.inside ≡ level.repeat) × (l.copies ≡ r.nx * r.ny) × (l.sheet ≡ b) × (around.items ≡ b) × Fits os around st
Fits [] l (size.in_block m b st) = ⊥
Fits [] l (size.in_repeat r b st) = ⊥
Fits (opened.block n around ∷ os) l size.none = ⊥
Fits (opened.block n around ∷ os) l (size.in_repeat r b st) = ⊥
Fits (opened.repeat around ∷ os) l size.none = ⊥
Fits (opened.repeat around ∷ os) l (size.in_block m b st) = ⊥

-- the number is that of no block of these
abbrev Differs : ℕ → List Opened → Type 0
Differs n [] = Unit
Differs n (opened.block m l ∷ os) = (m ≡ n → ⊥) × Differs n os
Differs n (opened.repeat l ∷ os) = Differs n os

-- the numbers of open blocks are taken, once, and find no closed block
abbrev Apart : List Opened → List Aperture → Type 0
Apart [] known = Unit
Apart (opened.block n l ∷ os) known = (is_taken n known ≡ true) × ((aperture_with n known).block ≡ false) × Differs n os × Apart os known
Apart (opened.repeat l ∷ os) known = Apart os known

pub record Account (chosen : Selected) (l : Level) (os : List Opened) (known : List Aperture) (z : Size) : Type 0 where
  pub here : l.items ≡ z.here
  pub around : Fits os l z.around
  pub apart : Apart os known
  pub closed : (n : ℕ) → (aperture_with n known).block ≡ true → (aperture_with n known).items ≡ count_of n z.blocks
  pub picked : chosen.block ≡ true → (aperture_with chosen.number known).block ≡ true
  pub held : chosen.block ≡ true → chosen.items ≡ count_of chosen.number z.blocks

abbrev pub Known : State → Type 0
Known s = Account s.graphics.aperture s.level s.opened s.apertures (sized s.marks)

-- items more change nothing of what is open
fits_more : (n h : ℕ) (os : List Opened) (l : Level) (st : Stack) → Fits os l st → Fits os (with_items n h l) st
unfolding with_items
fits_more n h [] l size.none f = f
fits_more n h [] l (size.in_block m b st) f = f
fits_more n h [] l (size.in_repeat r b st) f = f
fits_more n h (opened.block m around ∷ os) l size.none f = f
fits_more n h (opened.block m around ∷ os) l (size.in_block k b st) f = f
fits_more n h (opened.block m around ∷ os) l (size.in_repeat r b st) f = f
fits_more n h (opened.repeat around ∷ os) l size.none f = f
fits_more n h (opened.repeat around ∷ os) l (size.in_block k b st) f = f
fits_more n h (opened.repeat around ∷ os) l (size.in_repeat r b st) f = f

module _ {chosen : Selected} {l : Level} {os : List Opened} {known : List Aperture} {z : Size} (k : Account chosen l os known z) where
  more_items : (n h : ℕ) → Account chosen (with_items n h l) os known (more n z)
  unfolding with_items
  more_items n h = record {
    here = ap (λ x. x + n) k.here;
    around = fits_more n h os l z.around k.around;
    apart = k.apart;
    closed = k.closed;
    picked = k.picked;
    held = k.held;
  }

  -- with n more, the count is the length of what is then put out
  counted_out : (n : ℕ) → counted l n ≡ out_of z.around (z.here + n)
  unfolding counted
  counted_out n = go os z.around k.around
    where
      go : (os : List Opened) (st : Stack) → Fits os l st → counted l n ≡ out_of st (z.here + n)
      go [] size.none f = rw (f, k.here)
      go [] (size.in_block m b st) f = absurd f
      go [] (size.in_repeat r b st) f = absurd f
      go (opened.block m around ∷ os) size.none f = absurd f
      go (opened.block m around ∷ os) (size.in_block j b st) f = rw (f.0, k.here)
      go (opened.block m around ∷ os) (size.in_repeat r b st) f = absurd f
      go (opened.repeat around ∷ os) size.none f = absurd f
      go (opened.repeat around ∷ os) (size.in_block j b st) f = absurd f
      go (opened.repeat around ∷ os) (size.in_repeat r b st) f = rw (f.0, f.1, f.2, k.here)

-- a D01 leaves as many items as it counts
pub draw_size : (g : Graphics) (x y : Option ℤ) (o : Option Offset) (place : ℕ) (z : Size) → sizes (draw_marks g x y o place) z ≡ more (draw_items g) z
unfolding draw_marks draw_items starts_contour ◌and◌
draw_size g x y o place z = go g.region.on refl g.region.contour refl
  where
    two : more 1 (more 1 z) ≡ more 2 z
    two = let q : z.here + 1 + 1 ≡ z.here + 2 = omega arith in λ i. record { blocks = z.blocks; here = q i; around = z.around }

    go : (on : Bool) → g.region.on ≡ on → (begun : Bool) → g.region.contour ≡ begun → sizes (draw_marks g x y o place) z ≡ more (draw_items g) z
    go true p true q = rw (p, q)
    go true p false q = rw (p, q) two
    go false p begun q = rw p

-- so does a D03
pub flash_size : (g : Graphics) (x y : Option ℤ) (place : ℕ) (z : Size) → (g.aperture.block ≡ true → g.aperture.items ≡ count_of g.aperture.number z.blocks) →
    sizes (flash_marks g x y place) z ≡ more (flash_items g) z
unfolding flash_marks flash_items
flash_size g x y place z held = go g.aperture.block refl
  where
    go : (b : Bool) → g.aperture.block ≡ b → sizes (flash_marks g x y place) z ≡ more (flash_items g) z
    go true p = rw p (ap (λ n. more n z) (sym (held p)))
    go false p = rw p

module _ (s : State) (k : Known s) where
  -- after marks that are n items more
  pub marked_more : (ms : List Mark) (n h : ℕ) → sizes ms (sized s.marks) ≡ more n (sized s.marks) →
      Account s.graphics.aperture (with_items n h s.level) s.opened s.apertures (sized (s.marks ++ ms))
  marked_more ms n h q =
      subst (Account s.graphics.aperture (with_items n h s.level) s.opened s.apertures) (sym (sizes_append s.marks ms _ ∙ q)) (more_items k n h)

  out_more : (ms : List Mark) (n : ℕ) → sizes ms (sized s.marks) ≡ more n (sized s.marks) → counted s.level n ≡ length (put_out (s.marks ++ ms))
  out_more ms n q =
      counted_out k n
      ∙ ap (λ (z : Size). out_of z.around z.here) (sym (sizes_append s.marks ms _ ∙ q))
      ∙ sym (put_out_size (s.marks ++ ms))

  pub counts : Counts s
  counts = record {
    now = counted_out k 0 ∙ ap (out_of (sized s.marks).around) (add-zero (sized s.marks).here) ∙ sym (put_out_size s.marks);
    drawn = λ x y o place. out_more (draw_marks s.graphics x y o place) (draw_items s.graphics) (draw_size s.graphics x y o place _);
    flashed = λ x y place. out_more (flash_marks s.graphics x y place) (flash_items s.graphics) (flash_size s.graphics x y place _ k.held);
  }

-- a record more that is no block
differs_new : (n : ℕ) (os : List Opened) (known : List Aperture) → is_taken n known ≡ false → Apart os known → Differs n os
differs_new n [] known free a = tt
differs_new n (opened.block m l ∷ os) known free a =
    (λ e. false≢true (sym free ∙ ap (λ x. is_taken x known) (sym e) ∙ a.0), differs_new n os known free a.3)
differs_new n (opened.repeat l ∷ os) known free a = differs_new n os known free a

apart_added : (a : Aperture) (os : List Opened) (known : List Aperture) → Apart os known → Apart os (known ++ a ∷ [])
unfolding aperture_with
apart_added a [] known p = tt
apart_added a (opened.block n l ∷ os) known p = (
  taken_stays a n known p.0,
  ap (λ (x : Selected). x.block) (taken_found a 0 n known p.0) ∙ p.1,
  p.2,
  apart_added a os known p.3,
)
apart_added a (opened.repeat l ∷ os) known p = apart_added a os known p

module _ (a : Aperture) (other : eqb a.kind block ≡ false) {chosen : Selected} {l : Level} {os : List Opened} {known : List Aperture} {z : Size}
    (k : Account chosen l os known z) where
  pub added : Account chosen l os (known ++ a ∷ []) z
  unfolding aperture_with
  added = record {
    here = k.here;
    around = k.around;
    apart = apart_added a os known k.apart;
    closed = λ n e.
        let q = added_found a other 0 n known e in
        ap (λ (x : Selected). x.items) q ∙ k.closed n (ap (λ (x : Selected). x.block) (sym q) ∙ e);
    picked = λ e. ap (λ (x : Selected). x.block) (found_stays a 0 chosen.number known (k.picked e)) ∙ k.picked e;
    held = k.held;
  }

-- AB and SR open
module _ {chosen : Selected} {l : Level} {os : List Opened} {known : List Aperture} {z : Size} (k : Account chosen l os known z) where
  pub block_opens : (n : ℕ) → is_taken n known ≡ false →
      Account chosen (in_block l) (opened.block n l ∷ os) (known ++ opening n ∷ []) (record { blocks = z.blocks; here = 0; around = size.in_block n z.here z.around })
  unfolding in_block opening aperture_with
  block_opens n free =
      let a = added (opening n) refl k in
      record {
        here = refl;
        around = (refl, refl, k.here, k.around);
        apart = (new_taken (opening n) known, new_found (opening n) refl 0 n known free, differs_new n os known free k.apart, a.apart);
        closed = a.closed;
        picked = a.picked;
        held = k.held;
      }

  pub repeat_opens : (nx ny : ℕ) (r : Repeat) → nx ≡ r.nx → ny ≡ r.ny →
      Account chosen (in_repeat nx ny l) (opened.repeat l ∷ os) known (record { blocks = z.blocks; here = 0; around = size.in_repeat r z.here z.around })
  unfolding in_repeat
  repeat_opens nx ny r p q = record {
    here = refl;
    around = (refl, λ i. p i * q i, k.here, k.here, k.around);
    apart = k.apart;
    closed = k.closed;
    picked = k.picked;
    held = k.held;
  }

-- AB closes
apart_closed : (n items height : ℕ) (os : List Opened) (known : List Aperture) → Differs n os → Apart os known → Apart os (closing n items height known)
unfolding aperture_with
apart_closed n items height [] known d p = tt
apart_closed n items height (opened.block m l ∷ os) known d p = (
  closing_taken n items height m known ∙ p.0,
  ap (λ (x : Selected). x.block) (closing_other n items height 0 m known d.0) ∙ p.1,
  p.2,
  apart_closed n items height os known d.1 p.3,
)
apart_closed n items height (opened.repeat l ∷ os) known d p = apart_closed n items height os known d p

module _ (z : Size) {chosen : Selected} {l : Level} {os : List Opened} {known : List Aperture} (n b : ℕ) (around : Level) (st : Stack)
    (k : Account chosen l (opened.block n around ∷ os) known (record { blocks = z.blocks; here = z.here; around = size.in_block n b st })) where
  -- the block that closes is not the one selected
  apart_chosen : chosen.block ≡ true → chosen.number ≡ n → ⊥
  apart_chosen e q = false≢true (sym k.apart.1 ∙ ap (λ x. (aperture_with x known).block) (sym q) ∙ k.picked e)

  block_closes : Account chosen around os (closing n l.items l.height known) (record { blocks = (n, z.here) ∷ z.blocks; here = b; around = st })
  unfolding aperture_with
  block_closes = record {
    here = k.around.2;
    around = k.around.3;
    apart = apart_closed n l.items l.height os known k.apart.2 k.apart.3;
    closed = λ m e. go m e (eqb m n) refl;
    picked = λ e. ap (λ (x : Selected). x.block) (closing_other n l.items l.height 0 chosen.number known (apart_chosen e)) ∙ k.picked e;
    held = λ e. k.held e ∙ rw (ne_eqb chosen.number n (apart_chosen e));
  }
    where
      go : (m : ℕ) → (aperture_from 0 m (closing n l.items l.height known)).block ≡ true → (t : Bool) → eqb m n ≡ t →
          (aperture_from 0 m (closing n l.items l.height known)).items ≡ cond (eqb m n) z.here (count_of m z.blocks)
      go m e true q =
          let same : m ≡ n = eqb-true m n q in
          rw (q, same) (closing_same n l.items l.height 0 known (rw same at e) ∙ k.here)
      go m e false q =
          let other = closing_other n l.items l.height 0 m known (eqb-false m n q) in
          rw q (ap (λ (x : Selected). x.items) other ∙ k.closed m (ap (λ (x : Selected). x.block) (sym other) ∙ e))

-- so many items in each place, with this around them
abbrev standing : Size → Stack → Size
standing z st = record { blocks = z.blocks; here = z.here; around = st }

pub block_ends_lem : (s : State) (os : List Opened) (z : Size) → Account s.graphics.aperture s.level os s.apertures z → s.level.inside ≡ level.block →
    Account (block_ends os s).graphics.aperture (block_ends os s).level (block_ends os s).opened (block_ends os s).apertures (shut z.around z)
unfolding block_ends with_level with_opened with_apertures
block_ends_lem s os z k q = go os z.around k
  where
    go : (os : List Opened) (st : Stack) → Account s.graphics.aperture s.level os s.apertures (standing z st) →
        Account (block_ends os s).graphics.aperture (block_ends os s).level (block_ends os s).opened (block_ends os s).apertures (shut st (standing z st))
    go [] size.none k = absurd (let e : ◌≡◌ {A = ℕ} 0 1 = sym k.around ∙ q in omega arith)
    go [] (size.in_block m b st) k = absurd k.around
    go [] (size.in_repeat r b st) k = absurd k.around
    go (opened.block n around ∷ os) size.none k = absurd k.around
    go (opened.block n around ∷ os) (size.in_block m b st) k =
        let same : n ≡ m = k.around.1 in
        subst (λ (x : ℕ). Account s.graphics.aperture around os (closing n s.level.items s.level.height s.apertures) (shut (size.in_block x b st) (standing z st))) same
        (block_closes (standing z st) n b around st
        (subst (λ (x : ℕ). Account s.graphics.aperture s.level (opened.block n around ∷ os) s.apertures (standing z (size.in_block x b st))) (sym same) k))
    go (opened.block n around ∷ os) (size.in_repeat r b st) k = absurd k.around
    go (opened.repeat around ∷ os) size.none k = absurd k.around
    go (opened.repeat around ∷ os) (size.in_block m b st) k = absurd k.around
    go (opened.repeat around ∷ os) (size.in_repeat r b st) k = absurd (let e : ◌≡◌ {A = ℕ} 2 1 = sym k.around.0 ∙ q in omega arith)

-- SR closes
pub repeat_ends_lem : (s : State) (os : List Opened) (z : Size) → Account s.graphics.aperture s.level os s.apertures z → s.level.inside ≡ level.repeat →
    Account (repeat_ends os s).graphics.aperture (repeat_ends os s).level (repeat_ends os s).opened (repeat_ends os s).apertures (shut z.around z)
unfolding repeat_ends with_level with_opened with_items
repeat_ends_lem s os z k q = go os z.around k
  where
    go : (os : List Opened) (st : Stack) → Account s.graphics.aperture s.level os s.apertures (standing z st) →
        Account (repeat_ends os s).graphics.aperture (repeat_ends os s).level (repeat_ends os s).opened (repeat_ends os s).apertures (shut st (standing z st))
    go [] size.none k = absurd (let e : ◌≡◌ {A = ℕ} 0 2 = sym k.around ∙ q in omega arith)
    go [] (size.in_block m b st) k = absurd k.around
    go [] (size.in_repeat r b st) k = absurd k.around
    go (opened.block n around ∷ os) size.none k = absurd k.around
    go (opened.block n around ∷ os) (size.in_block m b st) k = absurd (let e : ◌≡◌ {A = ℕ} 1 2 = sym k.around.0 ∙ q in omega arith)
    go (opened.block n around ∷ os) (size.in_repeat r b st) k = absurd k.around
    go (opened.repeat around ∷ os) size.none k = absurd k.around
    go (opened.repeat around ∷ os) (size.in_block m b st) k = absurd k.around
    go (opened.repeat around ∷ os) (size.in_repeat r b st) k = record {
      here = λ i. k.around.3 i + k.around.1 i * k.here i;
      around = fits_more (s.level.copies * s.level.items) 0 os around st k.around.4;
      apart = k.apart;
      closed = k.closed;
      picked = k.picked;
      held = k.held;
    }

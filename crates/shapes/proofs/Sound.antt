-- The primitives of an aperture that is found are whole, and as many as it says.
-- Assumes nothing.
use Rattle.std.specs.Prelude.{Err, Ok, Result, ℕ}
use Prim.Native.Nat.{ℕ, ◌+◌, ◌≤◌, ◌<◌}
use mathlib.Core.Path.{◌≡◌, refl}
use mathlib.Core.Bool.{Bool, true, false}
use mathlib.Core.List.{List}
use native.Mathlib.Omega.{arith}
use lib.Dec.{eqb, ltb}
use lib.IntN.{ℤ}
use lib.ListN.{length}
use borrow.Author.Tests.{eqb-true, ltb-false}
use Rattle.base.specs.Choose.{pick}
use Rattle.sheet.specs.Containers.{apertures_used}
use Rattle.sheet.specs.Records.{aperture_of}
use Rattle.sheet.specs.declared.Aperture.{Aperture}
use Rattle.shapes.specs.Links.{led}
use Rattle.shapes.specs.Primitives.{Cut, primitives_in, counted_by, counted_as}
use Rattle.shapes.specs.Shapes.{numbers_used, ok_store, template_fits, judged_macro, judged_template, judged, found_by, lookup_of}
use Rattle.shapes.specs.declared.Shape.{Shape}
use Rattle.shapes.proofs.Stores.{numbers_there}
use Rattle.shapes.specs.Runs.{Whole, primitives_by}
use Rattle.shapes.specs.declared.LookupError.TheVariants as lookup_error
use Rattle.shapes.specs.declared.LookupError.{LookupError}

pub record Sound (n : List ℤ) (s : Shape) : Type 0 where
  pub count : s.primitives ≡ length (primitives_by n (Ok s))
  pub whole : 0 < s.primitives → Whole n s.first (s.first + s.count)
  pub list : 0 < s.primitives → primitives_by n (Ok s) ≡ (primitives_in n s.first (s.first + s.count)).list

-- without primitives
none : (n : List ℤ) (s : Shape) → s.primitives ≡ 0 → eqb s.kind 5 ≡ false → Sound n s
unfolding primitives_by
none n s e f = record {
  count = rw f e;
  whole = λ h. absurd (omega arith);
  list = λ h. absurd (omega arith);
}

macro_sound : (n : List ℤ) (r : Aperture) (c : Cut) (s : Shape) → c ≡ primitives_in n r.first (r.first + r.len) → r.first + r.len ≤ length n → eqb r.kind 5 ≡ true →
    (b : Bool) → c.whole ≡ b → judged_macro r (counted_by b (length c.list)) ≡ Ok s → Sound n s
unfolding judged_macro counted_by primitives_by
macro_sound n r c s is h k true w e =
    let q : s ≡ record { number = r.number; kind = r.kind; first = r.first; count = r.len; primitives = length c.list } = cc in
    rw q
    (record {
      count = rw (k, is);
      whole = λ _. record { ordered = omega arith; inside = h; whole = rw is at w };
      list = λ _. rw k;
    })
macro_sound n r c s is h k false w e = absurd (let z : ◌≡◌ {A = ℕ} 0 1 = cc in omega arith)

module _ (used : ℕ) (n : List ℤ) (r : Aperture) (s : Shape) (there : used ≤ length n) where
  rows : (six zero five fits : Bool) (o : Bool) → eqb r.kind 6 ≡ six → eqb r.kind 5 ≡ five → ltb used (r.first + r.len) ≡ o →
      pick six (Ok (record { number = r.number; kind = r.kind; first = 0; count = 0; primitives = 0 }))
      (pick zero (Err lookup_error.Unknown)
      (pick o (Err lookup_error.NotSheet)
      (pick five (judged_macro r (counted_as (primitives_in n r.first (r.first + r.len))))
      (pick fits (Ok (record { number = r.number; kind = r.kind; first = r.first; count = r.len; primitives = 0 })) (Err lookup_error.NotSheet))))) ≡ Ok s →
      Sound n s
  unfolding pick counted_as
  rows true zero five fits o p q t e =
      let x : s ≡ record { number = r.number; kind = r.kind; first = 0; count = 0; primitives = 0 } = cc in
      let six = eqb-true r.kind 6 p in
      rw x (none n _ refl (rw six))
  rows false true five fits o p q t e = absurd (let z : ◌≡◌ {A = ℕ} 0 1 = cc in omega arith)
  rows false false five fits true p q t e = absurd (let z : ◌≡◌ {A = ℕ} 0 1 = cc in omega arith)
  rows false false true fits false p q t e =
      let h = ltb-false used (r.first + r.len) t in
      macro_sound n r _ s refl (omega arith) q (primitives_in n r.first (r.first + r.len)).whole refl e
  rows false false false true false p q t e =
      let x : s ≡ record { number = r.number; kind = r.kind; first = r.first; count = r.len; primitives = 0 } = cc in
      rw x (none n _ refl q)
  rows false false false false false p q t e = absurd (let z : ◌≡◌ {A = ℕ} 0 1 = cc in omega arith)

  judged_sound : judged used n r ≡ Ok s → Sound n s
  unfolding judged judged_template
  judged_sound e = rows (eqb r.kind 6) (eqb r.kind 0) (eqb r.kind 5) (template_fits r.kind r.len) (ltb used (r.first + r.len)) refl refl refl e

pub lookup_sound : (head a : List ℕ) (n : List ℤ) (number : ℕ) (s : Shape) → lookup_of head a n number ≡ Ok s → Sound n s
unfolding lookup_of pick found_by
lookup_sound head a n number s e = go (ok_store head a n) refl (led a (apertures_used head) number) e
  where
    go : (t : Bool) → ok_store head a n ≡ t → (x : Result ℕ LookupError) → pick t (found_by head a n x) (Err lookup_error.NotSheet) ≡ Ok s → Sound n s
    go true ok (Ok i) e = judged_sound (numbers_used head) n (aperture_of a i) s (numbers_there head a n ok) e
    go true ok (Err lookup_error.Unknown) e = absurd (let z : ◌≡◌ {A = ℕ} 0 1 = cc in omega arith)
    go true ok (Err lookup_error.NotSheet) e = absurd (let z : ◌≡◌ {A = ℕ} 0 1 = cc in omega arith)
    go false ok x e = absurd (let z : ◌≡◌ {A = ℕ} 0 1 = cc in omega arith)

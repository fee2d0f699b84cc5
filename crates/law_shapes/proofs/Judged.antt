-- What a record with the numbers of an AD at no fault is judged to be.
-- Assumes nothing.
use Rattle.std.specs.Prelude.{Ok}
use Prim.Native.Nat.{ℕ, ◌+◌, ◌≤◌, ◌<◌}
use mathlib.Core.Path.{◌≡◌, refl, sym, ap, ◌∙◌}
use mathlib.Core.Bool.{Bool, true, false, cond, not}
use mathlib.Core.List.{List, [], ◌∷◌}
use native.Mathlib.Omega.{arith}
use lib.Dec.{eqb, leb, ltb}
use lib.IntN.{ℤ}
use lib.ListN.{length}
use borrow.Author.Tests.{eqb-true, eq-eqb, le-ltb, le-leb}
use Rattle.base.specs.And.{◌and◌}
use Rattle.base.specs.Or.{◌or◌}
use Rattle.base.specs.Choose.{pick, choose}
use Rattle.base.proofs.And.{and_l, and_r, and_i}
use Rattle.primitives.specs.declared.Asked.{Asked}
use Rattle.templates.specs.Templates.{with_hole, circle, rectangle, polygon, kind_of, keeps}
use Rattle.sheet.specs.declared.Aperture.{Aperture}
use Rattle.law_reading.specs.Apertures.{is_standard}
use Rattle.shapes.specs.Primitives.{primitives_in, counted_by, counted_as}
use Rattle.shapes.specs.Shapes.{template_fits, judged_macro, judged_template, judged}

-- the kinds that AD gives
pub record Given (k : ℕ) : Type 0 where
  pub six : eqb k 6 ≡ false
  pub zero : eqb k 0 ≡ false
  pub five : eqb k 5 ≡ not (leb k 4)

kinds : (a b c d : Bool) → Given (pick a 1 (pick b 2 (pick c 3 (pick d 4 5))))
unfolding pick
kinds true b c d = record { six = refl; zero = refl; five = refl }
kinds false true c d = record { six = refl; zero = refl; five = refl }
kinds false false true d = record { six = refl; zero = refl; five = refl }
kinds false false false true = record { six = refl; zero = refl; five = refl }
kinds false false false false = record { six = refl; zero = refl; five = refl }

pub kind_given : (name : List ℕ) → Given (kind_of name)
unfolding kind_of
kind_given name = kinds _ _ _ _

pub kind_macro : (name : List ℕ) → is_standard name ≡ false → eqb (kind_of name) 5 ≡ true
unfolding is_standard
kind_macro name e = (kind_given name).five ∙ ap not e

pub kind_standard : (name : List ℕ) → is_standard name ≡ true → eqb (kind_of name) 5 ≡ false
unfolding is_standard
kind_standard name e = (kind_given name).five ∙ ap not e

-- ---- a standard template has as many parameters as its rule asks

between : (j k m : ℕ) → eqb m j ≡ true → k ≤ j → (n : ℕ) → j ≤ n → (leb k m and leb m n) ≡ true
between j k m e l n h = let f = eqb-true m j e in and_i _ _ (le-leb k m (omega (arith, f, l))) (le-leb m n (omega (arith, f, h)))

hole_fits : (k m : ℕ) (above : Bool) (t u : Bool) → eqb m k ≡ t → eqb m (k + 1) ≡ u → (t or (u and above)) ≡ true → (leb k m and leb m (k + 1)) ≡ true
unfolding ◌or◌
hole_fits k m above true u f g e = between k k m f (omega arith) (k + 1) (omega arith)
hole_fits k m above false u f g e = between (k + 1) k m (g ∙ and_l u above e) (omega arith) (k + 1) (omega arith)

polygon_fits : (m : ℕ) (above : Bool) (t u v : Bool) → eqb m 2 ≡ t → eqb m 3 ≡ u → eqb m 4 ≡ v → (t or (u or (v and above))) ≡ true → (leb 2 m and leb m 4) ≡ true
unfolding ◌or◌
polygon_fits m above true u v f g h e = between 2 2 m f (omega arith) 4 (omega arith)
polygon_fits m above false true v f g h e = between 3 2 m g (omega arith) 4 (omega arith)
polygon_fits m above false false v f g h e = between 4 2 m (h ∙ and_l v above e) (omega arith) 4 (omega arith)

module _ (q : Asked) where
  rows_fit : (b1 b2 b3 b4 : Bool) → choose ((b1, circle q) ∷ (b2, rectangle q) ∷ (b3, rectangle q) ∷ (b4, polygon q) ∷ []) false ≡ true →
      choose
      ((b1, leb 1 q.count and leb q.count 2) ∷ (b2, leb 2 q.count and leb q.count 3) ∷ (b3, leb 2 q.count and leb q.count 3)
      ∷ (b4, leb 2 q.count and leb q.count 4) ∷ [])
      false ≡ true
  unfolding pick circle rectangle polygon with_hole
  rows_fit true b2 b3 b4 e = hole_fits 1 q.count _ _ _ refl refl (and_r _ _ e)
  rows_fit false true b3 b4 e = hole_fits 2 q.count _ _ _ refl refl (and_r _ _ e)
  rows_fit false false true b4 e = hole_fits 2 q.count _ _ _ refl refl (and_r _ _ e)
  rows_fit false false false true e = polygon_fits q.count _ _ _ _ refl refl refl (and_r _ _ e)
  rows_fit false false false false e = absurd (let z : ◌≡◌ {A = ℕ} 0 1 = cc in omega arith)

  pub template_fits_lem : (kind : ℕ) → keeps kind q ≡ true → template_fits kind q.count ≡ true
  unfolding keeps template_fits
  template_fits_lem kind e = rows_fit (eqb kind 1) (eqb kind 2) (eqb kind 3) (eqb kind 4) e

-- ---- the record

module _ (used : ℕ) (n : List ℤ) (r : Aperture) (given : Given r.kind) (h : r.first + r.len ≤ used) where
  pub judged_macro_lem : eqb r.kind 5 ≡ true → (primitives_in n r.first (r.first + r.len)).whole ≡ true →
      judged used n r
      ≡ Ok (record { number = r.number; kind = r.kind; first = r.first; count = r.len; primitives = length (primitives_in n r.first (r.first + r.len)).list })
  unfolding judged pick judged_macro counted_as counted_by
  judged_macro_lem e w = rw (given.six, given.zero, le-ltb used (r.first + r.len) h, e, w) refl

  pub judged_template_lem : eqb r.kind 5 ≡ false → template_fits r.kind r.len ≡ true →
      judged used n r ≡ Ok (record { number = r.number; kind = r.kind; first = r.first; count = r.len; primitives = 0 })
  unfolding judged pick judged_template
  judged_template_lem e w = rw (given.six, given.zero, le-ltb used (r.first + r.len) h, e, w) refl

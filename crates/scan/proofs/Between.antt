-- Only CR and LF between commands leave the walk between commands: with any other byte one begins, and inside one it goes on to its end.
-- Assumes nothing.
use Prim.Native.Nat.{ℕ}
use mathlib.Core.Path.{◌≡◌, refl, ap, sym, ◌∙◌}
use mathlib.Core.Bool.{Bool, true, false, cond, false≢true}
use lib.Dec.{eqb}
use Rattle.base.specs.And.{◌and◌}
use Rattle.base.specs.Breaks.{is_break}
use Rattle.fields.specs.Parts.{is_field}
use Rattle.letters.specs.Table.{lead_of, is_whole, takes}
use Rattle.scan.specs.Fields.{is_new}
use Rattle.scan.specs.Permitted.{permitted}
use Rattle.scan.specs.Scan.{ends}
use Rattle.scan.specs.Ways.{beyond, within, following, inside, opening, step}
use Rattle.book.specs.declared.Book.{Book}
use Rattle.scan.specs.declared.Stand.{Stand}
use Rattle.scan.specs.declared.Way.{Way}
use Rattle.scan.specs.declared.Way.TheVariants.{Between, Inside, Complete, Bad}

unfoldable between : Way → Bool
between Between = true
between (Inside s) = false
between (Complete kind) = false
between (Bad place) = false

neither : (t : Bool) (p q : Way) → between p ≡ false → between q ≡ false → between (cond t p q) ≡ false
neither true p q e f = e
neither false p q e f = f

module _ (book : Book) (s : Stand) (b at : ℕ) where
  beyond_not : between (beyond book s b at) ≡ false
  unfolding between beyond
  beyond_not = neither (is_whole (lead_of b)) _ _ refl (neither (is_new book.letters and is_field s.part b) _ _ refl refl)

  within_not : between (within book s b at) ≡ false
  unfolding between within
  within_not = neither (ends s.kind b) _ _ refl (neither (permitted s.kind s.last b) _ _ refl beyond_not)

  inside_not : between (inside book s b at) ≡ false
  unfolding between inside following
  inside_not = neither (is_whole s.follow) _ _ within_not (neither (takes s.follow b) _ _ refl refl)

  pub inside_goes : step book (Inside s) b at ≡ Between → ⊥
  unfolding between step
  inside_goes e = false≢true (sym inside_not ∙ ap between e)

module _ (book : Book) (b at : ℕ) where
  opening_not : between (opening book b at) ≡ false
  unfolding between opening
  opening_not = neither (eqb b 37) _ _ refl (within_not book _ b at)

  pub opening_goes : is_break b ≡ false → step book Between b at ≡ Between → ⊥
  unfolding between step
  opening_goes f e = false≢true (sym opening_not ∙ ap between (rw f at e))

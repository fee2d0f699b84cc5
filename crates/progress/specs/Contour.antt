-- While a contour is drawn: the marks before it, the contour and its edges so far, which lie on the stack from place `at` on.
use Rattle.std.specs.Prelude.{ℕ, suc, ◌+◌, ◌≡◌, List, ◌∷◌, ◌++◌, map, length}
use Rattle.place.specs.Mark as mark
use Rattle.place.specs.Mark.{Mark, written}
use Rattle.place.specs.declared.Item.{Item}
use Rattle.sheet.specs.Records.{entry_room}
use Rattle.law_open_store.specs.OpenContour.{Drawing}
use Rattle.build.specs.declared.Builder.{Builder}
use Rattle.law_built_store.specs.Shown.{blank}

pub record Contour (e a : List ℕ) (n : ℕ) (b : Builder) (at : ℕ) (marks : List Mark) : Type 0 where
  pub before : List Mark
  pub contour : Item
  pub edges : List Item
  pub items : ℕ
  pub drawing : Drawing (written before blank) contour edges e a (entry_room e) n b.closed at b.start b.height items
  pub marks_are : before ++ mark.contour contour ∷ map mark.edge edges ≡ marks
  pub high_is : b.high ≡ at + suc (length edges)
  pub items_are : b.items ≡ items + suc (length edges)

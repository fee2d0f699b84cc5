-- What a reading knows of its apertures between two commands: no two have a number, the one that is selected is of theirs, and so are those
-- of the items drawn so far; and that it stays so while apertures come and blocks close.
-- Assumes nothing.
use Prim.Native.Nat.{ℕ, ◌≤◌}
use mathlib.Core.Path.{◌≡◌, ◌∙◌}
use mathlib.Core.Bool.{true, false}
use mathlib.Core.List.{List, [], ◌∷◌, ◌++◌}
use native.Mathlib.Omega.{arith}
use Rattle.base.specs.Or.{◌or◌}
use Rattle.place.specs.Mark as mark
use Rattle.place.specs.Mark.{Mark, Opening}
use Rattle.place.specs.declared.Item.{Item}
use Rattle.place.specs.declared.Pose.{Pose}
use Rattle.graphics.specs.declared.Graphics.{Graphics}
use Rattle.graphics.specs.declared.Level.{Level}
use Rattle.law_reading.specs.State as opened
use Rattle.law_reading.specs.State.{Aperture, Opened, State}
use Rattle.law_summary.specs.Tools.{numbered, tools, Tooled}
use Rattle.law_summary.proofs.Tools.{tools_blocks}

-- the number of an open block is taken, and by no tool
pub data AllOpen (known : List Aperture) : List Opened → Type 0 where
  none : AllOpen known []
  block : {n : ℕ} {l : Level} {os : List Opened} → numbered n known ≡ 1 → tools n known ≡ 0 → AllOpen known os → AllOpen known (opened.block n l ∷ os)
  repeat : {l : Level} {os : List Opened} → AllOpen known os → AllOpen known (opened.repeat l ∷ os)

pub data Marked (known : List Aperture) : Mark → Type 0 where
  draws : {t : Item} → Tooled known t → Marked known (mark.draw t)
  contours : {t : Item} → Tooled known t → Marked known (mark.contour t)
  edges : {t : Item} → Tooled known t → Marked known (mark.edge t)
  flashes : {n : ℕ} {m : Pose} {place : ℕ} → Marked known (mark.flash n m place)
  opens : {o : Opening} → Marked known (mark.begin o)
  closes : Marked known mark.finish

pub data AllMarked (known : List Aperture) : List Mark → Type 0 where
  none : AllMarked known []
  more : {m : Mark} {ms : List Mark} → Marked known m → AllMarked known ms → AllMarked known (m ∷ ms)

pub marks_append : {known : List Aperture} {ms ns : List Mark} → AllMarked known ms → AllMarked known ns → AllMarked known (ms ++ ns)
marks_append none w = w
marks_append (more m ms) w = more m (marks_append ms w)

pub record Knowing (g : Graphics) (known : List Aperture) (os : List Opened) (ms : List Mark) : Type 0 where
  pub mode : g.mode ≤ 3
  pub chosen : g.aperture.set ≡ true → g.aperture.block ≡ false → tools g.aperture.number known ≡ 1
  pub solid : (g.aperture.circle or g.aperture.rectangle) ≡ true → g.aperture.block ≡ false
  pub distinct : (n : ℕ) → numbered n known ≤ 1
  pub around : AllOpen known os
  pub marks : AllMarked known ms

abbrev pub Knows : State → Type 0
Knows s = Knowing s.graphics s.apertures s.opened s.marks

-- what is known of the numbers that are taken stays
pub record Grown (known known' : List Aperture) : Type 0 where
  pub tools_same : (n : ℕ) → 1 ≤ numbered n known → tools n known' ≡ tools n known
  pub numbered_same : (n : ℕ) → 1 ≤ numbered n known → numbered n known' ≡ numbered n known

module _ {known known' : List Aperture} (g : Grown known known') where
  pub tool_stays : (n : ℕ) → tools n known ≡ 1 → tools n known' ≡ 1
  tool_stays n e = let s = tools_blocks n known in g.tools_same n (omega arith) ∙ e

  tooled_stays : {t : Item} → Tooled known t → Tooled known' t
  tooled_stays {t} w = record { drawn = λ o. tool_stays t.aperture (w.drawn o); region = w.region }

  marked_stays : {m : Mark} → Marked known m → Marked known' m
  marked_stays (draws w) = draws (tooled_stays w)
  marked_stays (contours w) = contours (tooled_stays w)
  marked_stays (edges w) = edges (tooled_stays w)
  marked_stays flashes = flashes
  marked_stays opens = opens
  marked_stays closes = closes

  pub marks_stay : {ms : List Mark} → AllMarked known ms → AllMarked known' ms
  marks_stay none = none
  marks_stay (more m ms) = more (marked_stays m) (marks_stay ms)

  pub open_stays : {os : List Opened} → AllOpen known os → AllOpen known' os
  open_stays none = none
  open_stays (block {n = n} e z w) = block (g.numbered_same n (omega arith) ∙ e) (g.tools_same n (omega arith) ∙ z) (open_stays w)
  open_stays (repeat w) = repeat (open_stays w)

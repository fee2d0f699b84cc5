-- While a contour is drawn: the store shows the sheet before it, and after that lie the contour, with the edges so far counted, and its edges.
use Rattle.std.specs.Prelude.{ℕ, suc, ◌+◌, ◌-◌, ◌≤◌, ◌≡◌, true, List, [], ◌∷◌, length}
use Rattle.place.specs.declared.Item.{Item}
use Rattle.place.specs.Mark.{Sheet, with_count}
use Rattle.sheet.specs.Records.{entry_of, role_of}
use Rattle.sheet.specs.Meaning.{drawn}
use Rattle.sheet.specs.Valid.{ok_entry}
use Rattle.sheet.specs.declared.Entry.{Entry}
use Rattle.sheet.specs.declared.Role.TheVariants.{Draws}
use Rattle.law_open_store.specs.Open.{Built}

-- an entry, in order in a container of height h, that draws the item x after t others
pub record Draw (a : List ℕ) (n h t : ℕ) (r : Entry) (x : Item) : Type 0 where
  pub role : role_of r.kind ≡ Draws
  pub before_is : r.before ≡ t
  pub ok : ok_entry a n h r ≡ true
  pub shows : drawn r ≡ x

-- the entries from place p of the stack on draw the items xs
unfoldable pub DrawAll : List ℕ → List ℕ → ℕ → ℕ → ℕ → ℕ → ℕ → List Item → Type 0
DrawAll e a room n h p t [] = Unit
DrawAll e a room n h p t (x ∷ xs) = Draw a n h t (entry_of e (room - suc p)) x × DrawAll e a room n h (suc p) (t + 1) xs

pub record Drawing (s : Sheet) (c : Item) (es : List Item) (e a : List ℕ) (room n closed high start h t : ℕ) : Type 0 where
  pub base : Built s e a room n closed high start h t
  pub fits : closed + (high + suc (length es)) ≤ room
  pub all : DrawAll e a room n h high t (with_count (length es) c ∷ es)

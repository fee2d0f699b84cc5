-- What is seen of an item is its part: the descent finds the item, the notes its texts, the table its role.
-- Assumes nothing.
use Prim.Native.Nat.{ℕ, ◌≤◌, ◌<◌}
use mathlib.Core.Path.{◌≡◌, sym, ap, ◌∙◌, subst}
use mathlib.Core.List.{List}
use native.Mathlib.Omega.{arith}
use lib.ListN.{length, get_or, length-map}
use Rattle.base.proofs.Run.{nth_map}
use Rattle.place.specs.Item.{zero_item}
use Rattle.place.specs.declared.Item.{Item}
use Rattle.sheet.specs.Meaning.{items, sheet_items}
use Rattle.sheet.specs.declared.Container.{Container}
use Rattle.sheet.proofs.Expand.{length_sheet}
use Rattle.descend.specs.Search.{Asked}
use Rattle.descend.proofs.Answers.{asked_top}
use Rattle.sheet.proofs.Sound.{top_sound}
use Rattle.law_components.specs.Parts.{Part, Texts, part_of, nothing}
use Rattle.law_components.specs.Outlines.{at}
use Rattle.law_components.specs.declared.Role.{Role}
use Rattle.notes.specs.Notes.{note_of, Sought, Found}
use Rattle.notes.specs.declared.Note.{Note}
use Rattle.layer.specs.Attributes.{texts_at, function_of}
use Rattle.layer.specs.Parts.{parts_of}
use Rattle.notes.specs.Means.{Means}
use Rattle.noting.specs.Holds.{role_number}
use Rattle.seeing.specs.Roles.{role_by}
use Rattle.seeing.specs.Layer.{Layer, parts, SeenIs}
use Rattle.seeing.proofs.Roles.{role_by_lem}

module _ {e a : List ℕ} {top : Container} {notes : List ℕ} {operations : ℕ} {roles : List ℕ} {roled : ℕ} (l : Layer e a top notes operations roles roled) where
  items_many : length (sheet_items l.head e a) ≡ top.items
  items_many = length_sheet l.head e a l.ok ∙ ap (λ (k : Container). k.items) (sym l.is_top)

  pub parts_many : length (parts l) ≡ top.items
  unfolding parts parts_of
  parts_many = length-map (sheet_items l.head e a) (part_of (function_of l.book l.file) (texts_at l.book l.file)) ∙ items_many

  pub few_items : top.items ≤ 1_000_000_000_000
  few_items = rw l.is_top (top_sound l.head e a l.ok).ok.small

  module _ (k : ℕ) (inside : k < top.items) where
    pub asks_item : Asked e a 10 top k
    asks_item = rw l.is_top (asked_top l.head e a k l.ok (rw l.is_top at inside))

    here : k < length (sheet_items l.head e a)
    here = let m = items_many in omega arith

    abbrev t : Item
    t = get_or (sheet_items l.head e a) k zero_item

    part_is : at (parts l) k ≡ part_of (function_of l.book l.file) (texts_at l.book l.file) t
    unfolding parts parts_of
    part_is = nth_map (part_of (function_of l.book l.file) (texts_at l.book l.file)) (sheet_items l.head e a) k nothing zero_item here

    -- the item that the descent answers
    module _ {u : Item} (is : u ≡ get_or (items e a 10 top) k zero_item) where
      item_is : u ≡ t
      unfolding sheet_items
      item_is = is ∙ ap (λ (c : Container). get_or (items e a 10 c) k zero_item) l.is_top

      pub seeks_note : Sought notes operations u.place
      seeks_note = let f = l.there k here in record { ordered = l.ordered; at = f.0; inside = f.1; is = f.2 ∙ ap (λ (x : Item). x.place) (sym item_is) }

      pub seen_is : {f : ℕ} {r : Role} {i : ℕ} {n : Note} → f ≡ role_number roles roled u.aperture → r ≡ role_by u.kind f → Found notes operations u.place i → n ≡ note_of notes i →
          SeenIs l k (record { role = r; start = u.start; end = u.end; place = u.place; note = n })
      unfolding part_of
      seen_is {f} {r} {i} {n} function role found note =
          let b = l.book in
          let w : Means l.file l.name l.used n (texts_at b l.file u.place) =
          subst (λ (p : ℕ). Means l.file l.name l.used n (texts_at b l.file p)) found.is
          (subst (λ (x : Note). Means l.file l.name l.used x (texts_at b l.file (note_of notes i).place)) (sym note) (l.means i found.inside)) in
          let p = ap (part_of (function_of b l.file) (texts_at b l.file)) item_is ∙ sym part_is in
          record {
            role = role ∙ ap (role_by u.kind) (function ∙ l.functions u.aperture) ∙ role_by_lem u.kind (function_of b l.file u.aperture) ∙ ap (λ (x : Part). x.role) p;
            start = ap (λ (x : Part). x.start) p;
            end = ap (λ (x : Part). x.end) p;
            place = ap (λ (x : Part). x.place) p;
            means = subst (λ (x : Texts). Means l.file l.name l.used n x) (ap (λ (x : Part). x.texts) p) w;
          }

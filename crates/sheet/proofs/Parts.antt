-- What a store holds, part by part, and that its items are those which the parts put out.
-- Assumes nothing.
use Prim.Native.Nat.{ℕ, zero, suc}
use mathlib.Core.Path.{◌≡◌, refl, ap, ◌∙◌}
use mathlib.Core.List.{List, map, append-nil}
use Rattle.base.proofs.Run.{run_cong}
use Rattle.place.specs.declared.Item.{Item}
use Rattle.place.specs.Outer.{flashed_by}
use Rattle.place.specs.Copies.{copies}
use Rattle.place.specs.Parts.{Parts, items_in}
use Rattle.place.proofs.Parts.{items_pieces}
use Rattle.sheet.specs.Records.{entry_of, role_of}
use Rattle.sheet.specs.Containers.{block_of, body_of, top_of}
use Rattle.sheet.specs.Meaning.{pose_of, repeat_of, puts, entry_items, items, sheet_items}
use Rattle.sheet.specs.declared.Entry.{Entry}
use Rattle.sheet.specs.declared.Container.{Container}
use Rattle.sheet.specs.declared.Role.{Role}
use Rattle.sheet.specs.declared.Role.TheVariants.{Draws, Uses, Repeats, Defines, Unknown}
use Rattle.sheet.specs.Parts.{part_as, part_of, parts, sheet_parts}

part_items : (a : List ℕ) (below : Container → List Item) (under : Container → Parts) (r : Entry) → ((k : Container) → items_in (under k) ≡ below k) →
    items_in (part_of a under r) ≡ entry_items a below r
unfolding entry_items puts part_of part_as items_in
part_items a below under r same = go (role_of r.kind)
  where
    go : (role : Role) → items_in (part_as role a under r) ≡ puts role a below r
    go Draws = refl
    go Uses = append-nil _ ∙ ap (map (flashed_by r.place (pose_of r))) (same (block_of a r.who))
    go Repeats = append-nil _ ∙ ap (copies (repeat_of r)) (same (body_of r))
    go Defines = refl
    go Unknown = refl

pub parts_items : (e a : List ℕ) (h : ℕ) (k : Container) → items_in (parts e a h k) ≡ items e a h k
unfolding items parts items_in
parts_items e a zero k = refl
parts_items e a (suc h) k =
    items_pieces (λ i. part_of a (parts e a h) (entry_of e i)) k.first k.len
    ∙ run_cong (λ i. items_in (part_of a (parts e a h) (entry_of e i))) (λ i. entry_items a (items e a h) (entry_of e i)) k.first k.first k.len
    (λ i l. part_items a (items e a h) (parts e a h) (entry_of e _) (parts_items e a h))

pub sheet_items_lem : (head e a : List ℕ) → items_in (sheet_parts head e a) ≡ sheet_items head e a
unfolding sheet_items sheet_parts
sheet_items_lem head e a = parts_items e a 10 (top_of head)

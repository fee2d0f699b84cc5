-- The sheet of an accepted file with the notes of its commands is a component layer as the passes find it.
-- Assumes nothing.
use Prim.Native.Nat.{ℕ, ◌/◌, ◌<◌}
use mathlib.Core.Path.{◌≡◌, refl, sym, ap, ◌∙◌, subst}
use mathlib.Core.Bool.{Bool, true, false}
use mathlib.Core.List.{List}
use native.Mathlib.Omega.{arith}
use borrow.Author.Tests.{ltb-false}
use lib.ListN.{length, get_or, replicate}
use Rattle.base.specs.Or.{◌or◌}
use Rattle.base.specs.Bytes.{same_bytes}
use Rattle.base.proofs.Lists.{same_refl}
use Rattle.book.specs.declared.Book.{Book}
use Rattle.place.specs.Item.{zero_item}
use Rattle.place.specs.declared.Item.{Item}
use Rattle.sequence.specs.Commands.{commands_of}
use Rattle.index.specs.Tree.{record_width}
use Rattle.index.specs.Names.{name_of}
use Rattle.tables.specs.Macros.{macro_of}
use Rattle.sheet.specs.Containers.{top_of}
use Rattle.sheet.specs.Meaning.{sheet_items, flag_word}
use Rattle.sheet.specs.declared.Container.{Container}
use Rattle.law_components.specs.Faults.{has_main}
use Rattle.notes.specs.Notes.{note_width, note_of}
use Rattle.layer.specs.Parts.{parts_of}
use Rattle.noting.specs.Holds.{Makes, Roomy, Holds}
use Rattle.noting.specs.declared.Noting.{Noting}
use Rattle.law_item_places.proofs.Origins.{made_by}
use Rattle.seeing.specs.Layer.{Layer, parts}
use Rattle.passes.specs.Marks.{Marked}
use Rattle.placement_list.specs.Lists.{Layered}
use Rattle.placement_call.specs.Placement.{is_tight_for, parts_in}
use Rattle.placement_call.specs.Sheeted.{Sheeted}

-- room that is not short is room for all
neither : (a b : Bool) → (a or b) ≡ false → (a ≡ false) × (b ≡ false)
unfolding ◌or◌
neither true b e = let y : ◌≡◌ {A = ℕ} 0 1 = cc in absurd (omega arith)
neither false b e = (refl, e)

pub roomy : {notes names roles : List ℕ} (n : Noting) → is_tight_for (length notes) (length names) (length roles) n.operations n.settings n.apertures ≡ false → Roomy notes names roles n
unfolding is_tight_for
roomy {notes} {names} {roles} n e =
    let x = neither _ _ e in
    let y = neither _ _ x.1 in
    record {
      operations = ltb-false (length notes / note_width) n.operations x.0;
      settings = ltb-false (length names / record_width) n.settings y.0;
      apertures = ltb-false (length roles / record_width) n.apertures y.1;
    }

module _ {book : Book} {file head e a notes names roles : List ℕ} (w : Sheeted book file head e a) {n : Noting} (h : Holds book file notes names roles n)
    {top : Container} (is_top : top ≡ top_of head) where
  pub finds_note : (k : ℕ) → k < length (sheet_items head e a) → (i : ℕ) × (i < n.operations) × ((note_of notes i).place ≡ (get_or (sheet_items head e a) k zero_item).place)
  finds_note k inside =
      h.all (get_or (sheet_items head e a) k zero_item).place
      (subst (λ (ts : List Item). Makes (get_or ts k zero_item).place (commands_of book file).commands) (sym w.items)
      (made_by book w.room file w.state w.accepts k (subst (λ (ts : List Item). k < length ts) w.items inside)))

  pub layer : Layer e a top notes n.operations roles n.roles
  layer = record {
    book = book;
    file = file;
    head = head;
    name = name_of file names;
    used = n.names;
    ok = w.sheet;
    is_top = is_top;
    numbered = h.numbered;
    functions = h.functions;
    ordered = h.ordered;
    means = h.means;
    there = finds_note;
    distinct = λ i j u v q. h.table.named.distinct i j u v (ap (same_bytes (name_of file names i)) (sym q) ∙ same_refl (name_of file names i));
  }

  pub parts_are : parts layer ≡ parts_in book file w.state
  unfolding parts parts_in layer
  parts_are = ap (parts_of book file) w.items

  pub marked : Marked layer names 0
  unfolding macro_of has_main flag_word layer
  marked = record {
    inside = h.table.named.tree.inside;
    named = λ d u. refl;
    mains = λ d u. (h.table.blank d u).0;
    free = λ d u. (h.table.blank d u).1;
  }

  unfoldable pub layered : {out : List ℕ} → out ≡ replicate (length out) 0 → Layered file e a top n notes names roles out
  unfolding layer
  layered clear = record { layer = layer; of = refl; marked = marked; clear = clear }

-- The notes that are known between two commands, and that they are known after one more.
-- Assumes nothing.
use Prim.Native.Nat.{ℕ, suc, ◌+◌, ◌/◌, ◌≤◌, ◌<◌}
use mathlib.Core.Path.{◌≡◌, sym, ap, ◌∙◌, subst}
use mathlib.Core.List.{List, ◌∷◌, ◌++◌, []}
use mathlib.Core.Logic.{⊎_elim}
use native.Mathlib.Nat.{eq-or-lt_of_le, le_of_suc-le-suc, add-zero}
use native.Mathlib.Omega.{arith}
use native.Mathlib.Numerals.{add-one}
use Rattle.book.specs.declared.Book.{Book}
use Rattle.sequence.specs.declared.Placed.{Placed}
use Rattle.law_components.specs.Parts.{Texts}
use Rattle.notes.specs.Notes.{note_room, note_of, with_note, Ordered}
use Rattle.notes.specs.declared.Note.{Note}
use Rattle.notes.proofs.Notes.{note_put, note_stays, length_with}
use Rattle.layer.specs.Made.{made_of}
use Rattle.layer.specs.Attributes.{texts_at}
use Rattle.layer.specs.Work.{items_by}
use Rattle.layer.specs.declared.Made.{Made}
use Rattle.layer.specs.declared.Made.TheVariants.{Item, Aperture, File, Nothing}
use Rattle.notes.specs.Means.{Means}
use Rattle.notes.proofs.Designators.{denotes_more}
use Rattle.noting.specs.Steps.{placed_at, noted_as}
use Rattle.noting.specs.Holds.{Makes, here, there}

pub record NotesKnown (book : Book) (file notes : List ℕ) (name : ℕ → List ℕ) (used operations at : ℕ) (cs : List Placed) : Type 0 where
  pub ordered : Ordered notes operations
  pub below : (i : ℕ) → i < operations → (note_of notes i).place < at
  pub means : (i : ℕ) → i < operations → Means file name used (note_of notes i) (texts_at book file (note_of notes i).place)
  pub all : (place : ℕ) → Makes place cs → (i : ℕ) × (i < operations) × ((note_of notes i).place ≡ place)

-- what a note means stays where names stay and others come
pub means_more : {file : List ℕ} {name name' : ℕ → List ℕ} {used used' : ℕ} {n : Note} {t : Texts} → used ≤ used' → ((i : ℕ) → i < used → name' i ≡ name i) →
    Means file name used n t → Means file name' used' n t
means_more l same m = record {
  component = denotes_more l same m.component;
  pin = denotes_more l same m.pin;
  number = m.number;
  rotation = m.rotation;
  value = m.value;
  footprint = m.footprint;
  mount = m.mount;
}

-- the place does not matter
means_placed : {file : List ℕ} {name : ℕ → List ℕ} {used : ℕ} {n : Note} {t : Texts} (place : ℕ) → Means file name used n t → Means file name used (placed_at n place) t
unfolding placed_at
means_placed place m = record {
  component = m.component;
  pin = m.pin;
  number = m.number;
  rotation = m.rotation;
  value = m.value;
  footprint = m.footprint;
  mount = m.mount;
}

-- a D01 or D03 among these commands, or the next one
makes_snoc : (place : ℕ) (cs : List Placed) (c : Placed) {A : Type 0} → Makes place (cs ++ (c ∷ [])) → (Makes place cs → A) → (made_of c.command ≡ Item → c.place ≡ place → A) → A
makes_snoc place [] c (here e q) old new = new e q
makes_snoc place [] c (there m) old new = elim m [ ]
makes_snoc place (d ∷ cs) c (here e q) old new = old (here {c = d} e q)
makes_snoc place (d ∷ cs) c (there m) old new = makes_snoc place cs c m (λ k. old (there {c = d} k)) new

module _ (book : Book) (file notes : List ℕ) {name name' : ℕ → List ℕ} {used used' operations at next : ℕ} {cs : List Placed} (c : Placed)
    (more : used ≤ used') (same : (i : ℕ) → i < used → name' i ≡ name i) (from : at ≤ c.place) (to : c.place < next)
    (k : NotesKnown book file notes name used operations at cs) where
  -- another command
  pub notes_stay : (made_of c.command ≡ Item → ⊥) → NotesKnown book file notes name' used' operations next (cs ++ (c ∷ []))
  notes_stay other = record {
    ordered = k.ordered;
    below = λ i l. let b = k.below i l in omega arith;
    means = λ i l. means_more more same (k.means i l);
    all = λ place m. makes_snoc place cs c m (k.all place) (λ e q. absurd (other e));
  }

  -- a D01 or D03
  module _ (n : Note) (room : operations < note_room notes) (m : Means file name used n (texts_at book file c.place)) where
    abbrev s' : List ℕ
    s' = with_note notes operations (placed_at n c.place)

    new_is : note_of s' operations ≡ placed_at n c.place
    new_is = note_put notes operations (placed_at n c.place) room

    new_place : (note_of s' operations).place ≡ c.place
    unfolding placed_at
    new_place = ap (λ (x : Note). x.place) new_is

    old_is : (i : ℕ) → i < operations → note_of s' i ≡ note_of notes i
    old_is i l = note_stays notes operations (placed_at n c.place) room i l

    new_means : Means file name' used' (note_of s' operations) (texts_at book file (note_of s' operations).place)
    new_means =
        subst (λ (p : ℕ). Means file name' used' (note_of s' operations) (texts_at book file p)) (sym new_place)
        (subst (λ (x : Note). Means file name' used' x (texts_at book file c.place)) (sym new_is) (means_placed c.place (means_more more same m)))

    old_means : (i : ℕ) → i < operations → Means file name' used' (note_of s' i) (texts_at book file (note_of s' i).place)
    old_means i l = rw (old_is i l) (means_more more same (k.means i l))

    abbrev up_to : {P : ℕ → Type 0} → P operations → ((i : ℕ) → i < operations → P i) → (i : ℕ) → i < suc operations → P i
    up_to {P} p f i l = ⊎_elim (λ (q : i ≡ operations). subst P (sym q) p) (λ (h : i < operations). f i h) (eq-or-lt_of_le (le_of_suc-le-suc l))

    below_next : (i : ℕ) → i < suc operations → (note_of s' i).place < next
    below_next =
        up_to {P = λ i. (note_of s' i).place < next}
        (let e = new_place in omega arith)
        (λ i l. let e = ap (λ (x : Note). x.place) (old_is i l) in let b = k.below i l in omega arith)

    rises : (i j : ℕ) → i < j → j < suc operations → (note_of s' i).place < (note_of s' j).place
    rises i j l h =
        ⊎_elim
        (λ (q : j ≡ operations).
        let e : (note_of s' j).place ≡ c.place = ap (λ (x : ℕ). (note_of s' x).place) q ∙ new_place in
        let m : i < operations = omega arith in
        let f = ap (λ (x : Note). x.place) (old_is i m) in
        let b = k.below i m in
        omega arith)
        (λ (m : j < operations).
        let e = ap (λ (x : Note). x.place) (old_is i (omega arith)) in
        let f = ap (λ (x : Note). x.place) (old_is j m) in
        let r = k.ordered.rises i j l m in
        omega arith)
        (eq-or-lt_of_le (le_of_suc-le-suc h))

    pub notes_more : NotesKnown book file s' name' used' (suc operations) next (cs ++ (c ∷ []))
    notes_more = record {
      ordered = record { inside = let e = ap (λ (x : ℕ). x / 13) (length_with notes operations (placed_at n c.place)) in omega arith; rises = rises };
      below = below_next;
      means = up_to {P = λ i. Means file name' used' (note_of s' i) (texts_at book file (note_of s' i).place)} new_means old_means;
      all = λ place w.
          makes_snoc place cs c w
          (λ old. let f = k.all place old in (f.0, (let l = f.1 in omega arith), ap (λ (x : Note). x.place) (old_is f.0 f.1) ∙ f.2))
          (λ e q. (operations, omega arith, new_place ∙ q));
    }

-- by what the command makes
pub notes_step : (book : Book) (file notes : List ℕ) {name name' : ℕ → List ℕ} {used used' operations at next : ℕ} {cs : List Placed} (c : Placed) →
    used ≤ used' → ((i : ℕ) → i < used → name' i ≡ name i) → at ≤ c.place → c.place < next → NotesKnown book file notes name used operations at cs →
    (n : Note) → Means file name used n (texts_at book file c.place) → (m : Made) → made_of c.command ≡ m → (notes' : List ℕ) → notes' ≡ noted_as m notes operations (placed_at n c.place) →
    operations + items_by m ≤ note_room notes → NotesKnown book file notes' name' used' (operations + items_by m) next (cs ++ (c ∷ []))
unfolding noted_as items_by
notes_step book file notes {name} {name'} {used} {used'} {operations} {at} {next} {cs} c more same from to k n w m e notes' is room = go m e is room
  where
    stays : (m : Made) → (Item ≡ m → ⊥) → made_of c.command ≡ m → notes' ≡ notes → NotesKnown book file notes' name' used' (operations + 0) next (cs ++ (c ∷ []))
    stays m other e is = rw (is, add-zero operations) (notes_stay book file notes c more same from to k (λ q. other (sym q ∙ e)))

    go : (m : Made) → made_of c.command ≡ m → notes' ≡ noted_as m notes operations (placed_at n c.place) → operations + items_by m ≤ note_room notes →
        NotesKnown book file notes' name' used' (operations + items_by m) next (cs ++ (c ∷ []))
    go Item e is room = rw (is, add-one operations) (notes_more book file notes c more same from to k n (omega arith) w)
    go (Aperture number) e is room = stays (Aperture number) (λ q. let z : ◌≡◌ {A = ℕ} 0 1 = cc in omega arith) e is
    go (File a b) e is room = stays (File a b) (λ q. let z : ◌≡◌ {A = ℕ} 0 1 = cc in omega arith) e is
    go Nothing e is room = stays Nothing (λ q. let z : ◌≡◌ {A = ℕ} 0 1 = cc in omega arith) e is

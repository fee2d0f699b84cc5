-- The outcome of the call, by how the commands end.
-- Assumes nothing.
use Rattle.std.specs.Prelude.{None, Option, Some, ℕ, Result, Err, Ok}
use Rattle.running.specs.Units.{unit_in}
use Prim.Native.Nat.{ℕ, ◌+◌, ◌≤◌}
use mathlib.Core.Path.{◌≡◌, refl, sym, ap, ◌∙◌, subst}
use mathlib.Core.Bool.{true, false}
use mathlib.Core.List.{List}
use lib.IntN.{pos}
use lib.ListN.{length, replicate, length-replicate}
use Rattle.book.specs.declared.Book.{Book}
use Rattle.scan.specs.Permitted.{fits}
use Rattle.sequence.specs.Commands.{commands_of}
use Rattle.sequence.specs.Rounded.{rounded_among, rounded_in}
use Rattle.sequence.specs.declared.Refusal.{Refusal}
use Rattle.sheet.specs.Records.{entry_room}
use Rattle.build.specs.Closed.{head_of, Ended}
use Rattle.law_reading.specs.State.{begun}
use Rattle.law_reading.specs.Reading.{Answer, refused, read_on, reading}
use Rattle.progress.specs.Lent.{Lent, room_of, with_entries}
use Rattle.progress.specs.declared.Progress.{Progress}
use Rattle.running.specs.Ends.{Empty, walked, AsLong, answer_of, Sheeted, Ends, Comes}
use Rattle.running.proofs.Runs.{same_room}
use Rattle.reader.specs.Leaves.{Leaves}
use Rattle.reader.specs.Reads.{Zeroed, Reads}
use Rattle.reader.proofs.Sheeting.{leaves}
use Rattle.running.specs.declared.Finished.{Finished}

-- how often a run may ask yet
abbrev pub looks_left : Option ℕ → ℕ
looks_left None = 1
looks_left (Some place) = 0

-- filled with zeros to the length of another
pub zeros_long : {A : Type 0} (z : A) (l l₀ : List A) → l ≡ replicate (length l₀) z → length l ≡ length l₀
zeros_long z l l₀ q = ap length q ∙ length-replicate (length l₀) z

zeros_own : {A : Type 0} (z : A) (l l₀ : List A) → l ≡ replicate (length l₀) z → l ≡ replicate (length l) z
zeros_own z l l₀ q = q ∙ ap (λ k. replicate k z) (sym (zeros_long z l l₀ q))

module _ (w₀ w : Lent) (file_is : w.file ≡ w₀.file) (e : w.entries ≡ replicate (length w₀.entries) 0) (a : w.apertures ≡ replicate (length w₀.apertures) 0)
    (m : w.macros ≡ replicate (length w₀.macros) 0) (n : w.numbers ≡ replicate (length w₀.numbers) (pos 0)) where
  pub empty : Empty w
  empty = record {
    entries = zeros_own 0 w.entries w₀.entries e;
    apertures = zeros_own 0 w.apertures w₀.apertures a;
    macros = zeros_own 0 w.macros w₀.macros m;
    numbers = zeros_own (pos 0) w.numbers w₀.numbers n;
  }

  pub zeros_as_long : AsLong w₀ w
  zeros_as_long = record {
    entries_long = zeros_long 0 w.entries w₀.entries e;
    apertures_long = zeros_long 0 w.apertures w₀.apertures a;
    macros_long = zeros_long 0 w.macros w₀.macros m;
    numbers_long = zeros_long (pos 0) w.numbers w₀.numbers n;
  }

-- the rooms matter by their lengths alone
pub same_answer : (book : Book) (w₀ w : Lent) → w.file ≡ w₀.file → AsLong w₀ w → answer_of book w ≡ answer_of book w₀
unfolding answer_of
same_answer book w₀ w f l = λ i. read_on (same_room w₀ w l i) (f i) (walked book (f i)).commands (walked book (f i)).fault (begun book)

-- a run that ends, and one that asks
pub came : (book : Book) (w₀ w₁ w₂ : Lent) (look : Option ℕ) (o : Option (Result Finished Refusal)) {x : Result Finished Refusal} → w₁.file ≡ w₀.file → AsLong w₀ w₁ → Comes book (answer_of book w₁) w₂ look o → o ≡ Some x →
    Ends book (answer_of book w₀) w₂ x
unfolding Comes
came book w₀ w₁ w₂ look o {x} f l k q = subst (λ (a : Answer). Ends book a w₂ x) (same_answer book w₀ w₁ f l) (subst (Comes book (answer_of book w₁) w₂ look) q k)

pub asks_first : (book : Book) (answer : Answer) (w : Lent) (look : Option ℕ) (o : Option (Result Finished Refusal)) → Comes book answer w look o → o ≡ None → look ≡ None
unfolding Comes
asks_first book answer w look o k q = subst (Comes book answer w look) q k

-- a file that is not too long, and one that is
reading_fits : (book : Book) (w : Lent) → fits w.file ≡ true → answer_of book w ≡ reading book (room_of w) w.file
unfolding answer_of reading commands_of
reading_fits book w q = rw (q, reading, commands_of)

rounded_fits : (book : Book) (file : List ℕ) → fits file ≡ true → rounded_among (walked book file).commands ≡ rounded_in book file
unfolding rounded_in commands_of
rounded_fits book file q = rw (q, commands_of)

reading_long : (book : Book) (w : Lent) → fits w.file ≡ false → reading book (room_of w) w.file ≡ refused 1 0
unfolding reading commands_of read_on
reading_long book w q = rw (q, commands_of)

pub reads_long : (book : Book) (w w' : Lent) (head : List ℕ) → fits w.file ≡ false → Zeroed w w' head → Reads (rounded_in book w.file) (reading book (room_of w) w.file) w w' head (Err (record { number = 1; place = 0 }))
unfolding Reads
reads_long book w w' head q z = subst (λ (x : Answer). Reads (rounded_in book w.file) x w w' head (Err (record { number = 1; place = 0 }))) (sym (reading_long book w q)) (refl, z)

module _ (book : Book) (w₀ w : Lent) (head : List ℕ) (r : Result Finished Refusal) (short : fits w₀.file ≡ true) (long : AsLong w₀ w) (ends : Ends book (answer_of book w₀) w r) where
  -- a refusal, and every room cleared after it
  pub reads_refused : {f : Refusal} (w' : Lent) → r ≡ Err f → Zeroed w w' head → Reads (rounded_in book w₀.file) (reading book (room_of w₀) w₀.file) w₀ w' head (Err (record { number = f.number; place = f.place }))
  unfolding Ends Reads
  reads_refused {f} w' q z =
      let is : answer_of book w₀ ≡ refused f.number f.place = subst (Ends book (answer_of book w₀) w) q ends in
      subst (λ (x : Answer). Reads (rounded_in book w₀.file) x w₀ w' head (Err (record { number = f.number; place = f.place }))) (sym is ∙ reading_fits book w₀ short) (
        refl,
        record {
          head_is = z.head_is;
          entries_are = z.entries_are ∙ ap (λ n. replicate n 0) long.entries_long;
          apertures_are = z.apertures_are ∙ ap (λ n. replicate n 0) long.apertures_long;
          macros_are = z.macros_are ∙ ap (λ n. replicate n 0) long.macros_long;
          numbers_are = z.numbers_are ∙ ap (λ n. replicate n (pos 0)) long.numbers_long;
        },
      )

  -- a sheet
  module _ {p : Progress} {rounded : ℕ} (q : r ≡ Ok (record { progress = p; rounded = rounded })) where
    sheeted : Sheeted book (answer_of book w₀) w p rounded
    unfolding Ends
    sheeted = subst (Ends book (answer_of book w₀) w) q ends

    pub sheet_fits : p.builder.closed + p.builder.high ≤ entry_room w.entries
    sheet_fits = sheeted.knows.shows.fits

    pub reads_accepted : (e' : List ℕ) → w.file ≡ w₀.file → head ≡ head_of (unit_in p.graphics.header) p.builder p.apertures p.macros p.numbers →
        Ended w.entries e' p.builder → Reads (rounded_in book w₀.file) (reading book (room_of w₀) w₀.file) w₀ (with_entries e' w) head (Ok (record { unit = unit_in p.graphics.header; rounded = rounded }))
    unfolding Reads with_entries
    reads_accepted e' file_is h ended =
        let s = sheeted in
        let all : rounded ≡ rounded_in book w₀.file = s.counted ∙ ap (λ (f : List ℕ). rounded_among (walked book f).commands) file_is ∙ rounded_fits book w₀.file short in
        subst (λ (x : Answer). Reads (rounded_in book w₀.file) x w₀ (with_entries e' w) head (Ok (record { unit = unit_in p.graphics.header; rounded = rounded }))) (sym s.is ∙ reading_fits book w₀ short) (
          (λ i. Ok (record { unit = unit_in (s.knows.graphics i).header; rounded = all i })),
          record {
            entries_long = ended.as_long ∙ long.entries_long;
            apertures_long = long.apertures_long;
            macros_long = long.macros_long;
            numbers_long = long.numbers_long;
          },
          subst (λ (h : List ℕ). Leaves w₀.file h e' w.apertures w.macros w.numbers s.state) (sym h)
              (subst (λ (f : List ℕ). Leaves f (head_of (unit_in p.graphics.header) p.builder p.apertures p.macros p.numbers) e' w.apertures w.macros w.numbers s.state) file_is
              (leaves w p s.state s.knows s.kept s.unit e' ended)),
        )

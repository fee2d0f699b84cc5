-- The outcome of mending, by what the pass wrote and by what the reader says of it.
-- Assumes nothing.
use Rattle.std.specs.Prelude.{Result, Err, ℕ}
use Prim.Native.Nat.{ℕ}
use mathlib.Core.Path.{◌≡◌, refl, sym, ap, ◌∙◌, subst}
use mathlib.Core.Bool.{Bool, true, false}
use mathlib.Core.List.{List}
use native.Mathlib.Omega.{arith}
use lib.IntN.{ℤ, pos}
use lib.ListN.{length, replicate, take, length-replicate}
use lib.Seq.{take-append_seam}
use Rattle.book.specs.declared.Book.{Book}
use Rattle.scan.specs.Permitted.{fits}
use Rattle.sequence.specs.Rounded.{rounded_in}
use Rattle.law_reading.specs.State.{Room, State}
use Rattle.law_reading.specs.Reading as reading
use Rattle.progress.specs.Lent.{Lent, lent_of, room_of}
use Rattle.reader.specs.Reads.{AsLong, Zeroed, Reads}
use Rattle.mending.specs.Changes.{changes}
use Rattle.mending.specs.Mended.{report, file_fits, report_fits, written, Fills}
use Rattle.mending.specs.Rebuilt.{mended}
use Rattle.mending.specs.declared.Written.{Written}
use Rattle.mending.specs.declared.Written.TheVariants.{Both, File, Nothing}
use Rattle.mending.proofs.Filled.{Says, said}
use Rattle.mend_call.specs.Outcome.{Outcome, accepted, refused, still_refused, judged, mending_of}
use Rattle.mend_call.specs.Mends.{Given, Mends}
use Rattle.mend_call.specs.Steps.{has_file, has_report, bytes_written, changes_written, answer_from, is_mended, Stopped, Comes}
use Rattle.reader.specs.declared.Accepted.{Accepted}
use Rattle.sequence.specs.declared.Refusal.{Refusal}
use Rattle.mend_call.specs.declared.Mended.{Mended}

-- zeros of some length, and of their own
pub zeros_long : {A : Type 0} (z : A) (n : ℕ) {l : List A} → l ≡ replicate n z → length l ≡ n
zeros_long z n q = ap length q ∙ length-replicate n z

pub zeros_own : (n : ℕ) {l : List ℕ} → l ≡ replicate n 0 → l ≡ replicate (length l) 0
zeros_own n q = q ∙ ap (λ (k : ℕ). replicate k 0) (sym (zeros_long 0 n q))

pub same_long : (w : Lent) → AsLong w w
same_long w = record { entries_long = refl; apertures_long = refl; macros_long = refl; numbers_long = refl }

-- a store of zeros is as long as the one that was lent
zeroed_long : (w w' : Lent) (head : List ℕ) → Zeroed w w' head → AsLong w w'
zeroed_long w w' head z = record {
  entries_long = zeros_long 0 (length w.entries) z.entries_are;
  apertures_long = zeros_long 0 (length w.apertures) z.apertures_are;
  macros_long = zeros_long 0 (length w.macros) z.macros_are;
  numbers_long = zeros_long (pos 0) (length w.numbers) z.numbers_are;
}

module _ {book : Book} {file : List ℕ} {bytes words : ℕ} {w : Written} {out noted : List ℕ} (d : Fills book file bytes words w out noted) where
  file_told : has_file w ≡ file_fits book file bytes
  unfolding has_file
  file_told = go w (said d)
    where
      go : (w : Written) → Says w (file_fits book file bytes) (report_fits book file words) (length (mended book file)) (length (changes book file)) → has_file w ≡ file_fits book file bytes
      go (Both b k) s = sym s.0
      go (File b) s = sym s.0
      go Nothing s = sym s

  module _ (h : has_file w ≡ true) where
    report_told : has_report w ≡ report_fits book file words
    unfolding has_file has_report
    report_told = go w (said d) h
      where
        go : (w : Written) → Says w (file_fits book file bytes) (report_fits book file words) (length (mended book file)) (length (changes book file)) → has_file w ≡ true → has_report w ≡ report_fits book file words
        go (Both b k) s h = sym s.1
        go (File b) s h = sym s.1
        go Nothing s h = absurd (let z : ◌≡◌ {A = ℕ} 0 1 = cc in omega arith)

    bytes_told : bytes_written w ≡ length (mended book file)
    unfolding has_file bytes_written
    bytes_told = go w (said d) h
      where
        go : (w : Written) → Says w (file_fits book file bytes) (report_fits book file words) (length (mended book file)) (length (changes book file)) → has_file w ≡ true → bytes_written w ≡ length (mended book file)
        go (Both b k) s h = s.2
        go (File b) s h = s.2
        go Nothing s h = absurd (let z : ◌≡◌ {A = ℕ} 0 1 = cc in omega arith)

    changes_told : has_report w ≡ true → changes_written w ≡ length (changes book file)
    unfolding has_file has_report changes_written
    changes_told g = go w (said d) g
      where
        go : (w : Written) → Says w (file_fits book file bytes) (report_fits book file words) (length (mended book file)) (length (changes book file)) → has_report w ≡ true → changes_written w ≡ length (changes book file)
        go (Both b k) s g = s.3
        go (File b) s g = absurd (let z : ◌≡◌ {A = ℕ} 0 1 = cc in omega arith)
        go Nothing s g = absurd (let z : ◌≡◌ {A = ℕ} 0 1 = cc in omega arith)

    -- the bytes that were written are the mended file
    pub written_mended : take (bytes_written w) out ≡ mended book file
    unfolding written
    written_mended = rw (bytes_told, d.file_left (sym file_told ∙ h), written) (take-append_seam (mended book file) _)

    pub comes_read : (room : Room) → fits file ≡ true → mending_of book room bytes words file ≡ judged (has_report w) (reading.reading book room (mended book file))
    unfolding mending_of
    comes_read room q = rw (q, sym file_told ∙ h, report_told) refl

  pub comes_nothing : (room : Room) → fits file ≡ true → has_file w ≡ false → mending_of book room bytes words file ≡ refused 17
  unfolding mending_of
  comes_nothing room q h = rw (q, sym file_told ∙ h) refl

pub comes_long : (book : Book) (room : Room) (bytes words : ℕ) (file : List ℕ) → fits file ≡ false → mending_of book room bytes words file ≡ refused 1
unfolding mending_of
comes_long book room bytes words file q = rw q refl

-- the stores matter to a reading by their room alone
module _ (file f : List ℕ) (e a m : List ℕ) (n : List ℤ) where
  room_same : room_of (lent_of f e a m n) ≡ room_of (lent_of file e a m n)
  unfolding room_of lent_of
  room_same = refl

  long_same : (e' a' m' : List ℕ) (n' : List ℤ) → AsLong (lent_of f e a m n) (lent_of f e' a' m' n') → AsLong (lent_of file e a m n) (lent_of file e' a' m' n')
  unfolding lent_of
  long_same e' a' m' n' l = record { entries_long = l.entries_long; apertures_long = l.apertures_long; macros_long = l.macros_long; numbers_long = l.numbers_long }

-- the answer, by what the reader says of the mended file
module _ {book : Book} {file : List ℕ} {bytes words : ℕ} {w : Written} {out noted : List ℕ} (d : Fills book file bytes words w out noted) (h : has_file w ≡ true)
    (e a m : List ℕ) (n : List ℤ) (e' a' m' : List ℕ) (n' : List ℤ) (head : List ℕ) where
  abbrev lent : List ℕ → Lent
  lent f = lent_of f e a m n

  abbrev left : List ℕ → Lent
  left f = lent_of f e' a' m' n'

  stops : (number : ℕ) {x : Result Mended ℕ} → x ≡ Err number → AsLong (lent (mended book file)) (left (mended book file)) →
      Comes book (refused number) (lent file) (left file) bytes out words noted head x
  unfolding Comes
  stops number q l = record { answer = q; file_long = d.as_long; report_long = d.as_many; as_long = long_same file (mended book file) e a m n e' a' m' n' l }

  gives : (s : State) (r : Result Accepted Refusal) → has_report w ≡ true → Reads (rounded_in book (mended book file)) (reading.accepted s) (lent (mended book file)) (left (mended book file)) head r →
      Comes book (accepted s) (lent file) (left file) bytes out words noted head (answer_from true (bytes_written w) (changes_written w) r)
  unfolding Comes Reads answer_from lent_of
  gives s r g k = record {
    answer = rw (k.0, bytes_told d h, changes_told d h g) refl;
    file_left = d.file_left (sym (file_told d) ∙ h);
    report_left = d.report_left (sym (file_told d) ∙ h) (sym (report_told d h) ∙ g);
    as_long = long_same file (mended book file) e a m n e' a' m' n' k.1;
    sheet = k.2;
  }

  -- the report does not fit, or the mended file is refused
  short_stops : (s : State) (r : Result Accepted Refusal) → Reads (rounded_in book (mended book file)) (reading.accepted s) (lent (mended book file)) (left (mended book file)) head r →
      Comes book (refused 17) (lent file) (left file) bytes out words noted head (answer_from false (bytes_written w) (changes_written w) r)
  unfolding Reads answer_from
  short_stops s r k = stops 17 (rw k.0 refl) k.1

  refused_stops : (number place : ℕ) (r : Result Accepted Refusal) (t : Bool) → Reads (rounded_in book (mended book file)) (reading.refused number place) (lent (mended book file)) (left (mended book file)) head r →
      Comes book (refused (still_refused number)) (lent file) (left file) bytes out words noted head (answer_from t (bytes_written w) (changes_written w) r)
  unfolding Reads answer_from
  refused_stops number place r t k = stops (still_refused number) (rw k.0 refl) (zeroed_long (lent (mended book file)) (left (mended book file)) head k.1)

  judges : (x : reading.Answer) (r : Result Accepted Refusal) (t : Bool) → has_report w ≡ t → Reads (rounded_in book (mended book file)) x (lent (mended book file)) (left (mended book file)) head r →
      Comes book (judged t x) (lent file) (left file) bytes out words noted head (answer_from t (bytes_written w) (changes_written w) r)
  unfolding judged
  judges (reading.accepted s) r true g k = gives s r g k
  judges (reading.accepted s) r false g k = short_stops s r k
  judges (reading.refused number place) r t g k = refused_stops number place r t k

  -- the whole: the bytes that were written are read
  pub comes : (r : Result Accepted Refusal) {x : Result Mended ℕ} → fits file ≡ true →
      {b k : ℕ} {t : Bool} → b ≡ bytes_written w → t ≡ has_report w → k ≡ changes_written w →
      Reads (rounded_in book (take b out)) (reading.reading book (room_of (lent (take b out))) (take b out)) (lent (take b out)) (left (take b out)) head r →
      x ≡ answer_from t b k r →
      Comes book (mending_of book (room_of (lent file)) bytes words file) (lent file) (left file) bytes out words noted head x
  comes r q {b} {k} {t} l u v s g =
      let f : take b out ≡ mended book file = ap (λ (n : ℕ). take n out) l ∙ written_mended d h in
      let so = rw (f, room_same file (mended book file) e a m n) at s in
      rw (comes_read d h (room_of (lent file)) q, g, l, u, v) (judges (reading.reading book (room_of (lent file)) (mended book file)) r (has_report w) refl so)

-- a pass that wrote nothing, and a file that is too long
pub comes_short : {book : Book} {file : List ℕ} {bytes words : ℕ} {w : Written} {out noted : List ℕ} (d : Fills book file bytes words w out noted) → has_file w ≡ false → fits file ≡ true →
    (v v' : Lent) (head : List ℕ) → AsLong v v' → (room : Room) → Comes book (mending_of book room bytes words file) v v' bytes out words noted head (Err 17)
unfolding Comes
comes_short d h q v v' head l room = rw (comes_nothing d room q h) (record { answer = refl; file_long = d.as_long; report_long = d.as_many; as_long = l })

pub comes_over : (book : Book) (file : List ℕ) (room : Room) (out noted head : List ℕ) (v v' : Lent) → fits file ≡ false → AsLong v v' →
    Comes book (mending_of book room (length out) (length noted) file) v v' (length out) out (length noted) noted head (Err 1)
unfolding Comes
comes_over book file room out noted head v v' q l =
    rw (comes_long book room (length out) (length noted) file q) (record { answer = refl; file_long = refl; report_long = refl; as_long = l })

-- what is mended stays, and a refusal is cleared
module _ (book : Book) (w w' : Lent) (bytes : ℕ) (out : List ℕ) (words : ℕ) (noted head : List ℕ) (r : Result Mended ℕ) where
  stays : (o : Outcome) → Comes book o w w' bytes out words noted head r → is_mended r ≡ true → Mends book o w w' bytes out words noted head r
  unfolding Comes Mends is_mended
  stays (accepted s) k h = k
  stays (refused number) k h = absurd (let f : is_mended r ≡ false = rw k.answer refl in let z : ◌≡◌ {A = ℕ} 0 1 = cc in omega arith)

  clears : (o : Outcome) → Comes book o w w' bytes out words noted head r → is_mended r ≡ false →
      (out'' noted'' head'' : List ℕ) (w'' : Lent) → out'' ≡ replicate (length out) 0 → noted'' ≡ replicate (length noted) 0 → Zeroed w' w'' head'' →
      Mends book o w w'' bytes out'' words noted'' head'' r
  unfolding Comes Mends is_mended
  clears (accepted s) k h out'' noted'' head'' w'' x y z = absurd (let f : is_mended r ≡ true = rw k.answer refl in let z : ◌≡◌ {A = ℕ} 0 1 = cc in omega arith)
  clears (refused number) k h out'' noted'' head'' w'' x y z =
      let l = k.as_long in
      record {
        answer = k.answer;
        file_zero = x ∙ ap (λ (n : ℕ). replicate n 0) k.file_long;
        report_zero = y ∙ ap (λ (n : ℕ). replicate n 0) k.report_long;
        zeroed = record {
          head_is = z.head_is;
          entries_are = z.entries_are ∙ ap (λ (n : ℕ). replicate n 0) l.entries_long;
          apertures_are = z.apertures_are ∙ ap (λ (n : ℕ). replicate n 0) l.apertures_long;
          macros_are = z.macros_are ∙ ap (λ (n : ℕ). replicate n 0) l.macros_long;
          numbers_are = z.numbers_are ∙ ap (λ (n : ℕ). replicate n (pos 0)) l.numbers_long;
        };
      }

  -- the rooms are as long as they were lent
  module _ (room : Room) (file : List ℕ) (b k : ℕ) (p : b ≡ bytes) (q : k ≡ words) (c : Comes book (mending_of book room b k file) w w' b out k noted head r) where
    lent_so : Comes book (mending_of book room bytes words file) w w' bytes out words noted head r
    lent_so = rw (p, q) at c

    pub mends : is_mended r ≡ true → Mends book (mending_of book room bytes words file) w w' bytes out words noted head r
    mends h = stays (mending_of book room bytes words file) lent_so h

    pub withholds : is_mended r ≡ false → (out'' noted'' head'' : List ℕ) (w'' : Lent) → out'' ≡ replicate (length out) 0 → noted'' ≡ replicate (length noted) 0 → Zeroed w' w'' head'' →
        Mends book (mending_of book room bytes words file) w w'' bytes out'' words noted'' head'' r
    withholds h = clears (mending_of book room bytes words file) lent_so h

-- What the bytes of a command say of what it is: they close the file exactly where it is M02, and those that open with %FS or %MO are FS
-- or MO.
-- Assumes nothing.
use Prim.Native.Nat.{ℕ, zero, suc, ◌+◌, ◌-◌, ◌<◌, ◌≤◌}
use mathlib.Core.Path.{◌≡◌, refl, sym, ap, ◌∙◌}
use mathlib.Core.Bool.{Bool, true, false}
use mathlib.Core.List.{List, [], ◌∷◌, ◌++◌}
use native.Mathlib.Numerals.{add-one}
use native.Mathlib.Omega.{arith}
use lib.Dec.{eqb}
use lib.ListN.{length, drop, take, get_or, length-drop}
use lib.Seq.{slice, slice-cons, take-suc, drop-append-le, drop-drop, get_or-drop, length-take-le}
use borrow.Author.Tests.{eqb-true}
use Rattle.base.specs.And.{◌and◌}
use Rattle.base.specs.Or.{◌or◌}
use Rattle.base.specs.Bytes.{same_bytes}
use Rattle.base.proofs.And.{and_l, and_r}
use Rattle.base.proofs.Lists.{slice_take, same_is}
use Rattle.text.specs.First.{first_in}
use Rattle.text.specs.Text.{text, ◌is◌}
use Rattle.text.proofs.First.{in_from}
use Rattle.book.specs.Books.{is_old}
use Rattle.book.specs.declared.Book.{Book}
use Rattle.formats.specs.declared.Format.{Format}
use Rattle.scan.specs.Scan.{kind_of, text_from, end_of, ends}
use Rattle.scan.specs.declared.Kind.{Kind}
use Rattle.scan.specs.declared.Kind.TheVariants.{Word, Extended}
use Rattle.command.specs.declared.Command.TheVariants.{End}
use Rattle.recognise.specs.Commands.{command_of}
use Rattle.mending.specs.Extents.{closing}
use Rattle.mending.specs.Changes.{opens}
use Rattle.law_mending.proofs.Says.{end_told, end_said, short_end_said, Formats, Units, format_said, unit_said}
use Rattle.law_mending.proofs.Scanned.{Scanned, text_so, start_end, start_inside, kind_of_first, is_word}

-- the byte at the first place that passes a test passes it
passes : (test : ℕ → Bool) (s : List ℕ) (at : ℕ) → first_in test s at < at + length s → test (get_or s (first_in test s at - at) 0) ≡ true
unfolding first_in
passes test [] at l = absurd (let z : at < at + 0 = l in omega arith)
passes test (b ∷ s) at l = go (passes test s (at + 1)) (in_from test s (at + 1)).0 (test b) refl l
  where
    further : (p : ℕ) → at + 1 ≤ p → p < at + suc (length s) → (p < at + 1 + length s → test (get_or s (p - (at + 1)) 0) ≡ true) → test (get_or (b ∷ s) (p - at) 0) ≡ true
    further p low l ih = let q : p - at ≡ suc (p - (at + 1)) = omega arith in rw q (ih (omega arith))

    go : (first_in test s (at + 1) < at + 1 + length s → test (get_or s (first_in test s (at + 1) - (at + 1)) 0) ≡ true) → at + 1 ≤ first_in test s (at + 1) →
        (t : Bool) → test b ≡ t → first_in test (b ∷ s) at < at + length (b ∷ s) → test (get_or (b ∷ s) (first_in test (b ∷ s) at - at) 0) ≡ true
    go ih low true e l = let z : at - at ≡ 0 = omega arith in rw (e, first_in, z) e
    go ih low false e l = rw (e, first_in) (further (first_in test s (at + 1)) low (rw (e, first_in) at l) ih)

-- bytes that begin with three
three_first : (a b c n : ℕ) (d : List ℕ) → take 3 (take n d) ≡ a ∷ b ∷ c ∷ [] → d ≡ a ∷ b ∷ c ∷ drop 3 d
three_first a b c (suc (suc (suc n))) (x ∷ y ∷ z ∷ d) e =
    let p : x ≡ a = cc in
    let q : y ≡ b = cc in
    let r : z ≡ c = cc in
    λ i. p i ∷ q i ∷ r i ∷ d
three_first a b c zero d e = absurd (let z : ◌≡◌ {A = ℕ} 0 1 = cc in omega arith)
three_first a b c (suc n) [] e = absurd (let z : ◌≡◌ {A = ℕ} 0 1 = cc in omega arith)
three_first a b c (suc zero) (x ∷ d) e = absurd (let z : ◌≡◌ {A = ℕ} 0 1 = cc in omega arith)
three_first a b c (suc (suc n)) (x ∷ []) e = absurd (let z : ◌≡◌ {A = ℕ} 0 1 = cc in omega arith)
three_first a b c (suc (suc zero)) (x ∷ y ∷ d) e = absurd (let z : ◌≡◌ {A = ℕ} 0 1 = cc in omega arith)
three_first a b c (suc (suc (suc n))) (x ∷ y ∷ []) e = absurd (let z : ◌≡◌ {A = ℕ} 0 1 = cc in omega arith)

-- the bytes of a command, and its text
abbrev bytes_of : List ℕ → ℕ → ℕ → List ℕ
bytes_of file start next = slice start next file

module _ {file : List ℕ} {at : ℕ} {kind : Kind} {start from end next : ℕ} (s : Scanned file at kind start from end next) where
  -- it begins with its first byte
  bytes_first : bytes_of file start next ≡ get_or file start 0 ∷ slice (suc start) next file
  bytes_first = slice-cons start next file 0 (omega (arith, s.next_is, start_end s)) (omega (arith, s.next_is, s.inside))

  -- one that begins with no `%` is a word command
  word_so : {b : ℕ} {more : List ℕ} → bytes_of file start next ≡ b ∷ more → eqb b 37 ≡ false → kind ≡ Word
  word_so {b} e f =
      let g : get_or file start 0 ≡ b = ap (λ (l : List ℕ). get_or l 0 0) (sym bytes_first ∙ e) in
      sym (kind_of_first s) ∙ is_word (get_or file start 0) (drop (start + 1) file) (rw g f)

  word_text : {w : List ℕ} → kind ≡ Word → bytes_of file start next ≡ w → slice from end file ≡ slice 0 (length w - 1) w
  unfolding text_from
  word_text {w} k e = text_so s ∙ (λ i. slice (text_from (k i) 0) (length (e i) - 1) (e i))

  -- and ends with its `*`
  word_byte : kind ≡ Word → get_or file end 0 ≡ 42
  unfolding text_from end_of
  word_byte k =
      let d : List ℕ = drop start file in
      let e : end ≡ first_in (λ b. eqb b 42) d start = s.end_is ∙ (λ i. first_in (ends (k i)) (drop (text_from (k i) 0) d) (text_from (k i) start)) in
      let p : first_in (λ b. eqb b 42) d start < start + length d = omega (arith, e, s.inside, length-drop start file, start_inside s) in
      let q : start + (first_in (λ b. eqb b 42) d start - start) ≡ end = omega (arith, e, start_end s) in
      sym (ap (λ (n : ℕ). get_or file n 0) q) ∙ sym (get_or-drop start file (first_in (λ b. eqb b 42) d start - start) 0)
      ∙ eqb-true _ 42 (passes (λ b. eqb b 42) d start p)

  word_bytes : kind ≡ Word → bytes_of file start next ≡ slice from end file ++ (42 ∷ [])
  unfolding text_from
  word_bytes k =
      let f : from ≡ start = s.from_is ∙ ap (λ (x : Kind). text_from x start) k in
      let n : next ≡ suc end = s.next_is ∙ add-one end in
      rw (n, f, take-suc file end 0 s.inside, word_byte k)
      (drop-append-le start (take end file) (42 ∷ []) (omega (arith, length-take-le end file (omega (arith, s.inside)), start_end s)))

  -- bytes that close the file are M02
  pub closing_end : (book : Book) (f : Format) → closing book (bytes_of file start next) ≡ true → command_of book f kind (slice from end file) ≡ End
  unfolding closing ◌or◌
  closing_end book f e = go (bytes_of file start next is "M02*") refl e
    where
      go : (t : Bool) → bytes_of file start next is "M02*" ≡ t → (t or (is_old book and (bytes_of file start next is "M2*"))) ≡ true →
          command_of book f kind (slice from end file) ≡ End
      go true q e =
          let b : bytes_of file start next ≡ text "M02*" = same_is _ (text "M02*") q in
          let k : kind ≡ Word = word_so b refl in
          rw (word_text k b, k) (end_said book f)
      go false q e =
          let b : bytes_of file start next ≡ text "M2*" = same_is _ (text "M2*") (and_r _ _ e) in
          let k : kind ≡ Word = word_so b refl in
          rw (word_text k b, k) (short_end_said book f (and_l _ _ e))

  -- and M02 closes it
  pub end_closing : (book : Book) (f : Format) → command_of book f kind (slice from end file) ≡ End → closing book (bytes_of file start next) ≡ true
  unfolding closing ◌or◌ ◌and◌ same_bytes
  end_closing book f e =
      let t = end_told book f kind (slice from end file) e in
      go (slice from end file is "M02") refl (word_bytes t.word) t.is_text
    where
      go : (t : Bool) → slice from end file is "M02" ≡ t → bytes_of file start next ≡ slice from end file ++ (42 ∷ []) →
          (t or (is_old book and (slice from end file is "M2"))) ≡ true → closing book (bytes_of file start next) ≡ true
      go true q b h =
          let w : slice from end file ≡ text "M02" = same_is _ (text "M02") q in
          rw (b, w) refl
      go false q b h =
          let w : slice from end file ≡ text "M2" = same_is (slice from end file) (text "M2") (and_r (is_old book) (slice from end file is "M2") h) in
          let o : is_old book ≡ true = and_l (is_old book) (slice from end file is "M2") h in
          rw (b, w, o) refl

  -- an extended command that opens with two letters
  record Opening (a b : ℕ) : Type 0 where
    extended : kind ≡ Extended
    more : List ℕ
    says : slice from end file ≡ a ∷ b ∷ more

  opening : (a b : ℕ) → ((d : List ℕ) → kind_of (37 ∷ a ∷ b ∷ d) ≡ Extended) → eqb a 37 ≡ false → eqb b 37 ≡ false →
      opens (37 ∷ a ∷ b ∷ []) (bytes_of file start next) ≡ true → Opening a b
  unfolding opens text_from end_of first_in
  opening a b ext p q e =
      let t : take 3 (bytes_of file start next) ≡ 37 ∷ a ∷ b ∷ [] = same_is (take 3 (bytes_of file start next)) (37 ∷ a ∷ b ∷ []) e in
      let u : take 3 (take (next - start) (drop start file)) ≡ 37 ∷ a ∷ b ∷ [] = ap (take 3) (sym (slice_take start next file)) ∙ t in
      let d : List ℕ = drop 3 (drop start file) in
      let v : drop start file ≡ 37 ∷ a ∷ b ∷ d = three_first 37 a b (next - start) (drop start file) u in
      let k : kind ≡ Extended = sym s.kind_is ∙ ap kind_of v ∙ ext d in
      let f : from ≡ start + 1 = s.from_is ∙ ap (λ (x : Kind). text_from x start) k in
      let n : end ≡ first_in (λ x. eqb x 37) (a ∷ b ∷ d) (start + 1) =
      s.end_is ∙ (λ i. first_in (ends (k i)) (drop (text_from (k i) 0) (v i)) (text_from (k i) start)) in
      let m : end ≡ first_in (λ x. eqb x 37) d (start + 1 + 1 + 1) = n ∙ rw (p, q, first_in) refl in
      let l = (in_from (λ x. eqb x 37) d (start + 1 + 1 + 1)).0 in
      let j : end - (start + 1) ≡ suc (suc (end - (start + 3))) = omega (arith, m, l) in
      let w : drop (start + 1) file ≡ a ∷ b ∷ d = sym (drop-drop 1 start file) ∙ ap (drop 1) v in
      record {
        extended = k;
        more = take (end - (start + 3)) d;
        says = rw (f, slice_take (start + 1) end file, j, w) refl;
      }

  pub opens_format : (book : Book) (f : Format) → opens (text "%FS") (bytes_of file start next) ≡ true → Formats (command_of book f kind (slice from end file))
  unfolding command_of kind_of same_bytes
  opens_format book f e =
      let o = opening 70 83 (λ d. refl) refl refl e in
      rw (o.extended, o.says) (format_said book o.more)

  pub opens_unit : (book : Book) (f : Format) → opens (text "%MO") (bytes_of file start next) ≡ true → Units (command_of book f kind (slice from end file))
  unfolding command_of kind_of same_bytes
  opens_unit book f e =
      let o = opening 77 79 (λ d. refl) refl refl e in
      rw (o.extended, o.says) (unit_said book o.more)

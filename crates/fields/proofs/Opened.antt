-- From the first byte of a command on, the walk sees the field where `field_from` and `field_to` have it.
-- Assumes nothing.
use Prim.Native.Nat.{ℕ, ◌+◌, ◌<◌, ◌≤◌}
use mathlib.Core.Path.{◌≡◌, refl, sym, ◌∙◌}
use mathlib.Core.Bool.{Bool, true, false, cond, not}
use mathlib.Core.List.{List, [], ◌∷◌}
use native.Mathlib.Omega.{arith}
use lib.Dec.{eqb}
use lib.ListN.{length, take, get_or}
use borrow.Author.Tests.{eqb-true}
use Rattle.base.specs.And.{◌and◌}
use Rattle.base.specs.Or.{◌or◌}
use Rattle.base.specs.Bytes.{same_bytes}
use Rattle.base.proofs.And.{and_false}
use Rattle.text.specs.Text.{◌begins◌, byte}
use Rattle.text.proofs.First.{in_from}
use Rattle.digits.specs.Digits.{is_digit}
use Rattle.book.specs.Books.{is_old}
use Rattle.book.specs.declared.Book.{Book}
use Rattle.fields.specs.Fields.{has_short_code, field_from, field_to, field_has}
use Rattle.fields.specs.Parts.{is_field, part_after}
use Rattle.fields.specs.declared.Part.TheVariants.{Start, CodeG, CodeG0, Mark, MarkA, MarkT, Named, Over}
use Rattle.fields.proofs.Ahead.{reaches, star, comma, range, range_before, range_none, first_later, to_next, to_plain, to_part, field_ahead, short_ahead, named_ahead, holds}

-- a byte that is known is none of another kind
other : (b k c : ℕ) → eqb b k ≡ true → eqb k c ≡ false → eqb b c ≡ false
other b k c e f = rw (eqb-true b k e) f

-- a first byte decides what a text begins with
module _ (b : ℕ) (s : List ℕ) where
  pub begins_none : (k : ℕ) (w : List ℕ) (n : ℕ) → eqb b k ≡ false → same_bytes (b ∷ take n s) (k ∷ w) ≡ false
  unfolding same_bytes
  begins_none k w n e = rw (same_bytes, e)

  pub begins_next : (k : ℕ) (w : List ℕ) (n : ℕ) → eqb b k ≡ true → same_bytes (b ∷ take n s) (k ∷ w) ≡ same_bytes (take n s) w
  unfolding same_bytes
  begins_next k w n e = rw (same_bytes, e)

-- `4`, `04`, `G04`
g0_ahead : (book : Book) (s : List ℕ) (at i : ℕ) → reaches book CodeG0 s at i ≡ (s begins "4" and range (at + 1) i (star s at))
unfolding reaches same_bytes ◌and◌ is_field part_after
g0_ahead book [] at i = refl
g0_ahead book (b ∷ s) at i = go (eqb b 52) refl
  where
    out : is_field CodeG0 b ≡ false
    out = refl

    go : (t : Bool) → eqb b 52 ≡ t → reaches book CodeG0 (b ∷ s) at i ≡ ((b ∷ s) begins "4" and range (at + 1) i (star (b ∷ s) at))
    go true e =
        let l : star (b ∷ s) at ≡ star s (at + 1) = first_later (byte "*") b s at (other b 52 42 e refl) in
        rw (begins_next b s 52 [] 0 e, l) (to_part book CodeG0 b out s at i true (at + 1) (star s (at + 1)) (rw e) (omega arith) (holds (field_ahead book s (at + 1) i)))
    go false e = rw (begins_none b s 52 [] 0 e) (to_plain book CodeG0 b out s at i (rw e))

-- after a `G`: the old book's short code
unfoldable short : Book → List ℕ → Bool
short book s = is_old book and (s begins "4" and not (is_digit (get_or s 1 0)))

-- the field after the long code, or after the short one
abbrev either_field : Bool → Bool → ℕ → ℕ → ℕ → Bool
either_field long brief a i e = cond long (range (a + 1) i e) (brief and range a i e)

-- none of it stands before
before_both : (long brief : Bool) (a i e : ℕ) → i < a → either_field long brief a i e ≡ false
unfolding ◌and◌
before_both true brief a i e h = range_before (a + 1) i e (omega arith)
before_both false true a i e h = range_before a i e h
before_both false false a i e h = refl

-- only the long code can be there
only_long : (long : Bool) (a i e : ℕ) → either_field long false a i e ≡ (long and range (a + 1) i e)
unfolding ◌and◌
only_long true a i e = refl
only_long false a i e = refl

module _ (book : Book) where
  short_new : (s : List ℕ) → is_old book ≡ false → short book s ≡ false
  unfolding short ◌and◌
  short_new s e = rw e

  short_end : short book [] ≡ false
  unfolding short same_bytes ◌and◌
  short_end = and_false (is_old book)

  code_end : has_short_code book [] ≡ false
  unfolding has_short_code same_bytes ◌and◌
  code_end = and_false (is_old book)

  module _ (b : ℕ) (s : List ℕ) where
    short_none : eqb b 52 ≡ false → short book (b ∷ s) ≡ false
    unfolding short ◌and◌
    short_none e = rw (begins_none b s 52 [] 0 e) (and_false (is_old book))

    short_code : is_old book ≡ true → eqb b 52 ≡ true → short book (b ∷ s) ≡ not (is_digit (get_or s 0 0))
    unfolding short same_bytes ◌and◌
    short_code e f = rw (e, begins_next b s 52 [] 0 f)

    -- before the `G`
    code_none : eqb b 71 ≡ false → has_short_code book (b ∷ s) ≡ false
    unfolding has_short_code ◌and◌
    code_none e = rw (begins_none b s 71 (52 ∷ []) 1 e) (and_false (is_old book))

    code_behind : eqb b 71 ≡ true → has_short_code book (b ∷ s) ≡ short book s
    unfolding has_short_code short
    code_behind e = rw (begins_next b s 71 (52 ∷ []) 1 e)

g_ahead : (book : Book) (s : List ℕ) (at i : ℕ) → reaches book CodeG s at i ≡ either_field (s begins "04") (short book s) (at + 1) i (star s at)
unfolding reaches same_bytes ◌and◌ is_field part_after
g_ahead book [] at i = rw (short_end book)
g_ahead book (b ∷ s) at i = go (eqb b 48) refl (eqb b 52) refl (is_old book) refl
  where
    out : is_field CodeG b ≡ false
    out = refl

    later : (k : ℕ) → eqb b k ≡ true → eqb k 42 ≡ false → star (b ∷ s) at ≡ star s (at + 1)
    later k e f = first_later (byte "*") b s at (other b k 42 e f)

    go : (t : Bool) → eqb b 48 ≡ t → (u : Bool) → eqb b 52 ≡ u → (v : Bool) → is_old book ≡ v →
        reaches book CodeG (b ∷ s) at i ≡ either_field ((b ∷ s) begins "04") (short book (b ∷ s)) (at + 1) i (star (b ∷ s) at)
    go true e u f v g =
        rw (begins_next b s 48 (52 ∷ []) 1 e, short_none book b s (other b 48 52 e refl), later 48 e refl)
        (to_part book CodeG b out s at i (s begins "4") (at + 1 + 1) (star s (at + 1)) (rw e) (omega arith) (g0_ahead book s (at + 1) i)
        ∙ sym (only_long (s begins "4") (at + 1) i (star s (at + 1))))
    go false e true f true g =
        rw (begins_none b s 48 (52 ∷ []) 1 e, short_code book b s g f, later 52 f refl)
        (to_part book CodeG b out s at i (not (is_digit (get_or s 0 0))) (at + 1) (star s (at + 1)) (rw (e, f, g)) (omega arith) (short_ahead book s (at + 1) i))
    go false e true f false g = rw (begins_none b s 48 (52 ∷ []) 1 e, short_new book (b ∷ s) g) (to_plain book CodeG b out s at i (rw (e, g)))
    go false e false f v g = rw (begins_none b s 48 (52 ∷ []) 1 e, short_none book b s f) (to_plain book CodeG b out s at i (rw (e, f, and_false (is_old book))))

start_ahead : (book : Book) (s : List ℕ) (at i : ℕ) → reaches book Start s at i ≡ either_field (s begins "G04") (has_short_code book s) (at + 1 + 1) i (star s at)
unfolding reaches same_bytes ◌and◌ is_field part_after
start_ahead book [] at i = rw (code_end book)
start_ahead book (b ∷ s) at i = go (eqb b 71) refl
  where
    out : is_field Start b ≡ false
    out = refl

    go : (t : Bool) → eqb b 71 ≡ t → reaches book Start (b ∷ s) at i ≡ either_field ((b ∷ s) begins "G04") (has_short_code book (b ∷ s)) (at + 1 + 1) i (star (b ∷ s) at)
    go true e =
        let l : star (b ∷ s) at ≡ star s (at + 1) = first_later (byte "*") b s at (other b 71 42 e refl) in
        rw (begins_next b s 71 (48 ∷ 52 ∷ []) 2 e, code_behind book b s e, l)
        (to_next book Start b out s at i (rw e) (λ q. before_both (s begins "04") (short book s) (at + 1 + 1) i (star s (at + 1)) (omega arith)) (g_ahead book s (at + 1) i))
    go false e = rw (begins_none b s 71 (48 ∷ 52 ∷ []) 2 e, code_none book b s e) (to_plain book Start b out s at i (rw e))

-- `F`, `A`, `O`, and a `T` before them
t_ahead : (book : Book) (s : List ℕ) (at i : ℕ) → reaches book MarkT s at i ≡ ((s begins "F" or s begins "A" or s begins "O") and range (comma s at + 1) i (star s at))
unfolding reaches same_bytes ◌and◌ ◌or◌ is_field part_after
t_ahead book [] at i = refl
t_ahead book (b ∷ s) at i = go (eqb b 70) refl (eqb b 65) refl (eqb b 79) refl
  where
    out : is_field MarkT b ≡ false
    out = refl

    -- one of the three: no comma and no `*`
    one : (k : ℕ) → eqb b k ≡ true → eqb k 42 ≡ false → eqb k 44 ≡ false → part_after book MarkT b ≡ Named → reaches book MarkT (b ∷ s) at i ≡ (true and range (comma (b ∷ s) at + 1) i (star (b ∷ s) at))
    one k e f g p =
        let l : star (b ∷ s) at ≡ star s (at + 1) = first_later (byte "*") b s at (other b k 42 e f) in
        let m : comma (b ∷ s) at ≡ comma s (at + 1) = first_later (byte ",") b s at (other b k 44 e g) in
        let n = (in_from (byte ",") s (at + 1)).0 in
        rw (l, m) (to_part book MarkT b out s at i true (comma s (at + 1) + 1) (star s (at + 1)) p (omega arith) (holds (named_ahead book s (at + 1) i)))

    go : (t : Bool) → eqb b 70 ≡ t → (u : Bool) → eqb b 65 ≡ u → (v : Bool) → eqb b 79 ≡ v →
        reaches book MarkT (b ∷ s) at i ≡ (((b ∷ s) begins "F" or (b ∷ s) begins "A" or (b ∷ s) begins "O") and range (comma (b ∷ s) at + 1) i (star (b ∷ s) at))
    go true e u f v g = rw (begins_next b s 70 [] 0 e) (one 70 e refl refl (rw e))
    go false e true f v g = rw (begins_none b s 70 [] 0 e, begins_next b s 65 [] 0 f) (one 65 f refl refl (rw (e, f)))
    go false e false f true g = rw (begins_none b s 70 [] 0 e, begins_none b s 65 [] 0 f, begins_next b s 79 [] 0 g) (one 79 g refl refl (rw (e, f, g)))
    go false e false f false g = rw (begins_none b s 70 [] 0 e, begins_none b s 65 [] 0 f, begins_none b s 79 [] 0 g) (to_plain book MarkT b out s at i (rw (e, f, g)))

a_ahead : (book : Book) (s : List ℕ) (at i : ℕ) → reaches book MarkA s at i ≡ false
unfolding reaches is_field part_after
a_ahead book [] at i = refl
a_ahead book (b ∷ s) at i = to_plain book MarkA b out s at i after
  where
    out : is_field MarkA b ≡ false
    out = refl

    after : part_after book MarkA b ≡ Over
    after = refl

mark_ahead : (book : Book) (s : List ℕ) (at i : ℕ) → reaches book Mark s at i ≡ ((s begins "TF" or s begins "TA" or s begins "TO") and range (comma s at + 1) i (star s at))
unfolding reaches same_bytes ◌and◌ ◌or◌ is_field part_after
mark_ahead book [] at i = refl
mark_ahead book (b ∷ s) at i = go (eqb b 65) refl (eqb b 84) refl
  where
    out : is_field Mark b ≡ false
    out = refl

    none : eqb b 84 ≡ false → ((b ∷ s) begins "TF" or (b ∷ s) begins "TA" or (b ∷ s) begins "TO") ≡ false
    none f = rw (begins_none b s 84 (70 ∷ []) 1 f, begins_none b s 84 (65 ∷ []) 1 f, begins_none b s 84 (79 ∷ []) 1 f)

    some : eqb b 84 ≡ true → ((b ∷ s) begins "TF" or (b ∷ s) begins "TA" or (b ∷ s) begins "TO") ≡ (s begins "F" or s begins "A" or s begins "O")
    some f = rw (begins_next b s 84 (70 ∷ []) 1 f, begins_next b s 84 (65 ∷ []) 1 f, begins_next b s 84 (79 ∷ []) 1 f)

    go : (t : Bool) → eqb b 65 ≡ t → (u : Bool) → eqb b 84 ≡ u →
        reaches book Mark (b ∷ s) at i ≡ (((b ∷ s) begins "TF" or (b ∷ s) begins "TA" or (b ∷ s) begins "TO") and range (comma (b ∷ s) at + 1) i (star (b ∷ s) at))
    go true e u f =
        let m : at < comma (b ∷ s) at + 1 = let n = (in_from (byte ",") (b ∷ s) at).0 in omega arith in
        rw (none (other b 65 84 e refl))
        (to_part book Mark b out s at i false (comma (b ∷ s) at + 1) (star (b ∷ s) at) (rw e) m (a_ahead book s (at + 1) i))
    go false e true f =
        let l : star (b ∷ s) at ≡ star s (at + 1) = first_later (byte "*") b s at (other b 84 42 f refl) in
        let m : comma (b ∷ s) at ≡ comma s (at + 1) = first_later (byte ",") b s at (other b 84 44 f refl) in
        let n = (in_from (byte ",") s (at + 1)).0 in
        rw (some f, l, m) (to_part book Mark b out s at i (s begins "F" or s begins "A" or s begins "O") (comma s (at + 1) + 1) (star s (at + 1)) (rw (e, f)) (omega arith) (t_ahead book s (at + 1) i))
    go false e false f = rw (none f) (to_plain book Mark b out s at i (rw (e, f)))

-- so it is for a command that begins with no `%`, and after the `%` of one that does
module _ (book : Book) (b : ℕ) (s : List ℕ) (at i : ℕ) where
  past : star (b ∷ s) at ≤ at + length (b ∷ s)
  past = (in_from (byte "*") (b ∷ s) at).1

  pub word_field : eqb b 37 ≡ false → reaches book Start (b ∷ s) at i ≡ field_has book (b ∷ s) at i
  unfolding field_has field_from field_to ◌and◌ ◌or◌
  word_field e = start_ahead book (b ∷ s) at i ∙ go ((b ∷ s) begins "G04") refl (has_short_code book (b ∷ s)) refl
    where
      two : at + 1 + 1 ≡ at + 2
      two = omega arith

      three : at + 1 + 1 + 1 ≡ at + 3
      three = omega arith

      go : (t : Bool) → (b ∷ s) begins "G04" ≡ t → (u : Bool) → has_short_code book (b ∷ s) ≡ u →
          either_field ((b ∷ s) begins "G04") (has_short_code book (b ∷ s)) (at + 1 + 1) i (star (b ∷ s) at) ≡ field_has book (b ∷ s) at i
      go true f u g = rw (f, three)
      go false f true g = rw (f, g, two)
      go false f false g =
          rw (f, g, begins_none b s 37 (84 ∷ 70 ∷ []) 2 e, begins_none b s 37 (84 ∷ 65 ∷ []) 2 e, begins_none b s 37 (84 ∷ 79 ∷ []) 2 e)
          (sym (range_none (at + length (b ∷ s)) i (star (b ∷ s) at) past))

  pub mark_field : eqb b 37 ≡ true → reaches book Mark s (at + 1) i ≡ field_has book (b ∷ s) at i
  unfolding field_has field_from field_to ◌and◌
  mark_field e = mark_ahead book s (at + 1) i ∙ go (s begins "TF" or s begins "TA" or s begins "TO") refl
    where
      no_code : eqb b 71 ≡ false
      no_code = other b 37 71 e refl

      l : star (b ∷ s) at ≡ star s (at + 1)
      l = first_later (byte "*") b s at (other b 37 42 e refl)

      m : comma (b ∷ s) at ≡ comma s (at + 1)
      m = first_later (byte ",") b s at (other b 37 44 e refl)

      go : (t : Bool) → (s begins "TF" or s begins "TA" or s begins "TO") ≡ t →
          ((s begins "TF" or s begins "TA" or s begins "TO") and range (comma s (at + 1) + 1) i (star s (at + 1))) ≡ field_has book (b ∷ s) at i
      go true f =
          rw (begins_none b s 71 (48 ∷ 52 ∷ []) 2 no_code, code_none book b s no_code, begins_next b s 37 (84 ∷ 70 ∷ []) 2 e, begins_next b s 37 (84 ∷ 65 ∷ []) 2 e, begins_next b s 37 (84 ∷ 79 ∷ []) 2 e, f, l, m)
      go false f =
          rw (begins_none b s 71 (48 ∷ 52 ∷ []) 2 no_code, code_none book b s no_code, begins_next b s 37 (84 ∷ 70 ∷ []) 2 e, begins_next b s 37 (84 ∷ 65 ∷ []) 2 e, begins_next b s 37 (84 ∷ 79 ∷ []) 2 e, f)
          (sym (range_none (at + length (b ∷ s)) i (star (b ∷ s) at) past))

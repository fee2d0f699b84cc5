-- The part of a command that the walk is in says where the field ahead is: what `field_from` and `field_to` say of the bytes themselves.
-- Assumes nothing.
use Prim.Native.Nat.{ℕ, ◌+◌, ◌<◌, ◌≤◌}
use mathlib.Core.Path.{◌≡◌, refl, ap, sym, ◌∙◌}
use mathlib.Core.Bool.{Bool, true, false, not}
use mathlib.Core.List.{List, [], ◌∷◌}
use native.Mathlib.Omega.{arith}
use lib.Dec.{leb, ltb, eqb}
use lib.ListN.{get_or}
use borrow.Author.Tests.{leb-true, eqb-true, eqb-false, le-leb, lt-leb, lt-ltb, le-ltb}
use Rattle.base.specs.And.{◌and◌}
use Rattle.base.specs.Or.{◌or◌}
use Rattle.base.proofs.And.{and_false}
use Rattle.base.proofs.Tests.{leb_agree}
use Rattle.text.specs.First.{first_in}
use Rattle.text.specs.Text.{byte}
use Rattle.text.proofs.First.{in_from}
use Rattle.digits.specs.Digits.{is_digit}
use Rattle.book.specs.declared.Book.{Book}
use Rattle.fields.specs.Parts.{begins_text, is_field, part_after}
use Rattle.fields.specs.declared.Part.{Part}
use Rattle.fields.specs.declared.Part.TheVariants.{CodeG4, Named, Field, Over}

-- place i holds one of these bytes, which stand from `at` on, and is in the field, as the walk sees it from this part on
unfoldable pub reaches : Book → Part → List ℕ → ℕ → ℕ → Bool
reaches book part [] at i = false
reaches book part (b ∷ s) at i = elim (eqb i at) [ true ↦ is_field part b | false ↦ reaches book (part_after book part b) s (at + 1) i ]

abbrev pub star : List ℕ → ℕ → ℕ
star = first_in (byte "*")

abbrev pub comma : List ℕ → ℕ → ℕ
comma = first_in (byte ",")

-- place i is from a up to e
abbrev pub range : ℕ → ℕ → ℕ → Bool
range a i e = leb a i and ltb i e

module _ (a i e : ℕ) where
  range_in : a ≤ i → i < e → range a i e ≡ true
  unfolding ◌and◌
  range_in h k = rw (le-leb a i h, lt-ltb i e k)

  pub range_before : i < a → range a i e ≡ false
  unfolding ◌and◌
  range_before h = rw (lt-leb a i h)

  pub range_none : e ≤ a → range a i e ≡ false
  unfolding ◌and◌
  range_none h = go (leb a i) refl
    where
      go : (t : Bool) → leb a i ≡ t → range a i e ≡ false
      go false f = rw f
      go true f = let l = leb-true a i f in let m : e ≤ i = omega arith in rw (f, le-ltb i e m)

  range_next : (i ≡ a → ⊥) → range a i e ≡ range (a + 1) i e
  range_next h = ap (λ (t : Bool). t and ltb i e) (leb_agree a i (a + 1) i (λ l. omega arith) (λ l. omega arith))

-- the first byte of a test, and past one that fails
module _ (test : ℕ → Bool) (b : ℕ) (s : List ℕ) (at : ℕ) where
  pub first_here : test b ≡ true → first_in test (b ∷ s) at ≡ at
  unfolding first_in
  first_here e = rw (first_in, e)

  pub first_later : test b ≡ false → first_in test (b ∷ s) at ≡ first_in test s (at + 1)
  unfolding first_in
  first_later e = rw (first_in, e)

-- one byte of the walk
module _ (book : Book) (part : Part) (b : ℕ) (s : List ℕ) (at i : ℕ) where
  pub reach_here : eqb i at ≡ true → reaches book part (b ∷ s) at i ≡ is_field part b
  unfolding reaches
  reach_here e = rw (reaches, e)

  pub reach_next : eqb i at ≡ false → reaches book part (b ∷ s) at i ≡ reaches book (part_after book part b) s (at + 1) i
  unfolding reaches
  reach_next e = rw (reaches, e)

-- no field ahead
pub plain_ahead : (book : Book) (s : List ℕ) (at i : ℕ) → reaches book Over s at i ≡ false
unfolding reaches is_field part_after
plain_ahead book [] at i = refl
plain_ahead book (b ∷ s) at i = go (eqb i at) refl (plain_ahead book s (at + 1) i)
  where
    go : (t : Bool) → eqb i at ≡ t → reaches book Over s (at + 1) i ≡ false → reaches book Over (b ∷ s) at i ≡ false
    go true e rest = reach_here book Over b s at i e
    go false e rest = reach_next book Over b s at i e ∙ rest

-- a byte that is not in the field, and leads from a part to another
module _ (book : Book) (part : Part) (b : ℕ) (out : is_field part b ≡ false) (s : List ℕ) (at i : ℕ) where
  -- what is seen after it is seen before it, where that is not the byte itself
  pub to_next : {x : Bool} {next : Part} → part_after book part b ≡ next → (i ≡ at → x ≡ false) → reaches book next s (at + 1) i ≡ x → reaches book part (b ∷ s) at i ≡ x
  to_next {x} p none rest = go (eqb i at) refl
    where
      go : (t : Bool) → eqb i at ≡ t → reaches book part (b ∷ s) at i ≡ x
      go true q = (reach_here book part b s at i q ∙ out) ∙ sym (none (eqb-true i at q))
      go false q = reach_next book part b s at i q ∙ rw p rest

  pub to_plain : part_after book part b ≡ Over → reaches book part (b ∷ s) at i ≡ false
  to_plain p = to_next p (λ q. refl) (plain_ahead book s (at + 1) i)

  pub to_part : (may : Bool) (a e : ℕ) {next : Part} → part_after book part b ≡ next → at < a → reaches book next s (at + 1) i ≡ (may and range a i e) → reaches book part (b ∷ s) at i ≡ (may and range a i e)
  to_part may a e p l rest = to_next p (λ q. ap (λ (t : Bool). may and t) (range_before a i e (omega arith)) ∙ and_false may) rest

-- inside the field: up to the first `*`
pub field_ahead : (book : Book) (s : List ℕ) (at i : ℕ) → reaches book Field s at i ≡ range at i (star s at)
unfolding reaches first_in is_field part_after
field_ahead book [] at i = sym (range_none at i at (omega arith))
field_ahead book (b ∷ s) at i = go (byte "*" b) refl (field_ahead book s (at + 1) i)
  where
    starred : byte "*" b ≡ true → (t : Bool) → eqb i at ≡ t → reaches book Field (b ∷ s) at i ≡ false
    starred f true e = reach_here book Field b s at i e ∙ rw f
    starred f false e = reach_next book Field b s at i e ∙ rw f (plain_ahead book s (at + 1) i)

    more : byte "*" b ≡ false → (t : Bool) → eqb i at ≡ t → reaches book Field s (at + 1) i ≡ range (at + 1) i (star s (at + 1)) → reaches book Field (b ∷ s) at i ≡ range at i (star s (at + 1))
    more f true e rest =
        let h = eqb-true i at e in
        let k = (in_from (byte "*") s (at + 1)).0 in
        (reach_here book Field b s at i e ∙ rw f) ∙ sym (range_in at i (star s (at + 1)) (omega arith) (omega arith))
    more f false e rest = (reach_next book Field b s at i e ∙ rw f rest) ∙ sym (range_next at i (star s (at + 1)) (eqb-false i at e))

    go : (t : Bool) → byte "*" b ≡ t → reaches book Field s (at + 1) i ≡ range (at + 1) i (star s (at + 1)) → reaches book Field (b ∷ s) at i ≡ range at i (star (b ∷ s) at)
    go true f rest = starred f (eqb i at) refl ∙ sym (ap (range at i) (first_here (byte "*") b s at f) ∙ range_none at i at (omega arith))
    go false f rest = more f (eqb i at) refl rest ∙ sym (ap (range at i) (first_later (byte "*") b s at f))

-- after `G4`: up to the first `*`, where no digit comes first
pub short_ahead : (book : Book) (s : List ℕ) (at i : ℕ) → reaches book CodeG4 s at i ≡ (not (is_digit (get_or s 0 0)) and range at i (star s at))
unfolding reaches first_in is_field part_after begins_text is_digit ◌and◌ ◌or◌
short_ahead book [] at i = sym (range_none at i at (omega arith))
short_ahead book (b ∷ s) at i = go (is_digit b) refl (eqb i at) refl
  where
    alike : is_digit b ≡ false → (t : Bool) → byte "*" b ≡ t → part_after book CodeG4 b ≡ part_after book Field b
    alike e true f = rw (e, f)
    alike e false f = rw (e, f)

    go : (t : Bool) → is_digit b ≡ t → (u : Bool) → eqb i at ≡ u → reaches book CodeG4 (b ∷ s) at i ≡ (not (is_digit b) and range at i (star (b ∷ s) at))
    go true e u f = rw e (to_plain book CodeG4 b (rw e) s at i (rw e))
    go false e true f = rw e (reach_here book CodeG4 b s at i f ∙ rw e (sym (reach_here book Field b s at i f)) ∙ field_ahead book (b ∷ s) at i)
    go false e false f =
        rw e (reach_next book CodeG4 b s at i f ∙ ap (λ p. reaches book p s (at + 1) i) (alike e (byte "*" b) refl) ∙ sym (reach_next book Field b s at i f) ∙ field_ahead book (b ∷ s) at i)

-- `true and` makes no difference: what is known of a part that surely leads to the field
pub holds : {t : Bool} {x : Bool} → t ≡ x → t ≡ (true and x)
unfolding ◌and◌
holds e = e

pub bare : {t : Bool} {x : Bool} → t ≡ (true and x) → t ≡ x
unfolding ◌and◌
bare e = e

-- before the comma: from the byte after it up to the first `*`
pub named_ahead : (book : Book) (s : List ℕ) (at i : ℕ) → reaches book Named s at i ≡ range (comma s at + 1) i (star s at)
unfolding reaches first_in is_field part_after
named_ahead book [] at i = sym (range_none (at + 1) i at (omega arith))
named_ahead book (b ∷ s) at i = go (byte "*" b) refl (byte "," b) refl (named_ahead book s (at + 1) i)
  where
    out : is_field Named b ≡ false
    out = refl

    starred : byte "*" b ≡ true → part_after book Named b ≡ Over
    starred f = rw f

    behind : byte "*" b ≡ false → byte "," b ≡ true → part_after book Named b ≡ Field
    behind f g = rw (f, g)

    before : byte "*" b ≡ false → byte "," b ≡ false → part_after book Named b ≡ Named
    before f g = rw (f, g)

    ends : byte "*" b ≡ false → star (b ∷ s) at ≡ star s (at + 1)
    ends f = first_later (byte "*") b s at f

    go : (t : Bool) → byte "*" b ≡ t → (u : Bool) → byte "," b ≡ u → reaches book Named s (at + 1) i ≡ range (comma s (at + 1) + 1) i (star s (at + 1)) →
        reaches book Named (b ∷ s) at i ≡ range (comma (b ∷ s) at + 1) i (star (b ∷ s) at)
    go true f u g rest =
        let k = (in_from (byte ",") (b ∷ s) at).0 in
        to_plain book Named b out s at i (starred f)
        ∙ sym (ap (range (comma (b ∷ s) at + 1) i) (first_here (byte "*") b s at f) ∙ range_none (comma (b ∷ s) at + 1) i at (omega arith))
    go false f true g rest =
        bare (to_part book Named b out s at i true (at + 1) (star s (at + 1)) (behind f g) (omega arith) (holds (field_ahead book s (at + 1) i)))
        ∙ sym (λ j. range (first_here (byte ",") b s at g j + 1) i (ends f j))
    go false f false g rest =
        let k = (in_from (byte ",") s (at + 1)).0 in
        bare (to_part book Named b out s at i true (comma s (at + 1) + 1) (star s (at + 1)) (before f g) (omega arith) (holds rest))
        ∙ sym (λ j. range (first_later (byte ",") b s at g j + 1) i (ends f j))

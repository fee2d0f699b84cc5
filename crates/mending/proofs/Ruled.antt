-- `text_of` is the text of decision 543 wherever the first FS or MO is one block, as every one is that the reader accepts:
-- a command has the text of such a first by one definition where it has it by the other.
-- Assumes nothing.
use Prim.Native.Nat.{ℕ, ◌-◌}
use mathlib.Core.Path.{◌≡◌, refl, sym, ap, ◌∙◌}
use mathlib.Core.Bool.{Bool, true, false, cond, false≢true}
use mathlib.Core.List.{List, [], ◌∷◌}
use native.Mathlib.Omega.{arith}
use lib.Dec.{eqb}
use lib.Seq.{slice}
use lib.ListN.{length}
use borrow.Author.Tests.{eqb-true}
use Rattle.base.specs.And.{◌and◌}
use Rattle.base.specs.Or.{◌or◌}
use Rattle.base.specs.Bytes.{same_bytes}
use Rattle.base.specs.Breaks.{is_break}
use Rattle.base.specs.Trimmed.{kept_before, drop_trailing}
use Rattle.base.proofs.And.{and_false, and_true}
use Rattle.base.proofs.Lists.{same_is, same_refl}
use Rattle.text.specs.Text.{among}
use Rattle.scan.specs.Permitted.{printable, breaks_after, may_break}
use Rattle.scan.specs.declared.Kind.TheVariants.{Extended}
use Rattle.mending.specs.Changes.{text_of}
use Rattle.mending.specs.Laws.{unbroken, ruled_text, one_block}

-- where CR and LF may stand: after `*` and nowhere else
may_behind : (b : ℕ) → may_break Extended 42 b ≡ is_break b
unfolding may_break breaks_after among ◌or◌
may_behind b = and_true (is_break b)

may_not : (last b : ℕ) → eqb last 42 ≡ false → may_break Extended last b ≡ false
unfolding may_break breaks_after among ◌or◌
may_not last b e = rw e (and_false (is_break b))

-- after `*`: CR and LF alone leave nothing
nothing_left : (s : List ℕ) → unbroken 42 s ≡ [] → drop_trailing is_break s ≡ []
unfolding unbroken drop_trailing kept_before
nothing_left [] e = refl
nothing_left (b ∷ s) e = go (is_break b) refl (nothing_left s)
  where
    go : (t : Bool) → is_break b ≡ t → (unbroken 42 s ≡ [] → drop_trailing is_break s ≡ []) → drop_trailing is_break (b ∷ s) ≡ []
    go true h ih = let f = rw (unbroken, may_behind b, h) at e in rw (ih f, h) refl
    go false h ih = absurd (let f = rw (unbroken, may_behind b, h) at e in let z : ◌≡◌ {A = ℕ} 0 1 = cc in omega arith)

nothing_kept : (s : List ℕ) → drop_trailing is_break s ≡ [] → unbroken 42 s ≡ []
unfolding unbroken drop_trailing kept_before
nothing_kept [] e = refl
nothing_kept (b ∷ s) e = go (drop_trailing is_break s) refl (is_break b) refl (nothing_kept s) e
  where
    go : (r : List ℕ) → drop_trailing is_break s ≡ r → (t : Bool) → is_break b ≡ t → (drop_trailing is_break s ≡ [] → unbroken 42 s ≡ []) →
        kept_before is_break b (drop_trailing is_break s) ≡ [] → unbroken 42 (b ∷ s) ≡ []
    go [] p true h ih e = rw (unbroken, may_behind b, h) (ih p)
    go [] p false h ih e = absurd (let f = rw (p, h) at e in let z : ◌≡◌ {A = ℕ} 0 1 = cc in omega arith)
    go (x ∷ r) p t h ih e = absurd (let f = rw p at e in let z : ◌≡◌ {A = ℕ} 0 1 = cc in omega arith)

-- the last byte from 32 to 126 is still no `*`
still_none : (last b : ℕ) → eqb last 42 ≡ false → eqb b 42 ≡ false → eqb (cond (printable b) b last) 42 ≡ false
still_none last b e f = go (printable b)
  where
    go : (t : Bool) → eqb (cond t b last) 42 ≡ false
    go true = f
    go false = e

-- a block is not empty, and ends at its `*`
block_some : {t : List ℕ} → one_block t ≡ true → t ≡ [] → ⊥
unfolding one_block
block_some {t} e f = let g = rw f at e in false≢true g

-- `*` is one of the bytes from 32 to 126, and neither CR nor LF
star_seen : (last b : ℕ) → b ≡ 42 → cond (printable b) b last ≡ 42
unfolding printable ◌and◌
star_seen last b e = rw e refl

star_kept : (b : ℕ) → b ≡ 42 → kept_before is_break b [] ≡ b ∷ []
unfolding kept_before ◌or◌
star_kept b e = rw e refl

kept_some : (b : ℕ) (t : List ℕ) → one_block t ≡ true → kept_before is_break b t ≡ b ∷ t
unfolding kept_before one_block
kept_some b [] o = absurd (false≢true o)
kept_some b (x ∷ t) o = refl

-- a block that begins with `*` is that, and another goes on
block_star : (b : ℕ) (t : List ℕ) → eqb b 42 ≡ true → one_block (b ∷ t) ≡ true → t ≡ []
unfolding one_block
block_star b t h o = same_is t [] (rw (one_block, h) at o)

block_goes : (b : ℕ) (t : List ℕ) → eqb b 42 ≡ false → one_block (b ∷ t) ≡ true → one_block t ≡ true
unfolding one_block
block_goes b t h o = rw (one_block, h) at o

-- one text: by the letter of decision 543, then without the CR and LF at the end
trimmed_so : (t s : List ℕ) (last : ℕ) → eqb last 42 ≡ false → one_block t ≡ true → unbroken last s ≡ t → drop_trailing is_break s ≡ t
unfolding unbroken drop_trailing kept_before one_block
trimmed_so t [] last l o e = absurd (block_some o (sym e))
trimmed_so [] (b ∷ s) last l o e = absurd (false≢true o)
trimmed_so (x ∷ t) (b ∷ s) last l o e = go (eqb b 42) refl (trimmed_so t s (cond (printable b) b last))
  where
    u : b ∷ unbroken (cond (printable b) b last) s ≡ x ∷ t
    u = rw (unbroken, may_not last b l) at e

    go : (a : Bool) → eqb b 42 ≡ a →
        (eqb (cond (printable b) b last) 42 ≡ false → one_block t ≡ true → unbroken (cond (printable b) b last) s ≡ t → drop_trailing is_break s ≡ t) →
        drop_trailing is_break (b ∷ s) ≡ x ∷ t
    go true h ih =
        let w = u in
        let bx : x ≡ b = cc in
        let v : unbroken (cond (printable b) b last) s ≡ t = cc in
        let k = eqb-true b 42 h in
        let tn : t ≡ [] = block_star b t h (rw bx at o) in
        let none : unbroken 42 s ≡ [] = rw (star_seen last b k, tn) at v in
        ap (kept_before is_break b) (nothing_left s none) ∙ star_kept b k ∙ cc
    go false h ih =
        let w = u in
        let bx : x ≡ b = cc in
        let v : unbroken (cond (printable b) b last) s ≡ t = cc in
        let o' = block_goes b t h (rw bx at o) in
        ap (kept_before is_break b) (ih (still_none last b l h) o' v) ∙ kept_some b t o' ∙ cc

-- and the other way round
unbroken_so : (t s : List ℕ) (last : ℕ) → eqb last 42 ≡ false → one_block t ≡ true → drop_trailing is_break s ≡ t → unbroken last s ≡ t
unfolding unbroken drop_trailing kept_before
unbroken_so t [] last l o e = absurd (block_some o (sym e))
unbroken_so t (b ∷ s) last l o e = go (drop_trailing is_break s) refl (is_break b) refl (eqb b 42) refl (unbroken_so (drop_trailing is_break s) s (cond (printable b) b last))
  where
    first : unbroken last (b ∷ s) ≡ b ∷ unbroken (cond (printable b) b last) s
    first = rw (unbroken, may_not last b l) refl

    go : (r : List ℕ) → drop_trailing is_break s ≡ r → (c : Bool) → is_break b ≡ c → (a : Bool) → eqb b 42 ≡ a →
        (eqb (cond (printable b) b last) 42 ≡ false → one_block (drop_trailing is_break s) ≡ true → drop_trailing is_break s ≡ drop_trailing is_break s →
        unbroken (cond (printable b) b last) s ≡ drop_trailing is_break s) →
        unbroken last (b ∷ s) ≡ t
    go [] p true q a h ih = absurd (block_some o (sym (rw (p, q) at e)))
    go [] p false q true h ih =
        let f : b ∷ [] ≡ t = rw (p, q) at e in
        first ∙ ap (λ (x : List ℕ). b ∷ x) (rw (star_seen last b (eqb-true b 42 h)) (nothing_kept s p)) ∙ f
    go [] p false q false h ih =
        let f : b ∷ [] ≡ t = rw (p, q) at e in
        absurd (block_some (block_goes b [] h (rw (← f) at o)) refl)
    go (y ∷ r) p c q true h ih =
        let f : b ∷ y ∷ r ≡ t = rw p at e in
        absurd (let z = block_star b (y ∷ r) h (rw (← f) at o) in let w : ◌≡◌ {A = ℕ} 0 1 = cc in omega arith)
    go (y ∷ r) p c q false h ih =
        let f : b ∷ y ∷ r ≡ t = rw p at e in
        let o' = block_goes b (y ∷ r) h (rw (← f) at o) in
        first ∙ ap (λ (x : List ℕ). b ∷ x) (ih (still_none last b l h) (rw p o') refl ∙ p) ∙ f

-- two tests of equality that agree
same_agree : (a b c d : List ℕ) → (a ≡ b → c ≡ d) → (c ≡ d → a ≡ b) → same_bytes a b ≡ same_bytes c d
same_agree a b c d f g = go (same_bytes a b) refl (same_bytes c d) refl
  where
    go : (t : Bool) → same_bytes a b ≡ t → (u : Bool) → same_bytes c d ≡ u → same_bytes a b ≡ same_bytes c d
    go true x true y = x ∙ sym y
    go true x false y = absurd (let e = f (same_is a b x) in false≢true (sym y ∙ rw e (same_refl d)))
    go false x true y = absurd (let e = g (same_is c d y) in false≢true (sym x ∙ rw e (same_refl b)))
    go false x false y = x ∙ sym y

-- a command has the text of a first that is one block, by either definition
pub as_ruled : (c d : List ℕ) → one_block (text_of d) ≡ true → same_bytes (text_of c) (text_of d) ≡ same_bytes (ruled_text c) (ruled_text d)
unfolding text_of ruled_text
as_ruled c d o =
    let s : List ℕ = slice 1 (length d - 1) d in
    let e : ruled_text d ≡ text_of d = unbroken_so (text_of d) s 0 refl o refl in
    same_agree (text_of c) (text_of d) (ruled_text c) (ruled_text d)
    (λ h. unbroken_so (text_of d) (slice 1 (length c - 1) c) 0 refl o h ∙ sym e)
    (λ h. trimmed_so (text_of d) (slice 1 (length c - 1) c) 0 refl o (h ∙ e))

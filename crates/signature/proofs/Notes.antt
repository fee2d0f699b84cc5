-- The laws of what is held of a command: a run byte by byte, and the text that it leaves.
-- Assumes nothing.
use Prim.Native.Nat.{ℕ, ◌+◌, ◌<◌, ◌≤◌}
use mathlib.Core.Path.{◌≡◌, refl, ap, sym, ◌∙◌}
use mathlib.Core.Bool.{Bool, true, false}
use mathlib.Core.List.{List, [], ◌∷◌, ◌++◌, append-nil, append_assoc}
use native.Mathlib.Numerals.{add-one}
use native.Mathlib.Omega.{arith}
use lib.Dec.{ltb}
use lib.ListN.{length, take, drop, get_or, length-set, length-append}
use lib.Seq.{take_all, take_at, take-suc-set}
use borrow.Author.Tests.{lt-ltb, le-ltb, ltb-true, ltb-false}
use Rattle.base.proofs.Lists.{drop_next}
use Rattle.base.specs.Breaks.{is_break}
use Rattle.digest.specs.Text.{unbroken}
use Rattle.signature.specs.declared.Held.{Held}
use Rattle.signature.specs.Held.{nothing, noted, noted_all, text_of}

-- the byte at i is left out, or noted
module _ (h : Held) (t : List ℕ) (i : ℕ) (inside : i < length t) where
  pub left_out : is_break (get_or t i 0) ≡ true → noted_all h (unbroken (drop (i + 1) t)) ≡ noted_all h (unbroken (drop i t))
  unfolding unbroken
  left_out e = rw (drop_next t i inside, unbroken, e)

  pub goes_in : is_break (get_or t i 0) ≡ false → noted_all (noted h (get_or t i 0)) (unbroken (drop (i + 1) t)) ≡ noted_all h (unbroken (drop i t))
  unfolding unbroken noted_all
  goes_in e = rw (drop_next t i inside, unbroken, e)

-- what is held of s, which has at most 43 bytes
pub record Holds (h : Held) (s : List ℕ) : Type 0 where
  pub count : h.count ≡ length s
  pub size : length h.bytes ≡ 43
  pub text : take (length s) h.bytes ≡ s

holds_nothing : Holds nothing []
unfolding nothing
holds_nothing = record { count = refl; size = refl; text = refl }

-- one byte more, and one for which there is no room
module _ {h : Held} {s : List ℕ} (o : Holds h s) (b : ℕ) where
  holds_more : length s < 43 → Holds (noted h b) (s ++ (b ∷ []))
  unfolding noted
  holds_more l =
      let room : h.count < 43 = omega (arith, o.count) in
      let inside : length s < length h.bytes = omega (arith, o.size) in
      let longer : length (s ++ (b ∷ [])) ≡ length s + 1 = length-append s (b ∷ []) in
      rw (lt-ltb _ _ room, o.count)
      (record {
        count = sym longer;
        size = length-set h.bytes (length s) b ∙ o.size;
        text = rw (longer, add-one) (take-suc-set h.bytes (length s) b inside ∙ ap (λ l. l ++ (b ∷ [])) o.text);
      })

  no_more : 43 ≤ length s → noted h b ≡ h
  unfolding noted
  no_more l = let full : 43 ≤ h.count = omega (arith, o.count) in rw (le-ltb _ _ full)

-- the first 43 bytes are held
abbrev TextFrom : List ℕ → Type 0
TextFrom w = (h : Held) (s : List ℕ) → Holds h s → length s ≤ 43 → text_of (noted_all h w) ≡ take 43 (s ++ w)

text_more : (b : ℕ) (w : List ℕ) → TextFrom w → TextFrom (b ∷ w)
unfolding noted_all
text_more b w rest h s o l = go (ltb (length s) 43) refl
  where
    go : (t : Bool) → ltb (length s) 43 ≡ t → text_of (noted_all h (b ∷ w)) ≡ take 43 (s ++ b ∷ w)
    go true e =
        let k : length s < 43 = ltb-true _ _ e in
        let fits : length (s ++ (b ∷ [])) ≤ 43 = omega (arith, length-append s (b ∷ [])) in
        rest _ _ (holds_more o b k) fits ∙ ap (take 43) (append_assoc s (b ∷ []) w)
    go false e =
        let k : 43 ≤ length s = ltb-false _ _ e in
        let all : length s ≡ 43 = omega arith in
        rw (no_more o b k) (rest h s o l ∙ take_at s w 43 all ∙ sym (take_at s (b ∷ w) 43 all))

text_from_lem : (w : List ℕ) → TextFrom w
unfolding noted_all text_of
text_from_lem [] h s o l = rw (append-nil s, o.count) (o.text ∙ sym (take_all 43 s l))
text_from_lem (b ∷ w) h s o l = text_more b w (text_from_lem w) h s o l

pub text_held : (w : List ℕ) → text_of (noted_all nothing w) ≡ take 43 w
text_held w = text_from_lem w nothing [] holds_nothing (omega arith)

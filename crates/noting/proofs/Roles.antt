-- The table of what apertures are for, with one AD more.
-- Assumes nothing.
use Rattle.std.specs.Prelude.{Err, Ok}
use Prim.Native.Nat.{ℕ, ◌+◌, ◌*◌, ◌/◌, ◌<◌}
use mathlib.Core.Path.{◌≡◌, refl, sym, ap, ◌∙◌, subst}
use mathlib.Core.Bool.{true, false}
use mathlib.Core.List.{List}
use native.Mathlib.Nat.{add-zero}
use native.Mathlib.Numerals.{add-one}
use native.Mathlib.Omega.{arith}
use lib.Dec.{eqb}
use lib.ListN.{length, get_or}
use lib.Seq.{get_or-drop}
use borrow.Author.Tests.{ltb-true, ltb-false, eqb-true}
use Rattle.index.specs.Tree.{record_width}
use Rattle.index.specs.Numbers.{number_of, numbered, Numbered}
use Rattle.sheet.specs.Records.{aperture_in, aperture_of}
use Rattle.sheet.specs.declared.Aperture.{Aperture}
use Rattle.tables.specs.Added.{has_room, added}
use Rattle.tables.specs.Apertures.{aperture_words}
use Rattle.tables.proofs.Numbers.{number_new}
use Rattle.tables.proofs.Apertures.{aperture_numbered, aperture_new, aperture_kept}
use Rattle.notes.proofs.Designators.{found_at}
use Rattle.noting.specs.Steps.{Put}

pub number_found : (s : List ℕ) (used n : ℕ) {i : ℕ} → numbered s used n ≡ Ok i → (i < used) × (number_of s i ≡ n)
unfolding numbered
number_found s used n {i} e =
    let f = found_at (λ j. eqb (number_of s j) n) 0 used _ i e in
    (omega (arith, f.0), eqb-true (number_of s i) n f.1)

-- number and function of a record
number_word : (s : List ℕ) (i : ℕ) → number_of s i ≡ (aperture_of s i).number
unfolding aperture_of aperture_in
number_word s i = sym (get_or-drop (i * record_width) s 0 0 ∙ ap (λ (k : ℕ). get_or s k 0) (add-zero (i * record_width)))

function_word : (s : List ℕ) (i : ℕ) → get_or s (i * record_width + 1) 0 ≡ (aperture_of s i).kind
unfolding aperture_of aperture_in
function_word s i = sym (get_or-drop (i * record_width) s 1 0)

module _ (s : List ℕ) (used number function : ℕ) (t : Numbered s used) where
  same : (n : ℕ) → ((used < length s / record_width) → ((j : ℕ) → j < used → number_of s j ≡ n → ⊥) → ⊥) → Put s s used used n function
  same n there = record {
    numbered = t;
    long = refl;
    more = omega arith;
    few = omega arith;
    stays = λ i l. (refl, refl);
    others = λ i l m. absurd (omega arith);
    there = there;
    new = λ l. absurd (omega arith);
  }

  pub put_found : {i : ℕ} → numbered s used number ≡ Ok i → Put s s used used number function
  put_found {i} e = same number (λ room none. none i (number_found s used number e).0 (number_found s used number e).1)

  module _ {link : ℕ} {s' : List ℕ} (free : numbered s used number ≡ Err link)
      (k : s' ≡ added s used link (aperture_words (record { number = number; kind = function; first = 0; len = 0; items = 0; height = 0 }))) (long : length s' ≡ length s) where
    abbrev r : Aperture
    r = record { number = number; kind = function; first = 0; len = 0; items = 0; height = 0 }

    module _ (full : has_room s used ≡ true) where
      room : used < length s / record_width
      unfolding has_room
      room = ltb-true used (length s / record_width) full

      new_is : aperture_of s' used ≡ r
      new_is = ap (λ (l : List ℕ). aperture_of l used) k ∙ aperture_new s used link r room t free

      old_is : (i : ℕ) → i < used → aperture_of s' i ≡ aperture_of s i
      old_is i l = ap (λ (x : List ℕ). aperture_of x i) k ∙ aperture_kept s used link r room t free i l

      there_now : number_of s' used ≡ number
      there_now = number_word s' used ∙ ap (λ (a : Aperture). a.number) new_is

      pub put_new : Put s s' used (used + 1) number function
      put_new = record {
        numbered = rw (add-one used, k) (aperture_numbered s used link r room t free);
        long = long;
        more = omega arith;
        few = omega arith;
        stays = λ i l. (
          number_word s' i ∙ ap (λ (a : Aperture). a.number) (old_is i l) ∙ sym (number_word s i),
          function_word s' i ∙ ap (λ (a : Aperture). a.kind) (old_is i l) ∙ sym (function_word s i),
        );
        others = λ i l m.
            let q : i ≡ used = omega arith in
            (ap (number_of s') q ∙ there_now, ap (λ (j : ℕ). get_or s' (j * record_width + 1) 0) q ∙ function_word s' used ∙ ap (λ (a : Aperture). a.kind) new_is);
        there = λ h none. none used (omega arith) there_now;
        new = λ l j h e. number_new s used number link free j h e;
      }

    pub put_full : has_room s used ≡ false → Put s s' used used number function
    unfolding has_room added
    put_full full =
        let unchanged : s' ≡ s = k ∙ rw full refl in
        subst (λ (x : List ℕ). Put s x used used number function) (sym unchanged) (same number (λ h none. let l = ltb-false used (length s / record_width) full in omega arith))

-- A command whose bytes are all from 32 to 126 is cut at its end, under either rule of letters.
-- Assumes nothing.
use Prim.Native.Nat.{ℕ, suc, ◌+◌, ◌-◌, ◌^◌, ◌<◌, ◌≤◌}
use mathlib.Core.Path.{◌≡◌, refl, sym, ◌∙◌}
use mathlib.Core.Bool.{Bool, true, false}
use mathlib.Core.List.{List, [], ◌∷◌}
use native.Mathlib.Omega.{arith}
use lib.Dec.{leb, ltb, eqb}
use lib.ListN.{length, drop, get_or, drop_of_length-le, length-drop}
use lib.Seq.{drop-drop, get_or-drop}
use borrow.Author.Tests.{ltb-true, ltb-false, leb-true, le-leb, eq-eqb, ne_eqb}
use Rattle.base.specs.And.{◌and◌}
use Rattle.base.specs.Bytes.{same_bytes}
use Rattle.base.specs.Or.{◌or◌}
use Rattle.base.proofs.And.{and_l, and_r}
use Rattle.text.specs.First.{first_in, skipped}
use Rattle.text.proofs.First.{in_from}
use Rattle.fields.proofs.Ahead.{first_here, first_later}
use Rattle.scan.specs.Fields.{in_field}
use Rattle.scan.specs.Permitted.{printable, permitted, bad_in}
use Rattle.scan.specs.Printable.{inner, stops, printable_to}
use Rattle.scan.specs.Scan.{kind_of, text_from, end_of, ends, command_in, next_command}
use Rattle.scan.specs.declared.Kind.{Kind}
use Rattle.scan.specs.declared.Kind.TheVariants.{Word, Extended, Macro}
use Rattle.book.specs.declared.Book.{Book}
use Rattle.scan.specs.declared.Scan.TheVariants.{Command}
use Rattle.scan.proofs.Bad.{bad_goes, bad_from}
use Rattle.scan.proofs.Cut.{cut_found}

-- a byte above the end that is from 32 to 126 does not stop it
pub inner_goes : (end b : ℕ) → end < 43 → inner b ≡ true → stops end b ≡ false
unfolding inner stops printable ◌and◌ ◌or◌
inner_goes end b h e =
    let low : 43 ≤ b = leb-true 43 b (and_l (leb 43 b) (leb b 126) e) in
    let high : b ≤ 126 = leb-true b 126 (and_r (leb 43 b) (leb b 126) e) in
    rw (ne_eqb b end (λ q. omega arith), le-leb 32 b (omega arith), le-leb b 126 high)

pub end_low : (kind : Kind) → end_of kind < 43
unfolding end_of
end_low Word = omega arith
end_low Extended = omega arith
end_low Macro = omega arith

-- which byte stops it
module _ (end b : ℕ) where
  stops_end : eqb b end ≡ true → stops end b ≡ true
  unfolding stops ◌or◌
  stops_end e = rw e

  stops_bad : eqb b end ≡ false → printable b ≡ false → stops end b ≡ true
  unfolding stops ◌or◌
  stops_bad e p = rw (e, p)

  pub not_stopped : stops end b ≡ false → (eqb b end ≡ false) × (printable b ≡ true)
  not_stopped e = go (eqb b end) refl (printable b) refl
    where
      go : (t : Bool) → eqb b end ≡ t → (u : Bool) → printable b ≡ u → (eqb b end ≡ false) × (printable b ≡ true)
      go false f true p = (f, p)
      go true f u p = absurd (let q = stops_end f in let y : ◌≡◌ {A = ℕ} 0 1 = cc in omega arith)
      go false f false p = absurd (let q = stops_bad f p in let y : ◌≡◌ {A = ℕ} 0 1 = cc in omega arith)

pub printable_may : (kind : Kind) (last b : ℕ) → printable b ≡ true → permitted kind last b ≡ true
unfolding permitted ◌or◌
printable_may kind last b p = rw p

-- where a command's end stops it, no other end and no bad byte stands before
module _ (kind : Kind) (field : ℕ → Bool) where
  abbrev to : List ℕ → ℕ → ℕ
  to = first_in (stops (end_of kind))

  plain_text : (s : List ℕ) (at last e : ℕ) → to s at ≡ e → e < at + length s → ends kind (get_or s (e - at) 0) ≡ true →
      (first_in (ends kind) s at ≡ e) × (e ≤ bad_in kind field last 0 s at)
  plain_text [] at last e q h f = absurd (let k = (in_from (stops (end_of kind)) [] at).0 in omega arith)
  plain_text (b ∷ s) at last e q h f = go (stops (end_of kind) b) refl (plain_text s (at + 1) b e)
    where
      go : (t : Bool) → stops (end_of kind) b ≡ t →
          (to s (at + 1) ≡ e → e < at + 1 + length s → ends kind (get_or s (e - (at + 1)) 0) ≡ true → (first_in (ends kind) s (at + 1) ≡ e) × (e ≤ bad_in kind field b 0 s (at + 1))) →
          (first_in (ends kind) (b ∷ s) at ≡ e) × (e ≤ bad_in kind field last 0 (b ∷ s) at)
      go true g rest =
          let k : at ≡ e = sym (first_here (stops (end_of kind)) b s at g) ∙ q in
          let z : e - at ≡ 0 = omega arith in
          let l = bad_from kind field last 0 (b ∷ s) at in
          (first_here (ends kind) b s at (rw z at f) ∙ k, omega arith)
      go false g rest =
          let n = not_stopped (end_of kind) b g in
          let k : to s (at + 1) ≡ e = sym (first_later (stops (end_of kind)) b s at g) ∙ q in
          let j = (in_from (stops (end_of kind)) s (at + 1)).0 in
          let z : e - at ≡ suc (e - (at + 1)) = omega arith in
          let r = rest k (omega arith) (rw z at f) in
          (first_later (ends kind) b s at n.0 ∙ r.0, rw (bad_goes kind field last b s at (printable_may kind last b n.1), n.1) r.1)

-- a `%` that begins a command stands inside the file
past_end : (file : List ℕ) (place : ℕ) → length file ≤ place → kind_of (drop place file) ≡ Word
unfolding kind_of same_bytes
past_end file place h = rw (drop_of_length-le file h)

module _ (file : List ℕ) (place : ℕ) where
  marked_inside : {kind : Kind} → kind ≡ kind_of (drop place file) → (kind ≡ Word → ⊥) → place < length file
  marked_inside {kind} e m = go (ltb place (length file)) refl
    where
      go : (t : Bool) → ltb place (length file) ≡ t → place < length file
      go true f = ltb-true place (length file) f
      go false f = absurd (m (e ∙ past_end file place (ltb-false place (length file) f)))

  -- so the place of its text is a number of the machine's
  pub text_fits : {kind : Kind} → kind ≡ kind_of (drop place file) → place < 2 ^ 64 → length file < 2 ^ 64 → text_from kind place < 2 ^ 64
  unfolding text_from
  text_fits {kind = Word} e h k = h
  text_fits {kind = Extended} e h k = let l = marked_inside e (λ q. let y : ◌≡◌ {A = ℕ} 0 1 = cc in omega arith) in omega arith
  text_fits {kind = Macro} e h k = let l = marked_inside e (λ q. let y : ◌≡◌ {A = ℕ} 0 1 = cc in omega arith) in omega arith

pub text_near : (kind : Kind) (place : ℕ) → (place ≤ text_from kind place) × (text_from kind place ≤ place + 1)
unfolding text_from
text_near Word place = (omega arith, omega arith)
text_near Extended place = (omega arith, omega arith)
text_near Macro place = (omega arith, omega arith)

text_behind : (kind : Kind) (file : List ℕ) (place : ℕ) → drop (text_from kind 0) (drop place file) ≡ drop (text_from kind place) file
unfolding text_from
text_behind Word file place = refl
text_behind Extended file place = drop-drop 1 place file
text_behind Macro file place = drop-drop 1 place file

-- the next command, which begins at `place`, ends where its bytes from 32 to 126 do
module _ (book : Book) (file : List ℕ) (from : ℕ) {place : ℕ} {kind : Kind} {end at : ℕ} where
  pub plain_command : place ≡ skipped file from → kind ≡ kind_of (drop place file) → end ≡ end_of kind → at ≡ printable_to end file (text_from kind place) →
      at < length file → get_or file at 0 ≡ end → Command kind place (text_from kind place) at (at + 1) ≡ next_command book file from
  unfolding next_command command_in
  plain_command p k e q h f =
      let t : List ℕ = drop (text_from kind place) file in
      let l = length-drop (text_from kind place) file in
      let to : first_in (stops (end_of kind)) t (text_from kind place) ≡ at = rw e at (sym q) in
      let j = (in_from (stops (end_of kind)) t (text_from kind place)).0 in
      let same : text_from kind place + (at - text_from kind place) ≡ at = omega arith in
      let g : ends kind (get_or t (at - text_from kind place) 0) ≡ true = rw (get_or-drop (text_from kind place) file, same) (eq-eqb _ _ (f ∙ e)) in
      let r = plain_text kind (in_field book (drop place file) place) t (text_from kind place) 0 at to (omega arith) g in
      rw (← p, ← k, text_behind kind file place, r.0) (sym (cut_found kind (length file) place r.1 h))

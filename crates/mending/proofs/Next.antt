-- Where the next complete command begins and ends, by places: line ends are skipped, then its mark is looked for.
-- Assumes nothing.
use Rattle.std.specs.Prelude.{None, Option}
use Prim.Native.Nat.{ℕ, suc, ◌+◌, ◌<◌, ◌≤◌}
use Prim.Native.Char.{code}
use mathlib.Core.Path.{◌≡◌, refl, sym, ap, ◌∙◌}
use mathlib.Core.Bool.{Bool, true, false, cond, not}
use mathlib.Core.List.{List, [], ◌∷◌}
use native.Mathlib.Omega.{arith}
use lib.Dec.{eqb, ltb}
use lib.ListN.{length, drop, get_or, drop_of_length-le, length-drop}
use lib.Seq.{drop-drop, get_or-drop}
use native.Mathlib.Nat.{add-zero}
use borrow.Author.Tests.{lt-ltb, le-ltb, ne_eqb}
use Rattle.base.specs.Breaks.{is_break}
use Rattle.base.proofs.Lists.{drop_next}
use Rattle.text.specs.First.{first_in, place}
use Rattle.text.proofs.First.{first_at_lem, first_from_lem}
use Rattle.text.specs.First.{skipped}
use Rattle.mending.specs.Extents.{between, inside, skips, closes, mark, Piece, piece, apart, onto, cut, pieces, extent_of, extent}
use Rattle.mending.proofs.Told.{Tight, tight}
use Rattle.mending.specs.declared.Extent.{Extent}

-- a command that began at p, of which what stands from `at` on is left
abbrev past : ℕ → ℕ → List Piece → Option Extent
past p at [] = None
past p at (piece gap c ∷ ps) = extent p (at + length c)

past_onto : (p at b : ℕ) (ps : List Piece) → past p at (onto b ps) ≡ past p (at + 1) ps
unfolding onto
past_onto p at b [] = refl
past_onto p at b (piece gap c ∷ ps) = let e : at + suc (length c) ≡ at + 1 + length c = omega arith in ap (extent p) e

-- it ends after the first m
past_inside : (m p : ℕ) (s : List ℕ) (at : ℕ) →
    past p at (cut (inside m) s) ≡ cond (ltb (first_in (λ b. eqb b m) s at) (at + length s)) (extent p (first_in (λ b. eqb b m) s at + 1)) None
unfolding cut skips closes mark first_in
past_inside m p [] at = let e = le-ltb at (at + 0) (omega arith) in rw e
past_inside m p (b ∷ s) at = go (past_inside m p s (at + 1)) (eqb b m) refl
  where
    go : past p (at + 1) (cut (inside m) s) ≡ cond (ltb (first_in (λ b. eqb b m) s (at + 1)) (at + 1 + length s)) (extent p (first_in (λ b. eqb b m) s (at + 1) + 1)) None →
        (t : Bool) → eqb b m ≡ t →
        past p at (cut (inside m) (b ∷ s)) ≡ cond (ltb (first_in (λ b. eqb b m) (b ∷ s) at) (at + length (b ∷ s))) (extent p (first_in (λ b. eqb b m) (b ∷ s) at + 1)) None
    go ih true e = let l = lt-ltb at (at + suc (length s)) (omega arith) in rw (e, cut, first_in, l)
    go ih false e =
        let k : at + 1 + length s ≡ at + suc (length s) = omega arith in
        rw (e, cut, first_in, past_onto p at b (cut (inside m) s), ← k) ih

onto_extent : (p b : ℕ) (ps : List Piece) → Tight ps → extent_of p (onto b ps) ≡ past p (p + 1) ps
unfolding extent_of onto
onto_extent p b [] t = refl
onto_extent p b (piece [] c ∷ ps) t =
    let e : p + 0 ≡ p = omega arith in
    let f : p + 0 + suc (length c) ≡ p + 1 + length c = omega arith in
    λ i. extent (e i) (f i)
onto_extent p b (piece (x ∷ gap) c ∷ ps) t = absurd (let z : ◌≡◌ {A = ℕ} 0 1 = cc in omega arith)

apart_extent : (at b : ℕ) (ps : List Piece) → extent_of at (apart b ps) ≡ extent_of (at + 1) ps
unfolding extent_of apart
apart_extent at b [] = refl
apart_extent at b (piece gap c ∷ ps) =
    let e : at + suc (length gap) ≡ at + 1 + length gap = omega arith in
    λ i. extent (e i) (e i + length c)

module _ (file : List ℕ) where
  -- line ends are skipped
  leads : (s : List ℕ) (at : ℕ) → drop at file ≡ s →
      extent_of at (pieces s) ≡ extent_of (first_in (λ b. not (is_break b)) s at) (pieces (drop (first_in (λ b. not (is_break b)) s at) file))
  unfolding cut skips first_in
  leads [] at h = rw h
  leads (b ∷ s) at h = go (leads s (at + 1) (sym (drop-drop 1 at file) ∙ ap (drop 1) h)) (is_break b) refl
    where
      go : extent_of (at + 1) (pieces s) ≡ extent_of (first_in (λ b. not (is_break b)) s (at + 1)) (pieces (drop (first_in (λ b. not (is_break b)) s (at + 1)) file)) →
          (t : Bool) → is_break b ≡ t →
          extent_of at (pieces (b ∷ s)) ≡ extent_of (first_in (λ b. not (is_break b)) (b ∷ s) at) (pieces (drop (first_in (λ b. not (is_break b)) (b ∷ s) at) file))
      go ih true e = rw (e, first_in, cut) (apart_extent at b (pieces s) ∙ ih)
      go ih false e = rw (e, first_in) (rw h refl)

  -- and what stands after them is none
  unbroken : (s : List ℕ) (at : ℕ) → drop at file ≡ s → first_in (λ b. not (is_break b)) s at < at + length s →
      is_break (get_or file (first_in (λ b. not (is_break b)) s at) 0) ≡ false
  unfolding first_in
  unbroken [] at h l = absurd (let z : at < at + 0 = l in omega arith)
  unbroken (b ∷ s) at h l = go (unbroken s (at + 1) (sym (drop-drop 1 at file) ∙ ap (drop 1) h)) (is_break b) refl l
    where
      go : (first_in (λ b. not (is_break b)) s (at + 1) < at + 1 + length s → is_break (get_or file (first_in (λ b. not (is_break b)) s (at + 1)) 0) ≡ false) →
          (t : Bool) → is_break b ≡ t → first_in (λ b. not (is_break b)) (b ∷ s) at < at + length (b ∷ s) →
          is_break (get_or file (first_in (λ b. not (is_break b)) (b ∷ s) at) 0) ≡ false
      go ih true e l = rw (e, first_in) (ih (omega (arith, rw (e, first_in) at l)))
      go ih false e l = rw (e, first_in) (ap is_break (ap (λ (k : ℕ). get_or file k 0) (sym (add-zero at)) ∙ sym (get_or-drop at file 0 0) ∙ ap (λ (x : List ℕ). get_or x 0 0) h) ∙ e)

  -- the next complete command from `at` on, by places
  module _ (at : ℕ) where
    abbrev start : ℕ
    start = skipped file at

    skipped_extent : extent_of at (pieces (drop at file)) ≡ extent_of start (pieces (drop start file))
    skipped_extent = leads (drop at file) at refl

    pub none_left : length file ≤ start → extent_of at (pieces (drop at file)) ≡ None
    unfolding cut extent_of
    none_left h = skipped_extent ∙ rw (drop_of_length-le file h)

    module _ (h : start < length file) where
      begins_unbroken : is_break (get_or file start 0) ≡ false
      begins_unbroken = unbroken (drop at file) at refl (omega (arith, length-drop at file, first_from_lem (λ b. not (is_break b)) file at))

      -- the command that begins there, after its first byte
      behind_first : {m : ℕ} → closes between (get_or file start 0) ≡ false → mark between (get_or file start 0) ≡ m →
          extent_of at (pieces (drop at file)) ≡ cond (ltb (place m file (start + 1)) (length file)) (extent start (place m file (start + 1) + 1)) None
      unfolding cut skips
      behind_first {m} e f =
          let n : start + 1 + length (drop (start + 1) file) ≡ length file = omega (arith, length-drop (start + 1) file) in
          skipped_extent
          ∙ rw (drop_next file start h, cut, begins_unbroken, e, f) (onto_extent start (get_or file start 0) (cut (inside m) (drop (start + 1) file)) (tight m (drop (start + 1) file)))
          ∙ rw n at (past_inside m start (drop (start + 1) file) (start + 1))

      pub extended_extent : get_or file start 0 ≡ code "%" →
          extent_of at (pieces (drop at file)) ≡ cond (ltb (place (code "%") file (start + 1)) (length file)) (extent start (place (code "%") file (start + 1) + 1)) None
      unfolding closes mark
      extended_extent e = behind_first (rw e) (rw e)

      pub word_extent : (get_or file start 0 ≡ code "%" → ⊥) →
          extent_of at (pieces (drop at file)) ≡ cond (ltb (place (code "*") file start) (length file)) (extent start (place (code "*") file start + 1)) None
      unfolding closes mark cut skips extent_of
      word_extent e = go (eqb (get_or file start 0) (code "*")) refl
        where
          go : (t : Bool) → eqb (get_or file start 0) (code "*") ≡ t →
              extent_of at (pieces (drop at file)) ≡ cond (ltb (place (code "*") file start) (length file)) (extent start (place (code "*") file start + 1)) None
          go true f =
              let k : start + 0 ≡ start = omega arith in
              let found : place (code "*") file start ≡ start = first_at_lem (λ b. eqb b (code "*")) file start h f in
              let one : extent_of start (pieces (drop start file)) ≡ extent start (start + 1) = rw (drop_next file start h, cut, begins_unbroken, f, k) refl in
              skipped_extent ∙ one ∙ rw (found, lt-ltb start (length file) h) refl
          go false f =
              let later : place (code "*") file start ≡ place (code "*") file (start + 1) = first_at_lem (λ b. eqb b (code "*")) file start h f in
              rw later (behind_first f (rw (ne_eqb (get_or file start 0) (code "%") e)))

-- the same with the places that were found
module _ (file : List ℕ) (at : ℕ) {p : ℕ} (s : p ≡ skipped file at) where
  pub rest_found : length file ≤ p → None ≡ extent_of at (pieces (drop at file))
  rest_found h = sym (none_left file at (rw s at h))

  module _ (h : p < length file) {q : ℕ} where
    module _ (b : get_or file p 0 ≡ code "%") (f : q ≡ place (code "%") file (p + 1)) where
      extended : extent_of at (pieces (drop at file)) ≡ cond (ltb q (length file)) (extent p (q + 1)) None
      extended = rw (f, s) (extended_extent file at (rw s at h) (rw s at b))

      pub extended_found : q < length file → extent p (q + 1) ≡ extent_of at (pieces (drop at file))
      extended_found l = sym (extended ∙ rw (lt-ltb q (length file) l))

      pub extended_open : length file ≤ q → None ≡ extent_of at (pieces (drop at file))
      extended_open l = sym (extended ∙ rw (le-ltb q (length file) l))

    module _ (b : get_or file p 0 ≡ code "%" → ⊥) (f : q ≡ place (code "*") file p) where
      word : extent_of at (pieces (drop at file)) ≡ cond (ltb q (length file)) (extent p (q + 1)) None
      word = rw (f, s) (word_extent file at (rw s at h) (λ e. b (rw (← s) at e)))

      pub word_found : q < length file → extent p (q + 1) ≡ extent_of at (pieces (drop at file))
      word_found l = sym (word ∙ rw (lt-ltb q (length file) l))

      pub word_open : length file ≤ q → None ≡ extent_of at (pieces (drop at file))
      word_open l = sym (word ∙ rw (le-ltb q (length file) l))

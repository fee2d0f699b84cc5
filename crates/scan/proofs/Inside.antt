-- Inside a command: the bytes taken one by one end as `cut_by` says of its end and of its first bad byte.
-- Assumes nothing.
use Prim.Native.Nat.{ℕ, zero, suc, ◌+◌, ◌-◌, ◌<◌, ◌≤◌}
use mathlib.Core.Path.{◌≡◌, refl, ap, sym, ◌∙◌}
use mathlib.Core.Bool.{Bool, true, false, cond}
use mathlib.Core.List.{List, [], ◌∷◌}
use native.Mathlib.Omega.{arith}
use lib.Dec.{leb, eqb}
use lib.ListN.{length}
use borrow.Author.Tests.{eqb-true, lt-leb, eq-eqb, ne_eqb}
use Rattle.base.specs.And.{◌and◌}
use Rattle.text.specs.First.{first_in}
use Rattle.text.proofs.First.{in_from}
use Rattle.fields.specs.Parts.{is_field, part_after}
use Rattle.fields.specs.declared.Part.{Part}
use Rattle.fields.proofs.Ahead.{reaches, reach_here, reach_next, first_here, first_later}
use Rattle.fields.proofs.Macros.{no_macro, macro_none, macro_stays}
use Rattle.letters.specs.Table.{follow, nothing, lead_of, follows, is_whole, takes, fed, whole_of, letter_in}
use Rattle.letters.specs.Table as table
use Rattle.letters.proofs.Table.{within_low, lead_sound}
use Rattle.scan.specs.Fields.{is_new}
use Rattle.scan.specs.Permitted.{printable, permitted, letter_here, bad_in}
use Rattle.scan.specs.Scan.{end_of, ends, cut_by}
use Rattle.scan.specs.Ways.{kind_after, stand, moved, beyond, within, following, inside, step, ended, run}
use Rattle.scan.specs.declared.Kind.{Kind}
use Rattle.scan.specs.declared.Kind.TheVariants.{Word, Extended, Macro}
use Rattle.book.specs.declared.Book.{Book}
use Rattle.scan.specs.declared.Scan.{Scan}
use Rattle.scan.specs.declared.Stand.{Stand}
use Rattle.scan.specs.declared.Way.TheVariants.{Inside, Complete, Bad}
use Rattle.scan.proofs.Bad.{bad_goes, bad_letter, bad_here, bad_from}
use Rattle.scan.proofs.Cut.{cut_bad, cut_ended, cut_found}
use Rattle.scan.proofs.Run.{run_inside, run_complete, run_bad}

-- a byte from 80 up ends no command, is not from 32 to 126, and is no `*`
module _ (b : ℕ) (h : 0x80 ≤ b) where
  high_runs_on : (kind : Kind) → ends kind b ≡ false
  unfolding end_of
  high_runs_on Word = ne_eqb b 42 (λ e. omega arith)
  high_runs_on Extended = ne_eqb b 37 (λ e. omega arith)
  high_runs_on Macro = ne_eqb b 37 (λ e. omega arith)

  high_unprintable : printable b ≡ false
  unfolding printable ◌and◌
  high_unprintable = go (leb 32 b) refl
    where
      go : (t : Bool) → leb 32 b ≡ t → (leb 32 b and leb b 126) ≡ false
      go true e = rw e (lt-leb b 126 (omega arith))
      go false e = rw e

-- a letter that is begun is not whole
unfinished : (left : ℕ) → eqb (suc left) 0 ≡ false
unfinished left = ne_eqb (suc left) 0 (λ e. omega arith)

kind_stays : (kind : Kind) (part : Part) (b : ℕ) (s : List ℕ) → no_macro part (b ∷ s) ≡ true → kind_after kind part b ≡ kind
unfolding kind_after
kind_stays kind part b s e = rw (macro_none part b s e)

module _ (book : Book) (n place : ℕ) (kind : Kind) (field : ℕ → Bool) where
  abbrev cut : ℕ → ℕ → Scan
  cut end bad = cut_by kind n place end bad

  -- the field ahead is where the walk sees it
  abbrev pub Sees : Part → List ℕ → ℕ → Type 0
  Sees part s at = (i : ℕ) → at ≤ i → field i ≡ (is_new book.letters and reaches book part s at i)

  pub sees_on : (part : Part) (b : ℕ) (s : List ℕ) (at : ℕ) → Sees part (b ∷ s) at → Sees (part_after book part b) s (at + 1)
  sees_on part b s at w i h =
      let ne : eqb i at ≡ false = ne_eqb i at (λ e. omega arith) in
      w i (omega arith) ∙ ap (λ t. is_new book.letters and t) (reach_next book part b s at i ne)

  -- the outcome of the walk, a letter being begun where left is not 0
  abbrev pub Comes : Part → ℕ → ℕ → ℕ → ℕ → ℕ → List ℕ → ℕ → Type 0
  Comes part last low high left lead s at =
      run book n place (Inside (stand kind part last (follow low high left) lead)) s at
      ≡ cut (first_in (ends kind) s at) (cond (follows low high left s) (bad_in kind field last left s at) lead)

  pub record Ready (part : Part) (low left lead : ℕ) (s : List ℕ) (at : ℕ) : Type 0 where
    pub long : n ≡ at + length s
    pub high : 0 < left → 0x80 ≤ low
    pub behind : 0 < left → lead < at
    pub plain : no_macro part s ≡ true
    pub sees : Sees part s at

  at_end_lem : (part : Part) (last low high left lead at : ℕ) → Ready part low left lead [] at → Comes part last low high left lead [] at
  unfolding run ended follows first_in bad_in
  at_end_lem part last low high zero lead at r =
      let l : n ≤ at = omega (arith, r.long) in
      sym (cut_ended kind n place (omega arith) l)
  at_end_lem part last low high (suc left) lead at r = rw (unfinished left) (sym (cut_bad kind n place (r.behind (omega arith))))

  -- one byte, and the walk from the next one on
  module _ (part : Part) (last b : ℕ) (s : List ℕ) (at : ℕ) where
    abbrev Rest : Type 0
    Rest = (last low high left lead : ℕ) → Ready (part_after book part b) low left lead s (at + 1) → Comes (part_after book part b) last low high left lead s (at + 1)

    -- after a byte
    module _ {low left lead : ℕ} (r : Ready part low left lead (b ∷ s) at) where
      ready_on : (low left lead : ℕ) → (0 < left → 0x80 ≤ low) → (0 < left → lead < at + 1) → Ready (part_after book part b) low left lead s (at + 1)
      ready_on low left lead f g =
          record {
            long = omega (arith, r.long);
            high = f;
            behind = g;
            plain = macro_stays book part b s r.plain;
            sees = sees_on part b s at r.sees;
          }

    -- the last byte of a command that a letter is none of
    same_last : printable b ≡ false → cond (printable b) b last ≡ last
    same_last e = rw e

    -- a letter is begun
    module _ (low high left lead : ℕ) (r : Ready part low (suc left) lead (b ∷ s) at) (rest : Rest) where
      abbrev here : Stand
      here = stand kind part last (follow low high (suc left)) lead

      begun : (t : Bool) → table.within low high b ≡ t → Comes part last low high (suc left) lead (b ∷ s) at
      unfolding step inside following takes fed moved follows bad_in ◌and◌
      begun true e =
          let h : 0x80 ≤ low = r.high (omega arith) in
          let k = within_low low high b e in
          let up : 0x80 ≤ b = omega arith in
          let less : suc left - 1 ≡ left = omega arith in
          let goes : step book (Inside here) b at ≡ Inside (stand kind (part_after book part b) last (follow 0x80 0xBF left) lead) =
          rw (unfinished left, e, kind_stays kind part b s r.plain, high_unprintable b up, less) in
          run_inside book n place (Inside here) b s at goes
          ∙ rest last 0x80 0xBF left lead (ready_on r 0x80 left lead (λ _. omega arith) (λ _. omega (arith, r.behind (omega arith))))
          ∙ sym (rw (first_later (ends kind) b s at (high_runs_on b up kind), e))
      begun false e =
          let l : at ≤ first_in (ends kind) (b ∷ s) at = (in_from (ends kind) (b ∷ s) at).0 in
          let k : lead < at = r.behind (omega arith) in
          let stops : step book (Inside here) b at ≡ Bad lead = rw (unfinished left, e) in
          run_bad book n place (Inside here) b s at stops
          ∙ sym (rw e (cut_bad kind n place (omega arith)))

    -- no letter is begun
    module _ (low high lead : ℕ) (r : Ready part low 0 lead (b ∷ s) at) (rest : Rest) where
      abbrev idle : Stand
      idle = stand kind part last (follow low high 0) lead

      abbrev Goal : Type 0
      Goal = Comes part last low high 0 lead (b ∷ s) at

      complete : ends kind b ≡ true → Goal
      unfolding step inside within follows
      complete e =
          let l : at ≤ bad_in kind field last 0 (b ∷ s) at = bad_from kind field last 0 (b ∷ s) at in
          let k : at < n = omega (arith, r.long) in
          let ends_here : step book (Inside idle) b at ≡ Complete kind = rw e in
          run_complete book n place (Inside idle) b s at ends_here
          ∙ sym (rw (first_here (ends kind) b s at e) (cut_found kind n place l k))

      module _ (e : ends kind b ≡ false) where
        later : first_in (ends kind) (b ∷ s) at ≡ first_in (ends kind) s (at + 1)
        later = first_later (ends kind) b s at e

        ahead : at < first_in (ends kind) (b ∷ s) at
        ahead = let l = (in_from (ends kind) s (at + 1)).0 in rw later (omega arith)

        goes_on_lem : permitted kind last b ≡ true → Goal
        unfolding step inside within moved follows
        goes_on_lem p =
            let goes : step book (Inside idle) b at ≡ Inside (stand kind (part_after book part b) (cond (printable b) b last) nothing 0) =
            rw (e, p, kind_stays kind part b s r.plain) in
            run_inside book n place (Inside idle) b s at goes
            ∙ rest (cond (printable b) b last) 0 0 0 0 (ready_on r 0 0 0 (λ z. absurd (omega arith)) (λ z. absurd (omega arith)))
            ∙ sym (rw (later, bad_goes kind field last b s at p))

        module _ (p : permitted kind last b ≡ false) where
          stops : step book (Inside idle) b at ≡ Bad at → letter_here (field at) (b ∷ s) ≡ 0 → Goal
          unfolding follows
          stops g z =
              run_bad book n place (Inside idle) b s at g
              ∙ sym (rw (bad_here kind field last b s at p z) (cut_bad kind n place ahead))

          -- the byte begins no letter
          none : is_whole (lead_of b) ≡ true → Goal
          unfolding step inside within beyond letter_here letter_in whole_of
          none w = stops (rw (e, p, w)) (nothing_here (field at))
            where
              nothing_here : (t : Bool) → letter_here t (b ∷ s) ≡ 0
              nothing_here true = rw (eqb-true (lead_of b).left 0 w)
              nothing_here false = refl

          -- it stands in no field, or the rule lets none in
          field_here : field at ≡ (is_new book.letters and is_field part b)
          field_here = r.sees at (omega arith) ∙ ap (λ t. is_new book.letters and t) (reach_here book part b s at at (eq-eqb at at refl))

          shut : is_whole (lead_of b) ≡ false → (is_new book.letters and is_field part b) ≡ false → Goal
          unfolding step inside within beyond letter_here ◌and◌
          shut w f = stops (rw (e, p, w, f)) (rw (field_here ∙ f))

          -- it begins a letter
          opens : (left : ℕ) → (lead_of b).left ≡ suc left → (is_new book.letters and is_field part b) ≡ true → Goal
          unfolding step inside within beyond moved follows letter_here letter_in whole_of
          opens left w f =
              let some : 0 < (lead_of b).left = omega arith in
              let l = lead_sound b some in
              let plain : printable b ≡ false = high_unprintable b l.high in
              let may : field at ≡ true = field_here ∙ f in
              let goes : step book (Inside idle) b at ≡ Inside (stand kind (part_after book part b) last (lead_of b) at) =
              rw (e, p, w, unfinished left, f, kind_stays kind part b s r.plain, plain) in
              run_inside book n place (Inside idle) b s at goes
              ∙ rest last (lead_of b).low (lead_of b).high (lead_of b).left at (ready_on r (lead_of b).low (lead_of b).left at (λ _. l.low) (λ _. omega arith))
              ∙ sym (λ i. cut (later i) (by_follow (follows (lead_of b).low (lead_of b).high (lead_of b).left s) refl may i))
            where
              by_follow : (t : Bool) → follows (lead_of b).low (lead_of b).high (lead_of b).left s ≡ t → field at ≡ true →
                  bad_in kind field last 0 (b ∷ s) at ≡ cond (follows (lead_of b).low (lead_of b).high (lead_of b).left s) (bad_in kind field last (lead_of b).left s (at + 1)) at
              by_follow true g o =
                  bad_letter kind field last b s at p {left = suc left} (ap (λ (m : Bool). letter_here m (b ∷ s)) o ∙ (λ i. whole_of (w i) (g i)))
                  ∙ sym (λ i. cond (g i) (bad_in kind field last (w i) s (at + 1)) at)
              by_follow false g o =
                  bad_here kind field last b s at p (ap (λ (m : Bool). letter_here m (b ∷ s)) o ∙ (λ i. whole_of (w i) (g i)))
                  ∙ sym (λ i. cond (g i) (bad_in kind field last (w i) s (at + 1)) at)

      quiet : (t : Bool) → ends kind b ≡ t → (u : Bool) → permitted kind last b ≡ u → (left : ℕ) → (lead_of b).left ≡ left → (v : Bool) → (is_new book.letters and is_field part b) ≡ v → Goal
      quiet true e u p left w v f = complete e
      quiet false e true p left w v f = goes_on_lem e p
      quiet false e false p zero w v f = none e p (eq-eqb (lead_of b).left 0 w)
      quiet false e false p (suc left) w true f = opens e p left w f
      quiet false e false p (suc left) w false f = shut e p (ne_eqb (lead_of b).left 0 (λ z. omega arith)) f

  pub comes : (s : List ℕ) (at : ℕ) (part : Part) (last low high left lead : ℕ) → Ready part low left lead s at → Comes part last low high left lead s at
  comes [] at part last low high left lead r = at_end_lem part last low high left lead at r
  comes (b ∷ s) at part last low high zero lead r =
      quiet part last b s at low high lead r (comes s (at + 1) (part_after book part b))
      (ends kind b) refl (permitted kind last b) refl (lead_of b).left refl (is_new book.letters and is_field part b) refl
  comes (b ∷ s) at part last low high (suc left) lead r =
      begun part last b s at low high left lead r (comes s (at + 1) (part_after book part b)) (table.within low high b) refl

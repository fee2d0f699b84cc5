-- The pass over a file's complete commands: what is still to be written at a place, and what each command does to it.
-- Assumes nothing.
use Rattle.std.specs.Prelude.{None}
use Prim.Native.Nat.{ℕ, ◌+◌, ◌-◌, ◌*◌, ◌/◌, ◌<◌, ◌≤◌}
use mathlib.Core.Path.{◌≡◌, refl, sym, ap, ◌∙◌}
use mathlib.Core.Bool.{Bool, true, false, cond, false≢true}
use mathlib.Core.List.{List, [], ◌∷◌, ◌++◌, append_assoc, append-nil}
use native.Mathlib.Omega.{arith}
use lib.Dec.{leb, ltb}
use lib.ListN.{length, drop, replicate}
use lib.Seq.{slice, length-slice}
use borrow.Author.Tests.{lt-ltb, le-ltb}
use Rattle.book.specs.declared.Book.{Book}
use Rattle.base.specs.And.{◌and◌}
use Rattle.base.proofs.And.{and_l, and_r}
use Rattle.text.specs.Text.{text}
use Rattle.mending.specs.Extents.{pieces, closing, extent_of}
use Rattle.mending.proofs.Found.{Cuts, none_cut}
use Rattle.mending.specs.Changes.{Change, drop_repeat, add_end, drop_tail, drop_after_end, first_of, repeats, follows, changes_from, changes}
use Rattle.mending.specs.Mended.{words_of, words, report, file_fits, report_fits, written_of, Fills}
use Rattle.mending.specs.Rebuilt.{mended}
use Rattle.mending.specs.Steps.{holds, laid, Noted, Finished}
use Rattle.mending.specs.declared.Tally.{Tally}
use Rattle.mending.specs.declared.Written.{Written}
use Rattle.mending.specs.declared.Written.TheVariants.{Both, File, Nothing}
use Rattle.mending.proofs.Noting.{Tells, tells_short, tells_goes}
use Rattle.mending.proofs.Kept.{kept_from, mended_kept, slices_join, slice_rest}
use Rattle.mending.proofs.Laying.{laid_long}
use Rattle.mending.proofs.Part.{Part, part_starts, part_short, part_goes, part_whole, part_fits, part_written}

-- the report's words are two a change
words_size : (cs : List Change) → length (words cs) ≡ 2 * length cs
unfolding words words_of
words_size [] = refl
words_size (drop_repeat at ∷ cs) = let ih = words_size cs in omega arith
words_size (add_end at ∷ cs) = let ih = words_size cs in omega arith
words_size (drop_tail at ∷ cs) = let ih = words_size cs in omega arith
words_size (drop_after_end at ∷ cs) = let ih = words_size cs in omega arith

-- what is still to be kept, and noted, where a command or none was found
module _ (book : Book) (file fs mo : List ℕ) (at : ℕ) where
  abbrev pub bytes_left : List ℕ
  bytes_left = kept_from book file fs mo at (pieces (drop at file))

  abbrev pub changes_left : List Change
  changes_left = changes_from book file fs mo at (pieces (drop at file))

module _ (book : Book) (file fs mo : List ℕ) (at : ℕ) (e : None ≡ extent_of at (pieces (drop at file))) where
  bytes_end : bytes_left book file fs mo at ≡ text "M02*"
  unfolding kept_from
  bytes_end = rw (none_cut at (pieces (drop at file)) e)

  changes_end : changes_left book file fs mo at ≡ add_end at ∷ cond (ltb at (length file)) (drop_tail at ∷ []) []
  unfolding changes_from
  changes_end = rw (none_cut at (pieces (drop at file)) e)

module _ (book : Book) (file fs mo : List ℕ) (at start next : ℕ) (k : Cuts file at start next) where
  module _ (p : closing book (slice start next file) ≡ true) where
    bytes_closed : bytes_left book file fs mo at ≡ slice at next file ++ cond (follows (drop next file)) [] (drop next file)
    unfolding kept_from
    bytes_closed =
        rw (k.cut_there, kept_from, p, k.next_so)
        (sym (append_assoc (slice at start file) (slice start next file) (cond (follows (drop next file)) [] (drop next file)))
        ∙ ap (λ (s : List ℕ). s ++ cond (follows (drop next file)) [] (drop next file)) (slices_join file at start next k.low (omega (arith, k.some))))

    changes_closed : changes_left book file fs mo at ≡ cond (follows (drop next file)) (drop_after_end next ∷ []) []
    unfolding changes_from
    changes_closed = rw (k.cut_there, changes_from, p, k.next_so) refl

  module _ (p : closing book (slice start next file) ≡ false) where
    module _ (q : repeats fs mo (slice start next file) ≡ true) where
      bytes_repeat : bytes_left book file fs mo at ≡ slice at start file ++ bytes_left book file fs mo next
      unfolding kept_from
      bytes_repeat = rw (k.cut_there, kept_from, p, q, k.next_so) refl

      changes_repeat : changes_left book file fs mo at ≡ drop_repeat start ∷ changes_left book file fs mo next
      unfolding changes_from
      changes_repeat = rw (k.cut_there, changes_from, p, q, k.next_so, k.start_so) refl

    module _ (q : repeats fs mo (slice start next file) ≡ false) where
      abbrev fs' : List ℕ
      fs' = first_of (text "%FS") fs (slice start next file)

      abbrev mo' : List ℕ
      mo' = first_of (text "%MO") mo (slice start next file)

      bytes_other : bytes_left book file fs mo at ≡ slice at next file ++ bytes_left book file fs' mo' next
      unfolding kept_from
      bytes_other =
          rw (k.cut_there, kept_from, p, q, k.next_so)
          (sym (append_assoc (slice at start file) (slice start next file) (bytes_left book file fs' mo' next))
          ∙ ap (λ (s : List ℕ). s ++ bytes_left book file fs' mo' next) (slices_join file at start next k.low (omega (arith, k.some))))

      changes_other : changes_left book file fs mo at ≡ changes_left book file fs' mo' next
      unfolding changes_from
      changes_other = rw (k.cut_there, changes_from, p, q, k.next_so) refl

-- the mended file fits or not, and the report
module _ (book : Book) (file : List ℕ) (bytes room : ℕ) where
  fills_nothing : {out noted : List ℕ} → leb (length (mended book file)) bytes ≡ false → length out ≡ bytes → length noted ≡ room → Fills book file bytes room Nothing out noted
  unfolding written_of file_fits
  fills_nothing e l m = record {
    answer = rw e;
    file_left = λ f. absurd (false≢true (sym e ∙ f));
    report_left = λ f. absurd (false≢true (sym e ∙ f));
    as_long = l;
    as_many = m;
  }

  fills_file : {out noted : List ℕ} {n : ℕ} → Part (mended book file) bytes out n [] → leb (length (report book file)) room ≡ false → length noted ≡ room →
      Fills book file bytes room (File n) out noted
  unfolding written_of file_fits report_fits
  fills_file {n} p e m = record {
    answer = rw (part_fits p, e, part_whole p) refl;
    file_left = λ _. part_written p;
    report_left = λ _ f. absurd (false≢true (sym e ∙ f));
    as_long = p.long;
    as_many = m;
  }

  fills_both : {out noted : List ℕ} {n k : ℕ} → Part (mended book file) bytes out n [] → Part (report book file) room noted k [] →
      Fills book file bytes room (Both n (k / 2)) out noted
  unfolding written_of file_fits report_fits report
  fills_both {n} {k} p q =
      let h = words_size (changes book file) in
      let e : length (changes book file) ≡ k / 2 = omega (arith, part_whole q) in
      record {
        answer = rw (part_fits p, part_fits q, part_whole p, e) refl;
        file_left = λ _. part_written p;
        report_left = λ _ _. part_written q;
        as_long = p.long;
        as_many = q.long;
      }

-- at a place between two commands
pub record Running (book : Book) (file : List ℕ) (bytes room : ℕ) (fs mo : List ℕ) (at : ℕ) (out : List ℕ) (n : ℕ) (noted : List ℕ) (t : Tally) : Type 0 where
  pub inside : at ≤ length file
  pub out_part : Part (mended book file) bytes out n (bytes_left book file fs mo at)
  pub noted_part : Tells (report book file) room noted t (words (changes_left book file fs mo at))

pub running_starts : (book : Book) (file out noted : List ℕ) → out ≡ replicate (length out) 0 → noted ≡ replicate (length noted) 0 →
    Running book file (length out) (length noted) [] [] 0 out 0 noted (record { k = 0; reported = true })
unfolding report changes
running_starts book file out noted e f = record {
  inside = omega arith;
  out_part = rw (sym (mended_kept book file)) (part_starts (mended book file) out e);
  noted_part = record {
    part = λ _. part_starts (words (changes_from book file [] [] 0 (pieces file))) noted f;
    short = λ h. absurd (false≢true (sym h));
    many = refl;
  };
}

module _ {book : Book} {file : List ℕ} {bytes room : ℕ} {fs mo : List ℕ} {at : ℕ} {out : List ℕ} {n : ℕ} {noted : List ℕ} {t : Tally}
    (g : Running book file bytes room fs mo at out n noted t) where
  -- where the two lists that are left are these
  finishes : (s w : List ℕ) → bytes_left book file fs mo at ≡ s → words (changes_left book file fs mo at) ≡ w →
      {r : Written} {out' noted' : List ℕ} → Finished out n s noted t w r out' noted' → Fills book file bytes room r out' noted'
  finishes s w e f {r} {out'} {noted'} d = go (holds out n s) refl (t.reported and holds noted t.k w) refl
    where
      e' : bytes_left book file fs mo at ≡ s ++ []
      e' = e ∙ sym (append-nil s)

      f' : words (changes_left book file fs mo at) ≡ w ++ []
      f' = f ∙ sym (append-nil w)

      many : length noted' ≡ room
      many = d.as_many ∙ g.noted_part.many

      go : (b : Bool) → holds out n s ≡ b → (u : Bool) → (t.reported and holds noted t.k w) ≡ u → Fills book file bytes room r out' noted'
      go true p true q =
          rw (d.answer, p, q)
          (fills_both book file bytes room (part_goes g.out_part s [] e' p (d.bytes p)) (part_goes (g.noted_part.part (and_l _ _ q)) w [] f' (and_r _ _ q) (d.words p q)))
      go true p false q =
          rw (d.answer, p, q) (fills_file book file bytes room (part_goes g.out_part s [] e' p (d.bytes p)) (tells_short g.noted_part w [] f' q) many)
      go false p u q =
          rw (d.answer, p) (fills_nothing book file bytes room (part_short g.out_part s [] e' p) (d.as_long ∙ g.out_part.long) many)

  -- M02 is missing
  pub ends_tail : None ≡ extent_of at (pieces (drop at file)) → at < length file →
      {r : Written} {out' noted' : List ℕ} → Finished out n (text "M02*") noted t (2 ∷ at ∷ 3 ∷ at ∷ []) r out' noted' → Fills book file bytes room r out' noted'
  unfolding words words_of
  ends_tail e h d =
      finishes (text "M02*") (2 ∷ at ∷ 3 ∷ at ∷ []) (bytes_end book file fs mo at e) (rw (changes_end book file fs mo at e, lt-ltb at (length file) h) refl) d

  pub ends_there : None ≡ extent_of at (pieces (drop at file)) → length file ≤ at →
      {r : Written} {out' noted' : List ℕ} → Finished out n (text "M02*") noted t (2 ∷ at ∷ []) r out' noted' → Fills book file bytes room r out' noted'
  unfolding words words_of
  ends_there e h d =
      finishes (text "M02*") (2 ∷ at ∷ []) (bytes_end book file fs mo at e) (rw (changes_end book file fs mo at e, le-ltb at (length file) h) refl) d

  module _ {start next : ℕ} (c : Cuts file at start next) where
    -- M02 stands there
    module _ (p : closing book (slice start next file) ≡ true) where
      pub closes_followed : follows (drop next file) ≡ true → {s : List ℕ} → s ≡ slice at next file →
          {r : Written} {out' noted' : List ℕ} → Finished out n s noted t (4 ∷ next ∷ []) r out' noted' → Fills book file bytes room r out' noted'
      unfolding words words_of
      closes_followed h {s} e d =
          finishes s (4 ∷ next ∷ [])
          (bytes_closed book file fs mo at start next c p ∙ rw (h, e) (append-nil (slice at next file)))
          (rw (changes_closed book file fs mo at start next c p, h) refl) d

      pub closes_clean : follows (drop next file) ≡ false → {s : List ℕ} → s ≡ drop at file →
          {r : Written} {out' noted' : List ℕ} → Finished out n s noted t [] r out' noted' → Fills book file bytes room r out' noted'
      unfolding words
      closes_clean h {s} e d =
          finishes s []
          (bytes_closed book file fs mo at start next c p ∙ rw (h, e) (slice_rest file at next (omega (arith, c.low, c.some))))
          (rw (changes_closed book file fs mo at start next c p, h) refl) d

    module _ (p : closing book (slice start next file) ≡ false) where
      -- a repeat
      module _ (q : repeats fs mo (slice start next file) ≡ true) {s : List ℕ} (e : s ≡ slice at start file) {out' : List ℕ} (f : out' ≡ laid out n s) where
        bytes_so : bytes_left book file fs mo at ≡ s ++ bytes_left book file fs mo next
        bytes_so = rw e (bytes_repeat book file fs mo at start next c p q)

        words_so : words (changes_left book file fs mo at) ≡ (1 ∷ start ∷ []) ++ words (changes_left book file fs mo next)
        unfolding words words_of
        words_so = rw (changes_repeat book file fs mo at start next c p q) refl

        bytes_go : true ≡ holds out n s → Part (mended book file) bytes out' (n + (start - at)) (bytes_left book file fs mo next)
        bytes_go h =
            let z : length s ≡ start - at = ap length e ∙ length-slice at start file (omega (arith, c.some, c.inside)) in
            rw z at (part_goes g.out_part s (bytes_left book file fs mo next) bytes_so (sym h) f)

        pub drops_fit : true ≡ holds out n s → n + (start - at) ≤ bytes
        drops_fit h = (bytes_go h).inside

        pub drops : true ≡ holds out n s → {r : Tally} {noted' : List ℕ} → Noted noted t (1 ∷ start ∷ []) r noted' →
            Running book file bytes room fs mo next out' (n + (start - at)) noted' r
        drops h d = record {
          inside = c.inside;
          out_part = bytes_go h;
          noted_part = tells_goes g.noted_part (1 ∷ start ∷ []) (words (changes_left book file fs mo next)) words_so d;
        }

        pub drops_short : false ≡ holds out n s → Fills book file bytes room Nothing out' noted
        drops_short h =
            fills_nothing book file bytes room
            (part_short g.out_part s (bytes_left book file fs mo next) bytes_so (sym h))
            (ap length f ∙ laid_long out n s ∙ g.out_part.long) g.noted_part.many

      -- another command
      module _ (q : repeats fs mo (slice start next file) ≡ false) {s : List ℕ} (e : s ≡ slice at next file) {out' : List ℕ} (f : out' ≡ laid out n s) where
        abbrev fs'' : List ℕ
        fs'' = first_of (text "%FS") fs (slice start next file)

        abbrev mo'' : List ℕ
        mo'' = first_of (text "%MO") mo (slice start next file)

        others_so : bytes_left book file fs mo at ≡ s ++ bytes_left book file fs'' mo'' next
        others_so = rw e (bytes_other book file fs mo at start next c p q)

        others_go : true ≡ holds out n s → Part (mended book file) bytes out' (n + (next - at)) (bytes_left book file fs'' mo'' next)
        others_go h =
            let z : length s ≡ next - at = ap length e ∙ length-slice at next file c.inside in
            rw z at (part_goes g.out_part s (bytes_left book file fs'' mo'' next) others_so (sym h) f)

        pub keeps_fit : true ≡ holds out n s → n + (next - at) ≤ bytes
        keeps_fit h = (others_go h).inside

        pub keeps : true ≡ holds out n s →
            {fs' mo' : List ℕ} → fs' ≡ first_of (text "%FS") fs (slice start next file) → mo' ≡ first_of (text "%MO") mo (slice start next file) →
            Running book file bytes room fs' mo' next out' (n + (next - at)) noted t
        keeps h {fs'} {mo'} x y =
            rw (x, y) (record {
              inside = c.inside;
              out_part = others_go h;
              noted_part = rw (changes_other book file fs mo at start next c p q) at g.noted_part;
            })

        pub keeps_short : false ≡ holds out n s → Fills book file bytes room Nothing out' noted
        keeps_short h =
            fills_nothing book file bytes room
            (part_short g.out_part s (bytes_left book file fs'' mo'' next) others_so (sym h))
            (ap length f ∙ laid_long out n s ∙ g.out_part.long) g.noted_part.many

-- The two rules of letters: what the old rule cuts as a command, the new rule cuts as the same command; and a file of bytes below 127
-- is cut alike under both (02, request [8]).
-- Assumes nothing.
use Rattle.base.specs.And.{◌and◌}
use Prim.Native.Nat.{ℕ, suc, ◌+◌, ◌<◌, ◌≤◌}
use mathlib.Core.Path.{◌≡◌, refl, ap, sym, ◌∙◌}
use mathlib.Core.Bool.{Bool, true, false, cond}
use mathlib.Core.List.{List, [], ◌∷◌}
use native.Mathlib.Omega.{arith}
use lib.Dec.{ltb}
use lib.ListN.{length, drop, get_or}
use lib.Seq.{get_or-drop}
use borrow.Author.Tests.{ltb-false, le-ltb}
use Rattle.text.specs.First.{first_in, skipped}
use Rattle.book.specs.Books.{under}
use Rattle.book.specs.declared.Book.{Book}
use Rattle.book.specs.declared.Letters.TheVariants.{Old, New}
use Rattle.letters.specs.Table.{whole_of, letter_in}
use Rattle.letters.proofs.Table.{lead_none}
use Rattle.scan.specs.Fields.{in_field}
use Rattle.scan.specs.Permitted.{printable, permitted, letter_here, bad_in}
use Rattle.scan.specs.Scan.{kind_of, text_from, ends, cut_by, command_in, next_command}
use Rattle.scan.specs.declared.Kind.{Kind}
use Rattle.scan.specs.declared.Scan.{Scan}
use Rattle.scan.specs.declared.Scan.TheVariants.{Command, BadByte, Ended}
use Rattle.scan.proofs.Bad.{bad_goes, bad_here, bad_from}

-- a byte below 128 begins no letter
low_none : (b : ℕ) (s : List ℕ) → b < 0x80 → (t : Bool) → letter_here t (b ∷ s) ≡ 0
unfolding letter_here letter_in whole_of
low_none b s h true = rw (lead_none b h)
low_none b s h false = refl

-- a byte that is bad where no letter may stand is not after one that is bad where letters may
module _ (kind : Kind) (none field : ℕ → Bool) (shut : (i : ℕ) → none i ≡ false) where
  not_here : (s : List ℕ) (at : ℕ) → letter_here (none at) s ≡ 0
  unfolding letter_here
  not_here s at = rw (shut at)

  bad_sooner : (last : ℕ) (s : List ℕ) (at : ℕ) → bad_in kind none last 0 s at ≤ bad_in kind field last 0 s at
  unfolding bad_in
  bad_sooner last [] at = omega arith
  bad_sooner last (b ∷ s) at = go (permitted kind last b) refl (bad_sooner (cond (printable b) b last) s (at + 1))
    where
      go : (t : Bool) → permitted kind last b ≡ t → bad_in kind none (cond (printable b) b last) 0 s (at + 1) ≤ bad_in kind field (cond (printable b) b last) 0 s (at + 1) →
          bad_in kind none last 0 (b ∷ s) at ≤ bad_in kind field last 0 (b ∷ s) at
      go true p rest = rw (bad_goes kind none last b s at p, bad_goes kind field last b s at p) rest
      go false p rest = rw (bad_here kind none last b s at p (not_here (b ∷ s) at)) (bad_from kind field last 0 (b ∷ s) at)

  -- bytes below 128 begin no letter, wherever letters may stand
  bad_alike : (last : ℕ) (s : List ℕ) (at : ℕ) → ((i : ℕ) → get_or s i 0 < 0x80) → bad_in kind none last 0 s at ≡ bad_in kind field last 0 s at
  unfolding bad_in
  bad_alike last [] at low = refl
  bad_alike last (b ∷ s) at low = go (permitted kind last b) refl (bad_alike (cond (printable b) b last) s (at + 1) (λ i. low (suc i)))
    where
      go : (t : Bool) → permitted kind last b ≡ t → bad_in kind none (cond (printable b) b last) 0 s (at + 1) ≡ bad_in kind field (cond (printable b) b last) 0 s (at + 1) →
          bad_in kind none last 0 (b ∷ s) at ≡ bad_in kind field last 0 (b ∷ s) at
      go true p rest = rw (bad_goes kind none last b s at p, bad_goes kind field last b s at p) rest
      go false p rest = rw (bad_here kind none last b s at p (low_none b s (low 0) (none at)), bad_here kind field last b s at p (low_none b s (low 0) (field at)))

-- under the old rule no letter may stand anywhere
old_shut : (book : Book) (s : List ℕ) (at i : ℕ) → in_field (under Old book) s at i ≡ false
unfolding in_field ◌and◌
old_shut book s at i = refl

-- an answer that is no 2 stays where the first bad byte is later
cut_kept : (kind : Kind) (n place end bad later : ℕ) → bad ≤ later → ltb bad end ≡ false → cut_by kind n place end later ≡ cut_by kind n place end bad
unfolding cut_by
cut_kept kind n place end bad later h e =
    let l = ltb-false bad end e in
    rw (e, le-ltb later end (omega arith))

cut_bad_byte : (kind : Kind) (n place end bad : ℕ) → ltb bad end ≡ true → cut_by kind n place end bad ≡ BadByte bad
unfolding cut_by
cut_bad_byte kind n place end bad e = rw e

-- the command that these bytes begin with
module _ (book : Book) (n : ℕ) (s : List ℕ) (place : ℕ) where
  abbrev kind : Kind
  kind = kind_of s

  abbrev from : ℕ
  from = text_from kind place

  abbrev text : List ℕ
  text = drop (text_from kind 0) s

  abbrev old : ℕ
  old = bad_in kind (in_field (under Old book) s place) 0 0 text from

  -- where the old rule gives no 2, both give the same
  in_kept : ((bad : ℕ) → command_in (under Old book) n s place ≡ BadByte bad → ⊥) → command_in (under New book) n s place ≡ command_in (under Old book) n s place
  unfolding command_in
  in_kept h = go (ltb old (first_in (ends kind) text from)) refl
    where
      go : (t : Bool) → ltb old (first_in (ends kind) text from) ≡ t → command_in (under New book) n s place ≡ command_in (under Old book) n s place
      go true e = absurd (h old (cut_bad_byte kind n place (first_in (ends kind) text from) old e))
      go false e =
          cut_kept kind n place (first_in (ends kind) text from) old (bad_in kind (in_field (under New book) s place) 0 0 text from)
          (bad_sooner kind (in_field (under Old book) s place) (in_field (under New book) s place) (old_shut book s place) 0 text from) e

  in_alike : ((i : ℕ) → get_or s i 0 < 0x80) → command_in (under Old book) n s place ≡ command_in (under New book) n s place
  unfolding command_in
  in_alike low =
      ap (cut_by kind n place (first_in (ends kind) text from))
      (bad_alike kind (in_field (under Old book) s place) (in_field (under New book) s place) (old_shut book s place) 0 text from
      (λ i. rw (get_or-drop (text_from kind 0) s i 0) (low (text_from kind 0 + i))))

module _ (book : Book) (file : List ℕ) (at : ℕ) where
  no_bad : {r : Scan} → next_command (under Old book) file at ≡ r → ((bad : ℕ) → r ≡ BadByte bad → ⊥) → next_command (under New book) file at ≡ r
  unfolding next_command
  no_bad e h = in_kept book (length file) (drop (skipped file at) file) (skipped file at) (λ bad q. h bad (sym e ∙ q)) ∙ e

  -- a command, and the end of the file
  pub kept : {kind : Kind} {place from end next : ℕ} → next_command (under Old book) file at ≡ Command kind place from end next → next_command (under New book) file at ≡ Command kind place from end next
  kept e = no_bad e (λ bad q. let z : ◌≡◌ {A = ℕ} 0 1 = cc in omega arith)

  pub kept_end : {place : ℕ} → next_command (under Old book) file at ≡ Ended place → next_command (under New book) file at ≡ Ended place
  kept_end e = no_bad e (λ bad q. let z : ◌≡◌ {A = ℕ} 0 1 = cc in omega arith)

  -- a file of bytes below 127
  pub alike : ((i : ℕ) → get_or file i 0 < 127) → next_command (under Old book) file at ≡ next_command (under New book) file at
  unfolding next_command
  alike low =
      in_alike book (length file) (drop (skipped file at) file) (skipped file at)
      (λ i. rw (get_or-drop (skipped file at) file i 0) (let l = low (skipped file at + i) in omega arith))

-- The commands of a file one by one: from where each was looked for, what its text says by the format of the FS before it, and
-- where the fault after them stands. By induction over the turns of `commands_from`.
-- Assumes nothing.
use Prim.Native.Nat.{ℕ, zero, suc, ◌+◌, ◌-◌, ◌≤◌, ◌<◌}
use mathlib.Core.Path.{◌≡◌, refl, sym, ap, ◌∙◌, subst}
use mathlib.Core.Bool.{Bool, true, false, cond, not, false≢true}
use mathlib.Core.List.{List, [], ◌∷◌, ◌++◌}
use mathlib.Core.Logic.{◌⊎◌, inl, inr, ⊎_elim}
use native.Mathlib.Omega.{arith}
use lib.Dec.{ltb, leb}
use lib.ListN.{length, get_or, drop, length-drop}
use lib.Seq.{slice, get_or-drop}
use borrow.Author.Tests.{ltb-true, leb-false}
use Rattle.book.specs.declared.Book.{Book}
use Rattle.base.specs.Or.{◌or◌}
use Rattle.base.specs.Breaks.{is_break}
use Rattle.text.specs.First.{first_in, skipped}
use Rattle.text.proofs.First.{in_from, first_to}
use Rattle.scan.specs.Fields.{in_field}
use Rattle.scan.specs.Permitted.{printable, may_break, permitted, letter_here, bad_in, fits}
use Rattle.scan.specs.Scan.{kind_of, text_from, ends, cut_by, command_in, next_command}
use Rattle.scan.specs.Tail.{tail_of}
use Rattle.scan.specs.declared.Kind.{Kind}
use Rattle.scan.specs.declared.Kind.TheVariants as kind
use Rattle.scan.specs.declared.Scan.{Scan}
use Rattle.scan.specs.declared.Scan.TheVariants as scan
use Rattle.scan.proofs.Bad.{bad_from}
use Rattle.scan.proofs.Within.{Within, next_within}
use Rattle.formats.specs.Format.{no_format}
use Rattle.formats.specs.declared.Format.{Format}
use Rattle.command.specs.Flaws.{flaw_number}
use Rattle.command.specs.declared.Flaw.{Flaw}
use Rattle.command.specs.declared.Flaw.TheVariants as flaw
use Rattle.command.specs.declared.Setting.{Setting}
use Rattle.command.specs.declared.Setting.TheVariants as setting
use Rattle.command.specs.declared.Command.{Command}
use Rattle.command.specs.declared.Command.TheVariants as command
use Rattle.recognise.specs.Commands.{command_of}
use Rattle.sequence.specs.Leads.{lead_of_flaw, lead_of_setting, lead_of}
use Rattle.sequence.specs.Turns.{refusal, led, turned, turn_of, tail_fault}
use Rattle.sequence.specs.Commands.{Sequence, commands_from, commands_of}
use Rattle.sequence.specs.declared.Lead.{Lead}
use Rattle.sequence.specs.declared.Lead.TheVariants as lead
use Rattle.sequence.specs.declared.Placed.{Placed}
use Rattle.sequence.specs.declared.Refusal.{Refusal}
use Rattle.sequence.specs.declared.Turn.{Turn}
use Rattle.sequence.specs.declared.Turn.TheVariants as turn
use Rattle.law_bounds.proofs.Tables.{neither}
use Rattle.law_kept.specs.Places.{Looked, start, behind, FirstByte, Stands}

-- a command, looked for in the format f
pub record Cut (book : Book) (file : List ℕ) (f : Format) (c : Placed) : Type 0 where
  pub at : ℕ
  pub looked : Looked book file at
  pub kind : Kind
  pub next : ℕ
  pub found : next_command book file at ≡ scan.Command kind c.place c.from c.end next
  pub says : c.command ≡ command_of book f kind (slice c.from c.end file)
  pub inside : c.place < length file

-- FS carries its format on
abbrev pub carried : Format → Lead → Format
carried f (lead.Format g) = g
carried f (lead.Broken number) = f
carried f lead.Last = f
carried f lead.Other = f

abbrev pub AllCut : Book → List ℕ → Format → List Placed → Type 0
AllCut book file f [] = Unit
AllCut book file f (c ∷ cs) = Cut book file f c × AllCut book file (carried f (lead_of c.command)) cs

pub first_byte : {book : Book} {file : List ℕ} {f : Format} {c : Placed} → Cut book file f c → FirstByte book file c.place
first_byte k = record { at = k.at; looked = k.looked; kind = k.kind; from = _; end = _; next = k.next; found = k.found; inside = k.inside }

-- each number at its own place
abbrev Fault : Book → List ℕ → Refusal → Type 0
Fault book file f = (f.number ≡ 0) ⊎ Stands book file f.number f.place

stands_one : (book : Book) (file : List ℕ) → Stands book file 1 0
stands_one book file = record {
  one = λ e. refl;
  two = λ e. absurd (omega arith);
  three = λ e. absurd (omega arith);
  eighteen = λ e. absurd (omega arith);
  command = λ a b c d. absurd (a refl);
}

stands_two : {book : Book} {file : List ℕ} {p : ℕ} → p < length file → printable (get_or file p 0) ≡ false → Stands book file 2 p
stands_two l q = record {
  one = λ e. absurd (omega arith);
  two = λ e. (l, q);
  three = λ e. absurd (omega arith);
  eighteen = λ e. absurd (omega arith);
  command = λ a b c d. absurd (b refl);
}

stands_three : {book : Book} {file : List ℕ} {p : ℕ} → p ≡ length file → Stands book file 3 p
stands_three q = record {
  one = λ e. absurd (omega arith);
  two = λ e. absurd (omega arith);
  three = λ e. q;
  eighteen = λ e. absurd (omega arith);
  command = λ a b c d. absurd (c refl);
}

-- 4 and 30 stand at their commands
abbrev Flawed : Lead → Type 0
Flawed (lead.Broken number) = (number ≡ 4) ⊎ (number ≡ 30)
Flawed lead.Last = Unit
Flawed (lead.Format g) = Unit
Flawed lead.Other = Unit

flaw_lead : (f : Flaw) → Flawed (lead_of_flaw f)
unfolding lead_of_flaw flaw_number
flaw_lead flaw.NotForm = inl refl
flaw_lead flaw.Unread = inr refl
flaw_lead flaw.TooLong = tt

setting_lead : (x : Setting) → Flawed (lead_of_setting x)
unfolding lead_of_setting
setting_lead setting.Linear = tt
setting_lead setting.Clockwise = tt
setting_lead setting.Counterclockwise = tt
setting_lead setting.SingleQuadrant = tt
setting_lead setting.MultiQuadrant = tt
setting_lead setting.RegionStart = tt
setting_lead setting.RegionEnd = tt
setting_lead (setting.Format f) = tt
setting_lead setting.Absolute = tt
setting_lead setting.Incremental = tt
setting_lead setting.Millimetres = tt
setting_lead setting.Inches = tt
setting_lead setting.CodedMillimetres = tt
setting_lead setting.CodedInches = tt
setting_lead setting.Halt = tt
setting_lead setting.Dark = tt
setting_lead setting.Clear = tt
setting_lead (setting.Mirror x y) = tt
setting_lead (setting.Rotation a rounded) = tt
setting_lead (setting.Scale a rounded) = tt

command_lead : (c : Command) → Flawed (lead_of c)
unfolding lead_of
command_lead (command.Broken f) = flaw_lead f
command_lead command.Note = tt
command_lead command.End = tt
command_lead (command.Set x) = setting_lead x
command_lead (command.Operate o) = tt
command_lead (command.Coded code o) = tt
command_lead (command.Select n) = tt
command_lead (command.Define d) = tt
command_lead (command.Contain b) = tt
command_lead (command.Attribute d) = tt

stands_flaw : {book : Book} {file : List ℕ} {n p : ℕ} → (n ≡ 4) ⊎ (n ≡ 30) → FirstByte book file p → Stands book file n p
stands_flaw h k = record {
  one = λ e. absurd (⊎_elim (λ q. omega arith) (λ q. omega arith) h);
  two = λ e. absurd (⊎_elim (λ q. omega arith) (λ q. omega arith) h);
  three = λ e. absurd (⊎_elim (λ q. omega arith) (λ q. omega arith) h);
  eighteen = λ e. absurd (⊎_elim (λ q. omega arith) (λ q. omega arith) h);
  command = λ a b c d. k;
}

stands_eighteen : {book : Book} {file : List ℕ} {p : ℕ} → p < length file → printable (get_or file p 0) ≡ true → Stands book file 18 p
stands_eighteen l q = record {
  one = λ e. absurd (omega arith);
  two = λ e. absurd (omega arith);
  three = λ e. absurd (omega arith);
  eighteen = λ e. (l, q);
  command = λ a b c d. absurd (d refl);
}

-- the first byte that is not permitted is none from 32 to 126
unprintable : (kind : Kind) (last b : ℕ) → permitted kind last b ≡ false → printable b ≡ false
unfolding permitted
unprintable kind last b e = (neither (printable b) (may_break kind last b) e).0

bad_byte : (kind : Kind) (field : ℕ → Bool) (last left : ℕ) (t : List ℕ) (at : ℕ) → bad_in kind field last left t at < at + length t →
    printable (get_or t (bad_in kind field last left t at - at) 0) ≡ false
unfolding bad_in
bad_byte kind field last left [] at l = absurd (omega arith)
bad_byte kind field last (suc left) (b ∷ t) at l = further (bad_in kind field last left t (at + 1)) (bad_from kind field last left t (at + 1)) l (bad_byte kind field last left t (at + 1))
  where
    further : (p : ℕ) → at + 1 ≤ p → p < at + suc (length t) → (p < at + 1 + length t → printable (get_or t (p - (at + 1)) 0) ≡ false) → printable (get_or (b ∷ t) (p - at) 0) ≡ false
    further p low l ih = let q : p - at ≡ suc (p - (at + 1)) = omega arith in rw q (ih (omega arith))
bad_byte kind field last zero (b ∷ t) at l =
    go (permitted kind last b) refl (letter_here (field at) (b ∷ t)) refl
    (λ last left. bad_from kind field last left t (at + 1)) (λ last left. bad_byte kind field last left t (at + 1)) l
  where
    further : (p : ℕ) → at + 1 ≤ p → p < at + suc (length t) → (p < at + 1 + length t → printable (get_or t (p - (at + 1)) 0) ≡ false) → printable (get_or (b ∷ t) (p - at) 0) ≡ false
    further p low l ih = let q : p - at ≡ suc (p - (at + 1)) = omega arith in rw q (ih (omega arith))

    go : (may : Bool) → permitted kind last b ≡ may → (n : ℕ) → letter_here (field at) (b ∷ t) ≡ n →
        ((last left : ℕ) → at + 1 ≤ bad_in kind field last left t (at + 1)) →
        ((last left : ℕ) → bad_in kind field last left t (at + 1) < at + 1 + length t → printable (get_or t (bad_in kind field last left t (at + 1) - (at + 1)) 0) ≡ false) →
        bad_in kind field last zero (b ∷ t) at < at + suc (length t) → printable (get_or (b ∷ t) (bad_in kind field last zero (b ∷ t) at - at) 0) ≡ false
    go true e n f low ih l = rw (e, bad_in) (further _ (low _ zero) (rw (e, bad_in) at l) (ih _ zero))
    go false e zero f low ih l = let q : at - at ≡ 0 = omega arith in rw (e, f, bad_in, q) (unprintable kind last b e)
    go false e (suc left) f low ih l = rw (e, f, bad_in) (further _ (low last left) (rw (e, f, bad_in) at l) (ih last left))

text_from_lem : (kind : Kind) (place : ℕ) → text_from kind place ≡ place + text_from kind 0
unfolding text_from
text_from_lem kind.Word place = omega arith
text_from_lem kind.Extended place = omega arith
text_from_lem kind.Macro place = omega arith

-- in a text that begins k bytes after a place, so many bytes on
behind_place : (file : List ℕ) (place k i : ℕ) → get_or (drop k (drop place file)) i 0 ≡ get_or file (place + (k + i)) 0
behind_place file place k i = get_or-drop k (drop place file) i 0 ∙ get_or-drop place file (k + i) 0

cut_bad : (kind : Kind) (n place end bad p : ℕ) → cut_by kind n place end bad ≡ scan.BadByte p → (bad < end) × (bad ≡ p)
unfolding cut_by
cut_bad kind n place end bad p e = go (ltb bad end) refl (leb n end) e
  where
    go : (t : Bool) → ltb bad end ≡ t → (u : Bool) →
        cond t (scan.BadByte bad) (cond u (scan.Ended n) (scan.Command kind place (text_from kind place) end (end + 1))) ≡ scan.BadByte p → (bad < end) × (bad ≡ p)
    go true f u e = (ltb-true bad end f, cc)
    go false f true e = absurd (let z : ◌≡◌ {A = ℕ} 0 1 = cc in omega arith)
    go false f false e = absurd (let z : ◌≡◌ {A = ℕ} 0 1 = cc in omega arith)

scan_bad : (book : Book) (file : List ℕ) (at p : ℕ) → next_command book file at ≡ scan.BadByte p → (p < length file) × (printable (get_or file p 0) ≡ false)
unfolding next_command command_in
scan_bad book file at p e = go (kind_of (drop (skipped file at) file)) e
  where
    go : (k : Kind) →
        cut_by k (length file) (skipped file at) (first_in (ends k) (drop (text_from k 0) (drop (skipped file at) file)) (text_from k (skipped file at)))
        (bad_in k (in_field book (drop (skipped file at) file) (skipped file at)) 0 0 (drop (text_from k 0) (drop (skipped file at) file)) (text_from k (skipped file at)))
        ≡ scan.BadByte p → (p < length file) × (printable (get_or file p 0) ≡ false)
    go k e =
        let place : ℕ = skipped file at in
        let text : List ℕ = drop (text_from k 0) (drop (skipped file at) file) in
        let from : ℕ = text_from k (skipped file at) in
        let field : (ℕ → Bool) = in_field book (drop (skipped file at) file) (skipped file at) in
        let cut = cut_bad k (length file) place (first_in (ends k) text from) (bad_in k field 0 0 text from) p e in
        let below = cut.0 in
        let is = cut.1 in
        let low = bad_from k field 0 0 text from in
        let high = (in_from (ends k) text from).1 in
        let begins = text_from_lem k place in
        let long = length-drop (text_from k 0) (drop place file) in
        let longer = length-drop place file in
        let byte = bad_byte k field 0 0 text from (omega arith) in
        let there : place + (text_from k 0 + (bad_in k field 0 0 text from - from)) ≡ p = omega arith in
        (omega arith, sym (ap printable (behind_place file place (text_from k 0) (bad_in k field 0 0 text from - from) ∙ ap (λ i. get_or file i 0) there)) ∙ byte)

-- a turn
abbrev Known : Book → List ℕ → Format → Turn → Type 0
Known book file f (turn.Fault r) = Fault book file r
Known book file f (turn.Last c next) = Cut book file f c × Looked book file next × (next ≤ length file)
Known book file f (turn.More c g next) = Cut book file f c × (g ≡ carried f (lead_of c.command)) × Looked book file next × (next ≤ length file)

led_known : (book : Book) (file : List ℕ) (f : Format) (c : Placed) (way : Lead) (next : ℕ) → lead_of c.command ≡ way → Flawed way → Cut book file f c →
    Looked book file next → next ≤ length file → Known book file f (led f c way next)
unfolding led
led_known book file f c (lead.Broken number) next e w k l h = inr (stands_flaw w (first_byte k))
led_known book file f c lead.Last next e w k l h = (k, l, h)
led_known book file f c (lead.Format g) next e w k l h = (k, sym (ap (carried f) e), l, h)
led_known book file f c lead.Other next e w k l h = (k, sym (ap (carried f) e), l, h)

turned_known : (book : Book) (file : List ℕ) (f : Format) (at : ℕ) → Looked book file at → (s : Scan) → next_command book file at ≡ s → Within (length file) at s →
    Known book file f (turned book f file s)
unfolding turned
turned_known book file f at l (scan.Command kind place from end next) e (h, k, m, q, w) =
    let c : Command = command_of book f kind (slice from end file) in
    led_known book file f _ (lead_of c) next refl (command_lead c)
    (record { at = at; looked = l; kind = kind; next = next; found = e; says = refl; inside = omega arith })
    (behind l e) w
turned_known book file f at l (scan.BadByte place) e w = let b = scan_bad book file at place e in inr (stands_two b.0 b.1)
turned_known book file f at l (scan.Ended place) e w = inr (stands_three w)

turn_known : (book : Book) (file : List ℕ) (f : Format) (at : ℕ) → Looked book file at → at ≤ length file → Known book file f (turn_of book f file at)
unfolding turn_of
turn_known book file f at l h = turned_known book file f at l (next_command book file at) refl (next_within book file at h)

tail_known : (book : Book) (file : List ℕ) (at : ℕ) → at ≤ length file → Fault book file (tail_fault (tail_of file at))
unfolding tail_of tail_fault
tail_known book file at h = go (leb (length file) (skipped file at)) refl (printable (get_or file (skipped file at) 0)) refl
  where
    go : (t : Bool) → leb (length file) (skipped file at) ≡ t → (u : Bool) → printable (get_or file (skipped file at) 0) ≡ u →
        Fault book file (tail_fault (tail_of file at))
    go true e u q = rw e (inl refl)
    go false e true q = rw (e, q) (inr (stands_eighteen (leb-false (length file) (skipped file at) e) q))
    go false e false q = rw (e, q) (inr (stands_two (leb-false (length file) (skipped file at) e) q))

abbrev AllKnown : Book → List ℕ → Format → Sequence → Type 0
AllKnown book file f l = AllCut book file f l.commands × Fault book file l.fault

from_known : (book : Book) (file : List ℕ) (k : ℕ) (f : Format) (at : ℕ) → Looked book file at → at ≤ length file → AllKnown book file f (commands_from book k f file at)
unfolding commands_from
from_known book file zero f at l h = (tt, inr (stands_three refl))
from_known book file (suc k) f at l h = go (λ g next. from_known book file k g next) (turn_of book f file at) refl (turn_known book file f at l h)
  where
    go : ((g : Format) (next : ℕ) → Looked book file next → next ≤ length file → AllKnown book file g (commands_from book k g file next)) →
        (t : Turn) → turn_of book f file at ≡ t → Known book file f t → AllKnown book file f (commands_from book (suc k) f file at)
    go ih (turn.Fault r) e o = rw (e, commands_from) (tt, o)
    go ih (turn.Last c next) e o = rw (e, commands_from) ((o.0, tt), tail_known book file next o.2)
    go ih (turn.More c g next) e o =
        let r = ih g next o.2 o.3 in
        rw (e, commands_from) ((o.0, subst (λ (x : Format). AllCut book file x (commands_from book k g file next).commands) o.1 r.0), r.1)

pub commands_known : (book : Book) (file : List ℕ) → AllKnown book file no_format (commands_of book file)
unfolding commands_of
commands_known book file = go (fits file) refl
  where
    go : (t : Bool) → fits file ≡ t → AllKnown book file no_format (commands_of book file)
    go true e = rw e (from_known book file (suc (length file)) no_format 0 start (omega arith))
    go false e = rw e (tt, inr (stands_one book file))

-- the command after others
pub cut_at : (book : Book) (file : List ℕ) (f : Format) (before : List Placed) (c : Placed) (after : List Placed) → AllCut book file f (before ++ c ∷ after) →
    (g : Format) × Cut book file g c
cut_at book file f [] c after k = (f, k.0)
cut_at book file f (b ∷ before) c after k = cut_at book file (carried f (lead_of b.command)) before c after k.1

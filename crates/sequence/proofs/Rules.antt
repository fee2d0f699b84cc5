-- The two rules of letters over a file's commands (02, request [8]): what the old rule lists, the new rule lists too, up to a 2 of the old
-- rule, after which the new one may go on; and a file of bytes below 127 is cut alike under both.
-- Assumes nothing.
use Prim.Native.Nat.{ℕ, zero, suc, ◌<◌}
use mathlib.Core.Path.{◌≡◌, refl, ap, sym, ◌∙◌}
use mathlib.Core.Bool.{Bool, true, false}
use mathlib.Core.Logic.{◌⊎◌, inl, inr, ⊎_elim}
use mathlib.Core.List.{List, [], ◌∷◌}
use lib.ListN.{length, get_or}
use lib.Seq.{slice}
use Rattle.book.specs.Books.{under}
use Rattle.book.specs.declared.Book.{Book}
use Rattle.book.specs.declared.Letters.{Letters}
use Rattle.book.specs.declared.Letters.TheVariants.{Old, New}
use Rattle.formats.specs.Format.{no_format}
use Rattle.formats.specs.declared.Format.{Format}
use Rattle.command.specs.declared.Command.{Command}
use Rattle.recognise.proofs.Letters.{letters_apart}
use Rattle.scan.specs.Permitted.{fits}
use Rattle.scan.specs.Scan.{next_command}
use Rattle.scan.specs.declared.Scan.{Scan}
use Rattle.scan.specs.declared.Scan.TheVariants as scan
use Rattle.scan.proofs.Rules.{kept, kept_end, alike}
use Rattle.sequence.specs.Leads.{lead_of}
use Rattle.sequence.specs.Turns.{refusal, led, turned, turn_of}
use Rattle.sequence.specs.Commands.{Sequence, stopped, followed, commands_from, commands_of}
use Rattle.sequence.specs.declared.Placed.{Placed}
use Rattle.sequence.specs.declared.Refusal.{Refusal}
use Rattle.sequence.specs.declared.Turn.{Turn}
use Rattle.sequence.specs.declared.Turn.TheVariants.{Fault, Last, More}

-- commands and a fault, and those under the other rule: the same, or a 2 where the others go on
abbrev pub Goes : List Placed → Refusal → List Placed → Refusal → Type 0
Goes [] f cs g = (f.number ≡ 2) ⊎ ((cs ≡ []) × (g ≡ f))
Goes (c ∷ cs) f [] g = ⊥
Goes (c ∷ cs) f (d ∷ ds) g = (c ≡ d) × Goes cs f ds g

abbrev pub GoesOn : Sequence → Sequence → Type 0
GoesOn l m = Goes l.commands l.fault m.commands m.fault

goes_same : (cs : List Placed) (f : Refusal) → Goes cs f cs f
goes_same [] f = inr (refl, refl)
goes_same (c ∷ cs) f = (refl, goes_same cs f)

-- where the fault is no 2 they are the same
pub goes_equal : (cs ds : List Placed) (f g : Refusal) → (f.number ≡ 2 → ⊥) → Goes cs f ds g → (ds ≡ cs) × (g ≡ f)
goes_equal [] ds f g h (inl e) = absurd (h e)
goes_equal [] ds f g h (inr e) = e
goes_equal (c ∷ cs) [] f g h w = absurd w
goes_equal (c ∷ cs) (d ∷ ds) f g h (e, w) =
    let r = goes_equal cs ds f g h w in
    ((λ i. sym e i ∷ r.0 i), r.1)

-- what the scanner found is the same command under either rule
turned_under : (letters : Letters) (book : Book) (f : Format) (file : List ℕ) (r : Scan) → turned (under letters book) f file r ≡ turned book f file r
unfolding turned
turned_under letters book f file (scan.Command kind place from end next) =
    ap (λ (c : Command). led f (record { place = place; from = from; end = end; command = c }) (lead_of c) next) (letters_apart letters book f kind (slice from end file))
turned_under letters book f file (scan.BadByte place) = refl
turned_under letters book f file (scan.Ended place) = refl

module _ (book : Book) (file : List ℕ) where
  -- two rules that find the same take the same turn
  same_turn : (l m : Letters) (f : Format) (at : ℕ) → next_command (under l book) file at ≡ next_command (under m book) file at → turn_of (under l book) f file at ≡ turn_of (under m book) f file at
  unfolding turn_of
  same_turn l m f at e = turned_under l book f file _ ∙ ap (turned book f file) e ∙ sym (turned_under m book f file _)

  -- one turn: a 2 of the old rule, or the same
  pub record Bad (f : Format) (at : ℕ) : Type 0 where
    pub place : ℕ
    pub is : turn_of (under Old book) f file at ≡ Fault (refusal 2 place)

  pub turn_goes : (f : Format) (at : ℕ) → Bad f at ⊎ (turn_of (under New book) f file at ≡ turn_of (under Old book) f file at)
  unfolding turn_of turned
  turn_goes f at = go (next_command (under Old book) file at) refl
    where
      go : (r : Scan) → next_command (under Old book) file at ≡ r → Bad f at ⊎ (turn_of (under New book) f file at ≡ turn_of (under Old book) f file at)
      go (scan.Command kind place from end next) e = inr (same_turn New Old f at (kept book file at e ∙ sym e))
      go (scan.BadByte place) e = inl (record { place = place; is = ap (turned (under Old book) f file) e })
      go (scan.Ended place) e = inr (same_turn New Old f at (kept_end book file at e ∙ sym e))

  pub from_goes : (k : ℕ) (f : Format) (at : ℕ) → GoesOn (commands_from (under Old book) k f file at) (commands_from (under New book) k f file at)
  unfolding commands_from
  from_goes zero f at = inr (refl, refl)
  from_goes (suc k) f at = ⊎_elim bad (λ s. same s (turn_of (under Old book) f file at) refl (λ g next. from_goes k g next)) (turn_goes f at)
    where
      bad : Bad f at → GoesOn (commands_from (under Old book) (suc k) f file at) (commands_from (under New book) (suc k) f file at)
      bad b = rw (b.is, commands_from) (inl refl)

      same : turn_of (under New book) f file at ≡ turn_of (under Old book) f file at → (t : Turn) → turn_of (under Old book) f file at ≡ t →
          ((g : Format) (next : ℕ) → GoesOn (commands_from (under Old book) k g file next) (commands_from (under New book) k g file next)) →
          GoesOn (commands_from (under Old book) (suc k) f file at) (commands_from (under New book) (suc k) f file at)
      same s (Fault r) e rest = rw (e, s ∙ e, commands_from) (inr (refl, refl))
      same s (Last c next) e rest = rw (e, s ∙ e, commands_from) (refl, inr (refl, refl))
      same s (More c g next) e rest = rw (e, s ∙ e, commands_from) (refl, rest g next)

  pub commands_go : GoesOn (commands_of (under Old book) file) (commands_of (under New book) file)
  unfolding commands_of
  commands_go = go (fits file) refl
    where
      go : (t : Bool) → fits file ≡ t → GoesOn (commands_of (under Old book) file) (commands_of (under New book) file)
      go true e = rw e (from_goes (suc (length file)) no_format 0)
      go false e = rw e (inr (refl, refl))

  -- where the old rule gives no 2, the commands and the fault are the same
  pub commands_kept : ((commands_of (under Old book) file).fault.number ≡ 2 → ⊥) → commands_of (under New book) file ≡ commands_of (under Old book) file
  commands_kept h = let r = goes_equal _ _ _ _ h commands_go in λ i. record { commands = r.0 i; fault = r.1 i }

  -- a file of bytes below 127
  module _ (low : (i : ℕ) → get_or file i 0 < 127) where
    turn_alike : (f : Format) (at : ℕ) → turn_of (under Old book) f file at ≡ turn_of (under New book) f file at
    turn_alike f at = same_turn Old New f at (alike book file at low)

    from_alike : (k : ℕ) (f : Format) (at : ℕ) → commands_from (under Old book) k f file at ≡ commands_from (under New book) k f file at
    unfolding commands_from
    from_alike zero f at = refl
    from_alike (suc k) f at = go (turn_of (under Old book) f file at) refl (λ g next. from_alike k g next)
      where
        go : (t : Turn) → turn_of (under Old book) f file at ≡ t →
            ((g : Format) (next : ℕ) → commands_from (under Old book) k g file next ≡ commands_from (under New book) k g file next) →
            commands_from (under Old book) (suc k) f file at ≡ commands_from (under New book) (suc k) f file at
        go (Fault r) e rest = rw (e, sym (turn_alike f at) ∙ e, commands_from)
        go (Last c next) e rest = rw (e, sym (turn_alike f at) ∙ e, commands_from)
        go (More c g next) e rest = rw (e, sym (turn_alike f at) ∙ e, commands_from, rest g next)

    pub commands_alike : commands_of (under Old book) file ≡ commands_of (under New book) file
    unfolding commands_of
    commands_alike = rw (from_alike (suc (length file)) no_format 0)

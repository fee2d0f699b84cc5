-- The reading under the two rules of letters (02, request [8]): what the old rule answers, and is no 2, the new
-- rule answers too, in every room; so a file that the old rule accepts the new one accepts with the same state. Of a file of bytes below 127
-- both say the same.
-- Assumes nothing.
use Prim.Native.Nat.{ℕ, ◌<◌}
use mathlib.Core.Path.{◌≡◌, refl, sym, ap, ◌∙◌}
use mathlib.Core.Bool.{Bool, true, false}
use mathlib.Core.List.{List, [], ◌∷◌}
use mathlib.Core.Logic.{◌⊎◌, inl, inr}
use native.Mathlib.Omega.{arith}
use lib.Dec.{eqb}
use lib.ListN.{get_or}
use Rattle.book.specs.Books.{under, is_old}
use Rattle.book.specs.declared.Book.{Book}
use Rattle.book.specs.declared.Letters.TheVariants.{Old, New}
use Rattle.sequence.specs.Commands.{commands_of}
use Rattle.sequence.specs.declared.Placed.{Placed}
use Rattle.sequence.specs.declared.Refusal.{Refusal}
use Rattle.sequence.proofs.Rules.{Goes, commands_go, commands_alike}
use Rattle.law_reading.specs.State.{Room, State, begun}
use Rattle.law_reading.specs.Reading.{Answer, accepted, refused, step_at, read_on, reading}

-- an answer that is no 2
abbrev pub NotBad : Answer → Type 0
NotBad a = (place : ℕ) → a ≡ refused 2 place → ⊥

module _ (room : Room) (file : List ℕ) where
  on_kept : (cs ds : List Placed) (f g : Refusal) (s : State) → Goes cs f ds g → NotBad (read_on room file cs f s) → read_on room file ds g s ≡ read_on room file cs f s
  unfolding read_on
  on_kept [] ds f g s (inl e) h = absurd (h f.place (rw (e, read_on) (ap (λ (n : ℕ). refused n f.place) e)))
  on_kept [] ds f g s (inr (e, k)) h = rw (e, k)
  on_kept (c ∷ cs) [] f g s w h = absurd w
  on_kept (c ∷ cs) (d ∷ ds) f g s (e, w) h =
      rw (sym e) (go (eqb (step_at room file c s).fault 0) refl (on_kept cs ds f g (step_at room file c s).next w))
    where
      go : (t : Bool) → eqb (step_at room file c s).fault 0 ≡ t →
          (NotBad (read_on room file cs f (step_at room file c s).next) → read_on room file ds g (step_at room file c s).next ≡ read_on room file cs f (step_at room file c s).next) →
          read_on room file (c ∷ ds) g s ≡ read_on room file (c ∷ cs) f s
      go true q rest = rw (read_on, q) (rest (λ place r. h place (rw (read_on, q) r)))
      go false q rest = rw (read_on, q)

module _ (book : Book) (room : Room) (file : List ℕ) where
  pub reading_kept : NotBad (reading (under Old book) room file) → reading (under New book) room file ≡ reading (under Old book) room file
  unfolding reading begun is_old
  reading_kept h =
      on_kept room file (commands_of (under Old book) file).commands (commands_of (under New book) file).commands (commands_of (under Old book) file).fault (commands_of (under New book) file).fault (begun book)
      (commands_go book file) h

  -- the same sheet
  pub accepted_kept : {s : State} → reading (under Old book) room file ≡ accepted s → reading (under New book) room file ≡ accepted s
  accepted_kept e = reading_kept (λ place q. let z : ◌≡◌ {A = ℕ} 0 1 = cc in omega arith) ∙ e

  pub reading_alike : ((i : ℕ) → get_or file i 0 < 127) → reading (under Old book) room file ≡ reading (under New book) room file
  unfolding reading begun is_old
  reading_alike low = rw (commands_alike book file low) refl

-- What a cut says of the bytes: they are its first command and the bytes that the others are cut from.
-- Assumes nothing.
use Prim.Native.Nat.{ℕ, suc, ◌+◌}
use mathlib.Core.Path.{◌≡◌, refl, ap}
use mathlib.Core.Bool.{Bool, true, false}
use mathlib.Core.List.{List, [], ◌∷◌, ◌++◌}
use native.Mathlib.Omega.{arith}
use lib.ListN.{length, drop}
use Rattle.mending.specs.Extents.{Site, inside, skips, closes, mark, Piece, piece, apart, onto, cut, pieces}

-- line ends and no others
pub data Breaks (w : Site) : List ℕ → Type 0 where
  none : Breaks w []
  one_more : {b : ℕ} {g : List ℕ} → skips w b ≡ true → Breaks w g → Breaks w (b ∷ g)

-- one complete command, from its first byte to the one that ends it
pub data Whole : Site → List ℕ → Type 0 where
  ended : {w : Site} {b : ℕ} → skips w b ≡ false → closes w b ≡ true → Whole w (b ∷ [])
  goes : {w : Site} {b : ℕ} {c : List ℕ} → skips w b ≡ false → closes w b ≡ false → Whole (inside (mark w b)) c → Whole w (b ∷ c)

pub record First (w : Site) (s gap c : List ℕ) (ps : List Piece) : Type 0 where
  pub breaks : Breaks w gap
  pub whole : Whole w c
  pub bytes : s ≡ gap ++ c ++ drop (length gap + length c) s
  pub others : pieces (drop (length gap + length c) s) ≡ ps

-- what is told by the first of these
abbrev pub Told : Site → List ℕ → List Piece → Type 0
Told w s [] = Unit {0}
Told w s (piece gap c ∷ ps) = First w s gap c ps

told_apart : (w : Site) (b : ℕ) (s : List ℕ) → skips w b ≡ true → (ps : List Piece) → Told w s ps → Told w (b ∷ s) (apart b ps)
unfolding apart
told_apart w b s e [] t = tt
told_apart w b s e (piece gap c ∷ ps) t =
    let n : suc (length gap) + length c ≡ suc (length gap + length c) = omega arith in
    record { breaks = one_more e t.breaks; whole = t.whole; bytes = rw n (ap (λ (x : List ℕ). b ∷ x) t.bytes); others = rw n t.others }

-- in a command there is no line end before its rest
abbrev pub Tight : List Piece → Type 0
Tight [] = Unit {0}
Tight (piece gap c ∷ ps) = gap ≡ []

tight_onto : (b : ℕ) (ps : List Piece) → Tight ps → Tight (onto b ps)
unfolding onto
tight_onto b [] t = tt
tight_onto b (piece gap c ∷ ps) t = t

pub tight : (m : ℕ) (s : List ℕ) → Tight (cut (inside m) s)
unfolding cut skips
tight m [] = tt
tight m (b ∷ s) = go (closes (inside m) b) refl (tight (mark (inside m) b) s)
  where
    go : (t : Bool) → closes (inside m) b ≡ t → Tight (cut (inside (mark (inside m) b)) s) → Tight (cut (inside m) (b ∷ s))
    go true e ih = rw (e, cut) refl
    go false e ih = rw (e, cut) (tight_onto b (cut (inside (mark (inside m) b)) s) ih)

told_onto : (w : Site) (b : ℕ) (s : List ℕ) → skips w b ≡ false → closes w b ≡ false →
    (ps : List Piece) → Tight ps → Told (inside (mark w b)) s ps → Told w (b ∷ s) (onto b ps)
unfolding onto
told_onto w b s e f [] u t = tt
told_onto w b s e f (piece [] c ∷ ps) u t =
    let n : 0 + suc (length c) ≡ suc (0 + length c) = omega arith in
    record { breaks = none; whole = goes e f t.whole; bytes = rw n (ap (λ (x : List ℕ). b ∷ x) t.bytes); others = rw n t.others }
told_onto w b s e f (piece (x ∷ gap) c ∷ ps) u t = absurd (let z : ◌≡◌ {A = ℕ} 0 1 = cc in omega arith)

pub told : (w : Site) (s : List ℕ) → Told w s (cut w s)
unfolding cut
told w [] = tt
told w (b ∷ s) = go (skips w b) refl (closes w b) refl (told w s) (told (inside (mark w b)) s)
  where
    go : (t : Bool) → skips w b ≡ t → (u : Bool) → closes w b ≡ u → Told w s (cut w s) → Told (inside (mark w b)) s (cut (inside (mark w b)) s) →
        Told w (b ∷ s) (cut w (b ∷ s))
    go true e u f ih jh = rw (e, cut) (told_apart w b s e (cut w s) ih)
    go false e true f ih jh = rw (e, cut, f) (record { breaks = none; whole = ended e f; bytes = refl; others = refl })
    go false e false f ih jh = rw (e, cut, f) (told_onto w b s e f (cut (inside (mark w b)) s) (tight (mark w b) s) jh)

-- the same where the cut is known
pub first_told : (w : Site) (s gap c : List ℕ) (ps : List Piece) → cut w s ≡ piece gap c ∷ ps → First w s gap c ps
first_told w s gap c ps e = rw e at (told w s)

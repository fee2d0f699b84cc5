-- A complete command put before some bytes is the first that is cut from them.
-- Assumes nothing.
use Prim.Native.Nat.{ℕ}
use mathlib.Core.Path.{◌≡◌}
use mathlib.Core.List.{List, [], ◌∷◌, ◌++◌}
use Rattle.mending.specs.Extents.{Site, between, piece, apart, onto, cut, pieces}
use Rattle.mending.proofs.Told.{Breaks, none, one_more, Whole, ended, goes}

pub whole_joined : {w : Site} {c : List ℕ} → Whole w c → (s : List ℕ) → cut w (c ++ s) ≡ piece [] c ∷ pieces s
unfolding cut onto
whole_joined (ended e f) s = rw (cut, e, f)
whole_joined (goes e f r) s = rw (cut, e, f, whole_joined r s)

pub piece_joined : {g c : List ℕ} → Breaks between g → Whole between c → (s : List ℕ) → pieces (g ++ c ++ s) ≡ piece g c ∷ pieces s
unfolding cut apart
piece_joined none r s = whole_joined r s
piece_joined (one_more e b) r s = rw (cut, e, piece_joined b r s)

-- line ends joined
pub breaks_joined : {w : Site} {g h : List ℕ} → Breaks w g → Breaks w h → Breaks w (g ++ h)
breaks_joined none r = r
breaks_joined (one_more e b) r = one_more e (breaks_joined b r)
